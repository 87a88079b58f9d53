-- The limits on the numbers of a fit and of an offer. Sizes are in grains. Assumes nothing.
--     all_within k zs           no number of zs has a size above k
--     row_within, fit_within    a row and a fit keep their limits
--     work_area m n             how many values an examination needs for m rows and n columns
use Rattle.std.specs.Prelude.{ℕ, ◌+◌, ◌*◌, ◌^◌, Bool, ◌&&◌, List, length, ℤ, nat_le, unsigned_abs}
use Rattle.std.specs.List.{list_all}
use Rattle.offer.specs.declared.row.Row.{Row}

abbrev pub all_within : ℕ → List ℤ → Bool
all_within k zs = list_all (λ z. nat_le (unsigned_abs z) k) zs

-- each of a row's eight entries, those past the last column too, is at most 2^24 in size, and its figure at most 2^28
abbrev pub row_within : Row → Bool
row_within r = all_within (2 ^ 24) r.entries && nat_le (unsigned_abs r.figure) (2 ^ 28)

-- at most 64 rows, and 1 to 8 columns
abbrev pub fit_within : List Row → ℕ → Bool
fit_within rows n = nat_le (length rows) 64 && nat_le 1 n && nat_le n 8 && list_all row_within rows

abbrev pub work_area : ℕ → ℕ → ℕ
work_area m n = m * n + n * n + m + 2 * n
