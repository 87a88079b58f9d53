-- An upper triangle of n rows and columns in a list: row by row, each row from its diagonal on. Assumes nothing.
--     triangle_length n     how many numbers it has
--     place n k j           where the number in row k and column j stands, for k ≤ j
--     triangle_at n s k j   the number in row k and column j of the triangle that the list s holds, and 0 below the diagonal and outside
--     whole_diagonal n s    no number on the diagonal is 0
use Rattle.std.specs.Prelude.{ℕ, ◌+◌, ◌-◌, ◌*◌, ◌/◌, Bool, cond, ◌&&◌, List, ℤ, pos, nat_le, nat_lt, slice_index_or, unsigned_abs}
use Rattle.std.specs.List.{list_all, range_with_len}

abbrev pub triangle_length : ℕ → ℕ
triangle_length n = n * (n + 1) / 2

-- the k rows above have n, n - 1, .. , n - k + 1 numbers
abbrev pub place : ℕ → ℕ → ℕ → ℕ
place n k j = k * (2 * n + 1 - k) / 2 + (j - k)

abbrev pub triangle_at : ℕ → List ℤ → ℕ → ℕ → ℤ
triangle_at n s k j = cond (nat_le k j && nat_lt j n) (slice_index_or s (place n k j) (pos 0)) (pos 0)

abbrev pub whole_diagonal : ℕ → List ℤ → Bool
whole_diagonal n s = list_all (λ k. nat_lt 0 (unsigned_abs (triangle_at n s k k))) (range_with_len 0 n)
