-- The fit and the offer that lent slices hold, as the exact theory has them. Assumes nothing.
--     entry_at rows i j, figure_at rows i    A_ij and b_i, and 0 outside the rows
--     fit_in a, offer_in a                   the fit and the offer of an admitted offer, with S spread out: 0 below the diagonal and outside
use Rattle.std.specs.Prelude.{ℕ, List, [], length, get_or, ℤ, pos, slice_index_or}
use Rattle.exact.specs.Fits.{Fit}
use Rattle.exact.specs.Offers.{Offer}
use Rattle.offer.specs.declared.row.Row.{Row}
use Rattle.offer.specs.declared.admitted.Admitted.{Admitted}
use Rattle.offer.specs.Triangles.{triangle_at}

abbrev pub no_row : Row
no_row = record { entries = []; figure = pos 0 }

abbrev pub entry_at : List Row → ℕ → ℕ → ℤ
entry_at rows i j = slice_index_or (get_or rows i no_row).entries j (pos 0)

abbrev pub figure_at : List Row → ℕ → ℤ
figure_at rows i = (get_or rows i no_row).figure

abbrev pub fit_in : Admitted → Fit
fit_in a = record {
  rows = length a.fit.rows.now;
  columns = a.fit.columns;
  A = entry_at a.fit.rows.now;
  b = figure_at a.fit.rows.now;
}

abbrev pub offer_in : Admitted → Offer
offer_in a = record {
  S = triangle_at a.fit.columns a.offer.s.now;
  x = λ j. slice_index_or a.offer.x.now j (pos 0);
  w = λ i. slice_index_or a.offer.w.now i (pos 0);
}
