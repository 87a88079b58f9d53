-- The limits again, of the exact numbers of a fit and an offer: what is to be known of every admitted offer. No contract names it yet. Assumes nothing.
use Rattle.std.specs.Prelude.{ℕ, ◌^◌, ◌<◌, ◌≤◌, unsigned_abs}
use Rattle.exact.specs.Fits.{Fit}
use Rattle.exact.specs.Offers.{Offer, Triangular}

-- Sizes are in grains.
pub record Within (F : Fit) (O : Offer) : Type 0 where
  pub short : F.rows ≤ 64
  pub some : 1 ≤ F.columns
  pub few : F.columns ≤ 8
  pub tall : F.columns ≤ F.rows
  pub A : (i j : ℕ) → i < F.rows → j < F.columns → unsigned_abs (F.A i j) ≤ 2 ^ 24
  pub b : (i : ℕ) → i < F.rows → unsigned_abs (F.b i) ≤ 2 ^ 28
  pub S : (k j : ℕ) → k < F.columns → j < F.columns → unsigned_abs (O.S k j) ≤ 2 ^ 30
  pub x : (j : ℕ) → j < F.columns → unsigned_abs (O.x j) ≤ 2 ^ 28
  pub w : (i : ℕ) → i < F.rows → unsigned_abs (O.w i) ≤ 2 ^ 25
  pub triangular : Triangular F.columns O.S
