-- A least squares fit over the whole numbers, and its solutions. Assumes nothing.
--     g                the grains of the value one; a grain is 2^-24
--     Fit              the matrix A and the figures b, in grains
--     image F z        A z
--     FullRank F       the columns of A are linearly independent
--     misfit F q p     A p - q b: q times what the fit leaves at the value p / q, in grains
--     Solution F q p   the value p / q solves the normal equations
--     Nearest F q p    no value has a smaller sum of squares of what the fit leaves
--     Lies l h q p     the value p / q lies between l and h grains
use Rattle.std.specs.Prelude.{◌≡◌, ℕ, ◌^◌, ◌<◌, ℤ, pos, ◌-ℤ◌, ◌*ℤ◌, ◌≤ℤ◌}
use Rattle.exact.specs.Sums.{∑, squares}

abbrev pub g : ℕ
g = 2 ^ 24

-- Rows count from 0 to rows - 1 and columns from 0 to columns - 1; what the functions say at other indices means nothing.
pub record Fit : Type 0 where
  pub rows : ℕ
  pub columns : ℕ
  pub A : ℕ → ℕ → ℤ
  pub b : ℕ → ℤ

abbrev pub image : Fit → (ℕ → ℤ) → ℕ → ℤ
image F z i = ∑ F.columns (λ j. F.A i j *ℤ z j)

-- A z = 0, z whole, only for z = 0
abbrev pub FullRank : Fit → Type 0
FullRank F = (z : ℕ → ℤ) → ((i : ℕ) → i < F.rows → image F z i ≡ pos 0) → (j : ℕ) → j < F.columns → z j ≡ pos 0

abbrev pub misfit : Fit → ℕ → (ℕ → ℤ) → ℕ → ℤ
misfit F q p i = image F p i -ℤ pos q *ℤ F.b i

-- the transpose of A, applied to the misfit, is 0
pub record Solution (F : Fit) (q : ℕ) (p : ℕ → ℤ) : Type 0 where
  pub positive : 0 < q
  pub normal : (j : ℕ) → j < F.columns → ∑ F.rows (λ i. F.A i j *ℤ misfit F q p i) ≡ pos 0

-- |A p / q - b|² ≤ |A p' / q' - b|² for every p' / q', multiplied by q² q'²
abbrev pub Nearest : Fit → ℕ → (ℕ → ℤ) → Type 0
Nearest F q p = (q' : ℕ) (p' : ℕ → ℤ) → 0 < q'
    → (pos q' *ℤ pos q' *ℤ squares F.rows (misfit F q p)) ≤ℤ (pos q *ℤ pos q *ℤ squares F.rows (misfit F q' p'))

-- l ≤ g p / q ≤ h, multiplied by q
pub record Lies (l h : ℤ) (q : ℕ) (p : ℤ) : Type 0 where
  pub above : (pos q *ℤ l) ≤ℤ (pos g *ℤ p)
  pub below : (pos g *ℤ p) ≤ℤ (pos q *ℤ h)
