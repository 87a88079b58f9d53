-- What an offer proves of a fit, and what a solution is. Assumes nothing.
--     Rank           a largest row sum below one shows full column rank
--     Bound          and tells how far each solution lies from the offered one
--     Enclosed       the same from bounds in whole grains, as an examination has them
--     LeastSquares   the solutions of the normal equations are the least squares solutions
use Rattle.std.specs.Prelude.{ℕ, ◌-◌, ◌*◌, ◌^◌, ◌<◌, ◌≤◌, ℤ, pos, ◌+ℤ◌, ◌-ℤ◌, ◌*ℤ◌, unsigned_abs}
use Rattle.exact.specs.Fits.{g, Fit, FullRank, Solution, Nearest, Lies}
use Rattle.exact.specs.Offers.{Offer, Triangular, â, d̂, s}

-- â < 1 gives full column rank
abbrev pub Rank : Type 0
Rank = (F : Fit) (O : Offer) → Triangular F.columns O.S → â F O < 2 ^ 96 → FullRank F

-- |p_j / q - x_j| ≤ s_j d̂ / (1 - â), in values; multiplied by q and by 1 - â
abbrev pub Bound : Type 0
Bound = (F : Fit) (O : Offer) → Triangular F.columns O.S → â F O < 2 ^ 96
    → (q : ℕ) (p : ℕ → ℤ) → Solution F q p
    → (j : ℕ) → j < F.columns → unsigned_abs (pos g *ℤ p j -ℤ pos q *ℤ O.x j) * (2 ^ 96 - â F O) ≤ q * s F O j * d̂ F O

-- with â ≤ α and d̂ ≤ D, and D s_j / (1 - α) ≤ r_j, where α, D and r_j are whole grains: p_j / q lies in x_j - r_j to x_j + r_j
abbrev pub Enclosed : Type 0
Enclosed = (F : Fit) (O : Offer) → Triangular F.columns O.S
    → (α D : ℕ) (r : ℕ → ℕ) → α < g → â F O ≤ α * 2 ^ 72 → d̂ F O ≤ D * 2 ^ 72
    → ((j : ℕ) → j < F.columns → D * s F O j ≤ r j * (g - α))
    → (q : ℕ) (p : ℕ → ℤ) → Solution F q p
    → (j : ℕ) → j < F.columns → Lies (O.x j -ℤ pos (r j)) (O.x j +ℤ pos (r j)) q (p j)

-- the normal equations say what least squares says
abbrev pub LeastSquares : Type 0
LeastSquares = (F : Fit) (q : ℕ) (p : ℕ → ℤ) → 0 < q → (Solution F q p → Nearest F q p) × (Nearest F q p → Solution F q p)
