-- The examination of an offer, step by step, in any arithmetic. No code computes it yet, so no contract names it. Assumes nothing.
--     around z       the value of an exact number z of units of 2^-48, rounded to grains once
--     point z        the value that is z grains alone
--     X, ρx, ρw      A S, b - A x + w and Aᵀ w, each entry rounded once
--     E i j          1 - Xᵀ X, in row i and column j
--     δ j            Xᵀ ρx - Sᵀ ρw, in column j
--     α, D           the largest row sum of the sizes in E, and the largest size in δ, from the values in a list; in grains
--     radius         D s / (1 - α), rounded up, in grains
--     examined       what the examination answers
use Rattle.std.specs.Prelude.{ℕ, ◌+◌, ◌-◌, ◌*◌, ◌/◌, ◌%◌, ◌^◌, cond, List, ◌++◌, replicate, ℤ, pos, Ok, Err, Result, ◌==◌, nat_le, nat_lt, slice_index_or}
use Rattle.std.specs.Result.{result_map_both}
use Rattle.exact.specs.Sums.{∑ℕ, largest}
use Rattle.exact.specs.Fits.{g, Fit}
use Rattle.exact.specs.Offers.{Offer, X̂, ρ̂x, ρ̂w, s}
use Rattle.arithmetic.specs.declared.refusal.Refusal as arithmetic
use Rattle.arithmetic.specs.Intervals.{size}
use Rattle.arithmetic.specs.Rounding.{floored, ceiled}
use Rattle.arithmetic.specs.Operations.{Ops, adding, subtracting, multiplying}
use Rattle.examination.specs.declared.refusal.Refusal.{Refusal}
use Rattle.examination.specs.declared.refusal.Refusal.TheVariants.{RowSum, Radius, Arithmetic}
use Rattle.examination.specs.declared.verdict.Verdict.{Verdict}
use Rattle.examination.specs.Sequences.{then, run, gather}

-- a / b, rounded up
abbrev pub quotient_up : ℕ → ℕ → ℕ
quotient_up a b = (a + b - 1) / b

-- refused if D s is above 2^62, or the quotient above 2^52
unfoldable pub radius : ℕ → ℕ → ℕ → Result ℕ Refusal
radius D s α =
    cond (nat_le (D * s) (2 ^ 62))
    (cond (nat_le (quotient_up (D * s) (g - α)) (2 ^ 52)) (Ok (quotient_up (D * s) (g - α))) (Err Radius))
    (Err Radius)

-- a step of the arithmetic, with its refusal as the examination's
abbrev pub raised : {A : Type 0} → Result A arithmetic.Refusal → Result A Refusal
raised r = result_map_both (λ a. a) Arithmetic r

module _ {V : Type 0} (o : Ops V) where
  abbrev pub around : ℤ → V
  around z = o.made (floored z) (ceiled z)

  abbrev pub point : ℤ → V
  point z = o.made z z

  abbrev pub nought : V
  nought = point (pos 0)

  -- a + u v, and a - u v
  unfoldable pub plus_product : V → V → V → Result V arithmetic.Refusal
  plus_product u v a = then (multiplying o u v) (λ p. adding o a p)

  unfoldable pub minus_product : V → V → V → Result V arithmetic.Refusal
  minus_product u v a = then (multiplying o u v) (λ p. subtracting o a p)

  -- the values of E lie in a list of n rows and columns, row by row
  abbrev pub α : ℕ → List V → ℕ
  α n es = largest n (λ i. ∑ℕ n (λ j. size (o.means (slice_index_or es (i * n + j) nought))))

  abbrev pub D : ℕ → List V → ℕ
  D n ds = largest n (λ j. size (o.means (slice_index_or ds j nought)))

  module _ (F : Fit) (O : Offer) where
    abbrev pub X : ℕ → ℕ → V
    X i j = around (X̂ F O i j)

    -- from zero, the products are added row by row; then the sum is taken from g on the diagonal, else from zero
    abbrev pub E : ℕ → ℕ → Result V arithmetic.Refusal
    E i j =
        then (run F.rows (λ k. plus_product (X k i) (X k j)) nought)
        (λ t. subtracting o (point (cond (i == j) (pos g) (pos 0))) t)

    abbrev pub ρx : ℕ → V
    ρx i = around (ρ̂x F O i)

    abbrev pub ρw : ℕ → V
    ρw k = around (ρ̂w F O k)

    -- from zero, the products with ρx are added row by row; then those with ρw are taken away, down to the diagonal of S
    abbrev pub δ : ℕ → Result V arithmetic.Refusal
    δ j =
        then (run F.rows (λ i. plus_product (X i j) (ρx i)) nought)
        (run (j + 1) (λ k. minus_product (point (O.S k j)) (ρw k)))

    -- the radii that α and D give, once α is below one
    abbrev pub granted : ℕ → ℕ → Result Verdict Refusal
    granted a d =
        then (gather F.columns (λ j. radius d (s F O j) a))
        (λ rs. Ok (record { alpha = a; radii = rs ++ replicate (8 - F.columns) 0 }))

    abbrev pub measured : ℕ → Result Verdict Refusal
    measured a = then (raised (gather F.columns δ)) (λ ds. granted a (D F.columns ds))

    abbrev pub examined : Result Verdict Refusal
    examined =
        then (raised (gather (F.columns * F.columns) (λ p. E (p / F.columns) (p % F.columns))))
        (λ es. cond (nat_lt (α F.columns es) g) (measured (α F.columns es)) (Err RowSum))
