-- What the calls of the ends arithmetic answer, from records that are known to hold what a and b mean. Assumes nothing.
use Rattle.std.specs.Prelude.{◌≡◌, ◌*◌, ◌^◌, true, cond, ℤ, ◌+ℤ◌, ◌-ℤ◌, Ok, Err, Result, nat_le}
use Rattle.std.proofs.Common.{sym, ◌∙◌}
use Rattle.std.proofs.Math.Path.{ap}
use Rattle.arithmetic.specs.Intervals.{between, size}
use Rattle.arithmetic.specs.Operations.{adding, subtracting, multiplying}
use Rattle.arithmetic.specs.declared.refusal.Refusal.{Refusal}
use Rattle.arithmetic.specs.declared.refusal.Refusal.TheVariants.{Product}
use Rattle.ends.specs.declared.Ends.{Ends}
use Rattle.ends.specs.Ends.{kept, means, outward, ends_ops, settled}

module _ (a b : Ends) {x y : Ends} (ex : x ≡ kept (means a)) (ey : y ≡ kept (means b)) where
  pub sum_answer : {l h : ℤ} {r : Result Ends Refusal} → r ≡ settled (between l h)
      → l ≡ x.low +ℤ y.low → h ≡ x.high +ℤ y.high → r ≡ adding ends_ops a b
  unfolding settled adding
  sum_answer e p q = e ∙ (λ t. settled (between (p t) (q t))) ∙ (λ t. settled (between ((ex t).low +ℤ (ey t).low) ((ex t).high +ℤ (ey t).high)))

  pub difference_answer : {l h : ℤ} {r : Result Ends Refusal} → r ≡ settled (between l h)
      → l ≡ x.low -ℤ y.high → h ≡ x.high -ℤ y.low → r ≡ subtracting ends_ops a b
  unfolding settled subtracting
  difference_answer e p q = e ∙ (λ t. settled (between (p t) (q t))) ∙ (λ t. settled (between ((ex t).low -ℤ (ey t).high) ((ex t).high -ℤ (ey t).low)))

  pub product_answer : {r : Ends} → nat_le (size (between x.low x.high) * size (between y.low y.high)) (2 ^ 62) ≡ true
      → r ≡ kept (outward (between x.low x.high) (between y.low y.high)) → Ok r ≡ multiplying ends_ops a b
  unfolding multiplying
  product_answer small e =
      (λ t. Ok (e t)) ∙ (λ t. Ok (kept (outward (means_x t) (means_y t))))
      ∙ ap (λ t. cond t (Ok (kept (outward (means a) (means b)))) (Err Product)) (sym small ∙ λ t. nat_le (size (means_x t) * size (means_y t)) (2 ^ 62))
    where
      means_x : between x.low x.high ≡ means a
      means_x = λ t. between (ex t).low (ex t).high

      means_y : between y.low y.high ≡ means b
      means_y = λ t. between (ey t).low (ey t).high
