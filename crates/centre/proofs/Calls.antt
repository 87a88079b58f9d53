-- What the calls of the centre arithmetic answer, from records that are known to hold what a and b mean. Assumes nothing.
use Rattle.std.specs.Prelude.{◌≡◌, ℕ, ◌+◌, ◌*◌, ◌^◌, true, cond, ℤ, ◌+ℤ◌, ◌-ℤ◌, Ok, Err, Result, nat_le, unsigned_abs}
use Rattle.std.proofs.Math.Path.{ap, ap₂}
use Rattle.std.proofs.Common.{sym, ◌∙◌}
use Rattle.arithmetic.specs.Intervals.{Interval, size}
use Rattle.arithmetic.specs.Operations.{adding, subtracting, multiplying}
use Rattle.arithmetic.specs.declared.refusal.Refusal.{Refusal}
use Rattle.arithmetic.specs.declared.refusal.Refusal.TheVariants.{Sum, Product}
use Rattle.centre.specs.declared.Centre.{Centre}
use Rattle.centre.specs.Centre.{about, means, meant, product, centre_ops, settled}
use Rattle.centre.specs.Keeping.{plus-about, minus-about, size-about, means-meant}

-- where x is known to hold what v means
pub size-means : (v : Centre) {x : Centre} → x ≡ meant v → size (means v) ≡ unsigned_abs x.centre + x.radius
size-means v {x} e = ap size (means-meant v ∙ ap about (sym e)) ∙ size-about x

settled-about : (v : Centre) {i : Interval} → about v ≡ i → settled v.centre v.radius ≡ cond (nat_le (size i) (2 ^ 45)) (Ok v) (Err Sum)
unfolding settled
settled-about v e = ap (λ n. cond (nat_le n (2 ^ 45)) (Ok v) (Err Sum)) (sym (size-about v) ∙ ap size e)

-- from records that are known to hold what a and b mean
module _ (a b : Centre) {x y : Centre} (ex : x ≡ meant a) (ey : y ≡ meant b) where
  pub sum_answer : {c : ℤ} {r : ℕ} {z : Result Centre Refusal} → z ≡ settled c r
      → c ≡ x.centre +ℤ y.centre → r ≡ x.radius + y.radius → z ≡ adding centre_ops a b
  unfolding adding
  sum_answer e p q =
      e ∙ ap₂ settled p q ∙ ap₂ (λ x y. settled (x.centre +ℤ y.centre) (x.radius + y.radius)) ex ey
      ∙ settled-about (centre_ops.plus a b) (plus-about a b)

  pub difference_answer : {c : ℤ} {r : ℕ} {z : Result Centre Refusal} → z ≡ settled c r
      → c ≡ x.centre -ℤ y.centre → r ≡ x.radius + y.radius → z ≡ subtracting centre_ops a b
  unfolding subtracting
  difference_answer e p q =
      e ∙ ap₂ settled p q ∙ ap₂ (λ x y. settled (x.centre -ℤ y.centre) (x.radius + y.radius)) ex ey
      ∙ settled-about (centre_ops.minus a b) (minus-about a b)

  pub product_answer : {z : Centre} → nat_le (size (means a) * size (means b)) (2 ^ 62) ≡ true → z ≡ product x y
      → Ok z ≡ multiplying centre_ops a b
  unfolding multiplying
  product_answer small e = ap Ok (e ∙ ap₂ product ex ey) ∙ ap (λ t. cond t (Ok (centre_ops.times a b)) (Err Product)) (sym small)
