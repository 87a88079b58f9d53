use Rattle.std.proofs.Common.{◌≡◌, ℕ, ◌+◌, ◌*◌, ◌^◌, ◌≤◌, ℤ, nat_abs, ap, ◌∙◌, arith, w64, SFits, to_z, of_z, rules}
use Rattle.std.proofs.lemmas.Int.{to_z-of_z}
use Rattle.centre.specs.declared.Centre.{Centre}
use Rattle.centre.specs.Centre.{extent, spread}
use Rattle.centre.proofs.Centre.spread.Goals as goal

-- the size of a number, as the code finds it
found : (z : ℤ) {n : ℕ} → SFits w64 z → n ≡ nat_abs (to_z w64 (of_z w64 z)) → n ≡ nat_abs z
found z f e = e ∙ ap nat_abs (to_z-of_z w64 z f)

within : (a b : Centre) {c d : ℕ} → c ≡ nat_abs a.centre → d ≡ nat_abs b.centre → extent a * extent b ≤ 2 ^ 62
    → c * b.radius + d * a.radius + a.radius * b.radius ≤ 2 ^ 62
within a b p q h = rw (p, q) (omega (arith, h))

pub overflow_mul-result-2 : goal.overflow_mul-result-2
overflow_mul-result-2 c = omega (arith, within c.args.self c.args.other (found c.args.self.centre (search rules) c.unsigned_abs-c.ensures.value) (found c.args.other.centre (search rules) c.unsigned_abs-d.ensures.value) c.requires)

pub overflow_add-result : goal.overflow_add-result
overflow_add-result c = omega (arith, within c.args.self c.args.other (found c.args.self.centre (search rules) c.unsigned_abs-c.ensures.value) (found c.args.other.centre (search rules) c.unsigned_abs-d.ensures.value) c.requires)

pub overflow_add-result-2 : goal.overflow_add-result-2
overflow_add-result-2 c = omega (arith, within c.args.self c.args.other (found c.args.self.centre (search rules) c.unsigned_abs-c.ensures.value) (found c.args.other.centre (search rules) c.unsigned_abs-d.ensures.value) c.requires)

pub returns : goal.returns
unfolding spread
returns c =
    let p = found c.args.self.centre (search rules) c.unsigned_abs-c.ensures.value in
    let q = found c.args.other.centre (search rules) c.unsigned_abs-d.ensures.value in
    record { value = λ t. p t * c.args.other.radius + q t * c.args.self.radius + c.args.self.radius * c.args.other.radius; bound = within c.args.self c.args.other p q c.requires }
