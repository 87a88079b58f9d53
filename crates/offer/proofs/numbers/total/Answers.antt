use Rattle.std.proofs.Common.{◌≡◌, ◌^◌, ◌≤◌, ℤ, ◌+ℤ◌, nat_abs, sym, refl, ◌∙◌, ap₂, arith}
use Rattle.std.proofs.lemmas.Int.{ints}
use Rattle.exact.specs.Sums.{∑}
use Rattle.exact.proofs.Sums.{∑_more}
use Rattle.offer.proofs.Totals.{bits64}
use Rattle.offer.proofs.numbers.total.Goals as goal

pub loop-k-init : goal.loop-k-init
unfolding ∑
loop-k-init g c = record { small = omega arith; is = λ f h. refl }

-- 64 bits hold the sum with one term more
kept : (x z : ℤ) → nat_abs x ≤ 2 ^ 60 → nat_abs z ≤ 2 ^ 54 → bits64 (x +ℤ bits64 z) ≡ x +ℤ z
kept x z p q = omega (arith, ints)

pub loop-k-preserved : goal.loop-k-preserved
loop-k-preserved g c =
    let z = c.term-sum.result in
    let small : nat_abs z ≤ 2 ^ 54 = c.requires.small c.loop-k.k z (omega arith) c.term-sum.ensures in
    record {
      small = omega (arith, ints);
      is = λ f h. kept _ z (omega arith) small ∙ ap₂ ◌+ℤ◌ (c.loop-k.invariant.is f h) (h c.loop-k.k z (omega arith) c.term-sum.ensures) ∙ sym (∑_more c.loop-k.k f);
    }
