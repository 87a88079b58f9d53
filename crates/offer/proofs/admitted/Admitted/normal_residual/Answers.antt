use Rattle.std.proofs.Common.{rules, ◌≡◌, ltb, cond, pos, ◌*ℤ◌, arith, ◌∙◌, w64, to_z, tests}
use Rattle.std.proofs.lemmas.Bool.Decides.{nat_tests}
use Rattle.exact.specs.Offers.{ρ̂w}
use Rattle.offer.specs.Lent.{fit_in, offer_in}
use Rattle.offer.proofs.Facts.{facts, A_small, w_small}
use Rattle.offer.proofs.Totals.{term_small, term_fits, term_is, bits64_same}
use Rattle.offer.proofs.Exactly.{normal_small}
use Rattle.offer.proofs.admitted.Admitted.normal_residual.Goals as goal
use Rattle.offer.proofs.admitted.Admitted.normal_residual.Goals.{then-k-self, else-k-self}

pub total-units-requires-clause-calls : goal.total-units-requires-clause-calls
total-units-requires-clause-calls c = λ i l.
    let a = c.args.self.now in
    let length = (facts a).w_length in
    search (rules, term_fits, A_small a, w_small a)

pub total-units-requires-clause-small : goal.total-units-requires-clause-small
total-units-requires-clause-small c = λ i z l p.
    let a = c.args.self.now in
    search (rules, term_small, A_small a, w_small a)

is : (c : goal.Joined-k-self) → to_z w64 c.if-k-self.units-bits ≡ cond (ltb c.args.k c.args.self.now.fit.columns) (ρ̂w (fit_in c.args.self.now) (offer_in c.args.self.now) c.args.k) (pos 0)
is c =
    let a = c.args.self.now in
    elim c.if-k-self.branch [
      | then-k-self w ↦
          let e = w.total-units.ensures (λ i. (fit_in a).A i c.args.k *ℤ (offer_in a).w i) (λ i z l p. search (rules, term_is, A_small a, w_small a)) in
          let v = w.units-is ∙ bits64_same _ _ e (omega (arith, normal_small a c.args.k)) in
          search (rules, tests)
      | else-k-self w ↦ search (rules, tests)
    ]

pub returns : goal.returns
returns c = is c.before

pub invariant_of-result : goal.invariant_of-result
invariant_of-result c =
    let a = c.args.self.now in
    let n = normal_small a c.args.k in
    let e = is c in
    grind (arith, nat_tests)
