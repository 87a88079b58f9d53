use Rattle.std.proofs.Common.{rules, ◌≡◌, ◌^◌, ◌≤◌, ◌*ℤ◌, nat_abs, get_or, arith, ◌∙◌, w64, to_z, subst, sym}
use Rattle.exact.specs.Offers.{X̂}
use Rattle.offer.specs.Lent.{fit_in, offer_in, no_row}
use Rattle.offer.proofs.Facts.{A_small, entry_small, S_small}
use Rattle.offer.proofs.Totals.{term_small, term_fits, term_is, bits64_same}
use Rattle.offer.proofs.Exactly.{image_is, image_below, image_past, image_small}
use Rattle.offer.proofs.admitted.Admitted.image.Goals as goal
use Rattle.offer.proofs.admitted.Admitted.image.Goals.{in-Some, in_default-2, in_default}

pub total-units-requires-clause-calls : goal.total-units-requires-clause-calls
total-units-requires-clause-calls c = λ k l.
    let u = entry_small c.args.self.now c.args.i c.in-Some.row.now (search rules) k in
    search (rules, term_fits)

pub total-units-requires-clause-small : goal.total-units-requires-clause-small
total-units-requires-clause-small c = λ k z l p.
    let u = entry_small c.args.self.now c.args.i c.in-Some.row.now (search rules) k in
    search (rules, term_small)

is : (c : goal.Joined-get) → to_z w64 c.match-get.units-bits ≡ X̂ (fit_in c.args.self.now) (offer_in c.args.self.now) c.args.i c.args.j
is c =
    let a = c.args.self.now in
    elim c.match-get.branch [
      | in-Some w ↦
          let row : w.in-Some.row.now ≡ get_or a.fit.rows.now c.args.i no_row = search rules in
          let e = w.total-units.ensures (λ k. (fit_in a).A c.args.i k *ℤ (offer_in a).S k c.args.j)
          (λ k z l p. let u = A_small a c.args.i k in let v = S_small a k c.args.j in search (rules, term_is)) in
          w.units-is ∙ bits64_same _ _ (e ∙ image_is a c.args.i c.args.j (omega arith)) (omega (arith, image_small a c.args.i c.args.j))
      | in_default-2 w ↦ w.units-is ∙ image_past a c.args.i c.args.j (omega arith)
      | in_default w ↦ w.units-is ∙ image_below a c.args.i c.args.j (search rules)
    ]

pub returns : goal.returns
returns c = is c.before

pub invariant_of-result : goal.invariant_of-result
invariant_of-result c = record { small = subst (λ z. nat_abs z ≤ 2 ^ 57) (sym (is c)) (image_small c.args.self.now c.args.i c.args.j) }
