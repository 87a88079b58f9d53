use Rattle.std.proofs.Common.{rules, ◌≡◌, ◌^◌, ◌≤◌, pos, ◌+ℤ◌, ◌-ℤ◌, ◌*ℤ◌, nat_abs, get_or, arith, ◌∙◌, w64, to_z, subst, sym, ap, ap₂}
use Rattle.std.proofs.lemmas.Int.{ints}
use Rattle.exact.specs.Fits.{g}
use Rattle.exact.specs.Offers.{ρ̂x}
use Rattle.offer.specs.Lent.{fit_in, offer_in, no_row}
use Rattle.offer.proofs.Facts.{facts, figure_small}
use Rattle.offer.proofs.Exactly.{residual_is, residual_past, residual_small}
use Rattle.offer.proofs.admitted.Admitted.residual.Goals as goal
use Rattle.offer.proofs.admitted.Admitted.residual.Goals.{in-Some, in-None}

pub overflow_sub-units : goal.overflow_sub-units
overflow_sub-units c = omega (arith, ints, figure_small c.args.self.now c.args.i c.in-Some.row.now (search rules))

pub overflow_mul-units-in-Some : goal.overflow_mul-units-in-Some
overflow_mul-units-in-Some c = omega (arith, ints, (facts c.args.self.now).w_small c.args.i)

pub overflow_add-units : goal.overflow_add-units
overflow_add-units c =
    let a = c.args.self.now in
    omega (arith, ints, figure_small a c.args.i c.in-Some.row.now (search rules), (facts a).w_small c.args.i)

is : (c : goal.Joined-get) → to_z w64 c.match-get.units-bits ≡ ρ̂x (fit_in c.args.self.now) (offer_in c.args.self.now) c.args.i
is c =
    let a = c.args.self.now in
    elim c.match-get.branch [
      | in-Some w ↦
          let row : w.in-Some.row.now ≡ get_or a.fit.rows.now c.args.i no_row = search rules in
          let figure = figure_small a c.args.i _ row in
          w.units-is ∙ residual_is w.in-Some.row.now.figure w.product.result ((offer_in a).w c.args.i) figure w.product.ensures.size ((facts a).w_small c.args.i)
          ∙ ap₂ (λ b y. pos g *ℤ b -ℤ y +ℤ pos g *ℤ (offer_in a).w c.args.i) (ap (λ r. r.figure) row) w.product.ensures.value
      | in-None w ↦ w.units-is ∙ residual_past a c.args.i (search rules)
    ]

pub invariant_of-result : goal.invariant_of-result
invariant_of-result c = record { small = subst (λ z. nat_abs z ≤ 2 ^ 57) (sym (is c)) (residual_small c.args.self.now c.args.i) }

pub returns : goal.returns
returns c = is c.before
