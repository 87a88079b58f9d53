use Rattle.std.proofs.Common.{rules, ◌^◌, ◌≤◌, ◌*ℤ◌, nat_abs, arith, subst, sym}
use Rattle.offer.specs.Lent.{fit_in, offer_in}
use Rattle.offer.proofs.Facts.{A_small, x_small}
use Rattle.offer.proofs.Totals.{term_small, term_fits, term_is, bits64_same}
use Rattle.offer.proofs.Exactly.{product_small}
use Rattle.offer.proofs.admitted.Admitted.product.Goals as goal

pub total-requires-clause-calls : goal.total-requires-clause-calls
total-requires-clause-calls c = λ j l. search (rules, term_fits, A_small c.args.self.now, x_small c.args.self.now)

pub total-requires-clause-small : goal.total-requires-clause-small
total-requires-clause-small c = λ j z l p. search (rules, term_small, A_small c.args.self.now, x_small c.args.self.now)

pub returns : goal.returns
returns c =
    let a = c.args.self.now in
    let small = product_small a c.args.i in
    let is = bits64_same _ _ (c.total.ensures (λ j. (fit_in a).A c.args.i j *ℤ (offer_in a).x j) (λ j z l p. search (rules, term_is, A_small a, x_small a))) (omega arith) in
    record { value = is; size = subst (λ z. nat_abs z ≤ 2 ^ 55) (sym is) small }
