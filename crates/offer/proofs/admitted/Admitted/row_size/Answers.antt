use Rattle.std.proofs.Common.{rules, ℕ, nat_abs, ◌∙◌, arith}
use Rattle.std.proofs.lemmas.Iterator.{YieldsList-from_map, YieldsList-from_range}
use Rattle.std.proofs.lemmas.Iterator.Consumers.{sum_from_yields_List, fits_from_yields_list}
use Rattle.offer.specs.declared.admitted.Admitted.{Admitted}
use Rattle.offer.specs.Lent.{offer_in}
use Rattle.offer.proofs.Facts.{S_small}
use Rattle.offer.proofs.Totals.{size_is, sum_is}
use Rattle.offer.proofs.Exactly.{row_small}
use Rattle.offer.proofs.admitted.Admitted.row_size.Goals as goal

abbrev size : Admitted → ℕ → ℕ → ℕ
size a j k = nat_abs ((offer_in a).S j k)

pub sum-requires-clause-fits : goal.sum-requires-clause-fits
sum-requires-clause-fits c =
    let a = c.args.self.now in
    let n = a.fit.columns in
    fits_from_yields_list _ _
    (YieldsList-from_map _ (size a c.args.j) (YieldsList-from_range 0 n n c.map.ensures.source (omega arith)) c.map.ensures.closure (λ k r q p. search (rules, size_is, S_small a)))
    (omega (arith, sum_is n (size a c.args.j), row_small a c.args.j n (omega arith)))

pub returns : goal.returns
returns c =
    let a = c.args.self.now in
    let n = a.fit.columns in
    let is = sum_from_yields_List _ _ c.sum.ensures.ran
    (YieldsList-from_map _ (size a c.args.j) (YieldsList-from_range 0 n n c.map.ensures.source (omega arith)) c.map.ensures.closure (λ k r q p. search (rules, size_is, S_small a)))
    ∙ sum_is n (size a c.args.j) in
    record { value = is; size = omega (arith, row_small a c.args.j n (omega arith)) }
