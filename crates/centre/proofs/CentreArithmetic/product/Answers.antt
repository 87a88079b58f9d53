use Rattle.std.proofs.Common.{◌*◌, ◌^◌, ◌≤◌, ◌∙◌, ap₂, arith, rules}
use Rattle.arithmetic.specs.Operations.{multiplying}
use Rattle.centre.proofs.Calls.{size-means, product_answer}
use Rattle.centre.proofs.CentreArithmetic.product.Goals as goal

pub returns-in_err-check_product : goal.returns-in_err-check_product
unfolding multiplying
returns-in_err-check_product c = search rules

pub times-requires : goal.times-requires
times-requires c =
    let p = c.size.ensures ∙ size-means c.args.self c.meant-a.ensures.value in
    let q = c.size-2.ensures ∙ size-means c.args.other c.meant-b.ensures.value in
    let e = ap₂ ◌*◌ p q in
    let small : c.size.result * c.size-2.result ≤ 2 ^ 62 = search rules in
    omega arith

pub returns : goal.returns
returns c =
    product_answer c.args.self c.args.other c.meant-a.ensures.value c.meant-b.ensures.value (search rules) c.times.ensures
