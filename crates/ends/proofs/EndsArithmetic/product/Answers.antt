use Rattle.std.proofs.Common.{◌*◌, ◌^◌, ◌≤◌, rules}
use Rattle.arithmetic.specs.Operations.{multiplying}
use Rattle.ends.proofs.Calls.{product_answer}
use Rattle.ends.proofs.EndsArithmetic.product.Goals as goal

pub returns-in_err-check_product : goal.returns-in_err-check_product
unfolding multiplying
returns-in_err-check_product c = search rules

pub outward-requires : goal.outward-requires
outward-requires c =
    let small : c.size_of.result * c.size_of-2.result ≤ 2 ^ 62 = search rules in
    search (rules, small)

pub returns : goal.returns
returns c =
    product_answer c.args.self c.args.other c.meant-a.ensures.value c.meant-b.ensures.value (search rules) c.outward.ensures
