use Rattle.std.proofs.Common.{arith}
use Rattle.std.proofs.lemmas.Int.{ints}
use Rattle.centre.proofs.Calls.{sum_answer}
use Rattle.centre.proofs.CentreArithmetic.sum.Goals as goal

pub returns : goal.returns
returns c =
    let a = c.meant-a.ensures in let b = c.meant-b.ensures in
    sum_answer c.args.self c.args.other a.value b.value c.settle.ensures (omega (arith, ints)) (omega (arith, ints))
