use Rattle.std.proofs.Common.{arith}
use Rattle.std.proofs.lemmas.Int.{ints}
use Rattle.ends.proofs.Calls.{difference_answer}
use Rattle.ends.proofs.EndsArithmetic.difference.Goals as goal

pub returns : goal.returns
returns c =
    let a = c.meant-a.ensures in let b = c.meant-b.ensures in
    let al = a.low_bound in let ah = a.high_bound in let bl = b.low_bound in let bh = b.high_bound in
    difference_answer c.args.self c.args.other a.value b.value c.settle.ensures (omega (arith, ints)) (omega (arith, ints))
