use Rattle.std.proofs.Common.{arith}
use Rattle.std.proofs.lemmas.Int.{ints}
use Rattle.printout.proofs.interval.half_width_of.Goals as goal

pub returns : goal.returns
returns c = search (arith, ints)
