use Rattle.std.proofs.Common.{rules}
use Rattle.arithmetic.specs.Operations.{making}
use Rattle.centre.proofs.CentreArithmetic.make.Goals as goal

pub returns : goal.returns
unfolding making
returns c = search rules
