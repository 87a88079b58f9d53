use Rattle.exact.proofs.Theorems.{bound}
use Rattle.exact.proofs.distance_bound.Goals as goal

pub returns : goal.returns
returns c = bound
