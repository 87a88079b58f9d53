use Rattle.exact.proofs.Theorems.{rank}
use Rattle.exact.proofs.full_rank.Goals as goal

pub returns : goal.returns
returns c = rank
