use Rattle.exact.proofs.Theorems.{enclosed}
use Rattle.exact.proofs.enclosure.Goals as goal

pub returns : goal.returns
returns c = enclosed
