use Rattle.std.proofs.Common.{sym}
use Rattle.fitfile.proofs.Accepted.{accepted}
use Rattle.fitfile.proofs.header.Goals as goal

-- an answer, since the lemma named on the function beside read_back is not found (tried with its equation both ways round)
pub returns-clause-whole : goal.returns-clause-whole
returns-clause-whole c = accepted _ _ (sym c.in_ok-read.ensures.value)
