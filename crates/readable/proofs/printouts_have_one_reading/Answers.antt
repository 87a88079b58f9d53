use Rattle.readable.proofs.Reading.{one_reading}
use Rattle.readable.proofs.printouts_have_one_reading.Goals as goal

pub returns : goal.returns
returns c = one_reading
