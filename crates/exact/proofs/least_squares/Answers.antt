use Rattle.exact.proofs.Squares.{least_squares}
use Rattle.exact.proofs.least_squares.Goals as goal

pub returns : goal.returns
returns c = least_squares
