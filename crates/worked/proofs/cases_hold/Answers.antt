use Rattle.std.proofs.Common.{refl}
use Rattle.exact.specs.Sums.{∑, ∑ℕ, largest}
use Rattle.arithmetic.specs.Rounding.{floored, ceiled}
use Rattle.arithmetic.specs.Operations.{making, adding, subtracting, multiplying}
use Rattle.ends.specs.Ends.{least, greatest, outward}
use Rattle.centre.specs.Centre.{halved, truncated, spread, product}
use Rattle.worked.proofs.cases_hold.Goals as goal

pub returns : goal.returns
unfolding ∑ ∑ℕ largest floored ceiled making adding subtracting multiplying least greatest outward halved truncated spread product
returns c = refl
