use Rattle.std.proofs.Common.{arith}
use Rattle.std.proofs.lemmas.Int.{ints}
use Rattle.arithmetic.proofs.Rounds.{shr_is, floored_is, floor_of}
use Rattle.arithmetic.proofs.rounding.floor_grains.Goals as goal

pub returns : goal.returns
returns c =
    let fits = c.ranges.z in
    record { value = omega (arith, ints, shr_is, floored_is); floor = floor_of c.args.z _ (omega (arith, ints, shr_is)) }
