use Rattle.std.proofs.Common.{arith}
use Rattle.std.proofs.lemmas.Int.{ints}
use Rattle.arithmetic.proofs.Rounds.{shr_is, ceiled_is, ceiling_of}
use Rattle.arithmetic.proofs.rounding.ceil_grains.Goals as goal

pub returns : goal.returns
returns c =
    let fits = c.ranges.z in
    record { value = omega (arith, ints, shr_is, ceiled_is); ceiling = ceiling_of c.args.z _ (omega (arith, ints, shr_is)) }
