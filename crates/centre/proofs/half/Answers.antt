use Rattle.std.proofs.Common.{arith, w64, SFits}
use Rattle.std.proofs.lemmas.Int.{ints, to_z-of_z}
use Rattle.centre.specs.Centre.{halved}
use Rattle.centre.specs.Keeping.{halved_is}
use Rattle.centre.proofs.half.Goals as goal

pub returns : goal.returns
unfolding halved
returns c =
    let z = c.args.z in
    let fz : SFits w64 z = c.ranges.z in
    let fh : SFits w64 (halved z) = omega (arith, ints, halved_is z) in
    simp to_z-of_z
