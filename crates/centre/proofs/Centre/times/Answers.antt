use Rattle.std.proofs.Common.{◌≡◌, ◌+◌, pos, ◌*ℤ◌, nat_abs, ap, ◌∙◌, arith, w64, SFits, rules}
use Rattle.std.proofs.lemmas.Int.{ints, to_z-of_z, fits_signed_mul}
use Rattle.arithmetic.specs.Rounding.{ceiled}
use Rattle.centre.specs.Centre.{kept, extent, spread, truncated, product}
use Rattle.centre.specs.Keeping.{truncated_is}
use Rattle.centre.proofs.Centre.times.Goals as goal

pub returns : goal.returns
unfolding product truncated
returns c =
    let a = c.args.self in let b = c.args.other in let z = a.centre *ℤ b.centre in
    let fa : SFits w64 a.centre = search rules in let fb : SFits w64 b.centre = search rules in
    let fz : SFits w64 z = fits_signed_mul w64 a.centre b.centre (extent a) (extent b) (omega arith) (omega arith) (omega (arith, c.requires)) in
    let ft : SFits w64 (truncated z) = omega (arith, ints, truncated_is z) in
    let e : c.radius_of.result ≡ nat_abs (ceiled (pos (spread a b))) + 1
    = c.radius_of.ensures ∙ ap (λ n. nat_abs (ceiled (pos n)) + 1) c.spread.ensures.value in
    simp to_z-of_z (ap (kept (truncated z)) e)
