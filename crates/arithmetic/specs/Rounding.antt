-- Rounding a number of 2^-48 to grains. Assumes nothing.
--     floored z, ceiled z     z / g, rounded down and rounded up
--     Floor z n, Ceiling z n  what this means: n is the last whole number that is not above z / g, the first not below it
use Rattle.std.specs.Prelude.{ℤ, pos, ◌+ℤ◌, ◌-ℤ◌, ◌*ℤ◌, neg_ℤ, ◌≤ℤ◌, ◌<ℤ◌}
use Rattle.std.specs.Int.Signed.{shr_z}
use Rattle.exact.specs.Fits.{g}

unfoldable pub floored : ℤ → ℤ
floored z = shr_z z g

unfoldable pub ceiled : ℤ → ℤ
ceiled z = neg_ℤ (floored (neg_ℤ z))

pub record Floor (z n : ℤ) : Type 0 where
  pub reached : (n *ℤ pos g) ≤ℤ z
  pub passed : z <ℤ ((n +ℤ pos 1) *ℤ pos g)

pub record Ceiling (z n : ℤ) : Type 0 where
  pub reached : z ≤ℤ (n *ℤ pos g)
  pub passed : ((n -ℤ pos 1) *ℤ pos g) <ℤ z
