-- Rounding, for `omega`: an integer z is read as `up z - down z`, as in `ints`. Assumes nothing.
use Rattle.std.proofs.Common.{◌+◌, ◌*◌, ◌<◌, ◌≤◌, ℤ, pos, negsuc, arith}
use lib.Signed.{shr_z}
use borrow.Author.Differences.{up, down}
use Rattle.std.proofs.lemmas.Int.{ints}
use Rattle.exact.specs.Fits.{g}
use Rattle.exact.proofs.Ints.{*ℤ_distr}
use Rattle.arithmetic.specs.Rounding.{floored, ceiled, Floor, Ceiling}

-- n g ≤ z < n g + g
abbrev pub Down : ℤ → ℤ → Type 0
Down z n = (up n * g + down z ≤ up z + down n * g) × (down n * g + up z < up n * g + g + down z)

-- n g - g < z ≤ n g
abbrev pub Up : ℤ → ℤ → Type 0
Up z n = (down n * g + up z ≤ up n * g + down z) × (up n * g + down z < up z + down n * g + g)

pub shr_is : (z : ℤ) → Down z (shr_z z g)
shr_is (pos n) = omega arith
shr_is (negsuc n) = omega arith

pub floored_is : (z : ℤ) → Down z (floored z)
unfolding floored
floored_is z = shr_is z

pub ceiled_is : (z : ℤ) → Up z (ceiled z)
unfolding ceiled
ceiled_is z = omega (arith, ints, floored_is)

pub ruleset rounds = (floored_is, ceiled_is)

-- the same, as the contracts say it
pub floor_of : (z n : ℤ) → Down z n → Floor z n
floor_of z n d = record { reached = omega (arith, ints); passed = rw (*ℤ_distr n (pos 1) (pos g)) (omega (arith, ints)) }

pub ceiling_of : (z n : ℤ) → Up z n → Ceiling z n
ceiling_of z n d = record { reached = omega (arith, ints); passed = rw (*ℤ_distr n (negsuc 0) (pos g)) (omega (arith, ints)) }
