-- The centre arithmetic: a value keeps a centre and a radius. Assumes nothing.
--     kept c r        the record that holds the centre c and the radius r, in grains
--     extent v        how far the ends of v lie from 0 at the most, in grains
--     about v         the interval from centre - radius to centre + radius
--     means v         what a record means: these two ends, or 0 to 0 where they are no two ends of a value
--     meant v         the record that holds what v means
--     halved z        z / 2, rounded down
--     truncated z     z / g, with the fraction dropped
--     spread a b      how far a product can lie from that of the centres, in units of 2^-48
--     product a b     of records that hold what they mean
--     centre_ops      what the arithmetic computes
--     settled c r     the answer of a sum or a difference whose exact result lies about c
use Rattle.std.specs.Prelude.{ℕ, ◌+◌, ◌*◌, ◌^◌, cond, ℤ, pos, ◌+ℤ◌, ◌-ℤ◌, ◌*ℤ◌, Ok, Err, Result, int_div, nat_le, unsigned_abs}
use Rattle.std.specs.Int.Signed.{shr_z}
use Rattle.exact.specs.Fits.{g}
use Rattle.arithmetic.specs.Intervals.{Interval, between, proper, or_zero}
use Rattle.arithmetic.specs.Rounding.{ceiled}
use Rattle.arithmetic.specs.Operations.{Ops}
use Rattle.arithmetic.specs.declared.refusal.Refusal.{Refusal}
use Rattle.arithmetic.specs.declared.refusal.Refusal.TheVariants.{Sum}
use Rattle.centre.specs.declared.Centre.{Centre}

abbrev pub kept : ℤ → ℕ → Centre
kept c r = record { centre = c; radius = r }

abbrev pub extent : Centre → ℕ
extent v = unsigned_abs v.centre + v.radius

abbrev pub about : Centre → Interval
about v = between (v.centre -ℤ pos v.radius) (v.centre +ℤ pos v.radius)

abbrev pub means : Centre → Interval
means v = or_zero (about v)

abbrev pub meant : Centre → Centre
meant v = cond (proper (2 ^ 45) (about v)) v (kept (pos 0) 0)

unfoldable pub halved : ℤ → ℤ
halved z = shr_z z 2

unfoldable pub truncated : ℤ → ℤ
truncated z = int_div z (pos g)

unfoldable pub spread : Centre → Centre → ℕ
spread a b = unsigned_abs a.centre * b.radius + unsigned_abs b.centre * a.radius + a.radius * b.radius

-- the centre drops a fraction of a grain, so the radius is one grain larger than the spread, rounded up
unfoldable pub product : Centre → Centre → Centre
product a b = kept (truncated (a.centre *ℤ b.centre)) (unsigned_abs (ceiled (pos (spread a b))) + 1)

abbrev pub centre_ops : Ops Centre
centre_ops = record {
  means = means;
  made = λ l h. kept (halved (l +ℤ h)) (unsigned_abs (h -ℤ halved (l +ℤ h)));
  plus = λ a b. kept ((meant a).centre +ℤ (meant b).centre) ((meant a).radius + (meant b).radius);
  minus = λ a b. kept ((meant a).centre -ℤ (meant b).centre) ((meant a).radius + (meant b).radius);
  times = λ a b. product (meant a) (meant b);
}

unfoldable pub settled : ℤ → ℕ → Result Centre Refusal
settled c r = cond (nat_le (unsigned_abs c + r) (2 ^ 45)) (Ok (kept c r)) (Err Sum)
