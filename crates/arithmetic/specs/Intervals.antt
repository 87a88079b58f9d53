-- Intervals of whole numbers of grains, and the rules for each step on them. Assumes nothing.
--     Interval            a low end and a high end, in grains
--     between l h         the interval from l to h
--     size, width         the larger size of the two ends; high end minus low end, for ends in order; both in grains
--     proper n            the ends are in order, and the size is at most n
--     added, subtracted   the exact sum and the exact difference of two intervals
--     or_zero             what a record that holds these two ends means: them, if they are proper for a value, else 0 to 0
--     Holds i u           u lies in i
--     MadeFrom l h i      i may be the value that is made from l and h
--     ProductOf i j p     p may be the product of i and j
use Rattle.std.specs.Prelude.{◌≡◌, ℕ, ◌+◌, ◌*◌, ◌^◌, ◌≤◌, max, Bool, cond, ◌&&◌, ℤ, pos, ◌+ℤ◌, ◌-ℤ◌, ◌*ℤ◌, ◌≤ℤ◌, int_le, nat_le, unsigned_abs}
use Rattle.exact.specs.Fits.{g}

pub record Interval : Type 0 where
  pub low : ℤ
  pub high : ℤ

abbrev pub between : ℤ → ℤ → Interval
between l h = record { low = l; high = h }

abbrev pub size : Interval → ℕ
size i = max (unsigned_abs i.low) (unsigned_abs i.high)

abbrev pub width : Interval → ℕ
width i = unsigned_abs (i.high -ℤ i.low)

abbrev pub proper : ℕ → Interval → Bool
proper n i = int_le i.low i.high && nat_le (size i) n

abbrev pub added : Interval → Interval → Interval
added i j = between (i.low +ℤ j.low) (i.high +ℤ j.high)

abbrev pub subtracted : Interval → Interval → Interval
subtracted i j = between (i.low -ℤ j.high) (i.high -ℤ j.low)

-- no value has a size above 2^45
abbrev pub or_zero : Interval → Interval
or_zero i = cond (proper (2 ^ 45) i) i (between (pos 0) (pos 0))

pub record Holds (i : Interval) (u : ℤ) : Type 0 where
  pub above : i.low ≤ℤ u
  pub below : u ≤ℤ i.high

-- it covers l to h and is at most one grain wider; equal ends are met exactly
pub record MadeFrom (l h : ℤ) (i : Interval) : Type 0 where
  pub covers : (u : ℤ) → l ≤ℤ u → u ≤ℤ h → Holds i u
  pub narrow : width i ≤ width (between l h) + 1
  pub point : l ≡ h → i ≡ between l h

-- it covers u v / g for all u and v in the factors, and its width is at most
-- (size of one × width of the other, both ways, added) / g + 4; both are multiplied by g
pub record ProductOf (i j p : Interval) : Type 0 where
  pub covers : (u v : ℤ) → Holds i u → Holds j v → ((p.low *ℤ pos g) ≤ℤ (u *ℤ v)) × ((u *ℤ v) ≤ℤ (p.high *ℤ pos g))
  pub narrow : width p * g ≤ size i * width j + size j * width i + 4 * g
