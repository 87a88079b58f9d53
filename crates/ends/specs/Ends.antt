-- The ends arithmetic: a value keeps its two ends. Assumes nothing.
--     kept i            the record that holds the ends of i
--     means e           what a record means: its two ends, or 0 to 0 where it holds no two ends of a value
--     least, greatest   of the four products of ends, in units of 2^-48
--     outward i j       both in grains, the least rounded down and the greatest rounded up
--     ends_ops          what the arithmetic computes
--     settled i         the answer of a sum or a difference whose exact result is i
use Rattle.std.specs.Prelude.{◌^◌, cond, ℤ, ◌*ℤ◌, Ok, Err, Result, nat_le}
use Rattle.std.specs.Int.{int_min, int_max}
use Rattle.arithmetic.specs.Intervals.{Interval, between, size, added, subtracted, or_zero}
use Rattle.arithmetic.specs.Rounding.{floored, ceiled}
use Rattle.arithmetic.specs.Operations.{Ops}
use Rattle.arithmetic.specs.declared.refusal.Refusal.{Refusal}
use Rattle.arithmetic.specs.declared.refusal.Refusal.TheVariants.{Sum}
use Rattle.ends.specs.declared.Ends.{Ends}

abbrev pub kept : Interval → Ends
kept i = record { low = i.low; high = i.high }

abbrev pub means : Ends → Interval
means e = or_zero (between e.low e.high)

unfoldable pub least : Interval → Interval → ℤ
least i j = int_min (int_min (int_min (i.low *ℤ j.low) (i.low *ℤ j.high)) (i.high *ℤ j.low)) (i.high *ℤ j.high)

unfoldable pub greatest : Interval → Interval → ℤ
greatest i j = int_max (int_max (int_max (i.low *ℤ j.low) (i.low *ℤ j.high)) (i.high *ℤ j.low)) (i.high *ℤ j.high)

unfoldable pub outward : Interval → Interval → Interval
outward i j = between (floored (least i j)) (ceiled (greatest i j))

abbrev pub ends_ops : Ops Ends
ends_ops = record {
  means = means;
  made = λ l h. kept (between l h);
  plus = λ a b. kept (added (means a) (means b));
  minus = λ a b. kept (subtracted (means a) (means b));
  times = λ a b. kept (outward (means a) (means b));
}

unfoldable pub settled : Interval → Result Ends Refusal
settled i = cond (nat_le (size i) (2 ^ 45)) (Ok (kept i)) (Err Sum)
