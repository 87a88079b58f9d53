-- What the calls of an arithmetic answer, for any arithmetic. Assumes nothing.
--     Ops V                the functions that an arithmetic computes, where V is the type of its values:
--       means v              the interval that v means
--       made l h             the value made from l and h
--       plus, minus, times   sum, difference and product
--     making, adding, subtracting, multiplying    the answer of a call: a value, or the refusal
--     checked t e          the answer of a check alone: the refusal e, unless the test t holds
use Rattle.std.specs.Prelude.{◌*◌, ◌^◌, Bool, cond, ℤ, Ok, Err, Result, nat_le}
use Rattle.arithmetic.specs.declared.refusal.Refusal.{Refusal}
use Rattle.arithmetic.specs.declared.refusal.Refusal.TheVariants.{Making, Product, Sum}
use Rattle.arithmetic.specs.Intervals.{Interval, between, size, proper, added, subtracted}

pub record Ops (V : Type 0) : Type 0 where
  pub means : V → Interval
  pub made : ℤ → ℤ → V
  pub plus : V → V → V
  pub minus : V → V → V
  pub times : V → V → V

abbrev pub checked : Bool → Refusal → Result (Unit {0}) Refusal
checked t e = cond t (Ok tt) (Err e)

module _ {V : Type 0} (o : Ops V) where
  -- refused if l is above h, or either size is above 2^44
  unfoldable pub making : ℤ → ℤ → Result V Refusal
  making l h = cond (proper (2 ^ 44) (between l h)) (Ok (o.made l h)) (Err Making)

  -- refused if the size of the exact sum is above 2^45
  unfoldable pub adding : V → V → Result V Refusal
  adding a b = cond (nat_le (size (added (o.means a) (o.means b))) (2 ^ 45)) (Ok (o.plus a b)) (Err Sum)

  -- refused if the size of the exact difference is above 2^45
  unfoldable pub subtracting : V → V → Result V Refusal
  subtracting a b = cond (nat_le (size (subtracted (o.means a) (o.means b))) (2 ^ 45)) (Ok (o.minus a b)) (Err Sum)

  -- refused if the product of the two sizes is above 2^62
  unfoldable pub multiplying : V → V → Result V Refusal
  multiplying a b = cond (nat_le (size (o.means a) * size (o.means b)) (2 ^ 62)) (Ok (o.times a b)) (Err Product)
