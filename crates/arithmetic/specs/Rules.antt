-- What is known of every arithmetic, and all that a new one has to show. Assumes nothing.
use Rattle.std.specs.Prelude.{◌≡◌, ◌*◌, ◌^◌, ◌≤◌, true, ℤ}
use Rattle.arithmetic.specs.Intervals.{between, size, proper, added, subtracted, MadeFrom, ProductOf}
use Rattle.arithmetic.specs.Operations.{Ops}

-- A value means two ends in order, of a size of at most 2^45. Each result that is not refused keeps the rule of its step.
pub record Rules {V : Type 0} (o : Ops V) : Type 0 where
  pub means_proper : (v : V) → proper (2 ^ 45) (o.means v) ≡ true
  pub made_from : (l h : ℤ) → proper (2 ^ 44) (between l h) ≡ true → MadeFrom l h (o.means (o.made l h))
  pub plus_exact : (a b : V) → size (added (o.means a) (o.means b)) ≤ 2 ^ 45
      → o.means (o.plus a b) ≡ added (o.means a) (o.means b)
  pub minus_exact : (a b : V) → size (subtracted (o.means a) (o.means b)) ≤ 2 ^ 45
      → o.means (o.minus a b) ≡ subtracted (o.means a) (o.means b)
  pub times_product : (a b : V) → size (o.means a) * size (o.means b) ≤ 2 ^ 62
      → ProductOf (o.means a) (o.means b) (o.means (o.times a b))
