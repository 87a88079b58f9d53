-- What the test `proper` says, and what `or_zero` makes of two ends. Assumes nothing.
use Rattle.std.proofs.Common.{◌≡◌, ℕ, ◌^◌, ◌≤◌, Bool, true, false, cond, leb, pos, nat_abs, ◌≤ℤ◌, sym, refl, ap, arith, le-leb, leb-true}
use lib.Signed.{le_z}
use Rattle.std.proofs.lemmas.Int.{ints}
use Rattle.std.proofs.lemmas.Bool.{and_parts, and_from}
use Rattle.arithmetic.specs.Intervals.{Interval, between, size, proper, added, subtracted, or_zero}

-- `proper n i`, as facts
pub record Proper (n : ℕ) (i : Interval) : Type 0 where
  pub ordered : i.low ≤ℤ i.high
  pub low_in : nat_abs i.low ≤ n
  pub high_in : nat_abs i.high ≤ n

pub proper_facts : (n : ℕ) (i : Interval) → proper n i ≡ true → Proper n i
proper_facts n i e =
    let parts = and_parts (le_z i.low i.high) (leb (size i) n) e in
    let p = parts.0 in
    let q : size i ≤ n = leb-true (size i) n parts.1 in
    record { ordered = omega (arith, ints); low_in = omega arith; high_in = omega arith }

pub proper_from : (n : ℕ) (i : Interval) → Proper n i → proper n i ≡ true
proper_from n i f =
    let p : true ≡ le_z i.low i.high = omega (arith, ints, f.ordered) in
    let q : size i ≤ n = omega (arith, f.low_in, f.high_in) in
    and_from (le_z i.low i.high) (leb (size i) n) (sym p) (le-leb (size i) n q)

pub or_zero-proper : (i : Interval) → proper (2 ^ 45) (or_zero i) ≡ true
or_zero-proper i = by (proper (2 ^ 45) i) refl
  where
    by : (t : Bool) → proper (2 ^ 45) i ≡ t → proper (2 ^ 45) (cond t i (between (pos 0) (pos 0))) ≡ true
    by true e = e
    by false e = refl

pub or_zero_same : (i : Interval) → proper (2 ^ 45) i ≡ true → or_zero i ≡ i
or_zero_same i e = ap (λ t. cond t i (between (pos 0) (pos 0))) e

-- the exact sum and difference of ordered ends, where they are small enough
small_same : (i : Interval) → i.low ≤ℤ i.high → size i ≤ 2 ^ 45 → or_zero i ≡ i
small_same i p q = or_zero_same i (proper_from (2 ^ 45) i (record { ordered = p; low_in = omega arith; high_in = omega arith }))

pub added_same : (i j : Interval) → i.low ≤ℤ i.high → j.low ≤ℤ j.high → size (added i j) ≤ 2 ^ 45 → or_zero (added i j) ≡ added i j
added_same i j p q small = small_same (added i j) (omega (arith, ints)) small

pub subtracted_same : (i j : Interval) → i.low ≤ℤ i.high → j.low ≤ℤ j.high
    → size (subtracted i j) ≤ 2 ^ 45 → or_zero (subtracted i j) ≡ subtracted i j
subtracted_same i j p q small = small_same (subtracted i j) (omega (arith, ints)) small
