-- Products of numbers that lie in two intervals: what holds at the four corners holds within. Assumes nothing.
use Rattle.std.proofs.Common.{◌≡◌, ℕ, ◌+◌, ◌*◌, ◌≤◌, ℤ, pos, negsuc, ◌+ℤ◌, ◌-ℤ◌, ◌*ℤ◌, nat_abs, ◌≤ℤ◌, refl, mul-le-mul, arith}
use lib.IntN.{*ℤ_comm}
use lib.Signed.{≤ℤ_refl}
use Rattle.std.proofs.lemmas.Int.{ints, by_lt_z, unsigned_abs-mul}
use Rattle.exact.proofs.Ring.{◌⊕◌, ◌⊖◌, ◌⊗◌, ◌≈◌, ring}
use Rattle.arithmetic.specs.Intervals.{Interval, size, width, Holds}

-- ---- order
mul_nonneg : (a b : ℤ) → pos 0 ≤ℤ a → pos 0 ≤ℤ b → pos 0 ≤ℤ (a *ℤ b)
mul_nonneg (pos a) (pos b) p q = omega (arith, ints)
mul_nonneg (pos a) (negsuc b) p q = absurd q.le
mul_nonneg (negsuc a) b p q = absurd p.le

-- (b - a) (d - c) is not negative, multiplied out
cross : (a b c d : ℤ) → a ≤ℤ b → c ≤ℤ d → (a *ℤ d +ℤ b *ℤ c) ≤ℤ (b *ℤ d +ℤ a *ℤ c)
cross a b c d p q =
    let n = mul_nonneg (b -ℤ a) (d -ℤ c) (omega (arith, ints)) (omega (arith, ints)) in
    let e = ring 4 (λ a b c d. (b ⊖ a) ⊗ (d ⊖ c) ≈ (b ⊗ d ⊕ a ⊗ c) ⊖ (a ⊗ d ⊕ b ⊗ c)) refl a b c d in
    omega (arith, ints)

mul_mono : (a u v : ℤ) → a ≤ℤ u → pos 0 ≤ℤ v → (a *ℤ v) ≤ℤ (u *ℤ v)
mul_mono a u v p q = let c = cross a u (pos 0) v p q in omega (arith, ints)

mul_anti : (a u v : ℤ) → a ≤ℤ u → v ≤ℤ pos 0 → (u *ℤ v) ≤ℤ (a *ℤ v)
mul_anti a u v p q = let c = cross a u v (pos 0) p q in omega (arith, ints)

≤ℤ_trans : (a b c : ℤ) → a ≤ℤ b → b ≤ℤ c → a ≤ℤ c
≤ℤ_trans a b c p q = omega (arith, ints)

-- a bound of u v that holds with either end of i in the place of u
above_left : (i : Interval) (e u v : ℤ) → Holds i u → e ≤ℤ (i.low *ℤ v) → e ≤ℤ (i.high *ℤ v) → e ≤ℤ (u *ℤ v)
above_left i e u v h low high = by_lt_z v (pos 0)
    (λ n. ≤ℤ_trans _ _ _ high (mul_anti u i.high v h.below (omega (arith, ints))))
    (λ n. ≤ℤ_trans _ _ _ low (mul_mono i.low u v h.above n))

below_left : (i : Interval) (e u v : ℤ) → Holds i u → (i.low *ℤ v) ≤ℤ e → (i.high *ℤ v) ≤ℤ e → (u *ℤ v) ≤ℤ e
below_left i e u v h low high = by_lt_z v (pos 0)
    (λ n. ≤ℤ_trans _ _ _ (mul_anti i.low u v h.above (omega (arith, ints))) low)
    (λ n. ≤ℤ_trans _ _ _ (mul_mono u i.high v h.below n) high)

-- a fact of each product of an end of i and an end of j
pub record Corners (P : ℤ → Type 0) (i j : Interval) : Type 0 where
  pub low_low : P (i.low *ℤ j.low)
  pub low_high : P (i.low *ℤ j.high)
  pub high_low : P (i.high *ℤ j.low)
  pub high_high : P (i.high *ℤ j.high)

-- what holds of all products of a number of i and a number of j holds at the corners
pub corners_of : (P : ℤ → Type 0) (i j : Interval) → i.low ≤ℤ i.high → j.low ≤ℤ j.high
    → ((u v : ℤ) → Holds i u → Holds j v → P (u *ℤ v)) → Corners P i j
corners_of P i j p q f = record {
  low_low = f i.low j.low (low i p) (low j q);
  low_high = f i.low j.high (low i p) (high j q);
  high_low = f i.high j.low (high i p) (low j q);
  high_high = f i.high j.high (high i p) (high j q);
}
  where
    low : (i : Interval) → i.low ≤ℤ i.high → Holds i i.low
    low i p = record { above = ≤ℤ_refl i.low; below = p }

    high : (i : Interval) → i.low ≤ℤ i.high → Holds i i.high
    high i p = record { above = p; below = ≤ℤ_refl i.high }

-- bounds at the corners are bounds of all products
pub corners_above : (i j : Interval) (e u v : ℤ) → Corners (λ z. e ≤ℤ z) i j → Holds i u → Holds j v → e ≤ℤ (u *ℤ v)
corners_above i j e u v c p q = above_left i e u v p (at i.low c.low_low c.low_high) (at i.high c.high_low c.high_high)
  where
    at : (x : ℤ) → e ≤ℤ (x *ℤ j.low) → e ≤ℤ (x *ℤ j.high) → e ≤ℤ (x *ℤ v)
    at x low high = rw (*ℤ_comm x v) (above_left j e v x q (rw (*ℤ_comm x j.low) at low) (rw (*ℤ_comm x j.high) at high))

pub corners_below : (i j : Interval) (e u v : ℤ) → Corners (λ z. z ≤ℤ e) i j → Holds i u → Holds j v → (u *ℤ v) ≤ℤ e
corners_below i j e u v c p q = below_left i e u v p (at i.low c.low_low c.low_high) (at i.high c.high_low c.high_high)
  where
    at : (x : ℤ) → (x *ℤ j.low) ≤ℤ e → (x *ℤ j.high) ≤ℤ e → (x *ℤ v) ≤ℤ e
    at x low high = rw (*ℤ_comm x v) (below_left j e v x q (rw (*ℤ_comm x j.low) at low) (rw (*ℤ_comm x j.high) at high))

-- ---- sizes
pub product_within : (x y : ℤ) (m n : ℕ) → nat_abs x ≤ m → nat_abs y ≤ n → nat_abs (x *ℤ y) ≤ m * n
product_within x y m n p q = rw (unsigned_abs-mul x y) (mul-le-mul p q)

pub sum_within : (z x y : ℤ) (m n : ℕ) → z ≡ x +ℤ y → nat_abs x ≤ m → nat_abs y ≤ n → nat_abs z ≤ m + n
sum_within z x y m n e p q = omega (arith, ints)

size_above : (i : Interval) (u : ℤ) → Holds i u → nat_abs u ≤ size i
size_above i u h = let p = h.above in let q = h.below in omega (arith, ints)

width_above : (i : Interval) (u u' : ℤ) → Holds i u → Holds i u' → nat_abs (u -ℤ u') ≤ width i
width_above i u u' h h' = let p = h.above in let q = h.below in let p' = h'.above in let q' = h'.below in omega (arith, ints)

pub product_size : (i j : Interval) (u v : ℤ) → Holds i u → Holds j v → nat_abs (u *ℤ v) ≤ size i * size j
product_size i j u v p q = product_within u v (size i) (size j) (size_above i u p) (size_above j v q)

-- two products of numbers of i and of j differ by at most what the sizes and widths allow
pub products_apart : (i j : Interval) (u v u' v' : ℤ) → Holds i u → Holds j v → Holds i u' → Holds j v'
    → nat_abs (u *ℤ v -ℤ u' *ℤ v') ≤ size i * width j + size j * width i
products_apart i j u v u' v' p q p' q' =
    let e = ring 4 (λ u v u' v'. u ⊗ v ⊖ u' ⊗ v' ≈ u ⊗ (v ⊖ v') ⊕ v' ⊗ (u ⊖ u')) refl u v u' v' in
    let a = product_within u (v -ℤ v') (size i) (width j) (size_above i u p) (width_above j v v' q q') in
    let b = product_within v' (u -ℤ u') (size j) (width i) (size_above j v' q') (width_above i u u' p p') in
    sum_within _ (u *ℤ (v -ℤ v')) (v' *ℤ (u -ℤ u')) _ _ e a b
