-- Whole numbers: the laws of a commutative ring that the library lacks, sizes, and order. Assumes nothing.
use Rattle.std.proofs.Common.{◌≡◌, ℕ, zero, suc, ◌+◌, ◌*◌, ◌<◌, ◌≤◌, ◌≢◌, ℤ, pos, negsuc, ◌+ℤ◌, ◌-ℤ◌, ◌*ℤ◌, neg_ℤ, nat_abs, ◌≤ℤ◌, sym, refl, ap, ◌∙◌, ap₂, arith}
use lib.IntN.{*ℤ_comm}
use borrow.Author.Differences.{up, down, same_in, sum_is_lem, neg_is, product_is, abs_is}
use Rattle.std.proofs.lemmas.Int.{ints}

-- ---- laws of the ring, where a whole number is the difference up - down of natural numbers
up_mul : (a b : ℤ) → up (a *ℤ b) ≡ up a * up b + down a * down b
up_mul a b = (product_is a b).0

down_mul : (a b : ℤ) → down (a *ℤ b) ≡ up a * down b + down a * up b
down_mul a b = (product_is a b).1

pub *ℤ_assoc : (a b c : ℤ) → (a *ℤ b) *ℤ c ≡ a *ℤ (b *ℤ c)
*ℤ_assoc a b c = same_in ((a *ℤ b) *ℤ c) (a *ℤ (b *ℤ c)) (simp (up_mul, down_mul) (omega arith))

pub *ℤ_left_comm : (a b c : ℤ) → a *ℤ (b *ℤ c) ≡ b *ℤ (a *ℤ c)
*ℤ_left_comm a b c = sym (*ℤ_assoc a b c) ∙ ap (λ x. x *ℤ c) (*ℤ_comm a b) ∙ *ℤ_assoc b a c

-- (a b) (c d) = (a c) (b d)
pub *ℤ_exchange : (a b c d : ℤ) → (a *ℤ b) *ℤ (c *ℤ d) ≡ (a *ℤ c) *ℤ (b *ℤ d)
*ℤ_exchange a b c d = *ℤ_assoc a b (c *ℤ d) ∙ ap (λ x. a *ℤ x) (*ℤ_left_comm b c d) ∙ sym (*ℤ_assoc a c (b *ℤ d))

pub +ℤ_left_comm : (a b c : ℤ) → a +ℤ (b +ℤ c) ≡ b +ℤ (a +ℤ c)
+ℤ_left_comm a b c = omega (arith, ints)

pub *ℤ_distl : (a b c : ℤ) → a *ℤ (b +ℤ c) ≡ a *ℤ b +ℤ a *ℤ c
*ℤ_distl a b c =
    let ups = ap (λ x. up a * x) (sum_is_lem b c) in
    let downs = ap (λ x. down a * x) (sum_is_lem b c) in
    same_in (a *ℤ (b +ℤ c)) (a *ℤ b +ℤ a *ℤ c) (omega (arith, sum_is_lem (a *ℤ b) (a *ℤ c), product_is a (b +ℤ c), product_is a b, product_is a c))

pub *ℤ_distr : (a b c : ℤ) → (a +ℤ b) *ℤ c ≡ a *ℤ c +ℤ b *ℤ c
*ℤ_distr a b c = *ℤ_comm (a +ℤ b) c ∙ *ℤ_distl c a b ∙ ap₂ ◌+ℤ◌ (*ℤ_comm c a) (*ℤ_comm c b)

pub one-*ℤ : (a : ℤ) → pos 1 *ℤ a ≡ a
one-*ℤ a = omega (arith, ints)

pub minus_one-*ℤ : (a : ℤ) → negsuc 0 *ℤ a ≡ neg_ℤ a
minus_one-*ℤ a = omega (arith, ints)

pub equal : (a b : ℤ) → a -ℤ b ≡ pos 0 → a ≡ b
equal a b h = omega (arith, ints)

-- ---- sizes
pub nat_abs_mul : (a b : ℤ) → nat_abs (a *ℤ b) ≡ nat_abs a * nat_abs b
nat_abs_mul (pos a) (pos b) = refl
nat_abs_mul (pos a) (negsuc b) = omega (arith, abs_is (neg_ℤ (pos (a * suc b))), neg_is (pos (a * suc b)))
nat_abs_mul (negsuc a) (pos b) = omega (arith, abs_is (neg_ℤ (pos (suc a * b))), neg_is (pos (suc a * b)))
nat_abs_mul (negsuc a) (negsuc b) = refl

pub nat_abs_add : (a b : ℤ) → nat_abs (a +ℤ b) ≤ nat_abs a + nat_abs b
nat_abs_add a b = omega (arith, ints)

pub nat_abs_positive : (z : ℤ) → z ≢ pos 0 → 0 < nat_abs z
nat_abs_positive z h = omega (arith, ints)

-- r > 0 and |z| r ≤ 0 give z = 0
pub nat_abs_zero : (z : ℤ) (r : ℕ) → 0 < r → nat_abs z * r ≤ 0 → z ≡ pos 0
nat_abs_zero (pos zero) r p h = refl
nat_abs_zero (pos (suc n)) r p h = absurd (omega arith)
nat_abs_zero (negsuc n) r p h = absurd (omega arith)

-- |y - c| ≤ k is c - k ≤ y ≤ c + k
pub nat_abs_above : (y c : ℤ) (k : ℕ) → nat_abs (y -ℤ c) ≤ k → (c -ℤ pos k) ≤ℤ y
nat_abs_above y c k h = omega (arith, ints)

pub nat_abs_below : (y c : ℤ) (k : ℕ) → nat_abs (y -ℤ c) ≤ k → y ≤ℤ (c +ℤ pos k)
nat_abs_below y c k h = omega (arith, ints)
