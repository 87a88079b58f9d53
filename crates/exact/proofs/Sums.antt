-- Laws of sums, of products of vectors and of the largest value. Assumes nothing.
--     dot n a y   a 0 y 0 + .. + a (n - 1) y (n - 1)
use Rattle.std.proofs.Common.{◌≡◌, ℕ, zero, suc, ◌+◌, ◌*◌, ◌<◌, ◌≤◌, max, cond, eqb, ℤ, pos, ◌+ℤ◌, ◌-ℤ◌, ◌*ℤ◌, nat_abs, sym, refl, ap, ◌∙◌, ap₂, mul-le-mul, mul-le-mul_left, add-one, arith, below_more, eq-eqb, ne_eqb}
use native.Mathlib.Decide.{dec_le, ℕ_discrete}
use native.Mathlib.Nat.{max-eq_left, max-eq_right}
use lib.IntN.{zero-*ℤ, *ℤ-zero, *ℤ_comm, +ℤ_idl, +ℤ_idr}
use Rattle.exact.specs.Sums.{∑, ∑ℕ, largest}
use Rattle.exact.proofs.Ints.{*ℤ_left_comm, *ℤ_distl, nat_abs_add, nat_abs_mul}
use Rattle.exact.proofs.Ring.{◌⊕◌, ◌⊖◌, ◌⊗◌, con, ◌≈◌, ring}

-- ---- sums
pub ∑_cong : (n : ℕ) (f g : ℕ → ℤ) → ((i : ℕ) → i < n → f i ≡ g i) → ∑ n f ≡ ∑ n g
unfolding ∑
∑_cong zero f g h = refl
∑_cong (suc n) f g h = ap₂ ◌+ℤ◌ (∑_cong n f g (λ i l. h i (omega arith))) (h n (omega arith))

pub ∑-zero : (n : ℕ) (f : ℕ → ℤ) → ((i : ℕ) → i < n → f i ≡ pos 0) → ∑ n f ≡ pos 0
unfolding ∑
∑-zero zero f h = refl
∑-zero (suc n) f h = ap₂ ◌+ℤ◌ (∑-zero n f (λ i l. h i (omega arith))) (h n (omega arith))

pub ∑_add : (n : ℕ) (f g : ℕ → ℤ) → ∑ n (λ i. f i +ℤ g i) ≡ ∑ n f +ℤ ∑ n g
unfolding ∑
∑_add zero f g = refl
∑_add (suc n) f g =
    ap (λ x. x +ℤ (f n +ℤ g n)) (∑_add n f g) ∙ ring 4 (λ s t a b. s ⊕ t ⊕ (a ⊕ b) ≈ s ⊕ a ⊕ (t ⊕ b)) refl (∑ n f) (∑ n g) (f n) (g n)

pub ∑_scale : (n : ℕ) (c : ℤ) (f : ℕ → ℤ) → ∑ n (λ i. c *ℤ f i) ≡ c *ℤ ∑ n f
unfolding ∑
∑_scale zero c f = sym (*ℤ-zero c)
∑_scale (suc n) c f = ap (λ x. x +ℤ c *ℤ f n) (∑_scale n c f) ∙ sym (*ℤ_distl c (∑ n f) (f n))

-- one more term
pub ∑_more : (n : ℕ) (f : ℕ → ℤ) → ∑ (n + 1) f ≡ ∑ n f +ℤ f n
unfolding ∑
∑_more n f = rw add-one refl

-- a sum whose last terms are 0
pub ∑_front : (k n : ℕ) (f : ℕ → ℤ) → k ≤ n → ((i : ℕ) → k ≤ i → i < n → f i ≡ pos 0) → ∑ n f ≡ ∑ k f
unfolding ∑
∑_front k zero f l h = let e : 0 ≡ k = omega arith in ap (λ n. ∑ n f) e
∑_front k (suc n) f l h = elim (ℕ_discrete k (suc n)) [
  | yes e ↦ ap (λ n. ∑ n f) (sym e)
  | no e ↦ ap₂ ◌+ℤ◌ (∑_front k n f (omega arith) (λ i a b. h i a (omega arith))) (h n (omega arith) (omega arith)) ∙ +ℤ_idr (∑ k f)
]

-- |f i| ≤ c gives |∑ n f| ≤ n c
pub ∑_size : (n c : ℕ) (f : ℕ → ℤ) → ((i : ℕ) → i < n → nat_abs (f i) ≤ c) → nat_abs (∑ n f) ≤ n * c
unfolding ∑
∑_size zero c f h = omega arith
∑_size (suc n) c f h = omega (arith, ∑_size n c f (λ i l. h i (omega arith)), h n (omega arith), nat_abs_add (∑ n f) (f n))

-- ---- sums of natural numbers
pub ∑ℕ_more : (n : ℕ) (f : ℕ → ℕ) → ∑ℕ (n + 1) f ≡ ∑ℕ n f + f n
unfolding ∑ℕ
∑ℕ_more n f = rw add-one refl

pub ∑ℕ_cong : (n : ℕ) (f g : ℕ → ℕ) → ((i : ℕ) → i < n → f i ≡ g i) → ∑ℕ n f ≡ ∑ℕ n g
unfolding ∑ℕ
∑ℕ_cong zero f g h = refl
∑ℕ_cong (suc n) f g h = ap₂ ◌+◌ (∑ℕ_cong n f g (λ i l. h i (omega arith))) (h n (omega arith))

pub ∑ℕ_mono : (n : ℕ) (f g : ℕ → ℕ) → ((i : ℕ) → i < n → f i ≤ g i) → ∑ℕ n f ≤ ∑ℕ n g
unfolding ∑ℕ
∑ℕ_mono zero f g h = omega arith
∑ℕ_mono (suc n) f g h = omega (arith, ∑ℕ_mono n f g (λ i l. h i (omega arith)), h n (omega arith))

pub ∑ℕ_scale : (n : ℕ) (f : ℕ → ℕ) (c : ℕ) → ∑ℕ n (λ i. f i * c) ≡ ∑ℕ n f * c
unfolding ∑ℕ
∑ℕ_scale zero f c = omega arith
∑ℕ_scale (suc n) f c = omega (arith, ∑ℕ_scale n f c)

-- f i ≤ c gives ∑ℕ n f ≤ n c
pub ∑ℕ_size : (n c : ℕ) (f : ℕ → ℕ) → ((i : ℕ) → i < n → f i ≤ c) → ∑ℕ n f ≤ n * c
unfolding ∑ℕ
∑ℕ_size zero c f h = omega arith
∑ℕ_size (suc n) c f h = omega (arith, ∑ℕ_size n c f (λ i l. h i (omega arith)), h n (omega arith))

-- a term is not above the sum
pub ∑ℕ_above : (n : ℕ) (f : ℕ → ℕ) (i : ℕ) → i < n → f i ≤ ∑ℕ n f
unfolding ∑ℕ
∑ℕ_above zero f i l = absurd (omega arith)
∑ℕ_above (suc n) f i l =
    below_more (λ i. f i ≤ ∑ℕ n f + f n) n (λ i h. omega (arith, ∑ℕ_above n f i h)) (omega arith) i (omega arith)

-- ---- products of vectors
abbrev pub dot : ℕ → (ℕ → ℤ) → (ℕ → ℤ) → ℤ
dot n a y = ∑ n (λ i. a i *ℤ y i)

pub dot_comm : (n : ℕ) (a y : ℕ → ℤ) → dot n a y ≡ dot n y a
dot_comm n a y = ∑_cong n (λ i. a i *ℤ y i) (λ i. y i *ℤ a i) (λ i l. *ℤ_comm (a i) (y i))

pub dot_cong : (n : ℕ) (a y z : ℕ → ℤ) → ((i : ℕ) → i < n → y i ≡ z i) → dot n a y ≡ dot n a z
dot_cong n a y z h = ∑_cong n (λ i. a i *ℤ y i) (λ i. a i *ℤ z i) (λ i l. ap (λ x. a i *ℤ x) (h i l))

pub dot-zero : (n : ℕ) (a y : ℕ → ℤ) → ((i : ℕ) → i < n → y i ≡ pos 0) → dot n a y ≡ pos 0
dot-zero n a y h = ∑-zero n (λ i. a i *ℤ y i) (λ i l. ap (λ x. a i *ℤ x) (h i l) ∙ *ℤ-zero (a i))

pub dot_scale : (n : ℕ) (a : ℕ → ℤ) (c : ℤ) (y : ℕ → ℤ) → dot n a (λ i. c *ℤ y i) ≡ c *ℤ dot n a y
dot_scale n a c y = ∑_cong n (λ i. a i *ℤ (c *ℤ y i)) (λ i. c *ℤ (a i *ℤ y i)) (λ i l. *ℤ_left_comm (a i) c (y i)) ∙ ∑_scale n c (λ i. a i *ℤ y i)

-- a (c y - d z) = c a y - d a z
pub dot_minus : (n : ℕ) (a : ℕ → ℤ) (c d : ℤ) (y z : ℕ → ℤ) → dot n a (λ i. c *ℤ y i -ℤ d *ℤ z i) ≡ c *ℤ dot n a y -ℤ d *ℤ dot n a z
unfolding ∑
dot_minus zero a c d y z = ring 2 (λ c d. con (pos 0) ≈ c ⊗ con (pos 0) ⊖ d ⊗ con (pos 0)) refl c d
dot_minus (suc n) a c d y z =
    ap (λ x. x +ℤ a n *ℤ (c *ℤ y n -ℤ d *ℤ z n)) (dot_minus n a c d y z)
    ∙ ring 7 (λ a c d y z s t. c ⊗ s ⊖ d ⊗ t ⊕ a ⊗ (c ⊗ y ⊖ d ⊗ z) ≈ c ⊗ (s ⊕ a ⊗ y) ⊖ d ⊗ (t ⊕ a ⊗ z)) refl
    (a n) c d (y n) (z n) (dot n a y) (dot n a z)

-- (B a) v = a (Bᵀ v)
pub dot_adjoint : (m n : ℕ) (B : ℕ → ℕ → ℤ) (a v : ℕ → ℤ) → dot m (λ i. dot n (B i) a) v ≡ dot n a (λ j. dot m (λ i. B i j) v)
unfolding ∑
dot_adjoint zero n B a v = sym (dot-zero n a (λ j. pos 0) (λ j l. refl))
dot_adjoint (suc m) n B a v = ap (λ x. x +ℤ dot n (B m) a *ℤ v m) (dot_adjoint m n B a v) ∙ sym (more n)
  where
    more : (n : ℕ) → dot n a (λ j. dot m (λ i. B i j) v +ℤ B m j *ℤ v m) ≡ dot n a (λ j. dot m (λ i. B i j) v) +ℤ dot n (B m) a *ℤ v m
    more zero = ring 1 (λ v. con (pos 0) ≈ con (pos 0) ⊕ con (pos 0) ⊗ v) refl (v m)
    more (suc n) =
        ap (λ x. x +ℤ a n *ℤ (dot m (λ i. B i n) v +ℤ B m n *ℤ v m)) (more n)
        ∙ ring 6 (λ s t v a w b. s ⊕ t ⊗ v ⊕ a ⊗ (w ⊕ b ⊗ v) ≈ s ⊕ a ⊗ w ⊕ (t ⊕ b ⊗ a) ⊗ v) refl
        (dot n a (λ j. dot m (λ i. B i j) v)) (dot n (B m) a) (v m) (a n) (dot m (λ i. B i n) v) (B m n)

-- (a B) y = a (B y)
pub dot_assoc : (m n : ℕ) (a : ℕ → ℤ) (B : ℕ → ℕ → ℤ) (y : ℕ → ℤ) → dot n (λ j. dot m a (λ i. B i j)) y ≡ dot m a (λ i. dot n (B i) y)
dot_assoc m n a B y =
    ∑_cong n (λ j. dot m a (λ i. B i j) *ℤ y j) (λ j. dot m (λ i. B i j) a *ℤ y j) (λ j l. ap (λ x. x *ℤ y j) (dot_comm m a (λ i. B i j)))
    ∙ dot_adjoint n m (λ j i. B i j) a y

-- the vector that is d at i and 0 elsewhere
pub dot_unit : (n i : ℕ) (d : ℤ) (y : ℕ → ℤ) → i < n → dot n (λ j. cond (eqb i j) d (pos 0)) y ≡ d *ℤ y i
unfolding ∑
dot_unit zero i d y l = absurd (omega arith)
dot_unit (suc n) i d y l = below_more (λ i. dot (suc n) (λ j. cond (eqb i j) d (pos 0)) y ≡ d *ℤ y i) n
    (λ i h. ap₂ ◌+ℤ◌ (dot_unit n i d y h) (apart i n (omega arith)) ∙ +ℤ_idr (d *ℤ y i))
    (ap₂ ◌+ℤ◌ (∑-zero n _ (λ j h. apart n j (omega arith))) (ap (λ t. cond t d (pos 0) *ℤ y n) (eq-eqb n n refl)) ∙ +ℤ_idl (d *ℤ y n))
    i (omega arith)
  where
    apart : (i j : ℕ) → (i ≡ j → ⊥) → cond (eqb i j) d (pos 0) *ℤ y j ≡ pos 0
    apart i j h = rw (ne_eqb i j h) (zero-*ℤ (y j))

-- |a i| ≤ c and |y i| ≤ d give |a y| ≤ n c d
pub dot_within : (n c d : ℕ) (a y : ℕ → ℤ) → ((i : ℕ) → i < n → nat_abs (a i) ≤ c) → ((i : ℕ) → i < n → nat_abs (y i) ≤ d)
    → nat_abs (dot n a y) ≤ n * (c * d)
dot_within n c d a y p q = ∑_size n (c * d) (λ i. a i *ℤ y i) (λ i l. rw (nat_abs_mul (a i) (y i)) (mul-le-mul (p i l) (q i l)))

-- |y| ≤ Y gives |a y| ≤ (|a 0| + .. + |a (n - 1)|) Y
pub dot_size : (n : ℕ) (a y : ℕ → ℤ) (Y : ℕ) → ((i : ℕ) → i < n → nat_abs (y i) ≤ Y) → nat_abs (dot n a y) ≤ ∑ℕ n (λ i. nat_abs (a i)) * Y
unfolding ∑ ∑ℕ
dot_size zero a y Y h = omega arith
dot_size (suc n) a y Y h =
    let front = dot_size n a y Y (λ i l. h i (omega arith)) in
    let last = mul-le-mul_left (nat_abs (a n)) (h n (omega arith)) in
    omega (arith, nat_abs_add (dot n a y) (a n *ℤ y n), nat_abs_mul (a n) (y n))

-- ---- the largest value
pub largest_above : (n : ℕ) (f : ℕ → ℕ) (i : ℕ) → i < n → f i ≤ largest n f
unfolding largest
largest_above zero f i l = omega arith
largest_above (suc n) f i l =
    below_more (λ i. f i ≤ max (largest n f) (f n)) n (λ i h. omega (arith, largest_above n f i h)) (omega arith) i (omega arith)

-- k f i ≤ B at each i gives the same of the largest
pub largest_least : (n : ℕ) (f : ℕ → ℕ) (k B : ℕ) → ((i : ℕ) → i < n → k * f i ≤ B) → k * largest n f ≤ B
unfolding largest
largest_least zero f k B h = omega arith
largest_least (suc n) f k B h = either (largest_least n f k B (λ i l. h i (omega arith))) (h n (omega arith))
  where
    either : k * largest n f ≤ B → k * f n ≤ B → k * max (largest n f) (f n) ≤ B
    either p q = elim (dec_le (largest n f) (f n)) [
      | yes l ↦ rw (max-eq_right l) q
      | no l ↦ let h : f n ≤ largest n f = omega arith in rw (max-eq_left h) p
    ]

pub largest_below : (n : ℕ) (f : ℕ → ℕ) (B : ℕ) → ((i : ℕ) → i < n → f i ≤ B) → largest n f ≤ B
largest_below n f B h = omega (arith, largest_least n f 1 B (λ i l. omega (arith, h i l)))

pub largest_more : (n : ℕ) (f : ℕ → ℕ) → largest (n + 1) f ≡ max (largest n f) (f n)
unfolding largest
largest_more n f = rw add-one refl

pub largest_cong : (n : ℕ) (f g : ℕ → ℕ) → ((i : ℕ) → i < n → f i ≡ g i) → largest n f ≡ largest n g
unfolding largest
largest_cong zero f g h = refl
largest_cong (suc n) f g h = ap₂ max (largest_cong n f g (λ i l. h i (omega arith))) (h n (omega arith))
