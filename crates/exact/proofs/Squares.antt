-- The solutions of the normal equations are the least squares solutions. Assumes nothing.
use Rattle.std.proofs.Common.{◌≡◌, ℕ, zero, suc, ◌*◌, ◌<◌, ◌≤◌, ℤ, pos, negsuc, ◌+ℤ◌, ◌-ℤ◌, ◌*ℤ◌, nat_abs, ◌≤ℤ◌, sym, refl, ap, ◌∙◌, ap₂, mul-pos, arith, below_more}
use native.Mathlib.Nat.{le_of_mul-le-mul_left}
use Rattle.std.proofs.lemmas.Int.{ints}
use Rattle.exact.specs.Sums.{∑, ∑ℕ, squares}
use Rattle.exact.specs.Fits.{Fit, image, misfit, Solution, Nearest}
use Rattle.exact.specs.Theorems.{LeastSquares}
use Rattle.exact.proofs.Ints.{*ℤ_assoc}
use Rattle.exact.proofs.Ring.{◌⊕◌, ◌⊖◌, ◌⊗◌, con, ◌≈◌, ring}
use Rattle.exact.proofs.Sums.{dot, dot_comm, dot-zero, dot_scale, dot_minus, dot_adjoint}

-- ---- sums of squares
squares_natural : (n : ℕ) (f : ℕ → ℤ) → squares n f ≡ pos (∑ℕ n (λ i. nat_abs (f i) * nat_abs (f i)))
unfolding ∑ ∑ℕ
squares_natural zero f = refl
squares_natural (suc n) f = ap₂ ◌+ℤ◌ (squares_natural n f) (square (f n))
  where
    square : (z : ℤ) → z *ℤ z ≡ pos (nat_abs z * nat_abs z)
    square (pos a) = refl
    square (negsuc a) = refl

-- a sum of squares that is 0 has only zeros
squares_zero : (n : ℕ) (f : ℕ → ℤ) → ∑ℕ n (λ i. nat_abs (f i) * nat_abs (f i)) ≡ 0 → (i : ℕ) → i < n → f i ≡ pos 0
unfolding ∑ℕ
squares_zero zero f h i l = absurd (omega arith)
squares_zero (suc n) f h i l = below_more (λ i. f i ≡ pos 0) n
    (squares_zero n f (omega arith)) (zero_square (f n) (omega arith)) i (omega arith)
  where
    zero_square : (z : ℤ) → nat_abs z * nat_abs z ≡ 0 → z ≡ pos 0
    zero_square (pos zero) h = refl
    zero_square (pos (suc n)) h = absurd (omega arith)
    zero_square (negsuc n) h = absurd (omega arith)

-- |c y|² = c² |y|²
squares_scale : (n : ℕ) (c : ℤ) (y : ℕ → ℤ) → squares n (λ i. c *ℤ y i) ≡ c *ℤ (c *ℤ squares n y)
squares_scale n c y = dot_scale n (λ i. c *ℤ y i) c y ∙ ap (λ x. c *ℤ x) (dot_comm n (λ i. c *ℤ y i) y ∙ dot_scale n y c y)

-- |c u - v|² = c² |u|² - 2 c u v + |v|²
squares_minus : (n : ℕ) (c : ℤ) (u v f : ℕ → ℤ) → ((i : ℕ) → i < n → f i ≡ c *ℤ u i -ℤ v i)
    → squares n f ≡ c *ℤ c *ℤ squares n u -ℤ pos 2 *ℤ c *ℤ dot n u v +ℤ squares n v
unfolding ∑
squares_minus zero c u v f h = ring 1 (λ c. con (pos 0) ≈ c ⊗ c ⊗ con (pos 0) ⊖ con (pos 2) ⊗ c ⊗ con (pos 0) ⊕ con (pos 0)) refl c
squares_minus (suc n) c u v f h =
    ap₂ ◌+ℤ◌ (squares_minus n c u v f (λ i l. h i (omega arith))) (ap (λ x. x *ℤ x) (h n (omega arith)))
    ∙ ring 6 (λ c u v U D V. c ⊗ c ⊗ U ⊖ con (pos 2) ⊗ c ⊗ D ⊕ V ⊕ (c ⊗ u ⊖ v) ⊗ (c ⊗ u ⊖ v)
    ≈ c ⊗ c ⊗ (U ⊕ u ⊗ u) ⊖ con (pos 2) ⊗ c ⊗ (D ⊕ u ⊗ v) ⊕ (V ⊕ v ⊗ v)) refl
    c (u n) (v n) (squares n u) (dot n u v) (squares n v)

-- ---- a solution is nearest
-- c y = d u - v with u v = 0 gives |d u|² ≤ |c y|²
shorter : (n : ℕ) (c d : ℤ) (y u v : ℕ → ℤ) → ((i : ℕ) → i < n → c *ℤ y i ≡ d *ℤ u i -ℤ v i) → dot n u v ≡ pos 0
    → (d *ℤ d *ℤ squares n u) ≤ℤ (c *ℤ c *ℤ squares n y)
shorter n c d y u v split right = rw whole (more (d *ℤ d *ℤ squares n u) _)
  where
    whole : c *ℤ c *ℤ squares n y ≡ d *ℤ d *ℤ squares n u +ℤ pos (∑ℕ n (λ i. nat_abs (v i) * nat_abs (v i)))
    whole =
        *ℤ_assoc c c (squares n y) ∙ sym (squares_scale n c y) ∙ squares_minus n d u v (λ i. c *ℤ y i) split
        ∙ ap₂ (λ x z. d *ℤ d *ℤ squares n u -ℤ pos 2 *ℤ d *ℤ x +ℤ z) right (squares_natural n v)
        ∙ ring 3 (λ d U V. d ⊗ d ⊗ U ⊖ con (pos 2) ⊗ d ⊗ con (pos 0) ⊕ V ≈ d ⊗ d ⊗ U ⊕ V) refl d (squares n u) (pos (∑ℕ n (λ i. nat_abs (v i) * nat_abs (v i))))

    more : (a : ℤ) (k : ℕ) → a ≤ℤ (a +ℤ pos k)
    more a k = omega (arith, ints)

-- with u = A p - q b and z = q' p - q p': q (A p' - q' b) = q' u - A z, and u (A z) = z (Aᵀ u) = 0
nearest : (F : Fit) (q : ℕ) (p : ℕ → ℤ) → Solution F q p → Nearest F q p
nearest F q p solution q' p' positive = shorter F.rows (pos q) (pos q') (misfit F q' p') (misfit F q p) (image F z)
    (λ i l. ring 5 (λ q r u v b. q ⊗ (v ⊖ r ⊗ b) ≈ r ⊗ (u ⊖ q ⊗ b) ⊖ (r ⊗ u ⊖ q ⊗ v)) refl (pos q) (pos q') (image F p i) (image F p' i) (F.b i)
    ∙ ap (λ x. pos q' *ℤ misfit F q p i -ℤ x) (sym (dot_minus F.columns (F.A i) (pos q') (pos q) p p')))
    (dot_comm F.rows (misfit F q p) (image F z)
    ∙ dot_adjoint F.rows F.columns F.A z (misfit F q p)
    ∙ dot-zero F.columns z _ solution.normal)
  where
    z : ℕ → ℤ
    z k = pos q' *ℤ p k -ℤ pos q *ℤ p' k

-- ---- a value that is not a solution is not nearest: with u = A p - q b and t = Aᵀ u, a small step from p / q along - t does better
module _ (F : Fit) (q : ℕ) (p : ℕ → ℤ) where
  abbrev u : ℕ → ℤ
  u = misfit F q p

  abbrev t : ℕ → ℤ
  t j = dot F.rows (λ i. F.A i j) u

  -- N p - t
  abbrev step : ℕ → ℕ → ℤ
  step N k = pos N *ℤ p k -ℤ pos 1 *ℤ t k

  -- A (N p - t) - N q b = N u - A t
  misfit_step : (N : ℕ) (i : ℕ) → misfit F (N * q) (step N) i ≡ pos N *ℤ u i -ℤ image F t i
  misfit_step N i =
      ap (λ x. x -ℤ pos (N * q) *ℤ F.b i) (dot_minus F.columns (F.A i) (pos N) (pos 1) p t)
      ∙ ring 5 (λ N v w q b. N ⊗ v ⊖ con (pos 1) ⊗ w ⊖ N ⊗ q ⊗ b ≈ N ⊗ (v ⊖ q ⊗ b) ⊖ w) refl (pos N) (image F p i) (image F t i) (pos q) (F.b i)

  -- u (A t) = |t|²
  u_image : dot F.rows u (image F t) ≡ squares F.columns t
  u_image = dot_comm F.rows u (image F t) ∙ dot_adjoint F.rows F.columns F.A t u

  -- |N u - A t|² = N² |u|² - 2 N |t|² + |A t|²
  squares_step : (N : ℕ) → squares F.rows (misfit F (N * q) (step N))
      ≡ pos N *ℤ pos N *ℤ squares F.rows u -ℤ pos 2 *ℤ pos N *ℤ squares F.columns t +ℤ squares F.rows (image F t)
  squares_step N =
      squares_minus F.rows (pos N) u (image F t) (misfit F (N * q) (step N)) (λ i l. misfit_step N i)
      ∙ ap (λ x. pos N *ℤ pos N *ℤ squares F.rows u -ℤ pos 2 *ℤ pos N *ℤ x +ℤ squares F.rows (image F t)) u_image

  solves : 0 < q → Nearest F q p → Solution F q p
  solves positive least =
      let T = ∑ℕ F.columns (λ j. nat_abs (t j) * nat_abs (t j)) in
      let V = ∑ℕ F.rows (λ i. nat_abs (image F t i) * nat_abs (image F t i)) in
      let N = suc V in
      let better = rw (squares_step N, squares_natural F.columns t, squares_natural F.rows (image F t)) at (least (N * q) (step N) (mul-pos (omega arith) positive)) in
      record { positive = positive; normal = squares_zero F.columns t (none T V (le_of_mul-le-mul_left {k = q * q} (room q N T V (squares F.rows u) better) (mul-pos positive positive))) }
    where
      -- N² q² U ≤ q² (N² U - 2 N T + V)
      room : (q N T V : ℕ) (U : ℤ) → (pos (N * q) *ℤ pos (N * q) *ℤ U) ≤ℤ (pos q *ℤ pos q *ℤ (pos N *ℤ pos N *ℤ U -ℤ pos 2 *ℤ pos N *ℤ pos T +ℤ pos V))
          → q * q * (2 * N * T) ≤ q * q * V
      room q N T V U h =
          let e = ring 5 (λ q N T V U. q ⊗ q ⊗ (N ⊗ N ⊗ U ⊖ con (pos 2) ⊗ N ⊗ T ⊕ V) ≈ N ⊗ q ⊗ (N ⊗ q) ⊗ U ⊕ (q ⊗ q ⊗ V ⊖ q ⊗ q ⊗ (con (pos 2) ⊗ N ⊗ T))) refl
          (pos q) (pos N) (pos T) (pos V) U in
          less (pos (N * q) *ℤ pos (N * q) *ℤ U) (q * q * (2 * N * T)) (q * q * V) (rw e at h)
        where
          less : (x : ℤ) (a b : ℕ) → x ≤ℤ (x +ℤ (pos b -ℤ pos a)) → a ≤ b
          less x a b h = omega (arith, ints)

      none : (T V : ℕ) → 2 * suc V * T ≤ V → T ≡ 0
      none zero V h = refl
      none (suc T) V h = absurd (omega arith)

pub least_squares : LeastSquares
least_squares F q p positive = (nearest F q p, solves F q p positive)
