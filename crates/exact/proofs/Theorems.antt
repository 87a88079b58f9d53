-- What an offer proves of a fit: full column rank, and how far each solution lies from the offered one. Assumes nothing.
use Rattle.std.proofs.Common.{◌≡◌, ℕ, ◌+◌, ◌-◌, ◌*◌, ◌^◌, ◌<◌, ◌≤◌, ℤ, pos, ◌-ℤ◌, ◌*ℤ◌, nat_abs, refl, ap, ◌∙◌, le_trans, le_of_eq, mul-le-mul_right, mul-le-mul_left, mul-pos, le_of_mul-le-mul_right, arith}
use Rattle.exact.specs.Fits.{g, Fit, image, misfit, Solution}
use Rattle.exact.specs.Offers.{Offer, X̂, â, ρ̂x, ρ̂w, δ̂, d̂, s}
use Rattle.exact.specs.Theorems.{Rank, Bound, Enclosed}
use Rattle.exact.proofs.Ints.{nat_abs_mul, nat_abs_zero, nat_abs_above, nat_abs_below}
use Rattle.exact.proofs.Ring.{◌⊕◌, ◌⊖◌, ◌⊗◌, con, ◌≈◌, ring}
use Rattle.exact.proofs.Sums.{dot, dot_cong, dot-zero, dot_scale, dot_minus, dot_adjoint, largest_above}
use Rattle.exact.proofs.Estimate.{X̂ᵀ, estimate}

-- where A z = 0, the estimate is |z_j| (2^96 - â) ≤ 0
pub rank : Rank
rank F O tri small z flat j l =
    let h = estimate F O tri small z 0 (λ k h. le_of_eq (ap nat_abs (dot-zero F.rows (λ i. X̂ F O i k) (image F z) flat))) j l in
    nat_abs_zero (z j) (2 ^ 96 - â F O) (omega arith) (omega arith)

-- ---- the distance e = g p - q x of a solution p / q
module _ (F : Fit) (O : Offer) (q : ℕ) (p : ℕ → ℤ) where
  abbrev distance : ℕ → ℤ
  distance k = pos g *ℤ p k -ℤ pos q *ℤ O.x k

  -- q w - (A p - q b)
  abbrev apart : ℕ → ℤ
  apart i = pos q *ℤ O.w i -ℤ pos 1 *ℤ misfit F q p i

  -- A e = q ρ̂x - g (q w - (A p - q b))
  image_distance : (i : ℕ) → image F distance i ≡ pos q *ℤ ρ̂x F O i -ℤ pos g *ℤ apart i
  image_distance i =
      dot_minus F.columns (F.A i) (pos g) (pos q) p O.x
      ∙ ring 6 (λ g q u v b w. g ⊗ u ⊖ q ⊗ v ≈ q ⊗ (g ⊗ b ⊖ v ⊕ g ⊗ w) ⊖ g ⊗ (q ⊗ w ⊖ con (pos 1) ⊗ (u ⊖ q ⊗ b))) refl
      (pos g) (pos q) (image F p i) (image F O.x i) (F.b i) (O.w i)

  module _ (solution : Solution F q p) where
    -- Aᵀ (q w - (A p - q b)) = q ρ̂w
    Aᵀ_apart : (k : ℕ) → k < F.columns → dot F.rows (λ i. F.A i k) apart ≡ pos q *ℤ ρ̂w F O k
    Aᵀ_apart k l =
        dot_minus F.rows (λ i. F.A i k) (pos q) (pos 1) O.w (misfit F q p)
        ∙ ap (λ x. pos q *ℤ ρ̂w F O k -ℤ pos 1 *ℤ x) (solution.normal k l)
        ∙ ring 2 (λ q w. q ⊗ w ⊖ con (pos 1) ⊗ con (pos 0) ≈ q ⊗ w) refl (pos q) (ρ̂w F O k)

    -- X̂ᵀ (q w - (A p - q b)) = q Sᵀ ρ̂w
    X̂ᵀ_apart : (j : ℕ) → X̂ᵀ F O apart j ≡ pos q *ℤ dot F.columns (λ k. O.S k j) (ρ̂w F O)
    X̂ᵀ_apart j =
        dot_adjoint F.rows F.columns F.A (λ k. O.S k j) apart
        ∙ dot_cong F.columns (λ k. O.S k j) _ (λ k. pos q *ℤ ρ̂w F O k) Aᵀ_apart
        ∙ dot_scale F.columns (λ k. O.S k j) (pos q) (ρ̂w F O)

    -- X̂ᵀ A e = q δ̂
    X̂ᵀ_image : (j : ℕ) → X̂ᵀ F O (image F distance) j ≡ pos q *ℤ δ̂ F O j
    X̂ᵀ_image j =
        dot_cong F.rows (λ i. X̂ F O i j) (image F distance) (λ i. pos q *ℤ ρ̂x F O i -ℤ pos g *ℤ apart i) (λ i l. image_distance i)
        ∙ dot_minus F.rows (λ i. X̂ F O i j) (pos q) (pos g) (ρ̂x F O) apart
        ∙ ap (λ x. pos q *ℤ X̂ᵀ F O (ρ̂x F O) j -ℤ pos g *ℤ x) (X̂ᵀ_apart j)
        ∙ ring 4 (λ q g u v. q ⊗ u ⊖ g ⊗ (q ⊗ v) ≈ q ⊗ (u ⊖ g ⊗ v)) refl
        (pos q) (pos g) (X̂ᵀ F O (ρ̂x F O) j) (dot F.columns (λ k. O.S k j) (ρ̂w F O))

    -- |X̂ᵀ A e| ≤ q d̂
    X̂ᵀ_size : (j : ℕ) → j < F.columns → nat_abs (X̂ᵀ F O (image F distance) j) ≤ q * d̂ F O
    X̂ᵀ_size j l = rw (X̂ᵀ_image j, nat_abs_mul (pos q) (δ̂ F O j)) (mul-le-mul_left q (largest_above F.columns (λ j. nat_abs (δ̂ F O j)) j l))

pub bound : Bound
bound F O tri small q p solution j l =
    let h = estimate F O tri small (distance F O q p) (q * d̂ F O) (X̂ᵀ_size F O q p solution) j l in
    omega arith

-- ---- in whole grains
-- of natural numbers: e (k u - a) ≤ q s d with a ≤ α u, d ≤ D u and D s ≤ r (k - α) gives e ≤ q r
narrow : (k u α D r q s e a d : ℕ) → α < k → 0 < u → a ≤ α * u → d ≤ D * u → D * s ≤ r * (k - α) → e * (k * u - a) ≤ q * s * d → e ≤ q * r
narrow k u α D r q s e a d below positive ha hd hr h =
    let split : (k - α) + α ≡ k = omega arith in
    let room : (k - α) * u ≤ k * u - a = omega (arith, ap (λ x. x * u) split) in
    let near : e * ((k - α) * u) ≤ q * s * (D * u) = le_trans (mul-le-mul_left e room) (le_trans h (mul-le-mul_left (q * s) hd)) in
    le_of_mul-le-mul_right {k = (k - α) * u} (omega (arith, mul-le-mul_right u (mul-le-mul_left q hr))) (mul-pos (omega arith) positive)

pub enclosed : Enclosed
enclosed F O tri α D r below hα hD hr q p solution j l =
    let near = narrow g (2 ^ 72) α D (r j) q (s F O j) (nat_abs (distance F O q p j)) (â F O) (d̂ F O) below (omega arith) hα hD (hr j l)
    (bound F O tri (omega arith) q p solution j l) in
    record {
      above = rw (ring 3 (λ q x r. q ⊗ (x ⊖ r) ≈ q ⊗ x ⊖ q ⊗ r) refl (pos q) (O.x j) (pos (r j)))
          (nat_abs_above (pos g *ℤ p j) (pos q *ℤ O.x j) (q * r j) near);
      below = rw (ring 3 (λ q x r. q ⊗ (x ⊕ r) ≈ q ⊗ x ⊕ q ⊗ r) refl (pos q) (O.x j) (pos (r j)))
          (nat_abs_below (pos g *ℤ p j) (pos q *ℤ O.x j) (q * r j) near);
    }
