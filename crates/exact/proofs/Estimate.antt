-- The estimate under the theorems: |X̂ᵀ A e| ≤ T gives |e_j| (2^96 - â) ≤ s_j T, for every e. Assumes nothing.
use Rattle.std.proofs.Common.{◌≡◌, ℕ, ◌+◌, ◌-◌, ◌*◌, ◌^◌, ◌<◌, ◌≤◌, cond, eqb, ℤ, pos, ◌+ℤ◌, ◌*ℤ◌, nat_abs, sym, refl, ap, ◌∙◌, mul-le-mul_right, mul-le-mul_left, arith}
use native.Mathlib.Nat.{le_of_mul-le-mul_left}
use Rattle.exact.specs.Sums.{∑ℕ, largest}
use Rattle.exact.specs.Fits.{Fit, image}
use Rattle.exact.specs.Offers.{Offer, Triangular, X̂, Ê, â, s}
use Rattle.exact.proofs.Ints.{nat_abs_mul, nat_abs_add}
use Rattle.exact.proofs.Ring.{◌⊕◌, ◌⊖◌, ◌⊗◌, ◌≈◌, ring}
use Rattle.exact.proofs.Sums.{∑_cong, ∑_add, dot, dot_cong, dot_scale, dot_assoc, dot_unit, dot_size, largest_above, largest_least}
use Rattle.exact.proofs.Back.{Solved, back}

-- of natural numbers: Y leaves both bounds, and c cancels
divide : (M a c e s Y T : ℕ) → a < M → 0 < c → c * e ≤ s * Y → M * Y ≤ a * Y + c * T → e * (M - a) ≤ s * T
divide M a c e s Y T below nonzero h k =
    let split : (M - a) + a ≡ M = omega arith in
    let rest : (M - a) * Y ≤ c * T = omega (arith, ap (λ x. x * Y) split) in
    le_of_mul-le-mul_left {k = c} (omega (arith, mul-le-mul_right (M - a) h, mul-le-mul_left s rest)) nonzero

module _ (F : Fit) (O : Offer) where
  -- the transpose of X̂, applied to v
  abbrev pub X̂ᵀ : (ℕ → ℤ) → ℕ → ℤ
  X̂ᵀ v j = dot F.rows (λ i. X̂ F O i j) v

  abbrev X̂ᵀX̂ : ℕ → ℕ → ℤ
  X̂ᵀX̂ j k = X̂ᵀ (λ i. X̂ F O i k) j

  -- 2^96 y = Ê y + X̂ᵀ X̂ y
  one_y : (y : ℕ → ℤ) (j : ℕ) → j < F.columns → pos (2 ^ 96) *ℤ y j ≡ dot F.columns (Ê F O j) y +ℤ dot F.columns (X̂ᵀX̂ j) y
  one_y y j l =
      sym (dot_unit F.columns j (pos (2 ^ 96)) y l)
      ∙ ∑_cong F.columns _ _ (λ k h. ring 3 (λ d v y. d ⊗ y ≈ (d ⊖ v) ⊗ y ⊕ v ⊗ y) refl (cond (eqb j k) (pos (2 ^ 96)) (pos 0)) (X̂ᵀX̂ j k) (y k))
      ∙ ∑_add F.columns (λ k. Ê F O j k *ℤ y k) (λ k. X̂ᵀX̂ j k *ℤ y k)

  module _ (e : ℕ → ℤ) (r : Solved F.columns O.S e) where
    -- S y = c e, and so X̂ y = c A e
    X̂_y : (i : ℕ) → dot F.columns (X̂ F O i) r.y ≡ r.c *ℤ image F e i
    X̂_y i =
        dot_assoc F.columns F.columns (F.A i) O.S r.y
        ∙ dot_cong F.columns (F.A i) _ (λ k. r.c *ℤ e k) r.rows
        ∙ dot_scale F.columns (F.A i) r.c e

    -- and X̂ᵀ X̂ y = c X̂ᵀ A e
    X̂ᵀX̂_y : (j : ℕ) → dot F.columns (X̂ᵀX̂ j) r.y ≡ r.c *ℤ X̂ᵀ (image F e) j
    X̂ᵀX̂_y j =
        dot_assoc F.rows F.columns (λ i. X̂ F O i j) (X̂ F O) r.y
        ∙ dot_cong F.rows (λ i. X̂ F O i j) _ (λ i. r.c *ℤ image F e i) (λ i l. X̂_y i)
        ∙ dot_scale F.rows (λ i. X̂ F O i j) r.c (image F e)

    -- the largest size in y
    abbrev Y : ℕ
    Y = largest F.columns (λ k. nat_abs (r.y k))

    y_size : (k : ℕ) → k < F.columns → nat_abs (r.y k) ≤ Y
    y_size = largest_above F.columns (λ k. nat_abs (r.y k))

    -- |2^96 y| ≤ â Y + |c| T
    one_y_size : (T : ℕ) → ((j : ℕ) → j < F.columns → nat_abs (X̂ᵀ (image F e) j) ≤ T)
        → (j : ℕ) → j < F.columns → 2 ^ 96 * nat_abs (r.y j) ≤ â F O * Y + nat_abs r.c * T
    one_y_size T small j l =
        let u = dot F.columns (Ê F O j) r.y in
        let v = X̂ᵀ (image F e) j in
        let whole = sym (nat_abs_mul (pos (2 ^ 96)) (r.y j)) ∙ ap nat_abs (one_y r.y j l ∙ ap (λ x. u +ℤ x) (X̂ᵀX̂_y j)) in
        let first = dot_size F.columns (Ê F O j) r.y Y y_size in
        let row = mul-le-mul_right Y (largest_above F.columns (λ i. ∑ℕ F.columns (λ k. nat_abs (Ê F O i k))) j l) in
        let second = mul-le-mul_left (nat_abs r.c) (small j l) in
        omega (arith, nat_abs_add u (r.c *ℤ v), nat_abs_mul r.c v)

  -- 2^96 Y ≤ â Y + |c| T, and |c e_j| ≤ s_j Y
  pub estimate : Triangular F.columns O.S → â F O < 2 ^ 96 → (e : ℕ → ℤ) (T : ℕ)
      → ((j : ℕ) → j < F.columns → nat_abs (X̂ᵀ (image F e) j) ≤ T)
      → (j : ℕ) → j < F.columns → nat_abs (e j) * (2 ^ 96 - â F O) ≤ s F O j * T
  estimate tri below e T small j l =
      let r = back F.columns O.S tri e in
      divide (2 ^ 96) (â F O) (nat_abs r.c) (nat_abs (e j)) (s F O j) (Y e r) T below r.nonzero
      (rw (← nat_abs_mul r.c (e j), ← r.rows j l) (dot_size F.columns (O.S j) r.y (Y e r) (y_size e r)))
      (largest_least F.columns (λ k. nat_abs (r.y k)) (2 ^ 96) (â F O * Y e r + nat_abs r.c * T) (one_y_size e r T small))
