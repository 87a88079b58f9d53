-- The exact numbers of an admitted offer: where the sums end, what they are outside, and their sizes. Assumes nothing.
use Rattle.std.proofs.Common.{◌≡◌, ℕ, ◌+◌, ◌^◌, ◌<◌, ◌≤◌, get_or, ℤ, pos, ◌+ℤ◌, ◌-ℤ◌, ◌*ℤ◌, nat_abs, sym, ap, ◌∙◌, ap₂, arith}
use lib.IntN.{*ℤ-zero}
use Rattle.std.proofs.lemmas.Int.{ints}
use Rattle.std.proofs.lemmas.List.{get_or_past}
use Rattle.exact.specs.Sums.{∑ℕ}
use Rattle.exact.specs.Fits.{g, Fit, image}
use Rattle.exact.specs.Offers.{Offer, X̂, ρ̂x, ρ̂w}
use Rattle.exact.proofs.Sums.{∑_front, ∑ℕ_size, dot, dot-zero, dot_comm, dot_within}
use Rattle.offer.specs.declared.admitted.Admitted.{Admitted}
use Rattle.offer.specs.Lent.{no_row, fit_in, offer_in}
use Rattle.offer.proofs.Facts.{facts, S_below, S_past, S_small}
use Rattle.offer.proofs.Totals.{bits64}

-- b - y + w in units of 2^-48, from b and w in grains and y in units of 2^-48, as 64 bits compute it
pub residual_is : (b y w : ℤ) → nat_abs b ≤ 2 ^ 28 → nat_abs y ≤ 2 ^ 55 → nat_abs w ≤ 2 ^ 25
    → bits64 (bits64 (bits64 (pos g *ℤ bits64 b) -ℤ bits64 y) +ℤ bits64 (pos g *ℤ bits64 w)) ≡ pos g *ℤ b -ℤ y +ℤ pos g *ℤ w
residual_is b y w p q r = omega (arith, ints)

module _ (a : Admitted) where
  abbrev F : Fit
  F = fit_in a

  abbrev O : Offer
  O = offer_in a

  row_past : (i : ℕ) → F.rows ≤ i → (n : ℕ) (y : ℕ → ℤ) → dot n (F.A i) y ≡ pos 0
  row_past i p n y = dot_comm n (F.A i) y ∙ dot-zero n y (F.A i) (λ k l. ap (λ r. get_or r.entries k (pos 0)) (get_or_past a.fit.rows.now i no_row p))

  -- ---- A S
  module _ (i j : ℕ) where
    pub image_is : j < F.columns → dot (j + 1) (F.A i) (λ k. O.S k j) ≡ X̂ F O i j
    image_is l = sym (∑_front (j + 1) F.columns (λ k. F.A i k *ℤ O.S k j) (omega arith)
        (λ k p q. ap (λ z. F.A i k *ℤ z) (S_below a k j (omega arith)) ∙ *ℤ-zero (F.A i k)))

    pub image_below : F.rows ≤ i → pos 0 ≡ X̂ F O i j
    image_below p = sym (row_past i p F.columns (λ k. O.S k j))

    pub image_past : F.columns ≤ j → pos 0 ≡ X̂ F O i j
    image_past p = sym (dot-zero F.columns (F.A i) (λ k. O.S k j) (λ k l. S_past a k j p))

    pub image_small : nat_abs (X̂ F O i j) ≤ 2 ^ 57
    image_small = omega (
      arith,
      (facts a).few,
      dot_within F.columns (2 ^ 24) (2 ^ 30) (F.A i) (λ k. O.S k j) (λ k _. (facts a).entries i k) (λ k _. S_small a k j),
    )

  -- ---- b - A x + w
  module _ (i : ℕ) where
    pub product_small : nat_abs (image F O.x i) ≤ 2 ^ 55
    product_small = omega (
      arith,
      (facts a).few,
      dot_within F.columns (2 ^ 24) (2 ^ 28) (F.A i) O.x (λ j _. (facts a).entries i j) (λ j _. (facts a).x_small j),
    )

    pub residual_small : nat_abs (ρ̂x F O i) ≤ 2 ^ 57
    residual_small = omega (arith, ints, (facts a).figures i, product_small, (facts a).w_small i)

    pub residual_past : F.rows ≤ i → pos 0 ≡ ρ̂x F O i
    residual_past p = sym (ap₂ ◌+ℤ◌ (ap₂ (λ b y. pos g *ℤ b -ℤ y) b_past (row_past i p F.columns O.x)) (ap (λ w. pos g *ℤ w) w_past))
      where
        b_past : F.b i ≡ pos 0
        b_past = ap (λ r. r.figure) (get_or_past a.fit.rows.now i no_row p)

        w_past : O.w i ≡ pos 0
        w_past = get_or_past a.offer.w.now i (pos 0) (omega (arith, (facts a).w_length))

  -- ---- the transpose of A, times w
  pub normal_small : (k : ℕ) → nat_abs (ρ̂w F O k) ≤ 2 ^ 57
  normal_small k = omega (
    arith,
    (facts a).short,
    dot_within F.rows (2 ^ 24) (2 ^ 25) (λ i. F.A i k) O.w (λ i _. (facts a).entries i k) (λ i _. (facts a).w_small i),
  )

  -- ---- the sizes in a row of S
  pub row_small : (j n : ℕ) → n ≤ F.columns → ∑ℕ n (λ k. nat_abs (O.S j k)) ≤ 2 ^ 33
  row_small j n h = omega (arith, (facts a).few, ∑ℕ_size n (2 ^ 30) (λ k. nat_abs (O.S j k)) (λ k _. S_small a j k))
