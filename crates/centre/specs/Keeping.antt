-- The centre arithmetic keeps the rules: a proof, which stands here since an impl takes the proof of a law from specs/. Nothing in it has to be believed. Assumes nothing.
use Rattle.std.specs.Prelude.{◌≡◌, ℕ, ◌+◌, ◌*◌, ◌/◌, ◌^◌, ◌<◌, ◌≤◌, Bool, true, false, cond, ℤ, pos, negsuc, ◌+ℤ◌, ◌-ℤ◌, ◌*ℤ◌, ◌≤ℤ◌, unsigned_abs}
use Rattle.std.proofs.Math.Path.{refl, ap, ap₂}
use Rattle.std.proofs.Common.{sym, subst, ◌∙◌, le_refl}
use native.Mathlib.Omega.{arith}
use Rattle.std.proofs.Math.Nat.{le_trans}
use borrow.Author.Differences.{up, down}
use Rattle.std.proofs.lemmas.Int.{ints, unsigned_abs-mul}
use Rattle.exact.specs.Fits.{g}
use Rattle.exact.proofs.Ring.{◌⊕◌, ◌⊖◌, ◌⊗◌, ◌≈◌, ring}
use Rattle.arithmetic.specs.Intervals.{between, size, width, proper, added, subtracted, or_zero, Holds, MadeFrom, ProductOf}
use Rattle.arithmetic.specs.Rounding.{ceiled}
use Rattle.arithmetic.specs.Rules.{Rules}
use Rattle.arithmetic.proofs.Rounds.{rounds}
use Rattle.arithmetic.proofs.Properly.{proper_facts, proper_from, or_zero-proper, or_zero_same, added_same, subtracted_same}
use Rattle.arithmetic.proofs.Products.{product_within, sum_within}
use Rattle.centre.specs.declared.Centre.{Centre}
use Rattle.centre.specs.Centre.{kept, about, means, meant, halved, truncated, spread, product, centre_ops}

-- ---- halves and quotients, for `omega`: an integer z is read as `up z - down z`, as in `ints`
-- 2 (halved z) ≤ z < 2 (halved z) + 2
pub halved_is : (z : ℤ)
    → (up (halved z) * 2 + down z ≤ up z + down (halved z) * 2) × (down (halved z) * 2 + up z < up (halved z) * 2 + 2 + down z)
unfolding halved
halved_is (pos n) = omega arith
halved_is (negsuc n) = omega arith

pub truncated_is : (z : ℤ) → (up (truncated z) ≡ up z / g) × (down (truncated z) ≡ down z / g)
unfolding truncated
truncated_is z = omega (arith, ints)

-- ---- what a record means
pub size-about : (v : Centre) → size (about v) ≡ unsigned_abs v.centre + v.radius
size-about v = by v.centre v.radius
  where
    by : (c : ℤ) (r : ℕ) → size (about (kept c r)) ≡ unsigned_abs c + r
    by (pos c) r = omega (arith, ints)
    by (negsuc c) r = omega (arith, ints)

width-about : (v : Centre) → width (about v) ≡ 2 * v.radius
width-about v = omega (arith, ints)

means-about : (v : Centre) → unsigned_abs v.centre + v.radius ≤ 2 ^ 45 → means v ≡ about v
means-about v h = or_zero_same (about v)
    (proper_from (2 ^ 45) (about v) (record { ordered = omega (arith, ints); low_in = omega (arith, ints); high_in = omega (arith, ints) }))

pub means-meant : (v : Centre) → means v ≡ about (meant v)
means-meant v = by (proper (2 ^ 45) (about v))
  where
    by : (t : Bool) → cond t (about v) (between (pos 0) (pos 0)) ≡ about (cond t v (kept (pos 0) 0))
    by true = refl
    by false = refl

means_ordered : (v : Centre) → (means v).low ≤ℤ (means v).high
means_ordered v = (proper_facts (2 ^ 45) (means v) (or_zero-proper (about v))).ordered

-- ---- a value that is made
made_from : (l h : ℤ) → proper (2 ^ 44) (between l h) ≡ true → MadeFrom l h (means (centre_ops.made l h))
made_from l h e =
    let f = proper_facts (2 ^ 44) (between l h) e in
    subst (MadeFrom l h) (sym (means-about (centre_ops.made l h) (small f.ordered f.low_in f.high_in))) (made f.ordered)
  where
    small : l ≤ℤ h → unsigned_abs l ≤ 2 ^ 44 → unsigned_abs h ≤ 2 ^ 44 → unsigned_abs (centre_ops.made l h).centre + (centre_ops.made l h).radius ≤ 2 ^ 45
    small p q r = omega (arith, ints, halved_is)

    made : l ≤ℤ h → MadeFrom l h (about (centre_ops.made l h))
    made p = record {
      covers = λ u q r. record { above = omega (arith, ints, halved_is); below = omega (arith, ints, halved_is) };
      narrow = omega (arith, ints, halved_is);
      point = λ e. ap₂ between (omega (arith, ints, halved_is)) (omega (arith, ints, halved_is));
    }

-- ---- a sum and a difference
pub plus-about : (a b : Centre) → about (centre_ops.plus a b) ≡ added (means a) (means b)
plus-about a b = rw (means-meant a, means-meant b) (exact (meant a) (meant b))
  where
    exact : (x y : Centre) → about (kept (x.centre +ℤ y.centre) (x.radius + y.radius)) ≡ added (about x) (about y)
    exact x y = ap₂ between (omega (arith, ints)) (omega (arith, ints))

pub minus-about : (a b : Centre) → about (centre_ops.minus a b) ≡ subtracted (means a) (means b)
minus-about a b = rw (means-meant a, means-meant b) (exact (meant a) (meant b))
  where
    exact : (x y : Centre) → about (kept (x.centre -ℤ y.centre) (x.radius + y.radius)) ≡ subtracted (about x) (about y)
    exact x y = ap₂ between (omega (arith, ints)) (omega (arith, ints))

-- ---- a product
-- the centre z and the radius n, in units of 2^-48, brought to grains as in a product
module _ (z : ℤ) (n : ℕ) where
  abbrev rounded : Centre
  rounded = kept (truncated z) (unsigned_abs (ceiled (pos n)) + 1)

  rounded_covers : (w : ℤ) → unsigned_abs (w -ℤ z) ≤ n → (((about rounded).low *ℤ pos g) ≤ℤ w) × (w ≤ℤ ((about rounded).high *ℤ pos g))
  rounded_covers w h = (omega (arith, ints, rounds, truncated_is), omega (arith, ints, rounds, truncated_is))

  rounded_narrow : width (about rounded) * g ≤ 2 * n + 4 * g
  rounded_narrow = omega (arith, ints, rounds)

  rounded_small : unsigned_abs z + n ≤ 2 ^ 62 → unsigned_abs rounded.centre + rounded.radius ≤ 2 ^ 45
  rounded_small h = omega (arith, ints, rounds, truncated_is)

module _ (a b : Centre) where
  product_sizes : size (about a) * size (about b) ≡ unsigned_abs (a.centre *ℤ b.centre) + spread a b
  unfolding spread
  product_sizes = rw (size-about a, size-about b, unsigned_abs-mul a.centre b.centre) (omega arith)

  spread_widths : 2 * spread a b + 4 * g ≤ size (about a) * width (about b) + size (about b) * width (about a) + 4 * g
  unfolding spread
  spread_widths = rw (size-about a, size-about b, width-about a, width-about b) (omega arith)

  -- how far the product of two numbers is from that of the centres
  near : (u v : ℤ) → Holds (about a) u → Holds (about b) v → unsigned_abs (u *ℤ v -ℤ a.centre *ℤ b.centre) ≤ spread a b
  unfolding spread
  near u v p q =
      let c = a.centre in let r = a.radius in let d = b.centre in let s = b.radius in
      let e = ring 4 (λ u v c d. u ⊗ v ⊖ c ⊗ d ≈ u ⊗ (v ⊖ d) ⊕ d ⊗ (u ⊖ c)) refl u v c d in
      let x = product_within u (v -ℤ d) (unsigned_abs c + r) s (omega (arith, ints)) (omega (arith, ints)) in
      let y = product_within d (u -ℤ c) (unsigned_abs d) r (le_refl _) (omega (arith, ints)) in
      let h = sum_within _ (u *ℤ (v -ℤ d)) (d *ℤ (u -ℤ c)) _ _ e x y in
      omega arith

  product_of : ProductOf (about a) (about b) (about (product a b))
  unfolding product
  product_of = record {
    covers = λ u v p q. rounded_covers (a.centre *ℤ b.centre) (spread a b) (u *ℤ v) (near u v p q);
    narrow = le_trans (rounded_narrow (a.centre *ℤ b.centre) (spread a b)) spread_widths;
  }

  product_about : size (about a) * size (about b) ≤ 2 ^ 62 → means (product a b) ≡ about (product a b)
  unfolding product
  product_about h = means-about (product a b) (rounded_small (a.centre *ℤ b.centre) (spread a b) (rw product_sizes at h))

-- ---- the rules
pub centre_rules : Rules centre_ops
centre_rules = record {
  means_proper = λ v. or_zero-proper (about v);
  made_from = made_from;
  plus_exact = λ a b small. ap or_zero (plus-about a b) ∙ added_same (means a) (means b) (means_ordered a) (means_ordered b) small;
  minus_exact = λ a b small. ap or_zero (minus-about a b) ∙ subtracted_same (means a) (means b) (means_ordered a) (means_ordered b) small;
  times_product = λ a b small. let same = product_about (meant a) (meant b) (rw (means-meant a, means-meant b) at small) in
      rw (means-meant a, means-meant b, same) (product_of (meant a) (meant b));
}
