-- The ends arithmetic keeps the rules: a proof, which stands here since an impl takes the proof of a law from specs/. Nothing in it has to be believed. Assumes nothing.
use Rattle.std.specs.Prelude.{◌≡◌, ℕ, ◌+◌, ◌*◌, ◌^◌, ◌≤◌, Bool, true, false, cond, ℤ, pos, ◌-ℤ◌, ◌*ℤ◌, ◌≤ℤ◌, int_lt, unsigned_abs, refl}
use Rattle.std.proofs.Common.{sym, subst, arith, le_trans}
use Rattle.std.specs.Int.{int_min, int_max}
use Rattle.std.proofs.lemmas.Int.{ints, clamps}
use Rattle.exact.specs.Fits.{g}
use Rattle.arithmetic.specs.Intervals.{Interval, between, size, width, proper, MadeFrom, ProductOf}
use Rattle.arithmetic.specs.Rounding.{floored, ceiled}
use Rattle.arithmetic.specs.Rules.{Rules}
use Rattle.arithmetic.proofs.Rounds.{rounds}
use Rattle.arithmetic.proofs.Properly.{Proper, proper_facts, proper_from, or_zero-proper, or_zero_same, added_same, subtracted_same}
use Rattle.arithmetic.proofs.Products.{Corners, corners_of, corners_above, corners_below, product_size, products_apart}
use Rattle.ends.specs.declared.Ends.{Ends}
use Rattle.ends.specs.Ends.{means, least, greatest, outward, ends_ops}

-- ---- the least and the greatest of the four products
least_below : (i j : Interval) → Corners (λ z. least i j ≤ℤ z) i j
unfolding least
least_below i j = record {
  low_low = omega (arith, ints, clamps);
  low_high = omega (arith, ints, clamps);
  high_low = omega (arith, ints, clamps);
  high_high = omega (arith, ints, clamps);
}

greatest_above : (i j : Interval) → Corners (λ z. z ≤ℤ greatest i j) i j
unfolding greatest
greatest_above i j = record {
  low_low = omega (arith, ints, clamps);
  low_high = omega (arith, ints, clamps);
  high_low = omega (arith, ints, clamps);
  high_high = omega (arith, ints, clamps);
}

-- each is one of the four
either : (P : ℤ → Type 0) (t : Bool) (x y : ℤ) → P x → P y → P (cond t x y)
either P true x y p q = p
either P false x y p q = q

least_one : (P : ℤ → Type 0) (i j : Interval) → Corners P i j → P (least i j)
unfolding least
least_one P i j c = min_one _ _ (min_one _ _ (min_one _ _ c.low_low c.low_high) c.high_low) c.high_high
  where
    min_one : (x y : ℤ) → P x → P y → P (int_min x y)
    min_one x y p q = either P (int_lt y x) y x q p

greatest_one : (P : ℤ → Type 0) (i j : Interval) → Corners P i j → P (greatest i j)
unfolding greatest
greatest_one P i j c = max_one _ _ (max_one _ _ (max_one _ _ c.low_low c.low_high) c.high_low) c.high_high
  where
    max_one : (x y : ℤ) → P x → P y → P (int_max x y)
    max_one x y p q = either P (int_lt y x) x y p q

-- ---- a product
module _ (i j : Interval) (p : i.low ≤ℤ i.high) (q : j.low ≤ℤ j.high) where
  -- the greatest lies above the least, by at most what the sizes and widths allow
  apart : unsigned_abs (greatest i j -ℤ least i j) ≤ size i * width j + size j * width i
  apart = greatest_one (λ y. unsigned_abs (y -ℤ least i j) ≤ size i * width j + size j * width i) i j (corners_of _ i j p q
      (λ u v a b. least_one (λ x. unsigned_abs (u *ℤ v -ℤ x) ≤ size i * width j + size j * width i) i j (corners_of _ i j p q
      (λ u' v' a' b'. products_apart i j u v u' v' a b a' b'))))

  outward_product : ProductOf i j (outward i j)
  unfolding outward
  outward_product = record {
    covers = λ u v a b. (
      down (least i j) (u *ℤ v) (corners_above i j (least i j) u v (least_below i j) a b),
      up (greatest i j) (u *ℤ v) (corners_below i j (greatest i j) u v (greatest_above i j) a b),
    );
    narrow = narrow (least i j) (greatest i j) _ (least_below i j).low_low (greatest_above i j).low_low apart;
  }
    where
      down : (x z : ℤ) → x ≤ℤ z → (floored x *ℤ pos g) ≤ℤ z
      down x z h = omega (arith, ints, rounds)

      up : (y z : ℤ) → z ≤ℤ y → z ≤ℤ (ceiled y *ℤ pos g)
      up y z h = omega (arith, ints, rounds)

      narrow : (x y : ℤ) (n : ℕ) {z : ℤ} → x ≤ℤ z → z ≤ℤ y → unsigned_abs (y -ℤ x) ≤ n → unsigned_abs (ceiled y -ℤ floored x) * g ≤ n + 4 * g
      narrow x y n a b h = omega (arith, ints, rounds)

  outward_proper : size i * size j ≤ 2 ^ 62 → proper (2 ^ 45) (outward i j) ≡ true
  unfolding outward
  outward_proper small = proper_from (2 ^ 45) (outward i j)
      (fits (least i j) (greatest i j) (least_below i j).low_low (greatest_above i j).low_low
      (le_trans (least_one (λ z. unsigned_abs z ≤ size i * size j) i j sizes) small) (le_trans (greatest_one (λ z. unsigned_abs z ≤ size i * size j) i j sizes) small))
    where
      sizes : Corners (λ z. unsigned_abs z ≤ size i * size j) i j
      sizes = corners_of _ i j p q (product_size i j)

      fits : (x y : ℤ) {z : ℤ} → x ≤ℤ z → z ≤ℤ y → unsigned_abs x ≤ 2 ^ 62 → unsigned_abs y ≤ 2 ^ 62 → Proper (2 ^ 45) (between (floored x) (ceiled y))
      fits x y a b m n = record { ordered = omega (arith, ints, rounds); low_in = omega (arith, ints, rounds); high_in = omega (arith, ints, rounds) }

-- ---- the rules
means_facts : (v : Ends) → Proper (2 ^ 45) (means v)
means_facts v = proper_facts (2 ^ 45) (means v) (or_zero-proper (between v.low v.high))

pub ends_rules : Rules ends_ops
ends_rules = record {
  means_proper = λ v. or_zero-proper (between v.low v.high);
  made_from = λ l h e. subst (MadeFrom l h) (sym (or_zero_same (between l h) (wider l h e))) (made_exactly l h);
  plus_exact = λ a b small. added_same (means a) (means b) (means_facts a).ordered (means_facts b).ordered small;
  minus_exact = λ a b small. subtracted_same (means a) (means b) (means_facts a).ordered (means_facts b).ordered small;
  times_product = λ a b small. let p = (means_facts a).ordered in let q = (means_facts b).ordered in
      subst (ProductOf (means a) (means b)) (sym (or_zero_same _ (outward_proper (means a) (means b) p q small))) (outward_product (means a) (means b) p q);
}
  where
    made_exactly : (l h : ℤ) → MadeFrom l h (between l h)
    made_exactly l h = record { covers = λ u p q. record { above = p; below = q }; narrow = omega arith; point = λ e. refl }

    wider : (l h : ℤ) → proper (2 ^ 44) (between l h) ≡ true → proper (2 ^ 45) (between l h) ≡ true
    wider l h e = let f = proper_facts (2 ^ 44) (between l h) e in
        proper_from (2 ^ 45) (between l h) (record { ordered = f.ordered; low_in = omega (arith, f.low_in); high_in = omega (arith, f.high_in) })
