-- The terms of the exact sums, as 64 bits compute them. Assumes nothing.
--     bits64 z     what 64 bits hold of z
use Rattle.std.proofs.Common.{◌≡◌, ℕ, zero, suc, ◌+◌, ◌^◌, ◌<◌, ◌≤◌, [], ◌∷◌, map, sum, ℤ, ◌*ℤ◌, nat_abs, sym, refl, ap, ◌∙◌, subst, ap₂, mul-le-mul, zero-add, add-one, arith, w64, SFits, to_z, of_z}
use Rattle.std.specs.List.{range_with_len}
use Rattle.std.proofs.lemmas.Int.{fits_signed_from_abs, fits_signed_mul, to_z-of_z, unsigned_abs-mul}
use Rattle.std.proofs.lemmas.List.FromFn.{map-range_with_len_more}
use Rattle.std.proofs.lemmas.List.Sums.{fold-append}
use Rattle.exact.specs.Sums.{∑ℕ}

abbrev pub bits64 : ℤ → ℤ
bits64 z = to_z w64 (of_z w64 z)

pub bits64_is : (z : ℤ) → nat_abs z < 2 ^ 63 → bits64 z ≡ z
bits64_is z h = to_z-of_z w64 z (fits_signed_from_abs w64 z h)

pub bits64_same : (y z : ℤ) → y ≡ z → nat_abs z < 2 ^ 63 → bits64 y ≡ z
bits64_same y z e h = ap bits64 e ∙ bits64_is z h

-- the product of a number u of A and a number v of S, x or w
module _ (u v : ℤ) (p : nat_abs u ≤ 2 ^ 24) (q : nat_abs v ≤ 2 ^ 30) where
  here : bits64 u *ℤ bits64 v ≡ u *ℤ v
  here = ap₂ ◌*ℤ◌ (bits64_is u (omega arith)) (bits64_is v (omega arith))

  fits : SFits w64 (u *ℤ v)
  fits = fits_signed_mul w64 u v (2 ^ 24) (2 ^ 30) p q (omega arith)

  pub term_fits : SFits w64 (bits64 u *ℤ bits64 v)
  term_fits = subst (SFits w64) (sym here) fits

  pub term_is : (z : ℤ) → z ≡ bits64 (bits64 u *ℤ bits64 v) → z ≡ u *ℤ v
  term_is z e = e ∙ ap bits64 here ∙ to_z-of_z w64 (u *ℤ v) fits

  pub term_small : (z : ℤ) → z ≡ bits64 (bits64 u *ℤ bits64 v) → nat_abs z ≤ 2 ^ 54
  term_small z e = rw (term_is z e, unsigned_abs-mul u v) (mul-le-mul p q)

-- the size of a number v of S
pub size_is : (t v : ℤ) (r : ℕ) → nat_abs v ≤ 2 ^ 30 → t ≡ v → r ≡ nat_abs (bits64 t) → r ≡ nat_abs v
size_is t v r h e f = f ∙ ap nat_abs (bits64_same t v e (omega arith))

-- a sum over a range
pub sum_is : (n : ℕ) (f : ℕ → ℕ) → sum (map f (range_with_len 0 n)) ≡ ∑ℕ n f
unfolding ∑ℕ
sum_is zero f = refl
sum_is (suc n) f =
    ap sum (rw add-one at (map-range_with_len_more f 0 n n (zero-add n)))
    ∙ fold-append ◌+◌ 0 (map f (range_with_len 0 n)) (f n ∷ []) ∙ ap (λ s. s + f n) (sum_is n f)
