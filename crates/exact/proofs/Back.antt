-- Back substitution: a triangular system with no 0 on its diagonal has a solution, up to a common factor. Assumes nothing.
use Rattle.std.proofs.Common.{◌≡◌, ℕ, zero, suc, ◌<◌, cond, eqb, ℤ, pos, ◌+ℤ◌, ◌-ℤ◌, ◌*ℤ◌, nat_abs, refl, ap, ◌∙◌, ap₂, mul-pos, arith, below_more, eq-eqb, ne_eqb}
use lib.IntN.{zero-*ℤ}
use Rattle.exact.specs.Sums.{∑}
use Rattle.exact.specs.Offers.{Triangular}
use Rattle.exact.proofs.Ints.{nat_abs_mul, nat_abs_positive}
use Rattle.exact.proofs.Ring.{◌⊕◌, ◌⊖◌, ◌⊗◌, con, ◌≈◌, ring}
use Rattle.exact.proofs.Sums.{∑-zero, dot, dot_cong}

-- S y = c e, and c is not 0
pub record Solved (n : ℕ) (S : ℕ → ℕ → ℤ) (e : ℕ → ℤ) : Type 0 where
  pub c : ℤ
  pub y : ℕ → ℤ
  pub nonzero : 0 < nat_abs c
  pub rows : (j : ℕ) → j < n → dot n (S j) y ≡ c *ℤ e j

-- y, and v at n
abbrev extend : ℕ → (ℕ → ℤ) → ℤ → ℕ → ℤ
extend n y v k = cond (eqb n k) v (y k)

dot_extend : (n : ℕ) (a y : ℕ → ℤ) (v : ℤ) → dot (suc n) a (extend n y v) ≡ dot n a y +ℤ a n *ℤ v
unfolding ∑
dot_extend n a y v = ap₂ ◌+ℤ◌
    (dot_cong n a (extend n y v) y (λ k l. rw (ne_eqb n k (omega arith))))
    (rw (eq-eqb n n refl))

-- with d = S n n: if c and y solve the first n rows for d e j - S j n e n, then c d and y with c e n at n solve all rows for e
pub back : (n : ℕ) (S : ℕ → ℕ → ℤ) → Triangular n S → (e : ℕ → ℤ) → Solved n S e
back zero S tri e = record { c = pos 1; y = λ k. pos 0; nonzero = omega arith; rows = λ j l. absurd (omega arith) }
back (suc n) S tri e =
    let first : Triangular n S = record { below = λ k j l h. tri.below k j (omega arith) h; diagonal = λ k l. tri.diagonal k (omega arith) } in
    let r = back n S first (λ j. S n n *ℤ e j -ℤ S j n *ℤ e n) in
    record {
      c = r.c *ℤ S n n;
      y = extend n r.y (r.c *ℤ e n);
      nonzero = rw nat_abs_mul (mul-pos r.nonzero (nat_abs_positive (S n n) (tri.diagonal n (omega arith))));
      rows = λ j l. dot_extend n (S j) r.y (r.c *ℤ e n)
          ∙ below_more (λ j. dot n (S j) r.y +ℤ S j n *ℤ (r.c *ℤ e n) ≡ r.c *ℤ S n n *ℤ e j) n
          (λ j l. ap (λ x. x +ℤ S j n *ℤ (r.c *ℤ e n)) (r.rows j l)
          ∙ ring 5 (λ c d u v w. c ⊗ (d ⊗ v ⊖ u ⊗ w) ⊕ u ⊗ (c ⊗ w) ≈ c ⊗ d ⊗ v) refl r.c (S n n) (S j n) (e j) (e n))
          (ap (λ x. x +ℤ S n n *ℤ (r.c *ℤ e n)) (∑-zero n _ (λ k l. ap (λ x. x *ℤ r.y k) (tri.below n k (omega arith) l) ∙ zero-*ℤ (r.y k)))
          ∙ ring 3 (λ c d w. con (pos 0) ⊕ d ⊗ (c ⊗ w) ≈ c ⊗ d ⊗ w) refl r.c (S n n) (e n))
          j (omega arith);
    }
