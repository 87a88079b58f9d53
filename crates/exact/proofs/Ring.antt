-- Polynomial identities over the whole numbers, by computation: the difference of both sides is multiplied out and vanishes. Assumes nothing.
--     Ex                an expression over numbered variables
--     Poly              a sum of monomials with coefficients; a monomial is the sorted list of its variables
--     ring n law refl   the law at any n whole numbers, as in  ring 2 (λ x y. (x ⊕ y) ⊗ (x ⊖ y) ≈ x ⊗ x ⊖ y ⊗ y) refl
use Rattle.std.proofs.Common.{◌≡◌, ℕ, zero, suc, Bool, true, false, cond, ltb, List, [], ◌∷◌, ℤ, pos, negsuc, ◌+ℤ◌, ◌*ℤ◌, neg_ℤ, sym, refl, ap, ◌∙◌, ap₂, arith}
use lib.IntN.{*ℤ-zero, zero-*ℤ, +ℤ_assoc, +ℤ_idr, +ℤ_idl}
use Rattle.std.specs.Str.{bytes_eq as same_list}
use Rattle.std.proofs.lemmas.Slice.Eq.{bytes_eq-Decides as same_list-Decides}
use Rattle.std.proofs.lemmas.Int.{ints}
use Rattle.exact.proofs.Ints.{*ℤ_assoc, *ℤ_left_comm, *ℤ_exchange, +ℤ_left_comm, *ℤ_distl, *ℤ_distr, one-*ℤ, minus_one-*ℤ, equal}

infixl 6 ◌⊕◌ ◌⊖◌
infixl 7 ◌⊗◌
infix 8 ⊝◌
pub data Ex : Type 0 where
  var : ℕ → Ex
  con : ℤ → Ex
  ◌⊕◌ : Ex → Ex → Ex
  ◌⊗◌ : Ex → Ex → Ex
  ⊝◌ : Ex → Ex

abbrev pub ◌⊖◌ : Ex → Ex → Ex
a ⊖ b = a ⊕ (⊝ b)

infix 5 ◌≈◌
pub data Law : Type 0 where
  ◌≈◌ : Ex → Ex → Law

-- ---- multiplying out
pub data Poly : Type 0 where
  nil : Poly
  term : ℤ → List ℕ → Poly → Poly

-- c times the monomial k, plus p
abbrev insert : ℤ → List ℕ → Poly → Poly
insert c k nil = term c k nil
insert c k (term d l p) = cond (same_list k l) (term (c +ℤ d) l p) (term d l (insert c k p))

abbrev into : ℕ → List ℕ → List ℕ
into x [] = x ∷ []
into x (y ∷ l) = cond (ltb y x) (y ∷ into x l) (x ∷ y ∷ l)

abbrev merge : List ℕ → List ℕ → List ℕ
merge [] l = l
merge (x ∷ k) l = into x (merge k l)

-- c times the monomial k times p, plus r
abbrev times : ℤ → List ℕ → Poly → Poly → Poly
times c k nil r = r
times c k (term d l p) r = insert (c *ℤ d) (merge k l) (times c k p r)

abbrev product : Poly → Poly → Poly
product nil q = nil
product (term c k p) q = times c k q (product p q)

abbrev form : Ex → Poly
form (var i) = term (pos 1) (i ∷ []) nil
form (con c) = term c [] nil
form (a ⊕ b) = times (pos 1) [] (form a) (form b)
form (a ⊗ b) = product (form a) (form b)
form (⊝ a) = times (negsuc 0) [] (form a) nil

abbrev vanishes : Poly → Bool
vanishes nil = true
vanishes (term (pos zero) k p) = vanishes p
vanishes (term (pos (suc n)) k p) = false
vanishes (term (negsuc n) k p) = false

-- ---- values, and that multiplying out keeps them
-- ρ i is the value of variable i
module _ (ρ : ℕ → ℤ) where
  abbrev value : Ex → ℤ
  value (var i) = ρ i
  value (con c) = c
  value (a ⊕ b) = value a +ℤ value b
  value (a ⊗ b) = value a *ℤ value b
  value (⊝ a) = neg_ℤ (value a)

  abbrev mono : List ℕ → ℤ
  mono [] = pos 1
  mono (x ∷ k) = ρ x *ℤ mono k

  abbrev poly : Poly → ℤ
  poly nil = pos 0
  poly (term c k p) = c *ℤ mono k +ℤ poly p

  insert_value : (c : ℤ) (k : List ℕ) (p : Poly) → poly (insert c k p) ≡ c *ℤ mono k +ℤ poly p
  insert_value c k nil = refl
  insert_value c k (term d l p) = by (same_list k l) (same_list-Decides k l).0 (insert_value c k p)
    where
      by : (t : Bool) → (t ≡ true → k ≡ l) → poly (insert c k p) ≡ c *ℤ mono k +ℤ poly p
          → poly (cond t (term (c +ℤ d) l p) (term d l (insert c k p))) ≡ c *ℤ mono k +ℤ (d *ℤ mono l +ℤ poly p)
      by true e h = rw (e refl, *ℤ_distr) (+ℤ_assoc (c *ℤ mono l) (d *ℤ mono l) (poly p))
      by false e h = rw h (+ℤ_left_comm (d *ℤ mono l) (c *ℤ mono k) (poly p))

  into_value : (x : ℕ) (l : List ℕ) → mono (into x l) ≡ ρ x *ℤ mono l
  into_value x [] = refl
  into_value x (y ∷ l) = by (ltb y x) (into_value x l)
    where
      by : (t : Bool) → mono (into x l) ≡ ρ x *ℤ mono l → mono (cond t (y ∷ into x l) (x ∷ y ∷ l)) ≡ ρ x *ℤ (ρ y *ℤ mono l)
      by true h = rw h (*ℤ_left_comm (ρ y) (ρ x) (mono l))
      by false h = refl

  merge_value : (k l : List ℕ) → mono (merge k l) ≡ mono k *ℤ mono l
  merge_value [] l = sym (one-*ℤ (mono l))
  merge_value (x ∷ k) l = into_value x (merge k l) ∙ ap (λ z. ρ x *ℤ z) (merge_value k l) ∙ sym (*ℤ_assoc (ρ x) (mono k) (mono l))

  times_value : (c : ℤ) (k : List ℕ) (p r : Poly) → poly (times c k p r) ≡ (c *ℤ mono k) *ℤ poly p +ℤ poly r
  times_value c k nil r = sym (ap (λ x. x +ℤ poly r) (*ℤ-zero (c *ℤ mono k)) ∙ +ℤ_idl (poly r))
  times_value c k (term d l p) r =
      insert_value (c *ℤ d) (merge k l) (times c k p r)
      ∙ ap₂ ◌+ℤ◌ (ap (λ x. (c *ℤ d) *ℤ x) (merge_value k l) ∙ *ℤ_exchange c d (mono k) (mono l)) (times_value c k p r)
      ∙ sym (+ℤ_assoc ((c *ℤ mono k) *ℤ (d *ℤ mono l)) ((c *ℤ mono k) *ℤ poly p) (poly r))
      ∙ ap (λ x. x +ℤ poly r) (sym (*ℤ_distl (c *ℤ mono k) (d *ℤ mono l) (poly p)))

  product_value : (p q : Poly) → poly (product p q) ≡ poly p *ℤ poly q
  product_value nil q = sym (zero-*ℤ (poly q))
  product_value (term c k p) q =
      times_value c k q (product p q) ∙ ap (λ x. (c *ℤ mono k) *ℤ poly q +ℤ x) (product_value p q) ∙ sym (*ℤ_distr (c *ℤ mono k) (poly p) (poly q))

  form_value : (e : Ex) → poly (form e) ≡ value e
  form_value (var i) = omega (arith, ints)
  form_value (con c) = omega (arith, ints)
  form_value (a ⊕ b) = times_value (pos 1) [] (form a) (form b) ∙ ap₂ ◌+ℤ◌ (one-*ℤ (poly (form a)) ∙ form_value a) (form_value b)
  form_value (a ⊗ b) = product_value (form a) (form b) ∙ ap₂ ◌*ℤ◌ (form_value a) (form_value b)
  form_value (⊝ a) =
      times_value (negsuc 0) [] (form a) nil ∙ +ℤ_idr (negsuc 0 *ℤ poly (form a)) ∙ minus_one-*ℤ (poly (form a)) ∙ ap neg_ℤ (form_value a)

  vanishes_value : (p : Poly) → vanishes p ≡ true → poly p ≡ pos 0
  vanishes_value nil h = refl
  vanishes_value (term (pos zero) k p) h = ap₂ ◌+ℤ◌ (zero-*ℤ (mono k)) (vanishes_value p h)
  vanishes_value (term (pos (suc n)) k p) h = cc
  vanishes_value (term (negsuc n) k p) h = cc

-- ---- laws, at variables by name
abbrev Shown : Law → Type 0
Shown (a ≈ b) = vanishes (form (a ⊖ b)) ≡ true

abbrev env : List ℤ → ℕ → ℤ
env [] i = pos 0
env (x ∷ xs) zero = x
env (x ∷ xs) (suc i) = env xs i

abbrev Holds : Law → List ℤ → Type 0
Holds (a ≈ b) xs = value (env xs) a ≡ value (env xs) b

holds : (l : Law) → Shown l → (xs : List ℤ) → Holds l xs
holds (a ≈ b) h xs = equal (value (env xs) a) (value (env xs) b) (sym (form_value (env xs) (a ⊖ b)) ∙ vanishes_value (env xs) (form (a ⊖ b)) h)

-- laws of n variables
abbrev Over : ℕ → Type 0
Over zero = Law
Over (suc n) = Ex → Over n

-- at the variables from k on
abbrev from : (n k : ℕ) → Over n → Law
from zero k l = l
from (suc n) k l = from n (suc k) (l (var k))

-- P at every list of n whole numbers, each an argument of its own
abbrev Each : ℕ → (List ℤ → Type 0) → Type 0
Each zero P = P []
Each (suc n) P = (x : ℤ) → Each n (λ xs. P (x ∷ xs))

each : (n : ℕ) (P : List ℤ → Type 0) → ((xs : List ℤ) → P xs) → Each n P
each zero P h = h []
each (suc n) P h = λ x. each n (λ xs. P (x ∷ xs)) (λ xs. h (x ∷ xs))

pub ring : (n : ℕ) (l : Over n) → Shown (from n 0 l) → Each n (Holds (from n 0 l))
ring n l h = each n (Holds (from n 0 l)) (holds (from n 0 l) h)
