-- What the tests of a fit and an offer show, number by number. Assumes nothing.
use Rattle.std.proofs.Common.{◌≡◌, ℕ, zero, suc, ◌^◌, ◌<◌, ◌≤◌, Bool, true, false, cond, not, ◌&&◌, eqb, ltb, leb, ◌≢◌, List, [], ◌∷◌, length, get_or, ℤ, pos, nat_abs, is_ok, Err, Result, refl, ap, arith, ltb-false, ltb-true, eqb-true, le-leb, leb-true, zero-add}
use borrow.Author.Tests.{not-false, clash}
use Rattle.std.specs.List.{list_all, range_with_len}
use Rattle.std.proofs.lemmas.Bool.{and_parts}
use Rattle.std.proofs.lemmas.Bool.Decides.{nat_tests}
use Rattle.std.proofs.lemmas.List.FromFn.{get_or-range_with_len, length-range_with_len}
use Rattle.std.proofs.lemmas.List.Recursion.{and_at}
use Rattle.offer.specs.declared.row.Row.{Row}
use Rattle.offer.specs.declared.fit.Fit.{Fit}
use Rattle.offer.specs.declared.offer.Offer.{Offer}
use Rattle.offer.specs.declared.admitted.Admitted.{Admitted}
use Rattle.offer.specs.Triangles.{triangle_length, place, triangle_at, whole_diagonal}
use Rattle.offer.specs.Limits.{all_within, row_within}
use Rattle.offer.specs.Entry.{right_lengths, offer_within, admission}
use Rattle.offer.specs.Lent.{no_row, entry_at, figure_at, fit_in, offer_in}

-- a test that each element passes, at any index, if it is passed by what stands for an absent one too
list_all_or : {X : Type 0} (p : X → Bool) (d : X) → p d ≡ true → (xs : List X) → list_all p xs ≡ true → (i : ℕ) → p (get_or xs i d) ≡ true
list_all_or p d h [] e i = h
list_all_or p d h (x ∷ xs) e zero = (and_parts (p x) (list_all p xs) e).0
list_all_or p d h (x ∷ xs) e (suc i) = list_all_or p d h xs (and_parts (p x) (list_all p xs) e).1 i

pub all_within_at : (k : ℕ) (zs : List ℤ) → all_within k zs ≡ true → (p : ℕ) → nat_abs (get_or zs p (pos 0)) ≤ k
all_within_at k zs e p = leb-true _ _ (list_all_or (λ z. leb (nat_abs z) k) (pos 0) (le-leb 0 k (omega arith)) zs e p)

whole_diagonal_at : (n : ℕ) (s : List ℤ) → whole_diagonal n s ≡ true → (k : ℕ) → k < n → triangle_at n s k k ≢ pos 0
whole_diagonal_at n s e k l =
    let test = λ (k : ℕ). ltb 0 (nat_abs (triangle_at n s k k)) in
    let h = and_at (list_all test) test refl (λ _ _. refl) (range_with_len 0 n) k 0 (omega (arith, length-range_with_len 0 n)) e in
    let here : test k ≡ true = rw (get_or-range_with_len 0 n k 0 l, zero-add k) at h in
    λ z. omega (arith, ap nat_abs z, ltb-true _ _ here)

-- a refusal that did not come
past : {E : Type 0} (t : Bool) (e : E) (r : Result (Unit {0}) E) → is_ok (cond t (Err e) r) ≡ true → (t ≡ false) × (is_ok r ≡ true)
past true e r h = absurd (clash h)
past false e r h = (refl, h)

pub record Passed (F : Fit) (O : Offer) : Type 0 where
  pub short : length F.rows.now ≤ 64
  pub some : 1 ≤ F.columns
  pub few : F.columns ≤ 8
  pub tall : F.columns ≤ length F.rows.now
  pub s_length : length O.s.now ≡ triangle_length F.columns
  pub x_length : length O.x.now ≡ F.columns
  pub w_length : length O.w.now ≡ length F.rows.now
  pub entries : (i k : ℕ) → nat_abs (entry_at F.rows.now i k) ≤ 2 ^ 24
  pub figures : (i : ℕ) → nat_abs (figure_at F.rows.now i) ≤ 2 ^ 28
  pub s_small : (p : ℕ) → nat_abs (get_or O.s.now p (pos 0)) ≤ 2 ^ 30
  pub x_small : (j : ℕ) → nat_abs (get_or O.x.now j (pos 0)) ≤ 2 ^ 28
  pub w_small : (i : ℕ) → nat_abs (get_or O.w.now i (pos 0)) ≤ 2 ^ 25
  pub diagonal : (k : ℕ) → k < F.columns → triangle_at F.columns O.s.now k k ≢ pos 0

pub passed : (F : Fit) (O : Offer) → is_ok (admission F O) ≡ true → Passed F O
passed F O a =
    let rows = F.rows.now in
    let n = F.columns in
    let fit = and_parts (leb (length rows) 64 && leb 1 n && leb n 8) (list_all row_within rows) F.within in
    let counts = and_parts (leb (length rows) 64 && leb 1 n) (leb n 8) fit.0 in
    let least = and_parts (leb (length rows) 64) (leb 1 n) counts.0 in
    let row_in : (i : ℕ) → row_within (get_or rows i no_row) ≡ true = list_all_or row_within no_row refl rows fit.1 in
    let tall = past (ltb (length rows) n) _ _ a in
    let long = past (not (right_lengths F O)) _ _ tall.1 in
    let small = past (not (offer_within O)) _ _ long.1 in
    let whole = past (not (whole_diagonal n O.s.now)) _ _ small.1 in
    let lengths = and_parts (eqb (length O.s.now) (triangle_length n) && eqb (length O.x.now) n) (eqb (length O.w.now) (length rows)) (not-false _ long.0) in
    let lengths' = and_parts (eqb (length O.s.now) (triangle_length n)) (eqb (length O.x.now) n) lengths.0 in
    let sizes = and_parts (all_within (2 ^ 30) O.s.now && all_within (2 ^ 28) O.x.now) (all_within (2 ^ 25) O.w.now) (not-false _ small.0) in
    let sizes' = and_parts (all_within (2 ^ 30) O.s.now) (all_within (2 ^ 28) O.x.now) sizes.0 in
    record {
      short = leb-true _ _ least.0;
      some = leb-true _ _ least.1;
      few = leb-true _ _ counts.1;
      tall = ltb-false _ _ tall.0;
      s_length = eqb-true _ _ lengths'.0;
      x_length = eqb-true _ _ lengths'.1;
      w_length = eqb-true _ _ lengths.1;
      entries = λ i k. all_within_at (2 ^ 24) (get_or rows i no_row).entries (and_parts (all_within (2 ^ 24) (get_or rows i no_row).entries) _ (row_in i)).0 k;
      figures = λ i. leb-true _ _ (and_parts (all_within (2 ^ 24) (get_or rows i no_row).entries) _ (row_in i)).1;
      s_small = all_within_at (2 ^ 30) O.s.now sizes'.0;
      x_small = all_within_at (2 ^ 28) O.x.now sizes'.1;
      w_small = all_within_at (2 ^ 25) O.w.now sizes.1;
      diagonal = whole_diagonal_at n O.s.now (not-false _ whole.0);
    }

-- of an admitted offer
pub facts : (a : Admitted) → Passed a.fit a.offer
facts a = passed a.fit a.offer a.passed

-- the numbers that the exact numbers of an admitted offer are made of
module _ (a : Admitted) where
  pub A_small : (i k : ℕ) → nat_abs ((fit_in a).A i k) ≤ 2 ^ 24
  A_small = (facts a).entries

  -- of a row that was looked up
  module _ (i : ℕ) (r : Row) (e : r ≡ get_or a.fit.rows.now i no_row) where
    pub entry_small : (k : ℕ) → nat_abs (get_or r.entries k (pos 0)) ≤ 2 ^ 24
    entry_small k = rw e (A_small i k)

    pub figure_small : nat_abs r.figure ≤ 2 ^ 28
    figure_small = rw e ((facts a).figures i)

  pub x_small : (j : ℕ) → nat_abs ((offer_in a).x j) ≤ 2 ^ 30
  x_small j = omega (arith, (facts a).x_small j)

  pub w_small : (i : ℕ) → nat_abs ((offer_in a).w i) ≤ 2 ^ 30
  w_small i = omega (arith, (facts a).w_small i)

  module _ (k j : ℕ) where
    pub S_small : nat_abs ((offer_in a).S k j) ≤ 2 ^ 30
    S_small = grind (arith, nat_tests, (facts a).s_small (place a.fit.columns k j))

    pub S_below : j < k → (offer_in a).S k j ≡ pos 0
    S_below p = grind (arith, nat_tests)

    pub S_past : a.fit.columns ≤ j → (offer_in a).S k j ≡ pos 0
    S_past p = grind (arith, nat_tests)
