-- A line as words with a space between them and a line feed after the last. Assumes nothing.
use Rattle.std.proofs.Common.{◌≡◌, ℕ, zero, suc, ◌/◌, ◌%◌, ◌<◌, ◌≤◌, false, eqb, List, [], ◌∷◌, ◌++◌, get_or, drop, ℤ, pos, negsuc, decimal, sym, refl, ap, subst, arith}
use Rattle.std.specs.Fmt.{digit_glyph, digits_onto, digits, signed_decimal}
use Rattle.std.specs.List.{AllByRecursion}
use Rattle.std.proofs.lemmas.Bool.{cond_both}
use Rattle.std.proofs.lemmas.Bool.Decides.{nat_tests}

-- each byte of a word is above the space, so none is a space or a line feed
abbrev pub Clear : List ℕ → Type 0
Clear word = AllByRecursion (λ x. 32 < x) word

-- a text begins with a byte that no word holds, as a space or a line feed
abbrev pub Ends : List ℕ → Type 0
Ends [] = ⊥
Ends (x ∷ xs) = x ≤ 32

-- the words after the first, each after a space, then the line feed and what follows the line
abbrev pub after : List (List ℕ) → List ℕ → List ℕ
after [] r = 10 ∷ r
after (w ∷ ws) r = 32 ∷ (w ++ after ws r)

pub after_ends : (ws : List (List ℕ)) (r : List ℕ) → Ends (after ws r)
after_ends [] r = omega arith
after_ends (w ∷ ws) r = omega arith

-- a word and what ends it are no empty text
pub some : (w t : List ℕ) → Ends t → [] ≡ w ++ t → ⊥
some [] t h e = subst Ends (sym e) h
some (x ∷ w) t h e = let z : ◌≡◌ {A = ℕ} 0 1 = cc in omega arith

-- a text has one first word
pub cut : (a c b d : List ℕ) → Clear a → Clear c → Ends b → Ends d → a ++ b ≡ c ++ d → (a ≡ c) × (b ≡ d)
cut [] [] b d p q f g e = (refl, e)
cut [] (y ∷ c) b d p q f g e = absurd (omega (arith, q.0, subst Ends e f))
cut (x ∷ a) [] b d p q f g e = absurd (omega (arith, p.0, subst Ends (sym e) g))
cut (x ∷ a) (y ∷ c) b d p q f g e = let rest = cut a c b d p.1 q.1 f g (ap (drop 1) e) in (cc, rest.1)

-- and so its other words, up to the first line feed
pub after_same : (ws vs : List (List ℕ)) (r s : List ℕ) → AllByRecursion Clear ws → AllByRecursion Clear vs → after ws r ≡ after vs s → (ws ≡ vs) × (r ≡ s)
after_same [] [] r s p q e = (refl, ap (drop 1) e)
after_same [] (v ∷ vs) r s p q e = absurd (omega (arith, ap (λ (t : List ℕ). get_or t 0 0) e))
after_same (w ∷ ws) [] r s p q e = absurd (omega (arith, ap (λ (t : List ℕ). get_or t 0 0) e))
after_same (w ∷ ws) (v ∷ vs) r s p q e =
    let first = cut w v _ _ p.0 q.0 (after_ends ws r) (after_ends vs s) (ap (drop 1) e) in
    let rest = after_same ws vs r s p.1 q.1 first.1 in
    (cc, rest.1)

-- a number is a word
Clear-spelled : (k n : ℕ) (acc : List ℕ) → Clear acc → Clear (digits_onto k 10 false n acc)
Clear-spelled zero n acc h = h
Clear-spelled (suc k) n acc h =
    let more : List ℕ = digit_glyph false (n % 10) ∷ acc in
    let digit : 32 < digit_glyph false (n % 10) = grind (arith, nat_tests) in
    cond_both (eqb (n / 10) 0) more (digits_onto k 10 false (n / 10) more) Clear (λ _. (digit, h)) (λ _. Clear-spelled k (n / 10) more (digit, h))

pub Clear-decimal : (n : ℕ) → Clear (decimal n)
unfolding digits
Clear-decimal n = Clear-spelled 64 n [] tt

pub Clear-signed : (z : ℤ) → Clear (signed_decimal z)
Clear-signed (pos n) = Clear-decimal n
Clear-signed (negsuc n) = (omega arith, Clear-decimal (suc n))

pub ruleset clears = (arith, Clear-decimal, Clear-signed)
