-- That a printout can be read in one way only: the words of a line are told by the text, and the line by its words. Assumes nothing.
use Rattle.std.proofs.Common.{◌≡◌, ℕ, suc, ◌^◌, ◌<◌, cond, eqb, List, [], ◌∷◌, ◌++◌, length, get_or, drop, ℤ, pos, negsuc, neg_ℤ, codes, decimal, sym, refl, ap, ◌∙◌, append_assoc, arith, w64, SFits}
use Rattle.std.specs.Str.Parse.{digits_value}
use Rattle.std.specs.Fmt.{signed_decimal}
use Rattle.std.specs.List.{AllByRecursion}
use Rattle.std.proofs.lemmas.Fmt.{decimal_is_IsNumeral}
use Rattle.std.proofs.lemmas.List.Elements.{recursion_from_All}
use Rattle.std.proofs.lemmas.Str.Parse.{digit_at}
use Rattle.std.proofs.lemmas.Bool.{cond-false, ne_eqb}
use Rattle.printout.specs.Lines.{middle, half_width, column_line}
use Rattle.printout.specs.declared.Line.{Line}
use Rattle.printout.specs.declared.Line.TheVariants.{Book, Granted, Refused, Column, NoInterval, FileRefused}
use Rattle.printout.specs.Printouts.{bytes_of, text_of, Fits64}
use Rattle.readable.specs.Readable.{OneReading}
use Rattle.readable.proofs.Words.{Clear, after, after_ends, some, cut, after_same, clears}

-- the first word of a line, and its other words
abbrev words : Line → List ℕ × List (List ℕ)
words (Book m n) = (codes "book", decimal m ∷ decimal n ∷ [])
words (Granted i a) = (codes "offer", decimal i ∷ codes "granted" ∷ decimal a ∷ [])
words (Refused i k) = (codes "offer", decimal i ∷ codes "refused" ∷ decimal k ∷ [])
words (Column j l h) = (codes "column", decimal j ∷ signed_decimal l ∷ signed_decimal h ∷ signed_decimal (middle l h) ∷ signed_decimal (half_width l h) ∷ [])
words (NoInterval j) = (codes "column", decimal j ∷ codes "none" ∷ [])
words (FileRefused k) = (codes "file", codes "refused" ∷ decimal k ∷ [])

-- the text of a line is its words
spelt : (l : Line) (r : List ℕ) → bytes_of l ++ r ≡ (words l).0 ++ after (words l).1 r
unfolding column_line
spelt (Book m n) r = simp append_assoc
spelt (Granted i a) r = simp append_assoc
spelt (Refused i k) r = simp append_assoc
spelt (Column j l h) r = simp append_assoc
spelt (NoInterval j) r = simp append_assoc
spelt (FileRefused k) r = simp append_assoc

clear : (l : Line) → Clear (words l).0 × AllByRecursion Clear (words l).1
clear (Book m n) = search clears
clear (Granted i a) = search clears
clear (Refused i k) = search clears
clear (Column j l h) = search clears
clear (NoInterval j) = search clears
clear (FileRefused k) = search clears

-- the first byte of a word, the number and the integer that it writes
abbrev letter : List ℕ → ℕ
letter word = get_or word 0 0

abbrev count : List ℕ → ℕ
count word = digits_value 10 word

abbrev integer : List ℕ → ℤ
integer word = cond (eqb (letter word) 45) (neg_ℤ (pos (count (drop 1 word)))) (pos (count word))

count_back : (n : ℕ) → n < 2 ^ 64 → count (decimal n) ≡ n
count_back n h = (decimal_is_IsNumeral n h).1

integer_back : (z : ℤ) → SFits w64 z → integer (signed_decimal z) ≡ z
integer_back (pos n) f =
    let small : n < 2 ^ 64 = omega arith in
    let numeral = (decimal_is_IsNumeral n small).0 in
    let digit = digit_at (decimal n) 0 numeral.1 numeral.0 in
    cond-false _ _ _ (ne_eqb (letter (decimal n)) 45 (λ e. omega arith)) ∙ ap pos (count_back n small)
integer_back (negsuc n) f = ap (λ (m : ℕ). neg_ℤ (pos m)) (count_back (suc n) (omega arith))

-- the line that the words w and ws say
abbrev said : List ℕ → List (List ℕ) → Line
said w ws =
    let at : ℕ → List ℕ = λ i. get_or ws i [] in
    cond (eqb (letter w) 98) (Book (count (at 0)) (count (at 1)))
    (cond (eqb (letter w) 102) (FileRefused (count (at 1)))
    (cond (eqb (letter w) 99) (cond (eqb (length ws) 2) (NoInterval (count (at 0))) (Column (count (at 0)) (integer (at 1)) (integer (at 2))))
    (cond (eqb (letter (at 1)) 103) (Granted (count (at 0)) (count (at 2))) (Refused (count (at 0)) (count (at 2))))))

said_back : (l : Line) → Fits64 l → said (words l).0 (words l).1 ≡ l
said_back (Book m n) f = λ t. Book (count_back m f.0 t) (count_back n f.1 t)
said_back (Granted i a) f = λ t. Granted (count_back i f.0 t) (count_back a f.1 t)
said_back (Refused i k) f = λ t. Refused (count_back i f.0 t) (count_back k f.1 t)
said_back (Column j l h) f = λ t. Column (count_back j f.0 t) (integer_back l f.1 t) (integer_back h f.2 t)
said_back (NoInterval j) f = ap NoInterval (count_back j f)
said_back (FileRefused k) f = ap FileRefused (count_back k f)

-- a text has one first line
line_same : (l k : Line) (r s : List ℕ) → Fits64 l → Fits64 k → bytes_of l ++ r ≡ bytes_of k ++ s → (l ≡ k) × (r ≡ s)
line_same l k r s f g e =
    let first = cut _ _ _ _ (clear l).0 (clear k).0 (after_ends (words l).1 r) (after_ends (words k).1 s) (sym (spelt l r) ∙ e ∙ spelt k s) in
    let others = after_same _ _ r s (clear l).1 (clear k).1 first.1 in
    (sym (said_back l f) ∙ (λ t. said (first.0 t) (others.0 t)) ∙ said_back k g, others.1)

line_some : (l : Line) (r : List ℕ) → [] ≡ bytes_of l ++ r → ⊥
line_some l r e = some _ _ (after_ends (words l).1 r) (e ∙ spelt l r)

reading : (ls ks : List Line) → AllByRecursion Fits64 ls → AllByRecursion Fits64 ks → text_of ls ≡ text_of ks → ls ≡ ks
reading [] [] f g e = refl
reading [] (k ∷ ks) f g e = absurd (line_some k (text_of ks) e)
reading (l ∷ ls) [] f g e = absurd (line_some l (text_of ls) (sym e))
reading (l ∷ ls) (k ∷ ks) f g e =
    let first = line_same l k (text_of ls) (text_of ks) f.0 g.0 e in
    let rest = reading ls ks f.1 g.1 first.1 in
    cc

pub one_reading : OneReading
one_reading ls ks f g e = reading ls ks (recursion_from_All Fits64 ls f) (recursion_from_All Fits64 ks g) e
