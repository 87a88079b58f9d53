-- A file that was written from a fit is read back as that fit. Assumes nothing.
use Rattle.std.proofs.Common.{◌≡◌, ℕ, zero, suc, ◌+◌, ◌*◌, ◌/◌, ◌%◌, ◌^◌, ◌<◌, ◌≤◌, true, List, [], ◌∷◌, ◌++◌, length, get_or, take, drop, ℤ, pos, Ok, refl, ap, ◌∙◌, suc-mul, arith, w64, SFits, of_z}
use mir.Facts.{Fits-of_z}
use Rattle.std.proofs.lemmas.Nat.{mul-le}
use Rattle.std.proofs.lemmas.List.{length-append, drop-drop, drop_at, take_at}
use Rattle.std.proofs.lemmas.List.Elements.{All-head, All-tail}
use Rattle.std.proofs.lemmas.Option.{slice_get-get_or, slice_get_past}
use Rattle.std.proofs.lemmas.Int.{to_z-of_z}
use Rattle.std.proofs.lemmas.Bool.Decides.{nat_tests}
use Rattle.std.specs.Int.{from_le_bytes}
use Rattle.std.specs.List.{slice_get, flat_map, All}
use Rattle.std.specs.Option as options
use Rattle.fitfile.specs.declared.words.Header.{Header}
use Rattle.fitfile.specs.Bytes.{word, number}
use Rattle.fitfile.specs.Header.{header_of, rows_at, figures_at, offers_at, offer_length, file_length, in_range}
use Rattle.fitfile.specs.Sections.{Plain, numbers, number_at, cut, offer_of, kind_by}
use Rattle.fitfile.specs.Sections as sections
use Rattle.fitfile.specs.Writing.{OfferText, FitText, counts_in, number_bytes, numbers_bytes, offer_bytes, header_bytes, file_of, ProperOffer, Proper, rows_in, figures_in, offer_in, OfferBack, ReadBack}
use Rattle.fitfile.proofs.Chunks.{get_or-chunked, number_chunk}

-- the four bytes of a word spell it
spelled : (v : ℕ) → v < 2 ^ 32 → v % 256 + v / 256 % 256 * 256 + v / 65536 % 256 * 65536 + v / 16777216 % 256 * 16777216 ≡ v
spelled v h = omega arith

-- lists of equal length, one after the other
length-joined : {X A : Type 0} (f : X → List A) (n : ℕ) (xs : List X) → All (λ x. length (f x) ≡ n) xs → length (flat_map f xs) ≡ length xs * n
length-joined f n [] each = omega arith
length-joined f n (x ∷ xs) each =
    let first = All-head (λ y. length (f y) ≡ n) x xs each in
    let others = All-tail (λ y. length (f y) ≡ n) x xs each in
    simp length-append (omega (arith, suc-mul (length xs) n, first, length-joined f n xs others))

-- the list at i of such lists
cut-joined : {X A : Type 0} (f : X → List A) (n : ℕ) (xs : List X) (i : ℕ) (d : X) → All (λ x. length (f x) ≡ n) xs → i < length xs → take n (drop (i * n) (flat_map f xs)) ≡ f (get_or xs i d)
cut-joined f n [] i d each h = absurd (omega arith)
cut-joined f n (x ∷ xs) zero d each h =
    let first = All-head (λ y. length (f y) ≡ n) x xs each in
    let start : 0 * n ≡ 0 = omega arith in
    grind (arith, take_at)
cut-joined f n (x ∷ xs) (suc i) d each h =
    let first = All-head (λ y. length (f y) ≡ n) x xs each in
    let others = All-tail (λ y. length (f y) ≡ n) x xs each in
    let start : suc i * n ≡ n + i * n = omega (arith, suc-mul i n) in
    cc (drop-drop (i * n) n (f x ++ flat_map f xs), drop_at (f x) (flat_map f xs) n first, cut-joined f n xs i d others (omega arith))

-- the eight bytes of a number spell it
bits-number : (z : ℤ) → SFits w64 z → from_le_bytes w64 (number_bytes z) ≡ of_z w64 z
bits-number z h = let below = Fits-of_z h in omega arith

numbers_long : (zs : List ℤ) → All (λ z. length (number_bytes z) ≡ 8) zs
numbers_long zs = λ _ _ _. refl

length-numbers : (zs : List ℤ) → length (numbers_bytes zs) ≡ length zs * 8
length-numbers zs = length-joined number_bytes 8 zs (numbers_long zs)

-- the number at i of numbers that were written
number_at_bytes : (zs : List ℤ) → All (SFits w64) zs → (i : ℕ) → i < length zs → number (numbers_bytes zs) (8 * i) ≡ get_or zs i (pos 0)
number_at_bytes zs fit i h =
    let bs : List ℕ = numbers_bytes zs in
    let z : ℤ = get_or zs i (pos 0) in
    let fits = fit i (pos 0) h in
    cc (get_or-chunked 8 (length zs) bs i [] h, cut-joined number_bytes 8 zs i (pos 0) (numbers_long zs) h, number_chunk (length zs) bs i [] h, bits-number z fits, to_z-of_z w64 z fits)

-- what is read at i of a section whose numbers were written
numbers_back : (p : Plain) (zs : List ℤ) → numbers p ≡ numbers_bytes zs → All (SFits w64) zs → (i : ℕ) → number_at p i ≡ slice_get zs i
numbers_back p zs e fit i =
    let many : length (numbers p) / 8 ≡ length zs = omega (arith, ap length e, length-numbers zs) in
    grind (arith, nat_tests, slice_get-get_or zs i (pos 0), slice_get_past zs i, number_at_bytes zs fit i)

length-offer : (h : Header) (o : OfferText) → ProperOffer h o → length (offer_bytes o) ≡ offer_length h
length-offer h o p = omega (arith, length-numbers o.numbers, p.long)

-- what is read from the bytes of an offer
offer_back : (h : Header) (o : OfferText) → ProperOffer h o → OfferBack o
offer_back h o p =
    let kind : word (offer_bytes o) 0 ≡ o.kind = spelled o.kind p.kind in
    record {
      kind = grind (arith, nat_tests);
      numbers = λ at i. numbers_back (sections.offer at (offer_bytes o)) o.numbers refl p.fit i;
    }

-- the places and lengths of counts within their limits fit a word
file_small : (h : Header) → in_range h ≡ true → (offer_length h < 2 ^ 32) × (file_length h < 2 ^ 32)
file_small h e =
    let rows : h.rows ≤ 64 = grind (arith, nat_tests) in
    let columns : h.columns ≤ 8 = grind (arith, nat_tests) in
    let offers : h.offers ≤ 16 = grind (arith, nat_tests) in
    grind (arith, mul-le)

-- the header that is read from what was written
header_back : (h : Header) (rest : List ℕ) → in_range h ≡ true → 32 + length rest ≡ file_length h → header_of (header_bytes h ++ rest) ≡ Ok h
header_back h rest e long = let small = file_small h e in grind (arith, nat_tests, spelled)

-- the part of a file that follows another one
drop-after : (at long : ℕ) (bs part rest : List ℕ) → drop at bs ≡ part ++ rest → length part ≡ long → drop (at + long) bs ≡ rest
drop-after at long bs part rest e l = cc (drop-drop long at bs, drop_at part rest long l)

-- the offer that is read at i, where the offers that were written begin at their place
offer_at : (f : FitText) (bs : List ℕ) → header_of bs ≡ Ok (counts_in f) → drop (offers_at (counts_in f)) bs ≡ flat_map offer_bytes f.offers → All (λ o. length (offer_bytes o) ≡ offer_length (counts_in f)) f.offers → (i : ℕ) → offer_of bs i ≡ Ok (options.option_map (offer_in f i) (slice_get f.offers i))
offer_at f bs counts from each i =
    let h : Header = counts_in f in
    let L : ℕ = offer_length h in
    let none : OfferText = record { kind = 0; numbers = [] } in
    let part : i < length f.offers → cut (offers_at h + i * L) L bs ≡ offer_bytes (get_or f.offers i none) =
    λ below. cc (drop-drop (i * L) (offers_at h) bs, cut-joined offer_bytes L f.offers i none each below) in
    grind (arith, nat_tests, slice_get-get_or f.offers i none, slice_get_past f.offers i)

pub read_back : (bs : List ℕ) (f : FitText) → Proper f → bs ≡ file_of f → ReadBack f bs
read_back bs f p e =
    let h : Header = counts_in f in
    let entries : List ℕ = numbers_bytes f.entries in
    let figures : List ℕ = numbers_bytes f.figures in
    let offers : List ℕ = flat_map offer_bytes f.offers in
    let each : All (λ o. length (offer_bytes o) ≡ offer_length h) f.offers = λ i d below. length-offer h (get_or f.offers i d) (p.offers i d below) in
    let long-entries : length entries ≡ 8 * (h.rows * h.columns) = omega (arith, length-numbers f.entries) in
    let long-figures : length figures ≡ 8 * h.rows = omega (arith, length-numbers f.figures) in
    let long : 32 + length (entries ++ (figures ++ offers)) ≡ file_length h = simp length-append (omega (arith, length-joined offer_bytes (offer_length h) f.offers each)) in
    let counts : header_of bs ≡ Ok h = ap header_of e ∙ header_back h (entries ++ (figures ++ offers)) p.counts long in
    let from-rows : drop rows_at bs ≡ entries ++ (figures ++ offers) = ap (drop 32) e in
    let from-figures = drop-after rows_at (8 * (h.rows * h.columns)) bs entries (figures ++ offers) from-rows long-entries in
    let from-offers = drop-after (figures_at h) (8 * h.rows) bs figures offers from-figures long-figures in
    record {
      counts = counts;
      rows = cc (take_at entries (figures ++ offers) (8 * (h.rows * h.columns)) long-entries);
      figures = cc (take_at figures offers (8 * h.rows) long-figures);
      offers = offer_at f bs counts from-offers each;
      entry_numbers = numbers_back (rows_in f) f.entries refl p.entries_fit;
      figure_numbers = numbers_back (figures_in f) f.figures refl p.figures_fit;
      each_offer = λ i d below. offer_back h (get_or f.offers i d) (p.offers i d below);
    }
