-- The format from its writer's side: the file of a fit, and what it is for a file to be read back as that fit. Assumes nothing.
-- Places and lengths are in bytes; a place counts from the start of the file.
use Rattle.std.specs.Prelude.{◌≡◌, ℕ, ◌+◌, ◌*◌, ◌/◌, ◌%◌, ◌^◌, ◌<◌, true, List, [], ◌∷◌, ◌++◌, length, ℤ, Ok, FitsSigned}
use Rattle.std.specs.Int.{w64}
use Rattle.std.proofs.Common.{of_z}
use Rattle.std.specs.List.{slice_get, flat_map, All}
use Rattle.std.specs.Option as options
use Rattle.fitfile.specs.declared.words.Header.{Header}
use Rattle.fitfile.specs.Header.{header_of, rows_at, figures_at, offers_at, offer_numbers, offer_length, file_length, in_range}
use Rattle.fitfile.specs.Sections.{Plain, rows, figures, offer, rows_of, figures_of, offer_of, number_at, kind_by, kind_of}

-- an offer as it is written: its kind word, and the numbers of S, x and w one after the other
pub record OfferText : Type 0 where
  pub kind : ℕ
  pub numbers : List ℤ

-- a fit as it is written: m, n, the entries of A row by row, a figure for each row, and the offers
pub record FitText : Type 0 where
  pub rows : ℕ
  pub columns : ℕ
  pub entries : List ℤ
  pub figures : List ℤ
  pub offers : List OfferText

-- the counts that a fit's header gives
abbrev pub counts_in : FitText → Header
counts_in f = record { rows = f.rows; columns = f.columns; offers = length f.offers }

-- the four bytes of an unsigned word, low byte first
abbrev pub word_bytes : ℕ → List ℕ
word_bytes v = v % 256 ∷ v / 256 % 256 ∷ v / 65536 % 256 ∷ v / 16777216 % 256 ∷ []

-- the eight bytes of a number in two's complement: its two words, low word first
abbrev pub number_bytes : ℤ → List ℕ
number_bytes z = word_bytes (of_z w64 z % 4294967296) ++ word_bytes (of_z w64 z / 4294967296)

-- the bytes of numbers, one after the other
abbrev pub numbers_bytes : List ℤ → List ℕ
numbers_bytes zs = flat_map number_bytes zs

-- an offer's kind word, a zero word, and its numbers
abbrev pub offer_bytes : OfferText → List ℕ
offer_bytes o = word_bytes o.kind ++ (word_bytes 0 ++ numbers_bytes o.numbers)

-- the eight words of a header: the counts, and the places and lengths that they ask for
abbrev pub header_bytes : Header → List ℕ
header_bytes h = flat_map word_bytes (h.rows ∷ h.columns ∷ h.offers ∷ rows_at ∷ figures_at h ∷ offers_at h ∷ offer_length h ∷ file_length h ∷ [])

-- the file of a fit: its header, entries, figures and offers, with nothing between them and nothing after them
abbrev pub file_of : FitText → List ℕ
file_of f = header_bytes (counts_in f) ++ (numbers_bytes f.entries ++ (numbers_bytes f.figures ++ flat_map offer_bytes f.offers))

-- what the format asks of an offer, where the counts are h: the kind fits a word, and each number fits 64 bits
pub record ProperOffer (h : Header) (o : OfferText) : Type 0 where
  pub kind : o.kind < 2 ^ 32
  pub long : length o.numbers ≡ offer_numbers h
  pub fit : All (FitsSigned w64) o.numbers

-- what the format asks of a fit: counts within their limits, as many numbers as they say, and numbers that fit 64 bits
pub record Proper (f : FitText) : Type 0 where
  pub counts : in_range (counts_in f) ≡ true
  pub entries : length f.entries ≡ f.rows * f.columns
  pub figures : length f.figures ≡ f.rows
  pub entries_fit : All (FitsSigned w64) f.entries
  pub figures_fit : All (FitsSigned w64) f.figures
  pub offers : All (ProperOffer (counts_in f)) f.offers

-- the rows of a fit's file, with their place
abbrev pub rows_in : FitText → Plain
rows_in f = rows rows_at (numbers_bytes f.entries)

-- the figures of a fit's file, with their place
abbrev pub figures_in : FitText → Plain
figures_in f = figures (figures_at (counts_in f)) (numbers_bytes f.figures)

-- an offer of a fit's file, with its place, where it is the one at the index i
abbrev pub offer_in : FitText → ℕ → OfferText → Plain
offer_in f i o = offer (offers_at (counts_in f) + i * offer_length (counts_in f)) (offer_bytes o)

-- an offer's bytes are read as the offer: its kind, each number, and none past the last one
pub record OfferBack (o : OfferText) : Type 0 where
  pub kind : kind_of (offer_bytes o) ≡ kind_by o.kind
  pub numbers : (at i : ℕ) → number_at (offer at (offer_bytes o)) i ≡ slice_get o.numbers i

-- the bytes bs are read as the fit f: its counts, each section, each number in them, each offer, and none past the last one
pub record ReadBack (f : FitText) (bs : List ℕ) : Type 0 where
  pub counts : header_of bs ≡ Ok (counts_in f)
  pub rows : rows_of bs ≡ Ok (rows_in f)
  pub figures : figures_of bs ≡ Ok (figures_in f)
  pub offers : (i : ℕ) → offer_of bs i ≡ Ok (options.option_map (offer_in f i) (slice_get f.offers i))
  pub entry_numbers : (i : ℕ) → number_at (rows_in f) i ≡ slice_get f.entries i
  pub figure_numbers : (i : ℕ) → number_at (figures_in f) i ≡ slice_get f.figures i
  pub each_offer : All OfferBack f.offers
