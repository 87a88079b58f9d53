-- The sections of a fit file, and the numbers in them. Assumes nothing.
use Rattle.std.specs.Prelude.{ℕ, ◌+◌, ◌*◌, ◌/◌, cond, ◌&&◌, List, length, take, drop, ℤ, Some, None, Ok, Err, Option, Result, ◌==◌, nat_le, nat_lt}
use Rattle.std.specs.Option as options
use Rattle.std.specs.Result as results
use Rattle.fitfile.specs.declared.words.Header.{Header}
use Rattle.fitfile.specs.declared.refusal.FileRefusal.{FileRefusal}
use Rattle.fitfile.specs.declared.refusal.OfferRefusal.{OfferRefusal}
use Rattle.fitfile.specs.declared.refusal.OfferRefusal.TheVariants.{UnknownKind}
use Rattle.fitfile.specs.declared.section.Kind.{Kind}
use Rattle.fitfile.specs.declared.section.Kind.TheVariants.{Ends, Centre}
use Rattle.fitfile.specs.declared.section.Section.{Section}
use Rattle.fitfile.specs.declared.section.Section.TheVariants.{Rows, Figures, Offer}
use Rattle.fitfile.specs.Bytes.{word, number}
use Rattle.fitfile.specs.Header.{header_of, rows_at, figures_at, offers_at, offer_length}

-- a section by plain values: which one it is, its place in the file, and its bytes
pub data Plain : Type 0 where
  rows : ℕ → List ℕ → Plain
  figures : ℕ → List ℕ → Plain
  offer : ℕ → List ℕ → Plain

-- the plain values of a section
abbrev pub plain : Section → Plain
plain (Rows p) = rows p.at p.bytes.now
plain (Figures p) = figures p.at p.bytes.now
plain (Offer p) = offer p.at p.bytes.now

-- so many bytes of a file, from a place on
abbrev pub cut : ℕ → ℕ → List ℕ → List ℕ
cut at long bs = take long (drop at bs)

-- the answer of a reader: a section, or why the file is refused
abbrev pub shown : Result Section FileRefusal → Result Plain FileRefusal
shown r = results.result_map_both plain (λ e. e) r

-- the same for an offer, of which there may be none at an index
abbrev pub shown_at : Result (Option Section) FileRefusal → Result (Option Plain) FileRefusal
shown_at r = results.result_map_both (options.option_map plain) (λ e. e) r

-- what f makes of the counts of a file, unless the file is refused
abbrev pub read : {T : Type 0} → List ℕ → (Header → T) → Result T FileRefusal
read bs f = results.result_map_both f (λ e. e) (header_of bs)

-- the rows of a file
abbrev pub rows_of : List ℕ → Result Plain FileRefusal
rows_of bs = read bs (λ h. rows rows_at (cut rows_at (8 * (h.rows * h.columns)) bs))

-- the figures of a file
abbrev pub figures_of : List ℕ → Result Plain FileRefusal
figures_of bs = read bs (λ h. figures (figures_at h) (cut (figures_at h) (8 * h.rows) bs))

-- the offer at an index, or none where the file has no more
abbrev pub offer_of : List ℕ → ℕ → Result (Option Plain) FileRefusal
offer_of bs i = read bs (λ h. cond (nat_lt i h.offers) (Some (offer (offers_at h + i * offer_length h) (cut (offers_at h + i * offer_length h) (offer_length h) bs))) None)

-- the bytes of a section's numbers: an offer's begin after its two words
abbrev pub numbers : Plain → List ℕ
numbers (rows at bs) = bs
numbers (figures at bs) = bs
numbers (offer at bs) = drop 8 bs

-- the number at an index of a section, or none past its last one
abbrev pub number_at : Plain → ℕ → Option ℤ
number_at p i = cond (nat_lt i (length (numbers p) / 8)) (Some (number (numbers p) (8 * i))) None

-- the arithmetic that a kind word asks for
abbrev pub kind_by : ℕ → Result Kind OfferRefusal
kind_by k = cond (k == 1) (Ok Ends) (cond (k == 2) (Ok Centre) (Err UnknownKind))

-- the arithmetic that the bytes of an offer ask for: two words, of which the second is 0
abbrev pub kind_of : List ℕ → Result Kind OfferRefusal
kind_of bs = cond (nat_le 8 (length bs) && word bs 4 == 0) (kind_by (word bs 0)) (Err UnknownKind)
