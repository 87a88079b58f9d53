-- The header of a fit file: its words, the layout that its counts ask for, and when a file is refused. Assumes nothing.
-- Places and lengths are in bytes; a place counts from the start of the file.
use Rattle.std.specs.Prelude.{ℕ, ◌+◌, ◌*◌, ◌/◌, Bool, cond, ◌&&◌, List, length, Ok, Err, Result, ◌==◌, nat_le}
use Rattle.fitfile.specs.declared.words.Header.{Header}
use Rattle.fitfile.specs.declared.words.Words.{Words}
use Rattle.fitfile.specs.declared.refusal.FileRefusal.{FileRefusal}
use Rattle.fitfile.specs.declared.refusal.FileRefusal.TheVariants.{WrongLength, CountOutOfRange, WrongLayout}
use Rattle.fitfile.specs.Bytes.{word}

-- the eight words that a file begins with: the counts, then the places and lengths
abbrev pub words_of : List ℕ → Words
words_of bs =
    record {
      counts = record { rows = word bs 0; columns = word bs 4; offers = word bs 8 };
      rows_at = word bs 12;
      figures_at = word bs 16;
      offers_at = word bs 20;
      offer_length = word bs 24;
      file_length = word bs 28;
    }

-- the rows of A begin after the header
abbrev pub rows_at : ℕ
rows_at = 32

-- the figures begin after the rows: an entry takes 8 bytes
abbrev pub figures_at : Header → ℕ
figures_at h = rows_at + 8 * (h.rows * h.columns)

-- the offers begin after the figures, of which each row has one
abbrev pub offers_at : Header → ℕ
offers_at h = figures_at h + 8 * h.rows

-- how many numbers an offer holds: S, x and w
abbrev pub offer_numbers : Header → ℕ
offer_numbers h = h.columns * (h.columns + 1) / 2 + h.columns + h.rows

-- an offer's two words and its numbers
abbrev pub offer_length : Header → ℕ
offer_length h = 8 + 8 * offer_numbers h

-- all that comes before the offers, and the offers
abbrev pub file_length : Header → ℕ
file_length h = offers_at h + h.offers * offer_length h

-- m is 1 to 64, n is 1 to 8, and there are at most 16 offers
abbrev pub in_range : Header → Bool
in_range h = nat_le 1 h.rows && nat_le h.rows 64 && nat_le 1 h.columns && nat_le h.columns 8 && nat_le h.offers 16

-- the words give the places and lengths that the counts ask for
abbrev pub agrees : Header → Words → Bool
agrees h w = w.rows_at == rows_at && w.figures_at == figures_at h && w.offers_at == offers_at h && w.offer_length == offer_length h && w.file_length == file_length h

-- there is a whole header, and its last word is the number of bytes
abbrev pub length_agrees : List ℕ → Bool
length_agrees bs = nat_le 32 (length bs) && word bs 28 == length bs

-- the counts of a file, or the first test that it fails
abbrev pub header_of : List ℕ → Result Header FileRefusal
header_of bs =
    let w = words_of bs in
    let h = w.counts in
    cond (length_agrees bs) (cond (in_range h) (cond (agrees h w) (Ok h) (Err WrongLayout)) (Err CountOutOfRange)) (Err WrongLength)
