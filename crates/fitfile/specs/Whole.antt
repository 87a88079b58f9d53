-- What is known of every file that is accepted. Assumes nothing.
use Rattle.std.specs.Prelude.{◌≡◌, ℕ, zero, suc, ◌+◌, ◌*◌, ◌≤◌, List, [], ◌++◌, length, take}
use Rattle.fitfile.specs.declared.words.Header.{Header}
use Rattle.fitfile.specs.Header.{rows_at, figures_at, offers_at, offer_length, file_length}
use Rattle.fitfile.specs.Sections.{cut}

-- the first k offers of a file, one after the other
abbrev pub offers_of : Header → List ℕ → ℕ → List ℕ
offers_of h bs zero = []
offers_of h bs (suc k) = offers_of h bs k ++ cut (offers_at h + k * offer_length h) (offer_length h) bs

-- the counts h are within their limits, and the file is its header, rows, figures and offers, with nothing between them and nothing after them
pub record Whole (h : Header) (bs : List ℕ) : Type 0 where
  pub rows : (1 ≤ h.rows) × (h.rows ≤ 64)
  pub columns : (1 ≤ h.columns) × (h.columns ≤ 8)
  pub offers : h.offers ≤ 16
  pub long : length bs ≡ file_length h
  pub tiled : bs ≡ take rows_at bs ++ (cut rows_at (8 * (h.rows * h.columns)) bs ++ (cut (figures_at h) (8 * h.rows) bs ++ offers_of h bs h.offers))
