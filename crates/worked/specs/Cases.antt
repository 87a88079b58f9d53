-- The worked cases, in one list: each was worked by hand, and the definitions answer the same. Assumes nothing.
use Rattle.std.specs.Prelude.{◌≡◌, ℕ, ◌+◌, ◌-◌, ◌*◌, ◌^◌, List, [], ◌∷◌, map, length, ℤ, pos, neg_ℤ, slice_index_or}
use Rattle.exact.specs.Fits.{g, Fit}
use Rattle.exact.specs.Offers.{Offer}
use Rattle.fitfile.specs.declared.section.Kind.TheVariants.{Ends, Centre}
use Rattle.fitfile.specs.Writing.{FitText}
use Rattle.worked.specs.Questions.{Calculation, ◌to◌, ◌plus◌, ◌minus◌, ◌times◌, Question, calculated, ends_record, centre_record, judged, written, counted}
use Rattle.worked.specs.Questions.{Answer, interval, refused, numbers, bytes, counts, answer}

infix 4 ◌is◌
pub data Case : Type 0 where
  ◌is◌ : Question → Answer → Case

abbrev pub asked : Case → Question
asked (q is a) = q

abbrev pub expected : Case → Answer
expected (q is a) = a

-- ---- numbers, in grains
abbrev neg : ℕ → ℤ
neg n = neg_ℤ (pos n)

abbrev point : ℤ → Calculation
point z = z to z

-- ---- fits and offers, row by row
abbrev entry : List (List ℤ) → ℕ → ℕ → ℤ
entry rows i j = slice_index_or (slice_index_or rows i []) j (pos 0)

abbrev fit : ℕ → List (List ℤ) → List ℤ → Fit
fit n rows b = record { rows = length rows; columns = n; A = entry rows; b = λ i. slice_index_or b i (pos 0) }

abbrev offer : List (List ℤ) → List ℤ → List ℤ → Offer
offer S x w = record { S = entry S; x = λ j. slice_index_or x j (pos 0); w = λ i. slice_index_or w i (pos 0) }

-- one column: A = (g), b = (3g)
abbrev single : Fit
single = fit 1 ((pos g ∷ []) ∷ []) (pos (3 * g) ∷ [])

-- two rows of g, b = (g, 2g)
abbrev pair : Fit
pair = fit 1 ((pos g ∷ []) ∷ (pos g ∷ []) ∷ []) (pos g ∷ pos (2 * g) ∷ [])

-- rows (g, 0), (0, g) and (g, g), each with the figure g
abbrev corner : Fit
corner = fit 2 ((pos g ∷ pos 0 ∷ []) ∷ (pos 0 ∷ pos g ∷ []) ∷ (pos g ∷ pos g ∷ []) ∷ []) (pos g ∷ pos g ∷ pos g ∷ [])

-- the first fit with an offer of each kind
abbrev single_text : FitText
single_text = record {
  rows = 1;
  columns = 1;
  entries = pos g ∷ [];
  figures = pos (3 * g) ∷ [];
  offers = record { kind = 1; numbers = pos g ∷ pos 41943040 ∷ pos 0 ∷ [] } ∷ record { kind = 2; numbers = pos 25165824 ∷ pos (3 * g) ∷ pos 0 ∷ [] } ∷ [];
}

abbrev single_bytes : List ℕ
single_bytes =
    1 ∷ 0 ∷ 0 ∷ 0 ∷ 1 ∷ 0 ∷ 0 ∷ 0 ∷ 2 ∷ 0 ∷ 0 ∷ 0 ∷ 32 ∷ 0 ∷ 0 ∷ 0
    ∷ 40 ∷ 0 ∷ 0 ∷ 0 ∷ 48 ∷ 0 ∷ 0 ∷ 0 ∷ 32 ∷ 0 ∷ 0 ∷ 0 ∷ 112 ∷ 0 ∷ 0 ∷ 0
    ∷ 0 ∷ 0 ∷ 0 ∷ 1 ∷ 0 ∷ 0 ∷ 0 ∷ 0 ∷ 0 ∷ 0 ∷ 0 ∷ 3 ∷ 0 ∷ 0 ∷ 0 ∷ 0
    ∷ 1 ∷ 0 ∷ 0 ∷ 0 ∷ 0 ∷ 0 ∷ 0 ∷ 0 ∷ 0 ∷ 0 ∷ 0 ∷ 1 ∷ 0 ∷ 0 ∷ 0 ∷ 0
    ∷ 0 ∷ 0 ∷ 128 ∷ 2 ∷ 0 ∷ 0 ∷ 0 ∷ 0 ∷ 0 ∷ 0 ∷ 0 ∷ 0 ∷ 0 ∷ 0 ∷ 0 ∷ 0
    ∷ 2 ∷ 0 ∷ 0 ∷ 0 ∷ 0 ∷ 0 ∷ 0 ∷ 0 ∷ 0 ∷ 0 ∷ 128 ∷ 1 ∷ 0 ∷ 0 ∷ 0 ∷ 0
    ∷ 0 ∷ 0 ∷ 0 ∷ 3 ∷ 0 ∷ 0 ∷ 0 ∷ 0 ∷ 0 ∷ 0 ∷ 0 ∷ 0 ∷ 0 ∷ 0 ∷ 0 ∷ 0 ∷ []

-- ---- the list
abbrev pub cases : List Case
cases =
    -- products are rounded outward
    (calculated Ends (point (pos 1) times point (pos 1)) is interval (pos 0) (pos 1))
    ∷ (calculated Centre (point (pos 1) times point (pos 1)) is interval (neg 1) (pos 1))
    ∷ (calculated Ends (point (neg 1) times point (pos 1)) is interval (neg 1) (pos 0))
    ∷ (calculated Centre (point (neg 1) times point (pos 1)) is interval (neg 1) (pos 1))
    ∷ (calculated Ends (neg (2 * g) to pos (3 * g) times pos 4 to pos 5) is interval (neg 10) (pos 15))
    ∷ (calculated Centre (neg (2 * g) to pos (3 * g) times pos 4 to pos 5) is interval (neg 12) (pos 16))
    -- making
    ∷ (calculated Ends (neg 4 to neg 3) is interval (neg 4) (neg 3))
    ∷ (calculated Centre (neg 4 to neg 3) is interval (neg 5) (neg 3))
    ∷ (calculated Ends (pos 1 to pos 0) is refused 14)
    ∷ (calculated Centre (pos 1 to pos 0) is refused 14)
    ∷ (calculated Ends (neg (2 ^ 44) to pos (2 ^ 44)) is interval (neg (2 ^ 44)) (pos (2 ^ 44)))
    ∷ (calculated Centre (neg (2 ^ 44) to pos (2 ^ 44)) is interval (neg (2 ^ 44)) (pos (2 ^ 44)))
    ∷ (calculated Ends (point (pos (2 ^ 44 + 1))) is refused 14)
    ∷ (calculated Centre (point (neg (2 ^ 44 + 1))) is refused 14)
    -- the limit of products
    ∷ (calculated Ends (point (pos (2 ^ 31)) times point (pos (2 ^ 31))) is interval (pos (2 ^ 38)) (pos (2 ^ 38)))
    ∷ (calculated Centre (point (pos (2 ^ 31)) times point (pos (2 ^ 31))) is interval (pos (2 ^ 38 - 1)) (pos (2 ^ 38 + 1)))
    ∷ (calculated Ends (point (pos (2 ^ 31)) times point (pos (2 ^ 31 + 1))) is refused 15)
    ∷ (calculated Centre (point (pos (2 ^ 31)) times point (pos (2 ^ 31 + 1))) is refused 15)
    -- sums and differences, and their limit
    ∷ (calculated Ends (pos 1 to pos 2 minus pos 3 to pos 5) is interval (neg 4) (neg 1))
    ∷ (calculated Centre (pos 1 to pos 2 minus pos 3 to pos 5) is interval (neg 5) (neg 1))
    ∷ (calculated Ends (point (pos (2 ^ 44)) plus point (pos (2 ^ 44))) is interval (pos (2 ^ 45)) (pos (2 ^ 45)))
    ∷ (calculated Centre (point (pos (2 ^ 44)) plus point (pos (2 ^ 44))) is interval (pos (2 ^ 45)) (pos (2 ^ 45)))
    ∷ (calculated Ends (point (pos (2 ^ 44)) plus point (pos (2 ^ 44)) plus point (pos 1)) is refused 16)
    ∷ (calculated Centre (point (pos (2 ^ 44)) plus point (pos (2 ^ 44)) plus point (pos 1)) is refused 16)
    ∷ (calculated Ends (point (neg (2 ^ 44)) minus point (pos (2 ^ 44)) minus point (pos 1)) is refused 16)
    ∷ (calculated Centre (point (neg (2 ^ 44)) minus point (pos (2 ^ 44)) minus point (pos 1)) is refused 16)
    -- records that hold two ends, and records that hold none
    ∷ (ends_record (neg (2 ^ 45)) (pos (2 ^ 45)) is interval (neg (2 ^ 45)) (pos (2 ^ 45)))
    ∷ (ends_record (pos 1) (pos 0) is interval (pos 0) (pos 0))
    ∷ (ends_record (pos 1) (pos (2 ^ 45 + 1)) is interval (pos 0) (pos 0))
    ∷ (centre_record (pos 1) (2 ^ 45 - 1) is interval (neg (2 ^ 45 - 2)) (pos (2 ^ 45)))
    ∷ (centre_record (pos 1) (2 ^ 45) is interval (pos 0) (pos 0))
    -- an offer for one column: exact, then off by half, then with too large an S
    ∷ (judged single (offer ((pos g ∷ []) ∷ []) (pos (3 * g) ∷ []) (pos 0 ∷ [])) is numbers 0 0 (g ∷ []))
    ∷ (judged single (offer ((pos g ∷ []) ∷ []) (pos 41943040 ∷ []) (pos 0 ∷ [])) is numbers 0 (2 ^ 95) (g ∷ []))
    ∷ (judged single (offer ((pos 25165824 ∷ []) ∷ []) (pos (3 * g) ∷ []) (pos 0 ∷ [])) is numbers (5 * 2 ^ 94) 0 (25165824 ∷ []))
    -- two rows, where S = g gives a largest row sum of one
    ∷ (judged pair (offer ((pos g ∷ []) ∷ []) (pos 25165824 ∷ []) (pos 8388608 ∷ neg 8388608 ∷ [])) is numbers (2 ^ 96) 0 (g ∷ []))
    -- two columns: s goes along the rows of S
    ∷ (judged corner (offer ((pos 12582912 ∷ neg 4194304 ∷ []) ∷ (pos 0 ∷ pos 12582912 ∷ []) ∷ []) (pos 10485760 ∷ pos 10485760 ∷ []) [])
    is numbers (5 * 2 ^ 92) (3 * 2 ^ 91) (g ∷ 12582912 ∷ []))
    -- a fit file
    ∷ (written single_text is bytes single_bytes)
    ∷ (counted single_bytes is counts 1 1 2)
    ∷ (counted (1 ∷ 2 ∷ 3 ∷ []) is refused 20)
    ∷ []

abbrev pub CasesHold : Type 0
CasesHold = map (λ c. answer (asked c)) cases ≡ map expected cases
