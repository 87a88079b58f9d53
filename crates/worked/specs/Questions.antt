-- What a worked case asks, and what the definitions answer. A layer that comes adds its questions and answers here. Assumes nothing.
--     Calculation   sums, differences and products of values that are made from two ends, in grains
--     Question      calculated k c       the interval of c in the arithmetic of kind k
--                   ends_record l h      the interval that a record of the ends arithmetic means, with these fields
--                   centre_record c r    the same in the centre arithmetic
--                   judged F O           the exact â, d̂ and s of the offer O for the fit F
--                   written f            the fit file of f
--                   counted bs           the counts in the header of the file bs
--     Answer        interval l h         its two ends, in grains
--                   refused n            the number of the refusal
--                   numbers â d̂ s        the first two in units of 2^-96, s column by column in grains
--                   bytes bs             the bytes of a file
--                   counts m n k         rows, columns and offers
--     answer q      what the definitions answer to q
use Rattle.std.specs.Prelude.{ℕ, zero, suc, List, [], ◌∷◌, ℤ, Ok, Err, Result}
use Rattle.exact.specs.Fits.{Fit}
use Rattle.exact.specs.Offers.{Offer, â, d̂, s}
use Rattle.arithmetic.specs.Intervals.{Interval}
use Rattle.arithmetic.specs.Refusals.{number}
use Rattle.arithmetic.specs.Operations.{Ops, making, adding, subtracting, multiplying}
use Rattle.arithmetic.specs.declared.refusal.Refusal.{Refusal}
use Rattle.ends.specs.Ends as ends
use Rattle.centre.specs.Centre as centre
use Rattle.fitfile.specs.declared.words.Header.{Header}
use Rattle.fitfile.specs.declared.refusal.FileRefusal.{FileRefusal}
use Rattle.fitfile.specs.declared.section.Kind.{Kind}
use Rattle.fitfile.specs.declared.section.Kind.TheVariants.{Ends, Centre}
use Rattle.fitfile.specs.Refusals.{file_number}
use Rattle.fitfile.specs.Header.{header_of}
use Rattle.fitfile.specs.Writing.{FitText, file_of}

infix 8 ◌to◌
infixl 7 ◌times◌
infixl 6 ◌plus◌ ◌minus◌
pub data Calculation : Type 0 where
  ◌to◌ : ℤ → ℤ → Calculation
  ◌plus◌ : Calculation → Calculation → Calculation
  ◌minus◌ : Calculation → Calculation → Calculation
  ◌times◌ : Calculation → Calculation → Calculation

pub data Question : Type 0 where
  calculated : Kind → Calculation → Question
  ends_record : ℤ → ℤ → Question
  centre_record : ℤ → ℕ → Question
  judged : Fit → Offer → Question
  written : FitText → Question
  counted : List ℕ → Question

pub data Answer : Type 0 where
  interval : ℤ → ℤ → Answer
  refused : ℕ → Answer
  numbers : ℕ → ℕ → List ℕ → Answer
  bytes : List ℕ → Answer
  counts : ℕ → ℕ → ℕ → Answer

-- the next step, where there was no refusal
abbrev pub then : {U V : Type 0} → Result U Refusal → (U → Result V Refusal) → Result V Refusal
then (Ok u) f = f u
then (Err e) f = Err e

-- what a calculation comes to, in any arithmetic
abbrev pub value : {V : Type 0} → Ops V → Calculation → Result V Refusal
value o (l to h) = making o l h
value o (x plus y) = then (value o x) (λ a. then (value o y) (λ b. adding o a b))
value o (x minus y) = then (value o x) (λ a. then (value o y) (λ b. subtracting o a b))
value o (x times y) = then (value o x) (λ a. then (value o y) (λ b. multiplying o a b))

-- an interval, a call's answer and a header's counts, as answers
abbrev pub shown : Interval → Answer
shown i = interval i.low i.high

abbrev pub result : {V : Type 0} → Ops V → Result V Refusal → Answer
result o (Ok v) = shown (o.means v)
result o (Err e) = refused (number e)

abbrev pub header : Result Header FileRefusal → Answer
header (Ok h) = counts h.rows h.columns h.offers
header (Err e) = refused (file_number e)

-- f 0, .. , f (n - 1)
abbrev pub listed : ℕ → (ℕ → ℕ) → List ℕ
listed zero f = []
listed (suc n) f = f 0 ∷ listed n (λ i. f (suc i))

abbrev pub answer : Question → Answer
answer (calculated Ends c) = result ends.ends_ops (value ends.ends_ops c)
answer (calculated Centre c) = result centre.centre_ops (value centre.centre_ops c)
answer (ends_record l h) = shown (ends.means (record { low = l; high = h }))
answer (centre_record c r) = shown (centre.means (record { centre = c; radius = r }))
answer (judged F O) = numbers (â F O) (d̂ F O) (listed F.columns (s F O))
answer (written f) = bytes (file_of f)
answer (counted bs) = header (header_of bs)
