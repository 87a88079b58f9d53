-- The number of each refusal of an offer. Assumes nothing.
use Rattle.std.specs.Prelude.{ℕ}
use Rattle.offer.specs.Refusals.{entry_number}
use Rattle.arithmetic.specs.Refusals as arithmetic
use Rattle.examination.specs.declared.refusal.Refusal.{Refusal}
use Rattle.examination.specs.declared.refusal.Refusal.TheVariants.{Entry, RowSum, Radius, Arithmetic}

abbrev pub number : Refusal → ℕ
number (Entry e) = entry_number e
number RowSum = 10
number Radius = 11
number (Arithmetic e) = arithmetic.number e
