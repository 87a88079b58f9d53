-- The number of each refusal of an arithmetic. Assumes nothing.
use Rattle.std.specs.Prelude.{ℕ}
use Rattle.arithmetic.specs.declared.refusal.Refusal.{Refusal}
use Rattle.arithmetic.specs.declared.refusal.Refusal.TheVariants.{Making, Product, Sum}

abbrev pub number : Refusal → ℕ
number Making = 14
number Product = 15
number Sum = 16
