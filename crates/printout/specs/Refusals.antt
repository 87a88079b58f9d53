-- The numbers of the refusals. Assumes nothing.
use Rattle.std.specs.Prelude.{ℕ}
use Rattle.printout.specs.declared.refusal.Refusal.{Refusal}
use Rattle.printout.specs.declared.refusal.Refusal.TheVariants.{ShortBuffer}

-- the number of each refusal
abbrev pub number : Refusal → ℕ
number ShortBuffer = 17
