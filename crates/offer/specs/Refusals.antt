-- The number of each refusal of the entry checks. Assumes nothing.
use Rattle.std.specs.Prelude.{ℕ}
use Rattle.offer.specs.declared.refusal.EntryRefusal.{EntryRefusal}
use Rattle.offer.specs.declared.refusal.EntryRefusal.TheVariants.{ShortWorkArea, FewRows, WrongLength, BeyondLimit, ZeroOnDiagonal}

abbrev pub entry_number : EntryRefusal → ℕ
entry_number ShortWorkArea = 12
entry_number FewRows = 6
entry_number WrongLength = 7
entry_number BeyondLimit = 8
entry_number ZeroOnDiagonal = 9
