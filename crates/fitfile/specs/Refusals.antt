-- The number of each refusal. Assumes nothing.
use Rattle.std.specs.Prelude.{ℕ}
use Rattle.fitfile.specs.declared.refusal.FileRefusal.{FileRefusal}
use Rattle.fitfile.specs.declared.refusal.FileRefusal.TheVariants.{WrongLength, CountOutOfRange, WrongLayout}
use Rattle.fitfile.specs.declared.refusal.OfferRefusal.{OfferRefusal}
use Rattle.fitfile.specs.declared.refusal.OfferRefusal.TheVariants.{UnknownKind}

-- why a file is refused
abbrev pub file_number : FileRefusal → ℕ
file_number WrongLength = 20
file_number CountOutOfRange = 21
file_number WrongLayout = 22

-- why a single offer of a file is refused
abbrev pub offer_number : OfferRefusal → ℕ
offer_number UnknownKind = 23
