-- Words and numbers in the bytes of a file, low byte first. A byte past the end counts as 0. Assumes nothing.
use Rattle.std.specs.Prelude.{ℕ, ◌+◌, ◌*◌, List, ℤ, slice_index}
use Rattle.std.proofs.Common.{to_z}
use Rattle.std.specs.Int.{w64}

-- the unsigned word of four bytes that begins at a place
abbrev pub word : List ℕ → ℕ → ℕ
word bs at = slice_index bs at + slice_index bs (at + 1) * 256 + slice_index bs (at + 2) * 65536 + slice_index bs (at + 3) * 16777216

-- the unsigned number of eight bytes that begins at a place: two words
abbrev pub bits : List ℕ → ℕ → ℕ
bits bs at = word bs at + word bs (at + 4) * 4294967296

-- the number in two's complement of eight bytes that begins at a place
abbrev pub number : List ℕ → ℕ → ℤ
number bs at = to_z w64 (bits bs at)
