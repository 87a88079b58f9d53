-- What a word of a line shows, and the line that words make. Only the code inside needs it. Assumes nothing.
use Rattle.std.specs.Prelude.{ℕ, ◌+◌, List, [], ◌∷◌, ◌++◌, length, sum_by, decimal}
use Rattle.std.specs.List.{flat_map}
use Rattle.std.specs.Fmt.{signed_decimal}
use Rattle.printout.specs.declared.words.Word.{Word}
use Rattle.printout.specs.declared.words.Word.TheVariants.{Name, Small, Count, Signed}

-- the bytes of a word
abbrev pub shown : Word → List ℕ
shown (Name name) = name.now
shown (Small n) = decimal n
shown (Count n) = decimal n
shown (Signed z) = signed_decimal z

-- a name, each word after a space, and a line feed
abbrev pub line_of : List ℕ → List Word → List ℕ
line_of name words = name ++ (flat_map (λ w. 32 ∷ shown w) words ++ 10 ∷ [])

-- how many bytes a word has at the most: a byte has 3 digits, and a number of 64 bits 20 digits, or 19 and a sign
abbrev pub widest : Word → ℕ
widest (Name name) = length name.now
widest (Small n) = 3
widest (Count n) = 20
widest (Signed z) = 20

-- how many bytes a line has at the most
abbrev pub room : List ℕ → List Word → ℕ
room name words = length name + sum_by (λ w. 1 + widest w) words + 1
