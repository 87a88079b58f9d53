-- A printout as a list of lines. Assumes nothing.
use Rattle.std.specs.Prelude.{ℕ, ◌^◌, ◌<◌, List, FitsSigned}
use Rattle.std.specs.Int.{w64}
use Rattle.std.specs.List.{flat_map}
use Rattle.printout.specs.declared.line.Line.{Line}
use Rattle.printout.specs.declared.line.Line.TheVariants.{Book, Granted, Refused, Column, NoInterval, FileRefused}
use Rattle.printout.specs.Lines.{book_line, granted_line, refused_line, file_refused_line, none_line, column_line}

-- the bytes of a line
abbrev pub bytes_of : Line → List ℕ
bytes_of (Book m n) = book_line m n
bytes_of (Granted i a) = granted_line i a
bytes_of (Refused i k) = refused_line i k
bytes_of (Column j l h) = column_line j l h
bytes_of (NoInterval j) = none_line j
bytes_of (FileRefused k) = file_refused_line k

-- the bytes of a printout
abbrev pub text_of : List Line → List ℕ
text_of lines = flat_map bytes_of lines

-- the numbers of a line fit 64 bits
abbrev pub Fits64 : Line → Type 0
Fits64 (Book m n) = (m < 2 ^ 64) × (n < 2 ^ 64)
Fits64 (Granted i a) = (i < 2 ^ 64) × (a < 2 ^ 64)
Fits64 (Refused i k) = (i < 2 ^ 64) × (k < 2 ^ 64)
Fits64 (Column j l h) = (j < 2 ^ 64) × FitsSigned w64 l × FitsSigned w64 h
Fits64 (NoInterval j) = j < 2 ^ 64
Fits64 (FileRefused k) = k < 2 ^ 64
