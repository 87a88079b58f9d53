-- What is printed of a fit file. Assumes nothing.
use Rattle.std.specs.Prelude.{ℕ, cond, List, [], ◌∷◌, ◌++◌, is_ok, Ok, Err, Result}
use Rattle.fitfile.specs.declared.Header.{Header}
use Rattle.fitfile.specs.declared.FileRefusal.{FileRefusal}
use Rattle.fitfile.specs.Header.{header_of}
use Rattle.fitfile.specs.Refusals.{file_number}
use Rattle.printout.specs.declared.Line.{Line}
use Rattle.printout.specs.declared.Line.TheVariants.{Book, FileRefused}
use Rattle.printout.specs.Printouts.{text_of}

-- a text after a call that was to add some bytes to it: with them, or as it was where the call failed
abbrev pub grown : {T E : Type 0} → List ℕ → List ℕ → Result T E → List ℕ
grown text more r = cond (is_ok r) (text ++ more) text

-- the lines after the reader's answer: the counts of the book, or why the file is refused
abbrev pub lines_after : Result Header FileRefusal → List Line
lines_after (Ok h) = Book h.rows h.columns ∷ []
lines_after (Err e) = FileRefused (file_number e) ∷ []

-- the lines of a file's printout
abbrev pub lines_of : List ℕ → List Line
lines_of bs = lines_after (header_of bs)

-- the whole printout of a file
abbrev pub printed : List ℕ → List ℕ
printed bs = text_of (lines_of bs)
