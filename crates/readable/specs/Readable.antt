-- That a printout can be read in one way only. Assumes nothing.
use Rattle.std.specs.Prelude.{◌≡◌, List}
use Rattle.std.specs.List.{All}
use Rattle.printout.specs.declared.Line.{Line}
use Rattle.printout.specs.Printouts.{Fits64, text_of}

-- lines whose numbers fit 64 bits are told by their text: which lines there are, in which order, with which numbers
abbrev pub OneReading : Type 0
OneReading = (ls ks : List Line) → All Fits64 ls → All Fits64 ks → text_of ls ≡ text_of ks → ls ≡ ks
