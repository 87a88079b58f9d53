use Rattle.std.proofs.Common.{◌≡◌, ℕ, ◌^◌, ◌<◌, List, ◌++◌, take, Ok, Err, Result, sym, refl, ap, ◌∙◌, append-nil, arith}
use Rattle.std.specs.List.{All, AllByRecursion}
use Rattle.std.proofs.lemmas.List.{take_min}
use Rattle.std.proofs.lemmas.List.Elements.{All-from_recursion}
use Rattle.fitfile.specs.declared.Header.{Header}
use Rattle.fitfile.specs.declared.FileRefusal.{FileRefusal}
use Rattle.fitfile.specs.declared.FileRefusal.TheVariants.{WrongLength, CountOutOfRange, WrongLayout}
use Rattle.fitfile.specs.Header.{header_of}
use Rattle.fitfile.specs.Refusals.{file_number}
use Rattle.fitfile.proofs.Accepted.{accepted}
use Rattle.printout.specs.declared.Line.{Line}
use Rattle.printout.specs.Printouts.{Fits64, bytes_of, text_of}
use Rattle.readable.proofs.Reading.{one_reading}
use Rattle.report.specs.Printed.{lines_after, lines_of, printed}
use Rattle.report.proofs.print.Goals as goal

-- the numbers of a printout's lines fit 64 bits
number_fits : (e : FileRefusal) → file_number e < 2 ^ 64
number_fits WrongLength = omega arith
number_fits CountOutOfRange = omega arith
number_fits WrongLayout = omega arith

lines_fit : (bs : List ℕ) (r : Result Header FileRefusal) → r ≡ header_of bs → AllByRecursion Fits64 (lines_after r)
lines_fit bs (Ok h) e = let whole = accepted bs h (sym e) in ((omega (arith, whole.rows), omega (arith, whole.columns)), tt)
lines_fit bs (Err e) r = (number_fits e, tt)

-- so no other lines have its text
read_once : (bs : List ℕ) (ls : List Line) → All Fits64 ls → text_of ls ≡ printed bs → ls ≡ lines_of bs
read_once bs ls fit same = one_reading ls (lines_of bs) fit (All-from_recursion Fits64 (lines_of bs) (lines_fit bs (header_of bs) refl)) same

pub returns-in_err-reserve-clause-one_reading : goal.returns-in_err-reserve-clause-one_reading
returns-in_err-reserve-clause-one_reading c = read_once (take 65536 c.args.input.now)

pub returns-clause-text : goal.returns-clause-text
returns-clause-text c =
    let input = c.args.input.now in
    let front : take c.min.result input ≡ take 65536 input = ap (λ n. take n input) c.min.ensures ∙ take_min 65536 input in
    let line : bytes_of c.heading.result ≡ printed (take 65536 input)
    = sym (append-nil (bytes_of c.heading.result)) ∙ ap text_of (sym c.heading.ensures) ∙ ap printed front in
    c.add_line.ensures ∙ λ t. c.reserve.ensures.items t ++ line t

pub returns-clause-one_reading : goal.returns-clause-one_reading
returns-clause-one_reading c = read_once (take 65536 c.args.input.now)
