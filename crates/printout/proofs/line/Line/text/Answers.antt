use Rattle.std.proofs.Common.{◌≡◌, ℕ, [], ◌∷◌, ℤ, codes, sym, ap, ◌∙◌, append_assoc, rules, w64}
use Rattle.std.proofs.lemmas.Int.{to_z-of_z}
use Rattle.printout.specs.declared.words.Word.TheVariants.{Small, Signed}
use Rattle.printout.specs.Lines.{column_line, middle, half_width}
use Rattle.printout.specs.Printouts.{bytes_of}
use Rattle.printout.specs.Words.{line_of}
use Rattle.printout.proofs.line.Line.text.Goals as goal

-- the line of the numbers as they are passed
column_same : (j : ℕ) (a l b h m e : ℤ) → a ≡ l → b ≡ h → m ≡ middle a b → e ≡ half_width a b
    → line_of (codes "column") (Small j ∷ Signed a ∷ Signed b ∷ Signed m ∷ Signed e ∷ []) ≡ column_line j l h
unfolding column_line
column_same j a l b h m e p q r s = simp append_assoc cc

pub returns-in-Column : goal.returns-in-Column
returns-in-Column c =
    let low = to_z-of_z w64 c.in-Column.low (search rules) in
    let high = to_z-of_z w64 c.in-Column.high (search rules) in
    let middle = to_z-of_z w64 c.middle_of-middle.result (record { sfits = c.middle_of-middle.type_inv }) ∙ c.middle_of-middle.ensures in
    let half = to_z-of_z w64 c.half_width_of-half_width.result (record { sfits = c.half_width_of-half_width.type_inv }) ∙ c.half_width_of-half_width.ensures in
    c.joined-in-Column.ensures ∙ column_same _ _ _ _ _ _ _ low high middle half ∙ ap bytes_of (sym c.in-Column.is)
