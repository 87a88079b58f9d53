use Rattle.std.proofs.Common.{◌≡◌, ℤ, ap₂, ◌∙◌, w64, SFits, to_z, of_z}
use Rattle.std.specs.Int.{int_min, int_max}
use Rattle.std.proofs.lemmas.Int.{to_z-of_z}
use Rattle.arithmetic.specs.Intervals.{between}
use Rattle.arithmetic.specs.Rounding.{floored, ceiled}
use Rattle.ends.specs.Ends.{kept}
use Rattle.ends.proofs.round_out.Goals as goal

-- what three calls find, one after another, by an operation on numbers that all fit
chain : (op : ℤ → ℤ → ℤ) (p q s t a b c : ℤ) → SFits w64 p → SFits w64 q → SFits w64 s → SFits w64 t → SFits w64 a → SFits w64 b → SFits w64 c
    → a ≡ op (to_z w64 (of_z w64 p)) (to_z w64 (of_z w64 q)) → b ≡ op (to_z w64 (of_z w64 a)) (to_z w64 (of_z w64 s)) → c ≡ op (to_z w64 (of_z w64 b)) (to_z w64 (of_z w64 t))
    → to_z w64 (of_z w64 c) ≡ op (op (op p q) s) t
chain op p q s t a b c fp fq fs ft fa fb fc x y z =
    cc (to_z-of_z w64 p fp, to_z-of_z w64 q fq, to_z-of_z w64 s fs, to_z-of_z w64 t ft, to_z-of_z w64 a fa, to_z-of_z w64 b fb, to_z-of_z w64 c fc)

pub returns : goal.returns
returns c =
    let low = chain int_min c.args.p c.args.q c.args.s c.args.t _ _ _ c.ranges.p c.ranges.q c.ranges.s c.ranges.t
    (record { sfits = c.min.type_inv }) (record { sfits = c.min-2.type_inv }) (record { sfits = c.min-3.type_inv })
    c.min.ensures.value c.min-2.ensures.value c.min-3.ensures.value in
    let high = chain int_max c.args.p c.args.q c.args.s c.args.t _ _ _ c.ranges.p c.ranges.q c.ranges.s c.ranges.t
    (record { sfits = c.max.type_inv }) (record { sfits = c.max-2.type_inv }) (record { sfits = c.max-3.type_inv })
    c.max.ensures.value c.max-2.ensures.value c.max-3.ensures.value in
    c.to_grains.ensures ∙ ap₂ (λ x y. kept (between (floored x) (ceiled y))) low high
