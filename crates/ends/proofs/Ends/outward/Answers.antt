use Rattle.std.proofs.Common.{◌≡◌, ℕ, ◌*◌, ◌^◌, ◌≤◌, ℤ, ◌*ℤ◌, nat_abs, ◌∙◌, arith, w64, SFits, to_z, of_z, rules}
use Rattle.std.specs.Int.{int_min, int_max}
use Rattle.std.proofs.lemmas.Int.{to_z-of_z, fits_signed_mul}
use Rattle.arithmetic.specs.Intervals.{between}
use Rattle.arithmetic.specs.Rounding.{floored, ceiled}
use Rattle.ends.specs.Ends.{kept, outward, least, greatest}
use Rattle.ends.proofs.Ends.outward.Goals as goal

-- a product of two ends, as the code forms it
fits : (x y : ℤ) {m n : ℕ} → SFits w64 x → SFits w64 y → nat_abs x ≤ m → nat_abs y ≤ n → m * n ≤ 2 ^ 62
    → SFits w64 (to_z w64 (of_z w64 x) *ℤ to_z w64 (of_z w64 y))
fits x y {m} {n} fx fy p q small = simp to_z-of_z (fits_signed_mul w64 x y m n p q (omega arith))

pub overflow_mul-p : goal.overflow_mul-p
overflow_mul-p c = fits c.args.self.low c.args.other.low (search rules) (search rules) (omega arith) (omega arith) c.requires

pub overflow_mul-q : goal.overflow_mul-q
overflow_mul-q c = fits c.args.self.low c.args.other.high (search rules) (search rules) (omega arith) (omega arith) c.requires

pub overflow_mul-s : goal.overflow_mul-s
overflow_mul-s c = fits c.args.self.high c.args.other.low (search rules) (search rules) (omega arith) (omega arith) c.requires

pub overflow_mul-t : goal.overflow_mul-t
overflow_mul-t c = fits c.args.self.high c.args.other.high (search rules) (search rules) (omega arith) (omega arith) c.requires

-- the same, as it is passed on
passed : (x y : ℤ) {m n : ℕ} → SFits w64 x → SFits w64 y → nat_abs x ≤ m → nat_abs y ≤ n → m * n ≤ 2 ^ 62
    → to_z w64 (of_z w64 (to_z w64 (of_z w64 x) *ℤ to_z w64 (of_z w64 y))) ≡ x *ℤ y
passed x y {m} {n} fx fy p q small =
    cc (to_z-of_z w64 x fx, to_z-of_z w64 y fy, to_z-of_z w64 (x *ℤ y) (fits_signed_mul w64 x y m n p q (omega arith)))

pub returns : goal.returns
unfolding outward least greatest
returns c =
    let l = c.args.self.low in let h = c.args.self.high in let m = c.args.other.low in let k = c.args.other.high in
    let lm = passed l m (search rules) (search rules) (omega arith) (omega arith) c.requires in
    let lk = passed l k (search rules) (search rules) (omega arith) (omega arith) c.requires in
    let hm = passed h m (search rules) (search rules) (omega arith) (omega arith) c.requires in
    let hk = passed h k (search rules) (search rules) (omega arith) (omega arith) c.requires in
    c.round_out.ensures
    ∙ λ t. kept (between
    (floored (int_min (int_min (int_min (lm t) (lk t)) (hm t)) (hk t)))
    (ceiled (int_max (int_max (int_max (lm t) (lk t)) (hm t)) (hk t))))
