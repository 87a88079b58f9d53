-- The checks that an offer meets before it is examined. Sizes are in grains. Assumes nothing.
--     right_lengths F O   S, x and w have as many numbers as the fit asks for
--     offer_within O      the numbers of S, x and w keep their limits
--     admission F O       what the checks of an offer answer for a fit: the first refusal, if any
--     entry F O room      the same, after the check of the work area, which has room values
use Rattle.std.specs.Prelude.{ℕ, ◌^◌, Bool, cond, not, ◌&&◌, length, Ok, Err, Result, ◌==◌, nat_lt}
use Rattle.offer.specs.declared.fit.Fit.{Fit}
use Rattle.offer.specs.declared.offer.Offer.{Offer}
use Rattle.offer.specs.declared.refusal.EntryRefusal.{EntryRefusal}
use Rattle.offer.specs.declared.refusal.EntryRefusal.TheVariants.{ShortWorkArea, FewRows, WrongLength, BeyondLimit, ZeroOnDiagonal}
use Rattle.offer.specs.Triangles.{triangle_length, whole_diagonal}
use Rattle.offer.specs.Limits.{all_within, work_area}

abbrev pub right_lengths : Fit → Offer → Bool
right_lengths F O = length O.s.now == triangle_length F.columns && length O.x.now == F.columns && length O.w.now == length F.rows.now

-- a number of S is at most 2^30 in size, of x at most 2^28 and of w at most 2^25
abbrev pub offer_within : Offer → Bool
offer_within O = all_within (2 ^ 30) O.s.now && all_within (2 ^ 28) O.x.now && all_within (2 ^ 25) O.w.now

abbrev pub admission : Fit → Offer → Result (Unit {0}) EntryRefusal
admission F O =
    cond (nat_lt (length F.rows.now) F.columns) (Err FewRows)
    (cond (not (right_lengths F O)) (Err WrongLength)
    (cond (not (offer_within O)) (Err BeyondLimit)
    (cond (not (whole_diagonal F.columns O.s.now)) (Err ZeroOnDiagonal) (Ok tt))))

abbrev pub entry : Fit → Offer → ℕ → Result (Unit {0}) EntryRefusal
entry F O room = cond (nat_lt room (work_area (length F.rows.now) F.columns)) (Err ShortWorkArea) (admission F O)
