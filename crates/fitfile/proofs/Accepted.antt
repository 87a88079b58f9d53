-- What follows from a header that is accepted. Assumes nothing.
use Rattle.std.proofs.Common.{◌≡◌, ℕ, zero, suc, ◌+◌, ◌*◌, ◌<◌, ◌≤◌, List, ◌++◌, length, take, drop, Ok, ap, append_assoc, append-nil, suc-mul, arith}
use Rattle.std.proofs.lemmas.List.{drop-drop, drop_all, take-append-drop}
use Rattle.std.proofs.lemmas.Bool.Decides.{nat_tests}
use Rattle.fitfile.specs.declared.words.Header.{Header}
use Rattle.fitfile.specs.Header.{header_of, rows_at, figures_at, offers_at, offer_length, file_length}
use Rattle.fitfile.specs.Sections.{cut}
use Rattle.fitfile.specs.Whole.{Whole, offers_of}

-- the offers up to the one at an index take no more than all of them
pub offer_within : (h : Header) (i : ℕ) → i < h.offers → offers_at h + i * offer_length h + offer_length h ≤ file_length h
offer_within h i below = grind arith

-- what is left of a file from a place on is one part and what is left after it
drop-cut : (at long : ℕ) (bs : List ℕ) → drop at bs ≡ cut at long bs ++ drop (at + long) bs
drop-cut at long bs = cc (take-append-drop long (drop at bs), drop-drop long at bs)

drop-offers : (h : Header) (bs : List ℕ) (k : ℕ) → drop (offers_at h) bs ≡ offers_of h bs k ++ drop (offers_at h + k * offer_length h) bs
drop-offers h bs zero = ap (λ (p : ℕ). drop p bs) (omega arith)
drop-offers h bs (suc k) =
    let at : ℕ = offers_at h + k * offer_length h in
    let end : at + offer_length h ≡ offers_at h + suc k * offer_length h = omega (arith, suc-mul k (offer_length h)) in
    cc (drop-offers h bs k, drop-cut at (offer_length h) bs, append_assoc (offers_of h bs k) (cut at (offer_length h) bs) (drop (at + offer_length h) bs))

tiled : (h : Header) (bs : List ℕ) → length bs ≡ file_length h → bs ≡ take rows_at bs ++ (cut rows_at (8 * (h.rows * h.columns)) bs ++ (cut (figures_at h) (8 * h.rows) bs ++ offers_of h bs h.offers))
tiled h bs long =
    let rest = drop_all (file_length h) bs (omega arith) in
    cc (take-append-drop rows_at bs, drop-cut rows_at (8 * (h.rows * h.columns)) bs, drop-cut (figures_at h) (8 * h.rows) bs, drop-offers h bs h.offers, append-nil (offers_of h bs h.offers))

pub accepted : (bs : List ℕ) (h : Header) → header_of bs ≡ Ok h → Whole h bs
accepted bs h e =
    let long : length bs ≡ file_length h = grind (arith, nat_tests) in
    let tiled = tiled h bs long in
    grind (arith, nat_tests)
