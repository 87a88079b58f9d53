-- Work in steps that may be refused: the first refusal ends it. Assumes nothing.
--     then r f        f of what r gave, unless that was refused
--     run n step a    the steps 0, .. , n - 1 in turn, each from what the one before gave; a is given to the first
--     gather n f      the list of f 0, .. , f (n - 1), found in this order
--     filled r xs     what a call that fills a slice gave: what the slice then holds, or the refusal
use Rattle.std.specs.Prelude.{ℕ, zero, suc, List, [], ◌∷◌, ◌++◌, Ok, Err, Result}

abbrev pub then : {A B E : Type 0} → Result A E → (A → Result B E) → Result B E
then (Ok a) f = f a
then (Err e) f = Err e

abbrev pub run : {A E : Type 0} → ℕ → (ℕ → A → Result A E) → A → Result A E
run zero step a = Ok a
run (suc n) step a = then (run n step a) (step n)

abbrev pub gather : {A E : Type 0} → ℕ → (ℕ → Result A E) → Result (List A) E
gather n f = run n (λ p xs. then (f p) (λ x. Ok (xs ++ x ∷ []))) []

abbrev pub filled : {A E : Type 0} → Result (Unit {0}) E → List A → Result (List A) E
filled (Ok u) xs = Ok xs
filled (Err e) xs = Err e
