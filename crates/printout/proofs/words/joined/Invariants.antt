use Rattle.std.proofs.Common.{◌≡◌, ◌+◌, ◌≤◌, ◌∷◌, ◌++◌, length, take, sum_by}
use Rattle.std.specs.List.{flat_map}
use Rattle.printout.specs.Words.{shown, widest}
use Rattle.printout.proofs.words.joined.Given as goal

abbrev pub invariant-loop-word : goal.invariant-loop-word
invariant-loop-word l =
    (l.text.bytes ≡ l.name ++ flat_map (λ w. 32 ∷ shown w) (take l.word-index l.words))
    × (length l.text.bytes ≤ length l.name + sum_by (λ w. 1 + widest w) (take l.word-index l.words))
