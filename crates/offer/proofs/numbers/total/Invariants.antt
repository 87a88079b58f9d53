use Rattle.std.proofs.Common.{◌≡◌, ℕ, ◌*◌, ◌^◌, ◌<◌, ◌≤◌, ℤ, nat_abs}
use Rattle.exact.specs.Sums.{∑}
use Rattle.offer.proofs.numbers.total.Given as goal

abbrev pub invariant-loop-k : goal.invariant-loop-k
invariant-loop-k g l = record {
  small : nat_abs l.sum ≤ l.k * 2 ^ 54;
  is : (f : ℕ → ℤ) → ((k : ℕ) (z : ℤ) → k < l.n → g.F.Fn.post l.term (k, tt) z → z ≡ f k) → l.sum ≡ ∑ l.k f;
}
