-- Sums over the indices below a number, and the largest value there. Assumes nothing.
--     ∑ n f           f 0 + .. + f (n - 1), of whole numbers
--     ∑ℕ n f          the same, of natural numbers
--     squares n f     f 0 squared + .. + f (n - 1) squared
--     largest n f     the largest of f 0, .. , f (n - 1), and 0 if n is 0
use Rattle.std.specs.Prelude.{ℕ, zero, suc, ◌+◌, max, ℤ, pos, ◌+ℤ◌, ◌*ℤ◌}

unfoldable pub ∑ : ℕ → (ℕ → ℤ) → ℤ
∑ zero f = pos 0
∑ (suc n) f = ∑ n f +ℤ f n

unfoldable pub ∑ℕ : ℕ → (ℕ → ℕ) → ℕ
∑ℕ zero f = 0
∑ℕ (suc n) f = ∑ℕ n f + f n

abbrev pub squares : ℕ → (ℕ → ℤ) → ℤ
squares n f = ∑ n (λ i. f i *ℤ f i)

unfoldable pub largest : ℕ → (ℕ → ℕ) → ℕ
largest zero f = 0
largest (suc n) f = max (largest n f) (f n)
