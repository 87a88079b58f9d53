-- An offered solution of a fit, and the exact whole numbers by which it is judged. Assumes nothing.
--     Offer           S, x and w, in grains: x is near the solution, w near A x - b, and A S nearly orthogonal
--     Triangular n S  S is upper triangular, and no entry of its diagonal is 0; nothing more is asked of an offer
--     X̂ = A S                   in units of 2^-48
--     Ê = 1 - X̂ᵀ X̂              in units of 2^-96, where one is 2^96
--     â, the largest row sum of the sizes in Ê          in units of 2^-96
--     ρ̂x = b - A x + w          in units of 2^-48
--     ρ̂w = Aᵀ w                 in units of 2^-48
--     δ̂ = X̂ᵀ ρ̂x - Sᵀ ρ̂w         in units of 2^-96
--     d̂, the largest size in δ̂  in units of 2^-96
--     s j, the sum of the sizes in row j of S           in grains
use Rattle.std.specs.Prelude.{◌≡◌, ℕ, ◌^◌, ◌<◌, cond, ◌≢◌, ℤ, pos, ◌+ℤ◌, ◌-ℤ◌, ◌*ℤ◌, ◌==◌, unsigned_abs}
use Rattle.exact.specs.Sums.{∑, ∑ℕ, largest}
use Rattle.exact.specs.Fits.{g, Fit, image}

pub record Offer : Type 0 where
  pub S : ℕ → ℕ → ℤ
  pub x : ℕ → ℤ
  pub w : ℕ → ℤ

pub record Triangular (n : ℕ) (S : ℕ → ℕ → ℤ) : Type 0 where
  pub below : (k j : ℕ) → k < n → j < k → S k j ≡ pos 0
  pub diagonal : (k : ℕ) → k < n → S k k ≢ pos 0

module _ (F : Fit) (O : Offer) where
  abbrev pub X̂ : ℕ → ℕ → ℤ
  X̂ i j = ∑ F.columns (λ k. F.A i k *ℤ O.S k j)

  abbrev pub Ê : ℕ → ℕ → ℤ
  Ê i j = cond (i == j) (pos (2 ^ 96)) (pos 0) -ℤ ∑ F.rows (λ k. X̂ k i *ℤ X̂ k j)

  abbrev pub â : ℕ
  â = largest F.columns (λ i. ∑ℕ F.columns (λ j. unsigned_abs (Ê i j)))

  abbrev pub ρ̂x : ℕ → ℤ
  ρ̂x i = pos g *ℤ F.b i -ℤ image F O.x i +ℤ pos g *ℤ O.w i

  abbrev pub ρ̂w : ℕ → ℤ
  ρ̂w k = ∑ F.rows (λ i. F.A i k *ℤ O.w i)

  abbrev pub δ̂ : ℕ → ℤ
  δ̂ j = ∑ F.rows (λ i. X̂ i j *ℤ ρ̂x i) -ℤ pos g *ℤ ∑ F.columns (λ k. O.S k j *ℤ ρ̂w k)

  abbrev pub d̂ : ℕ
  d̂ = largest F.columns (λ j. unsigned_abs (δ̂ j))

  abbrev pub s : ℕ → ℕ
  s j = ∑ℕ F.columns (λ k. unsigned_abs (O.S j k))
