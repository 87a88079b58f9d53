-- Where a number of an upper triangle stands. Assumes nothing.
use Rattle.std.proofs.Common.{◌≡◌, ℕ, zero, suc, ◌+◌, ◌-◌, ◌*◌, ◌<◌, ◌≤◌, arith}
use Rattle.offer.specs.Triangles.{triangle_length, place}

-- k rows of a triangle of k + d columns, and the triangle below them
split : (k d : ℕ) → (k + d) * (k + d + 1) ≡ k * (2 * (k + d) + 1 - k) + d * (d + 1)
split k d = let e : 2 * (k + d) + 1 - k ≡ k + d + d + 1 = omega arith in rw e (omega arith)

pub place_within : (n k j : ℕ) → k ≤ j → j < n → place n k j < triangle_length n
place_within n k j h l =
    let e : k + (n - k) ≡ n = omega arith in
    let p = rw e at (split k (n - k)) in
    let q = first_row (n - k) (j - k) (omega arith) in
    omega arith
  where
    first_row : (d b : ℕ) → b < d → 2 * (b + 1) ≤ d * (d + 1)
    first_row zero b h = omega arith
    first_row (suc d) b h = omega arith
