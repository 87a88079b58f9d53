-- Words and numbers of a file that is cut into chunks of equal length. Assumes nothing.
use Rattle.std.proofs.Common.{◌≡◌, ℕ, zero, suc, ◌+◌, ◌*◌, ◌<◌, ◌≤◌, List, get_or, take, drop, ap, suc-mul, arith, w64, to_z}
use Rattle.std.proofs.lemmas.List.{drop-drop, get_or-drop, get_or-take}
use Rattle.std.specs.Int.{from_le_bytes}
use Rattle.std.specs.Simd.{first_chunks}
use Rattle.fitfile.specs.Bytes.{word, bits, number}

-- the chunk at i
pub get_or-chunked : {X : Type 0} (n k : ℕ) (xs : List X) (i : ℕ) (d : List X) → i < k → get_or (first_chunks n k xs) i d ≡ take n (drop (i * n) xs)
get_or-chunked n zero xs i d h = absurd (omega arith)
get_or-chunked n (suc k) xs zero d h = let start : 0 * n ≡ 0 = omega arith in cc
get_or-chunked n (suc k) xs (suc i) d h =
    let start : suc i * n ≡ n + i * n = omega (arith, suc-mul i n) in
    cc (get_or-chunked n k (drop n xs) i d (omega arith), drop-drop (i * n) n xs)

-- the word at a place within the chunk at i
pub word_chunk : (n k : ℕ) (bs : List ℕ) (i o : ℕ) (d : List ℕ) → i < k → o + 4 ≤ n → word (get_or (first_chunks n k bs) i d) o ≡ word bs (i * n + o)
word_chunk n k bs i o d h room = let chunk = get_or-chunked n k bs i d h in grind (arith, get_or-take, get_or-drop)

-- the number of the chunk at i, as the library reads it
pub number_chunk : (k : ℕ) (bs : List ℕ) (i : ℕ) (d : List ℕ) → i < k → to_z w64 (from_le_bytes w64 (get_or (first_chunks 8 k bs) i d)) ≡ number bs (8 * i)
number_chunk k bs i d h =
    let same : from_le_bytes w64 (get_or (first_chunks 8 k bs) i d) ≡ bits bs (8 * i) = grind (arith, word_chunk 8 k bs i 0 d h, word_chunk 8 k bs i 4 d h) in
    ap (to_z w64) same
