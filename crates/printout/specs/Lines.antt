-- The lines of a printout as lists of bytes, and the buffer that a line is written to. Assumes nothing.
--
-- Glossary
--   codes "text"              the bytes of an ASCII text; "\n" is byte 10
--   decimal n                 the decimal digits of n, without leading zeros; 0 is "0"
--   signed_decimal z          the same for an integer, after a minus sign if it is negative
--   int_div_euclid z (pos 2)  z / 2 rounded down
--   int_div z (pos 2)         z / 2 rounded toward zero
--   cond test x y             x if the test holds, otherwise y
--   nat_lt a b                the test a < b
use Rattle.std.specs.Prelude.{ℕ, cond, List, ◌++◌, length, drop, ℤ, pos, ◌+ℤ◌, ◌-ℤ◌, Ok, Err, codes, decimal, Result, int_div, nat_lt}
use Rattle.std.specs.Int.{int_div_euclid}
use Rattle.std.specs.Fmt.{signed_decimal}
use Rattle.printout.specs.declared.refusal.Refusal.{Refusal}
use Rattle.printout.specs.declared.refusal.Refusal.TheVariants.{ShortBuffer}

-- the answer to a request for a line: its length, or the buffer is too short
abbrev pub answered : List ℕ → List ℕ → Result ℕ Refusal
answered line buffer = cond (nat_lt (length buffer) 96) (Err ShortBuffer) (Ok (length line))

-- the buffer after it: the line, and then the bytes that stood there; a short buffer stays as it was
abbrev pub written : List ℕ → List ℕ → List ℕ
written line buffer = cond (nat_lt (length buffer) 96) buffer (line ++ drop (length line) buffer)

-- m rows and n columns
abbrev pub book_line : ℕ → ℕ → List ℕ
book_line m n = codes "book " ++ (decimal m ++ (codes " " ++ (decimal n ++ codes "\n")))

-- offer i is granted, with its alpha a
abbrev pub granted_line : ℕ → ℕ → List ℕ
granted_line i a = codes "offer " ++ (decimal i ++ (codes " granted " ++ (decimal a ++ codes "\n")))

-- offer i is refused, with the number k of the refusal
abbrev pub refused_line : ℕ → ℕ → List ℕ
refused_line i k = codes "offer " ++ (decimal i ++ (codes " refused " ++ (decimal k ++ codes "\n")))

-- the file is refused, with the number k of the refusal
abbrev pub file_refused_line : ℕ → List ℕ
file_refused_line k = codes "file refused " ++ (decimal k ++ codes "\n")

-- column j has no interval
abbrev pub none_line : ℕ → List ℕ
none_line j = codes "column " ++ (decimal j ++ codes " none\n")

-- the middle of the interval from l to h, rounded down
abbrev pub middle : ℤ → ℤ → ℤ
middle l h = int_div_euclid (l +ℤ h) (pos 2)

-- half the width of the interval from l to h, its fraction dropped
abbrev pub half_width : ℤ → ℤ → ℤ
half_width l h = int_div (h -ℤ l) (pos 2)

-- column j has the interval from l to h: its ends, its middle and half its width
unfoldable pub column_line : ℕ → ℤ → ℤ → List ℕ
column_line j l h = codes "column " ++ (decimal j ++ (codes " " ++ (signed_decimal l ++ (codes " " ++ (signed_decimal h ++ (codes " " ++ (signed_decimal (middle l h) ++ (codes " " ++ (signed_decimal (half_width l h) ++ codes "\n")))))))))
