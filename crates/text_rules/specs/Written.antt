-- Document 01, Traces and their replay, "Numbers are decimal, 1 to 5 digits, with a leading minus where negative; no plus, no leading zero,
-- no -0": how a number is written, said without the reader, and two claims. What is written so is read as that number; and what is read
-- as a number was written so. Proved in proofs/Written.antt and proofs/Begins.antt. Assumes nothing.
use Rattle.std.specs.Prelude.{ℕ, zero, suc, ◌+◌, ◌/◌, ◌%◌, ◌≤◌, ◌≡◌, cond, List, [], ◌∷◌, ◌++◌, ltb, ℤ, nat_abs, length, drop, Ok}
use Rattle.std.proofs.Math.IntN.ℤ.{pos, negsuc}
use Rattle.text_rules.specs.Number.{number_of}

-- the last k decimal digits of n, as bytes
abbrev pub last_digits : ℕ → ℕ → List ℕ
last_digits zero n = []
last_digits (suc k) n = last_digits k (n / 10) ++ ((48 + n % 10) ∷ [])

-- how many digits a number up to 99999 has
unfoldable pub digit_count : ℕ → ℕ
digit_count n = cond (ltb n 10) 1 (cond (ltb n 100) 2 (cond (ltb n 1000) 3 (cond (ltb n 10000) 4 5)))

unfoldable pub written_natural : ℕ → List ℕ
written_natural n = last_digits (digit_count n) n

-- behind a minus, where negative
abbrev pub written_number : ℤ → List ℕ
written_number (pos n) = written_natural n
written_number (negsuc n) = 45 ∷ written_natural (suc n)

abbrev pub WrittenIsRead : Type 0
WrittenIsRead =
    (z : ℤ) (rest : List ℕ) → nat_abs z ≤ 99999 → number_of (written_number z ++ (10 ∷ rest)) ≡ Ok (z, length (written_number z) + 1)

-- the text begins with the number as it is written and byte 10, and what was read of it is as long
pub record Began (s : List ℕ) (z : ℤ) (n : ℕ) : Type 0 where
  pub small : nat_abs z ≤ 99999
  pub begins : s ≡ written_number z ++ (10 ∷ drop n s)
  pub count : n ≡ length (written_number z) + 1

abbrev pub ReadWasWritten : Type 0
ReadWasWritten = (s : List ℕ) (z : ℤ) (n : ℕ) → number_of s ≡ Ok (z, n) → Began s z n
