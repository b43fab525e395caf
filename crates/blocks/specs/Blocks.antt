-- Numbers as bytes, and a buffer that a caller lends: written whole where it has the length that is wanted. It knows no chip and no
-- text. Assumes nothing.
use Rattle.std.specs.Prelude.{ℕ, ◌+◌, ◌-◌, ◌*◌, ◌/◌, ◌%◌, cond, List, [], ◌∷◌, ◌++◌, eqb, get_or, length, replicate, take}

-- "each 4 bytes, low byte first"
abbrev pub word : ℕ → List ℕ
word n = n % 256 ∷ n / 256 % 256 ∷ n / 65536 % 256 ∷ n / 16777216 % 256 ∷ []

-- the number that stands so at a place
abbrev pub word_at : List ℕ → ℕ → ℕ
word_at b n = get_or b n 0 + 256 * get_or b (n + 1) 0 + 65536 * get_or b (n + 2) 0 + 16777216 * get_or b (n + 3) 0

-- what a buffer holds that had this before: the bytes, where it is size long; any other is left as it is
abbrev pub over : ℕ → List ℕ → List ℕ → List ℕ
over size bytes before = cond (eqb (length before) size) bytes before

-- the first bytes, and 0 where there are no more
abbrev pub filled : ℕ → List ℕ → List ℕ
filled size bytes = take size bytes ++ replicate (size - length bytes) 0
