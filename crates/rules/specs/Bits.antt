-- Bits of a byte, as numbers. Assumes nothing.
use Rattle.std.specs.Prelude.{ℕ, ◌/◌, ◌%◌, ◌^◌, Bool, cond, eqb}

-- bit k of b is 1
abbrev pub bit : ℕ → ℕ → Bool
bit k b = eqb (b / 2 ^ k % 2) 1

-- what a bit adds to a byte: n where it is set
abbrev pub weight : Bool → ℕ → ℕ
weight b n = cond b n 0
