-- Status, ALERT, THERM: the run count, the number it needs, and what sets the ALERT latch. Assumes nothing.
use Rattle.std.specs.Prelude.{ℕ, ◌+◌, Bool, cond, ◌||◌, true, false, List, [], ◌∷◌, ltb, leb}
use Rattle.rules.specs.Bits.{bit}

-- "completed conversions in a row in which any of the four limit faults was found, held at 4"
abbrev pub runs_of : ℕ → Bool → ℕ
runs_of runs fault = cond fault (cond (ltb runs 4) (runs + 1) 4) 0

-- "the ones that stand together" at the front
abbrev pub ones : List Bool → ℕ
ones [] = 0
ones (true ∷ bs) = 1 + ones bs
ones (false ∷ bs) = 0

-- "Needed: 1 plus the ones that stand together from bit 1 upwards within bits 3 to 1 of register 22"
unfoldable pub needed_of : ℕ → ℕ
needed_of b = 1 + ones (bit 1 b ∷ bit 2 b ∷ bit 3 b ∷ [])

-- "set by a kind 7 with the diode open, by a kind 7 after which the run count is at least the needed number"
abbrev pub converted_sets : ℕ → ℕ → Bool → Bool
converted_sets runs consecutive broken = broken || leb (needed_of consecutive) runs
