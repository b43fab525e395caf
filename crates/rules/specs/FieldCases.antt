-- Events: the range of every field at both ends, from inside and outside, and every field that a kind doesn't use. Each list has events that
-- are answered with one code while a conversion runs: then a start is code 4, and an alert response, or an address that is not the chip's,
-- code 3. Proved in proofs/Tables.antt. Assumes nothing.
use Rattle.std.specs.Prelude.{ℕ, ◌≡◌, Bool, true, List, [], ◌∷◌, map, eqb, ℤ}
use Rattle.std.proofs.Math.IntN.ℤ.{pos, negsuc}
use Rattle.rules.specs.declared.event.Numbers.{Numbers}
use Rattle.rules.specs.Channels.{all}
use Rattle.rules.specs.Codes.{number_of}
use Rattle.rules.specs.PowerOn.{made_of}
use Rattle.rules.specs.Step.{after, step_of}
use Rattle.rules.specs.Trial.{four, start}

-- one below 0
abbrev under : ℤ
under = negsuc 0

unfoldable pub answered_with : ℕ → List Numbers → Bool
answered_with n es = all (map (λ e. eqb (number_of (step_of (after (made_of (pos 76)).state (start ∷ [])) e).code) n) es)

-- "kind outside 0..7", whatever the fields
abbrev kinds : List Numbers
kinds =
    record { kind = under; a = pos 0; b = pos 0; c = pos 0 } ∷ record { kind = under; a = pos 128; b = under; c = pos 256 } ∷
    four 8 (pos 0) (pos 0) (pos 0) ∷ four 8 (pos 128) (pos 256) under ∷ four 255 (pos 0) (pos 0) (pos 0) ∷ []

-- "a field out of its range, or an unused field not 0": also before the codes 3, 4 and 5
abbrev fields : List Numbers
fields =
    -- power-on, alert response and start use no field
    four 0 (pos 1) (pos 0) (pos 0) ∷ four 0 under (pos 0) (pos 0) ∷ four 0 (pos 0) (pos 1) (pos 0) ∷ four 0 (pos 0) under (pos 0) ∷
    four 0 (pos 0) (pos 0) (pos 1) ∷ four 0 (pos 0) (pos 0) under ∷
    four 5 (pos 1) (pos 0) (pos 0) ∷ four 5 under (pos 0) (pos 0) ∷ four 5 (pos 0) (pos 1) (pos 0) ∷ four 5 (pos 0) under (pos 0) ∷
    four 5 (pos 0) (pos 0) (pos 1) ∷ four 5 (pos 0) (pos 0) under ∷ four 5 (pos 12) (pos 0) (pos 0) ∷
    four 6 (pos 1) (pos 0) (pos 0) ∷ four 6 under (pos 0) (pos 0) ∷ four 6 (pos 0) (pos 1) (pos 0) ∷ four 6 (pos 0) under (pos 0) ∷
    four 6 (pos 0) (pos 0) (pos 1) ∷ four 6 (pos 0) (pos 0) under ∷
    -- "bus address 0..127", "command 0..255", "data 0..255"
    four 1 (pos 128) (pos 0) (pos 0) ∷ four 1 under (pos 0) (pos 0) ∷ four 1 (pos 76) (pos 256) (pos 0) ∷ four 1 (pos 76) under (pos 0) ∷
    four 1 (pos 76) (pos 0) (pos 1) ∷ four 1 (pos 76) (pos 0) under ∷
    four 2 (pos 128) (pos 0) (pos 0) ∷ four 2 under (pos 0) (pos 0) ∷ four 2 (pos 76) (pos 256) (pos 0) ∷ four 2 (pos 76) under (pos 0) ∷
    four 2 (pos 76) (pos 0) (pos 256) ∷ four 2 (pos 76) (pos 0) under ∷
    four 3 (pos 128) (pos 0) (pos 0) ∷ four 3 under (pos 0) (pos 0) ∷ four 3 (pos 76) (pos 256) (pos 0) ∷ four 3 (pos 76) under (pos 0) ∷
    four 3 (pos 76) (pos 0) (pos 1) ∷ four 3 (pos 76) (pos 0) under ∷
    four 4 (pos 128) (pos 0) (pos 0) ∷ four 4 under (pos 0) (pos 0) ∷ four 4 (pos 76) (pos 1) (pos 0) ∷ four 4 (pos 76) under (pos 0) ∷
    four 4 (pos 76) (pos 0) (pos 1) ∷ four 4 (pos 76) (pos 0) under ∷
    -- "local, whole °C, -8192..8191", "remote, quarter °C, -32768..32767", "diode open 0..1"
    four 7 (pos 8192) (pos 0) (pos 0) ∷ four 7 (negsuc 8192) (pos 0) (pos 0) ∷ four 7 (pos 0) (pos 32768) (pos 0) ∷
    four 7 (pos 0) (negsuc 32768) (pos 0) ∷ four 7 (pos 0) (pos 0) (pos 2) ∷ four 7 (pos 0) (pos 0) under ∷
    -- an address that is not the chip's does not outrank a bad field
    four 3 (pos 77) (pos 256) (pos 0) ∷ four 2 (pos 0) (pos 0) (pos 256) ∷ []

-- the same fields one further in
abbrev taken : List Numbers
taken =
    four 0 (pos 0) (pos 0) (pos 0) ∷ four 1 (pos 76) (pos 0) (pos 0) ∷ four 1 (pos 76) (pos 255) (pos 0) ∷
    four 2 (pos 76) (pos 0) (pos 0) ∷ four 2 (pos 76) (pos 255) (pos 255) ∷ four 3 (pos 76) (pos 0) (pos 0) ∷
    four 3 (pos 76) (pos 255) (pos 0) ∷ four 4 (pos 76) (pos 0) (pos 0) ∷ four 7 (pos 8191) (pos 32767) (pos 1) ∷
    four 7 (negsuc 8191) (negsuc 32767) (pos 0) ∷ []

-- 3, in range and for another chip, or ALERT high; 4, a conversion runs
abbrev others : List Numbers
others =
    four 1 (pos 127) (pos 0) (pos 0) ∷ four 2 (pos 127) (pos 255) (pos 255) ∷ four 3 (pos 127) (pos 255) (pos 0) ∷ four 4 (pos 127) (pos 0) (pos 0) ∷
    four 1 (pos 0) (pos 0) (pos 0) ∷ four 2 (pos 0) (pos 0) (pos 0) ∷ four 3 (pos 0) (pos 0) (pos 0) ∷ four 4 (pos 0) (pos 0) (pos 0) ∷
    four 5 (pos 0) (pos 0) (pos 0) ∷ []

abbrev starts : List Numbers
starts = four 6 (pos 0) (pos 0) (pos 0) ∷ []

unfoldable pub field_tests : List Bool
field_tests =
    answered_with 1 kinds ∷ answered_with 2 fields ∷ answered_with 0 taken ∷ answered_with 3 others ∷ answered_with 4 starts ∷ []

abbrev pub FieldCases : Type 0
FieldCases = field_tests ≡ (true ∷ true ∷ true ∷ true ∷ true ∷ [])
