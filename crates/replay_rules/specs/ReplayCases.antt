-- Document 01, Traces and their replay, and Answer codes 2, 7 and 8: what replay's definition makes of traces that are given byte by byte, with
-- every byte of output and report. Proved in proofs/ReplayCases.antt. Assumes nothing.
use Rattle.rules.specs.declared.answer.Code.TheVariants.{Done}
use Rattle.std.specs.Prelude.{ℕ, ◌<◌, ◌≤◌, ◌≡◌, List, [], ◌∷◌, ◌++◌, map, ℤ, length, replicate}
use Rattle.std.proofs.Math.IntN.ℤ.{pos, negsuc}
use Rattle.rules.specs.PowerOn.{made_of}
use Rattle.replay_rules.specs.Play.{run_of}
use Rattle.replay_rules.specs.Replay.{Result, played, replay_of}

-- a replay at an address, with a report of 16 bytes, and what is wanted of it
pub record Row : Type 0 where
  pub address : ℤ
  pub trace : List ℕ
  pub output : List ℕ
  pub wanted : Result

-- the records of these traces, a line at a time, and their answers
-- a conversion starts
unfoldable pub start : List ℕ
start =
    107 ∷ 105 ∷ 110 ∷ 100 ∷ 61 ∷ 54 ∷ 10 ∷  -- kind=6
    97 ∷ 61 ∷ 48 ∷ 10 ∷  -- a=0
    98 ∷ 61 ∷ 48 ∷ 10 ∷  -- b=0
    99 ∷ 61 ∷ 48 ∷ 10 ∷ []  -- c=0

-- done, both lines high
unfoldable pub done : List ℕ
done =
    99 ∷ 111 ∷ 100 ∷ 101 ∷ 61 ∷ 48 ∷ 10 ∷  -- code=0
    114 ∷ 101 ∷ 112 ∷ 108 ∷ 121 ∷ 61 ∷ 48 ∷ 10 ∷  -- reply=0
    97 ∷ 108 ∷ 101 ∷ 114 ∷ 116 ∷ 61 ∷ 49 ∷ 10 ∷  -- alert=1
    116 ∷ 104 ∷ 101 ∷ 114 ∷ 109 ∷ 61 ∷ 49 ∷ 10 ∷ []  -- therm=1

-- started again while one runs
unfoldable pub again : List ℕ
again =
    99 ∷ 111 ∷ 100 ∷ 101 ∷ 61 ∷ 52 ∷ 10 ∷  -- code=4
    114 ∷ 101 ∷ 112 ∷ 108 ∷ 121 ∷ 61 ∷ 48 ∷ 10 ∷  -- reply=0
    97 ∷ 108 ∷ 101 ∷ 114 ∷ 116 ∷ 61 ∷ 49 ∷ 10 ∷  -- alert=1
    116 ∷ 104 ∷ 101 ∷ 114 ∷ 109 ∷ 61 ∷ 49 ∷ 10 ∷ []  -- therm=1

-- no kind
unfoldable pub strange : List ℕ
strange =
    107 ∷ 105 ∷ 110 ∷ 100 ∷ 61 ∷ 57 ∷ 10 ∷  -- kind=9
    97 ∷ 61 ∷ 48 ∷ 10 ∷  -- a=0
    98 ∷ 61 ∷ 48 ∷ 10 ∷  -- b=0
    99 ∷ 61 ∷ 48 ∷ 10 ∷ []  -- c=0

-- what it is answered
unfoldable pub no_kind : List ℕ
no_kind =
    99 ∷ 111 ∷ 100 ∷ 101 ∷ 61 ∷ 49 ∷ 10 ∷  -- code=1
    114 ∷ 101 ∷ 112 ∷ 108 ∷ 121 ∷ 61 ∷ 48 ∷ 10 ∷  -- reply=0
    97 ∷ 108 ∷ 101 ∷ 114 ∷ 116 ∷ 61 ∷ 49 ∷ 10 ∷  -- alert=1
    116 ∷ 104 ∷ 101 ∷ 114 ∷ 109 ∷ 61 ∷ 49 ∷ 10 ∷ []  -- therm=1

-- a byte of the chip at 77
unfoldable pub other : List ℕ
other =
    107 ∷ 105 ∷ 110 ∷ 100 ∷ 61 ∷ 52 ∷ 10 ∷  -- kind=4
    97 ∷ 61 ∷ 55 ∷ 55 ∷ 10 ∷  -- a=77
    98 ∷ 61 ∷ 48 ∷ 10 ∷  -- b=0
    99 ∷ 61 ∷ 48 ∷ 10 ∷ []  -- c=0

-- what the chip at 76 answers
unfoldable pub not_mine : List ℕ
not_mine =
    99 ∷ 111 ∷ 100 ∷ 101 ∷ 61 ∷ 51 ∷ 10 ∷  -- code=3
    114 ∷ 101 ∷ 112 ∷ 108 ∷ 121 ∷ 61 ∷ 48 ∷ 10 ∷  -- reply=0
    97 ∷ 108 ∷ 101 ∷ 114 ∷ 116 ∷ 61 ∷ 49 ∷ 10 ∷  -- alert=1
    116 ∷ 104 ∷ 101 ∷ 114 ∷ 109 ∷ 61 ∷ 49 ∷ 10 ∷ []  -- therm=1

-- four lines that are no record
unfoldable pub lame : List ℕ
lame =
    107 ∷ 105 ∷ 110 ∷ 100 ∷ 61 ∷ 54 ∷ 10 ∷  -- kind=6
    97 ∷ 61 ∷ 48 ∷ 10 ∷  -- a=0
    98 ∷ 61 ∷ 48 ∷ 10 ∷  -- b=0
    99 ∷ 61 ∷ 43 ∷ 48 ∷ 10 ∷ []  -- c=+0

-- two lines of a record
unfoldable pub cut : List ℕ
cut =
    107 ∷ 105 ∷ 110 ∷ 100 ∷ 61 ∷ 54 ∷ 10 ∷  -- kind=6
    97 ∷ 61 ∷ 48 ∷ 10 ∷ []  -- a=0

-- the local high limit at 10
unfoldable pub low : List ℕ
low =
    107 ∷ 105 ∷ 110 ∷ 100 ∷ 61 ∷ 50 ∷ 10 ∷  -- kind=2
    97 ∷ 61 ∷ 55 ∷ 54 ∷ 10 ∷  -- a=76
    98 ∷ 61 ∷ 49 ∷ 49 ∷ 10 ∷  -- b=11
    99 ∷ 61 ∷ 49 ∷ 48 ∷ 10 ∷ []  -- c=10

-- a conversion ends, 20 degrees and 50
unfoldable pub warm : List ℕ
warm =
    107 ∷ 105 ∷ 110 ∷ 100 ∷ 61 ∷ 55 ∷ 10 ∷  -- kind=7
    97 ∷ 61 ∷ 50 ∷ 48 ∷ 10 ∷  -- a=20
    98 ∷ 61 ∷ 50 ∷ 48 ∷ 48 ∷ 10 ∷  -- b=200
    99 ∷ 61 ∷ 48 ∷ 10 ∷ []  -- c=0

-- ALERT is low, THERM high
unfoldable pub alarm : List ℕ
alarm =
    99 ∷ 111 ∷ 100 ∷ 101 ∷ 61 ∷ 48 ∷ 10 ∷  -- code=0
    114 ∷ 101 ∷ 112 ∷ 108 ∷ 121 ∷ 61 ∷ 48 ∷ 10 ∷  -- reply=0
    97 ∷ 108 ∷ 101 ∷ 114 ∷ 116 ∷ 61 ∷ 48 ∷ 10 ∷  -- alert=0
    116 ∷ 104 ∷ 101 ∷ 114 ∷ 109 ∷ 61 ∷ 49 ∷ 10 ∷ []  -- therm=1

-- ALERT masked
unfoldable pub mask : List ℕ
mask =
    107 ∷ 105 ∷ 110 ∷ 100 ∷ 61 ∷ 50 ∷ 10 ∷  -- kind=2
    97 ∷ 61 ∷ 55 ∷ 54 ∷ 10 ∷  -- a=76
    98 ∷ 61 ∷ 57 ∷ 10 ∷  -- b=9
    99 ∷ 61 ∷ 49 ∷ 50 ∷ 56 ∷ 10 ∷ []  -- c=128

-- a conversion ends, 90 degrees and 50
unfoldable pub hot : List ℕ
hot =
    107 ∷ 105 ∷ 110 ∷ 100 ∷ 61 ∷ 55 ∷ 10 ∷  -- kind=7
    97 ∷ 61 ∷ 57 ∷ 48 ∷ 10 ∷  -- a=90
    98 ∷ 61 ∷ 50 ∷ 48 ∷ 48 ∷ 10 ∷  -- b=200
    99 ∷ 61 ∷ 48 ∷ 10 ∷ []  -- c=0

-- ALERT is high, THERM low
unfoldable pub therm : List ℕ
therm =
    99 ∷ 111 ∷ 100 ∷ 101 ∷ 61 ∷ 48 ∷ 10 ∷  -- code=0
    114 ∷ 101 ∷ 112 ∷ 108 ∷ 121 ∷ 61 ∷ 48 ∷ 10 ∷  -- reply=0
    97 ∷ 108 ∷ 101 ∷ 114 ∷ 116 ∷ 61 ∷ 49 ∷ 10 ∷  -- alert=1
    116 ∷ 104 ∷ 101 ∷ 114 ∷ 109 ∷ 61 ∷ 48 ∷ 10 ∷ []  -- therm=0

-- a field that kind 6 does not use
unfoldable pub used : List ℕ
used =
    107 ∷ 105 ∷ 110 ∷ 100 ∷ 61 ∷ 54 ∷ 10 ∷  -- kind=6
    97 ∷ 61 ∷ 49 ∷ 10 ∷  -- a=1
    98 ∷ 61 ∷ 48 ∷ 10 ∷  -- b=0
    99 ∷ 61 ∷ 48 ∷ 10 ∷ []  -- c=0

-- what it is answered
unfoldable pub bad_field : List ℕ
bad_field =
    99 ∷ 111 ∷ 100 ∷ 101 ∷ 61 ∷ 50 ∷ 10 ∷  -- code=2
    114 ∷ 101 ∷ 112 ∷ 108 ∷ 121 ∷ 61 ∷ 48 ∷ 10 ∷  -- reply=0
    97 ∷ 108 ∷ 101 ∷ 114 ∷ 116 ∷ 61 ∷ 49 ∷ 10 ∷  -- alert=1
    116 ∷ 104 ∷ 101 ∷ 114 ∷ 109 ∷ 61 ∷ 49 ∷ 10 ∷ []  -- therm=1

-- a conversion ended while none runs
unfoldable pub early : List ℕ
early =
    99 ∷ 111 ∷ 100 ∷ 101 ∷ 61 ∷ 53 ∷ 10 ∷  -- code=5
    114 ∷ 101 ∷ 112 ∷ 108 ∷ 121 ∷ 61 ∷ 48 ∷ 10 ∷  -- reply=0
    97 ∷ 108 ∷ 101 ∷ 114 ∷ 116 ∷ 61 ∷ 49 ∷ 10 ∷  -- alert=1
    116 ∷ 104 ∷ 101 ∷ 114 ∷ 109 ∷ 61 ∷ 49 ∷ 10 ∷ []  -- therm=1

-- so many bytes of output before the replay, and so many that it left alone
abbrev room : ℕ → List ℕ
room n = replicate n 7

abbrev row : ℤ → List ℕ → List ℕ → ℕ → List ℕ → List ℕ → Row
row address trace output code after report =
    record { address = address; trace = trace; output = output; wanted = record { code = code; output = after; report = report } }

-- a report of small numbers: code, records answered, trace bytes used, output bytes written
abbrev told : ℕ → ℕ → ℕ → ℕ → List ℕ
told code records used written =
    code ∷ 0 ∷ 0 ∷ 0 ∷ records ∷ 0 ∷ 0 ∷ 0 ∷ used ∷ 0 ∷ 0 ∷ 0 ∷ written ∷ 0 ∷ 0 ∷ 0 ∷ []

abbrev untold : List ℕ
untold = replicate 16 9

unfoldable pub replay_rows : List Row
replay_rows =
    -- "Codes 1 to 5 are answered as records and replay goes on"; "A record may begin anywhere"
    row (pos 76) (strange ++ other ++ start ++ start) (room 130) 0 (no_kind ++ not_mine ++ done ++ again ++ room 6) (told 0 4 77 124) ∷
    row (pos 76) (used ++ warm ++ start) (room 100) 0 (bad_field ++ early ++ done ++ room 7) (told 0 3 60 93) ∷
    -- "1 means the line is high": of the two lines one is low
    row (pos 76) (low ++ start ++ warm ++ mask ++ start ++ hot) (room 200) 0 (done ++ done ++ alarm ++ done ++ done ++ therm ++ room 14) (told 0 6 126 186) ∷
    -- "for an address": the chip at 77 answers to 77
    row (pos 77) other (room 31) 0 (done ++ []) (told 0 1 20 31) ∷
    -- "Where the rest of a trace yields no record, replay stops there with code 7": four lines that are none, or too few; at once or later
    row (pos 76) lame (room 40) 7 (room 40) (told 7 0 0 0) ∷
    row (pos 76) cut (room 40) 7 (room 40) (told 7 0 0 0) ∷
    row (pos 76) (start ++ lame ++ start) (room 70) 7 (done ++ room 39) (told 7 1 19 31) ∷
    row (pos 76) (start ++ cut) (room 70) 7 (done ++ room 39) (told 7 1 19 31) ∷
    row (pos 76) (other ++ start ++ cut) (room 70) 7 (not_mine ++ done ++ room 8) (told 7 2 39 62) ∷
    row (pos 76) (start ++ (107 ∷ [])) (room 70) 7 (done ++ room 39) (told 7 1 19 31) ∷
    row (pos 76) (10 ∷ []) (room 70) 7 (room 70) (told 7 0 0 0) ∷
    -- 8, "the answer doesn't fit in what is left of the output": by one byte, at once or later; "the counts leave out whatever stopped the replay"
    row (pos 76) start (room 30) 8 (room 30) (told 8 0 0 0) ∷
    row (pos 76) start [] 8 [] (told 8 0 0 0) ∷
    row (pos 76) (start ++ start) (room 61) 8 (done ++ room 30) (told 8 1 19 31) ∷
    row (pos 76) (start ++ start) (room 62) 0 (done ++ again) (told 0 2 38 62) ∷
    -- "Code 7 comes before 8"
    row (pos 76) (start ++ lame) (room 31) 7 done (told 7 1 19 31) ∷
    row (pos 76) lame [] 7 [] (told 7 0 0 0) ∷
    -- "A bad address .. is code 2 and writes nothing, the report included": before anything of the trace
    row (pos 75) start (room 40) 2 (room 40) untold ∷
    row (pos 78) lame (room 40) 2 (room 40) untold ∷
    row (pos 0) [] (room 40) 2 (room 40) untold ∷
    row (negsuc 75) start (room 40) 2 (room 40) untold ∷
    []

abbrev pub ReplayCases : Type 0
ReplayCases = map (λ r. replay_of r.address r.trace r.output untold) replay_rows ≡ map (λ (r : Row). r.wanted) replay_rows

-- what code 2 leaves behind
abbrev nothing : List ℕ → List ℕ → Result
nothing output report = record { code = 2; output = output; report = report }

-- "a trace or output over 16 MiB, or a report not 16 bytes long, is code 2 and writes nothing"
pub record Lengths (address : ℤ) (trace output report : List ℕ) : Type 0 where
  pub long_trace : 16777216 < length trace → replay_of address trace output report ≡ nothing output report
  pub long_output : 16777216 < length output → replay_of address trace output report ≡ nothing output report
  pub short_report : length report < 16 → replay_of address trace output report ≡ nothing output report
  pub long_report : 16 < length report → replay_of address trace output report ≡ nothing output report

-- and with an address that a chip can have, none of them over its limit, it is played
abbrev pub LengthsRefused : Type 0
LengthsRefused = (address : ℤ) (trace output report : List ℕ) → Lengths address trace output report

abbrev pub LengthsTaken : Type 0
LengthsTaken =
    (address : ℤ) (trace output report : List ℕ) → (made_of address).code ≡ Done → length trace ≤ 16777216 → length output ≤ 16777216 → length report ≡ 16
    → replay_of address trace output report ≡ played (run_of (made_of address).state trace (length output)) output
