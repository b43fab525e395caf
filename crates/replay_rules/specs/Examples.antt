-- Document 01's whole case and its empty trace, as bytes, and the events of the first. Assumes nothing.
use Rattle.std.specs.Prelude.{ℕ, ◌≡◌, List, [], ◌∷◌, ◌++◌, replicate}
use Rattle.std.proofs.Math.IntN.ℤ.{pos}
use Rattle.replay_rules.specs.Alarms.{events_at}
use Rattle.replay_rules.specs.Replay.{replay_of}

-- the twelve lines of the whole case's trace, and the twelve of its answers, byte by byte: no name or digit of them is taken from a definition
unfoldable pub whole_trace : List ℕ
whole_trace =
    107 ∷ 105 ∷ 110 ∷ 100 ∷ 61 ∷ 54 ∷ 10 ∷  -- kind=6
    97 ∷ 61 ∷ 48 ∷ 10 ∷  -- a=0
    98 ∷ 61 ∷ 48 ∷ 10 ∷  -- b=0
    99 ∷ 61 ∷ 48 ∷ 10 ∷  -- c=0
    107 ∷ 105 ∷ 110 ∷ 100 ∷ 61 ∷ 55 ∷ 10 ∷  -- kind=7
    97 ∷ 61 ∷ 50 ∷ 48 ∷ 10 ∷  -- a=20
    98 ∷ 61 ∷ 51 ∷ 52 ∷ 49 ∷ 10 ∷  -- b=341
    99 ∷ 61 ∷ 48 ∷ 10 ∷  -- c=0
    107 ∷ 105 ∷ 110 ∷ 100 ∷ 61 ∷ 51 ∷ 10 ∷  -- kind=3
    97 ∷ 61 ∷ 55 ∷ 54 ∷ 10 ∷  -- a=76
    98 ∷ 61 ∷ 50 ∷ 10 ∷  -- b=2
    99 ∷ 61 ∷ 48 ∷ 10 ∷ []  -- c=0

unfoldable pub whole_answers : List ℕ
whole_answers =
    99 ∷ 111 ∷ 100 ∷ 101 ∷ 61 ∷ 48 ∷ 10 ∷  -- code=0
    114 ∷ 101 ∷ 112 ∷ 108 ∷ 121 ∷ 61 ∷ 48 ∷ 10 ∷  -- reply=0
    97 ∷ 108 ∷ 101 ∷ 114 ∷ 116 ∷ 61 ∷ 49 ∷ 10 ∷  -- alert=1
    116 ∷ 104 ∷ 101 ∷ 114 ∷ 109 ∷ 61 ∷ 49 ∷ 10 ∷  -- therm=1
    99 ∷ 111 ∷ 100 ∷ 101 ∷ 61 ∷ 48 ∷ 10 ∷  -- code=0
    114 ∷ 101 ∷ 112 ∷ 108 ∷ 121 ∷ 61 ∷ 48 ∷ 10 ∷  -- reply=0
    97 ∷ 108 ∷ 101 ∷ 114 ∷ 116 ∷ 61 ∷ 48 ∷ 10 ∷  -- alert=0
    116 ∷ 104 ∷ 101 ∷ 114 ∷ 109 ∷ 61 ∷ 48 ∷ 10 ∷  -- therm=0
    99 ∷ 111 ∷ 100 ∷ 101 ∷ 61 ∷ 48 ∷ 10 ∷  -- code=0
    114 ∷ 101 ∷ 112 ∷ 108 ∷ 121 ∷ 61 ∷ 49 ∷ 56 ∷ 10 ∷  -- reply=18
    97 ∷ 108 ∷ 101 ∷ 114 ∷ 116 ∷ 61 ∷ 48 ∷ 10 ∷  -- alert=0
    116 ∷ 104 ∷ 101 ∷ 114 ∷ 109 ∷ 61 ∷ 48 ∷ 10 ∷ []  -- therm=0

-- into 100 bytes of room: 3 records, 61 bytes of trace, 94 of answers, the rest as it was
abbrev pub WholeCase : Type 0
WholeCase =
    replay_of (pos 76) whole_trace (replicate 100 7) (replicate 16 9) ≡ record {
      code = 0;
      output = whole_answers ++ replicate 6 7;
      report = 0 ∷ 0 ∷ 0 ∷ 0 ∷ 3 ∷ 0 ∷ 0 ∷ 0 ∷ 61 ∷ 0 ∷ 0 ∷ 0 ∷ 94 ∷ 0 ∷ 0 ∷ 0 ∷ [];
    }

-- its three events, so that what Alarms.antt says of each event is said of some
abbrev pub WholeEvents : Type 0
WholeEvents =
    events_at (pos 76) whole_trace 100 ≡
    record { kind = pos 6; a = pos 0; b = pos 0; c = pos 0 } ∷
    record { kind = pos 7; a = pos 20; b = pos 341; c = pos 0 } ∷
    record { kind = pos 3; a = pos 76; b = pos 2; c = pos 0 } ∷ []

-- "An empty trace gives code 0 and no bytes"
abbrev pub EmptyTrace : Type 0
EmptyTrace =
    replay_of (pos 76) [] (replicate 3 7) (replicate 16 9) ≡ record { code = 0; output = replicate 3 7; report = replicate 16 0 }
