-- Document 01's whole case and its empty trace, as the program writes them; and its last line, in every case. Assumes nothing.
use Rattle.std.specs.Prelude.{ℕ, ◌<◌, ◌≤◌, ◌≡◌, List, [], ◌∷◌, ◌++◌, drop, length}
use Rattle.std.proofs.Math.IntN.ℤ.{pos}
use Rattle.rules.specs.PowerOn.{made_of}
use Rattle.replay_rules.specs.Play.{run_of}
use Rattle.replay_rules.specs.Room.{room_of}
use Rattle.replay_rules.specs.Examples.{whole_answers, whole_trace}
use Rattle.console_rules.specs.Console.{Written, console_text, end_line}

abbrev pub WholeText : Type 0
WholeText = console_text whole_trace ≡ whole_answers ++ end_line 0

-- "An empty trace gives code 0 and no bytes"
abbrev pub EmptyText : Type 0
EmptyText = console_text [] ≡ end_line 0

-- the program's last line, byte by byte: end=0, end=2, end=7
abbrev end_zero : List ℕ
end_zero = 101 ∷ 110 ∷ 100 ∷ 61 ∷ 48 ∷ 10 ∷ []

abbrev end_two : List ℕ
end_two = 101 ∷ 110 ∷ 100 ∷ 61 ∷ 50 ∷ 10 ∷ []

abbrev end_seven : List ℕ
end_seven = 101 ∷ 110 ∷ 100 ∷ 61 ∷ 55 ∷ 10 ∷ []

-- "at most 24 KiB of trace; a longer one is code 2", "for code 2 that line only"; the answers come before the line
pub record Ends (trace : List ℕ) : Type 0 where
  pub longer : 24576 < length trace → console_text trace ≡ end_two
  pub done : length trace ≤ 24576 → (run_of (made_of (pos 76)).state trace (room_of (length trace))).code ≡ 0
      → console_text trace ≡ (run_of (made_of (pos 76)).state trace (room_of (length trace))).text ++ end_zero
  pub stopped : length trace ≤ 24576 → (run_of (made_of (pos 76)).state trace (room_of (length trace))).code ≡ 7
      → console_text trace ≡ (run_of (made_of (pos 76)).state trace (room_of (length trace))).text ++ end_seven

abbrev pub EndsMean : Type 0
EndsMean = (trace : List ℕ) → Ends trace

-- a trace that is no record, and the whole case
abbrev pub LastLines : Type 0
LastLines = (console_text (10 ∷ []) ≡ end_seven) × (console_text whole_trace ≡ whole_answers ++ end_zero)

-- the promise asks for what the definition gives
abbrev pub PromiseMet : Type 0
PromiseMet = (trace before : List ℕ) → Written trace before (console_text trace ++ drop (length (console_text trace)) before) (length (console_text trace))
