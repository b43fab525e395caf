-- Document 01, Traces and their replay: "A small program does the same from standard input". Everything that it writes, as one
-- text of the trace. Assumes nothing.
use Rattle.rules.specs.Codes.{number_of}
use Rattle.std.specs.Prelude.{ℕ, ◌+◌, ◌≤◌, ◌≡◌, cond, false, List, ◌++◌, ltb, length, Option, unwrap_or}
use Rattle.std.proofs.Math.IntN.ℤ.{pos}
use Rattle.rules.specs.declared.state.State.{State}
use Rattle.rules.specs.PowerOn.{made_of}
use Rattle.text_rules.specs.Names.{end_name}
use Rattle.text_rules.specs.Answer.{line_text, put}
use Rattle.replay_rules.specs.Play.{Run, run_of}
use Rattle.replay_rules.specs.Replay.{played, refused_at_once, replay_of}
use Rattle.replay_rules.specs.Room.{room_of}

-- "at most 24 KiB of trace"
abbrev pub most : ℕ
most = 24576

-- "one more line, end= and the code"
abbrev pub end_line : ℕ → List ℕ
end_line code = line_text end_name code

-- "does the same .., for address 76"; "It starts from power-on"
abbrev pub start : State
start = (made_of (pos 76)).state

-- "with output room enough that code 8 is never given"
unfoldable pub run_on : List ℕ → Run
run_on trace = run_of start trace (room_of (length trace))

-- "It writes the answers, .. and after them one more line"
abbrev pub answered : Run → List ℕ
answered p = p.text ++ end_line p.code

-- "a longer one is code 2"; "for code 2 that line only"
unfoldable pub console_text : List ℕ → List ℕ
console_text trace = cond (ltb most (length trace)) (end_line 2) (answered (run_on trace))

-- what is promised of a trace: all of that text at the front of what is lent, the rest as it was, and how long the text is
pub record Written (trace before after : List ℕ) (r : ℕ) : Type 0 where
  pub count : r ≡ length (console_text trace)
  pub bytes : after ≡ put (console_text trace) before

-- the bytes that a writer wrote
abbrev pub count_of : Option ℕ → ℕ
count_of wrote = unwrap_or wrote 0

-- "does the same": what replay answers and writes for address 76, wherever it takes the buffers and has the room
abbrev pub DoesTheSame : Type 0
DoesTheSame =
    (trace output report : List ℕ) → refused_at_once (number_of (made_of (pos 76)).code) trace output report ≡ false → room_of (length trace) ≤ length output
    → replay_of (pos 76) trace output report ≡ played (run_on trace) output

-- "code 8 is never given"
abbrev pub NeverEight : Type 0
NeverEight = (trace : List ℕ) → (run_on trace).code ≡ 8 → ⊥

-- no trace makes it write more than 42675 bytes: the answers to 24 KiB, and 6 for the end
abbrev pub longest : ℕ
longest = room_of most + 6

abbrev pub TextFits : Type 0
TextFits = (trace : List ℕ) → length (console_text trace) ≤ longest
