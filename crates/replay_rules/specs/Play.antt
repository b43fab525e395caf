-- Records read, stepped and answered one after the other, up to the end or to what stops them. Assumes nothing.
use Rattle.rules.specs.Codes.{number_of}
use Rattle.std.specs.Prelude.{ℕ, zero, suc, ◌+◌, ◌*◌, ◌-◌, ◌≤◌, ◌≡◌, cond, List, [], ◌++◌, eqb, leb, length, drop, Option, Some, None, Result, Ok, Err}
use Rattle.rules.specs.declared.event.Numbers.{Numbers}
use Rattle.rules.specs.declared.state.State.{State}
use Rattle.rules.specs.declared.answer.Answer.{Answer}
use Rattle.rules.specs.Step.{step_of}
use Rattle.text_rules.specs.declared.answer.Shown.{Shown}
use Rattle.text_rules.specs.declared.record.Record.{Record}
use Rattle.text_rules.specs.declared.record.Unread.TheVariants.{Part, Malformed}
use Rattle.text_rules.specs.Record.{Parsed, parsed_code, record_of}
use Rattle.text_rules.specs.Answer.{Front, answer_text, put, wrote_code}
use Rattle.text_rules.specs.Sizes.{shortest_record}
use Rattle.replay_rules.specs.declared.play.Played.{Played}
use Rattle.replay_rules.specs.declared.play.Stop.{Stop}
use Rattle.replay_rules.specs.declared.play.Stop.TheVariants.{Record as NoRecord, Room}
use Rattle.replay_rules.specs.declared.play.Went.{Went}

-- a record's event, what it is answered, and the answer's text
abbrev pub numbers_of : Record → Numbers
numbers_of r = record { kind = r.kind; a = r.a; b = r.b; c = r.c }

abbrev pub answer_to : State → Record → Answer
answer_to s r = step_of s (numbers_of r)

unfoldable pub text_of : Answer → List ℕ
text_of a = answer_text (number_of a.code) a.reply a.alert a.therm

-- what a record came to; or what stops the replay there
abbrev pub Turn : Type 0
Turn = Result Went Stop

abbrev pub going : State → ℕ → ℕ → Turn
going s n k = Ok (record { state = s; used = n; written = k })

-- what the text shows of an answer
abbrev pub shown_of : Answer → Shown
shown_of a = record { code = number_of a.code; reply = a.reply; alert = a.alert; therm = a.therm }

-- the record that comes next: an event that is handed over, as a record of no bytes; otherwise the one at the front of the rest
abbrev pub record_for : Numbers → Record
record_for e = record { kind = e.kind; a = e.a; b = e.b; c = e.c }

abbrev pub next_of : Option Numbers → List ℕ → Parsed
next_of None rest = record_of rest
next_of (Some e) rest = Ok (record_for e, 0)

-- "the answer doesn't fit in what is left of the output": code 8; "A record stopped by 8 isn't applied"
abbrev pub fitted : Answer → ℕ → ℕ → Turn
fitted a n room = cond (leb (length (text_of a)) room) (going a.state n (length (text_of a))) (Err Room)

-- "Where the rest of a trace yields no record, replay stops there with code 7"; "Code 7 comes before 8"
abbrev pub turn_from : State → ℕ → Parsed → Turn
turn_from s room (Ok (r, n)) = fitted (answer_to s r) n room
turn_from s room (Err Part) = Err NoRecord
turn_from s room (Err Malformed) = Err NoRecord

unfoldable pub turn_of : State → List ℕ → ℕ → Turn
turn_of s rest room = turn_from s room (record_of rest)

-- the text that one record adds to the output: none where it was stopped
abbrev pub added_from : State → ℕ → Parsed → List ℕ
added_from s room (Ok (r, n)) = cond (leb (length (text_of (answer_to s r))) room) (text_of (answer_to s r)) []
added_from s room (Err e) = []

unfoldable pub added_of : State → List ℕ → ℕ → List ℕ
added_of s rest room = added_from s room (record_of rest)

-- what one record's turn promises: "Answers go straight into the output"
pub record Turned (s : State) (rest before after : List ℕ) (r : Turn) : Type 0 where
  pub said : r ≡ turn_of s rest (length before)
  pub bytes : after ≡ put (added_of s rest (length before)) before

-- a replay: its code, "records answered, trace bytes used", the answers' text, and the state
pub record Run : Type 0 where
  pub code : ℕ
  pub records : ℕ
  pub used : ℕ
  pub text : List ℕ
  pub state : State

abbrev pub ended : Run → ℕ → Run
ended p code = record { code = code; records = p.records; used = p.used; text = p.text; state = p.state }

abbrev pub went : Run → State → ℕ → List ℕ → Run
went p s n text = record { code = 0; records = p.records + 1; used = p.used + n; text = p.text ++ text; state = s }

-- document 01's number for each case: 7, "Where the rest of a trace yields no record"; 8, "the answer doesn't fit"; 0 where nothing stopped
abbrev pub stop_code : Stop → ℕ
stop_code NoRecord = parsed_code (Err Malformed)
stop_code Room = wrote_code None

abbrev pub end_code : Option Stop → ℕ
end_code None = 0
end_code (Some stop) = stop_code stop

abbrev pub turn_code : Turn → ℕ
turn_code (Ok w) = 0
turn_code (Err stop) = stop_code stop

abbrev pub on_turn : {A : Type 0} → Turn → (State → ℕ → ℕ → A) → (ℕ → A) → A
on_turn (Ok w) on off = on w.state w.used w.written
on_turn (Err stop) on off = off (turn_code (Err stop))

-- "An empty rest is the end, code 0"; "the counts leave out whatever stopped the replay"; "Codes 1 to 5 are answered as records
-- and replay goes on". A record is not empty, so as many turns as the trace has bytes are enough
unfoldable pub run_from : ℕ → Run → List ℕ → ℕ → Run
run_from zero p rest room = ended p 0
run_from (suc turns) p rest room =
    cond (eqb (length rest) 0) (ended p 0)
    (on_turn (turn_of p.state rest room)
    (λ s n k. run_from turns (went p s n (added_of p.state rest room)) (drop n rest) (room - k))
    (λ code. ended p code))

abbrev pub begun : State → Run
begun s = record { code = 0; records = 0; used = 0; text = []; state = s }

-- the whole trace, from a state, into so much room
unfoldable pub run_of : State → List ℕ → ℕ → Run
run_of s trace room = run_from (length trace) (begun s) trace room

-- under way: so many records, trace bytes and output bytes, and the text that stands at the output's front
pub record Mid (s : State) (t x₀ x : List ℕ) (now : State) (n u w : ℕ) : Type 0 where
  pub text : List ℕ
  pub front : Front text x₀ x w
  pub inside : u ≤ length t
  pub few : shortest_record * n ≤ u
  pub goes : run_of s t (length x₀) ≡ run_from (length t - n) (record { code = 0; records = n; used = u; text = text; state = now }) (drop u t) (length x₀ - w)

-- what a whole trace's play promises: each of its numbers, and every byte of the output
pub record Ran (s : State) (trace before after : List ℕ) (r : Played) : Type 0 where
  pub code : end_code r.stop ≡ (run_of s trace (length before)).code
  pub records : r.records ≡ (run_of s trace (length before)).records
  pub used : r.used ≡ (run_of s trace (length before)).used
  pub written : r.written ≡ length (run_of s trace (length before)).text
  pub state : r.state ≡ (run_of s trace (length before)).state
  pub bytes : after ≡ put (run_of s trace (length before)).text before
