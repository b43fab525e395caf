-- What a turn, a run's first turn, a report's numbers and the promises mean, in other words: an error made in their definitions and in the
-- code alike is refused here. The proofs are in proofs/Meant.antt. Assumes nothing.
use Rattle.std.specs.Prelude.{Bool}
use Rattle.rules.specs.Codes.{number_of}
use Rattle.rules.specs.declared.answer.Answer.{Answer}
use Rattle.std.specs.Prelude.{ℕ, ◌+◌, ◌*◌, ◌<◌, ◌≤◌, ◌≡◌, List, [], ◌∷◌, ◌++◌, drop, length, Option, Some, None, Ok, Err}
use Rattle.std.proofs.Math.IntN.ℤ.{pos}
use Rattle.rules.specs.declared.state.State.{State}
use Rattle.rules.specs.Step.{step_of}
use Rattle.text_rules.specs.declared.record.Unread.{Unread}
use Rattle.text_rules.specs.declared.record.Unread.TheVariants.{Part, Malformed}
use Rattle.text_rules.specs.declared.record.Record.{Record}
use Rattle.text_rules.specs.Answer.{answer_text, shown_text, wrote_code}
use Rattle.text_rules.specs.Record.{parsed_code, record_of}
use Rattle.replay_rules.specs.declared.play.Stop.{Stop}
use Rattle.replay_rules.specs.declared.play.Stop.TheVariants.{Record as NoRecord, Room}
use Rattle.replay_rules.specs.Play.{Ran, Run, Turned, added_of, end_code, going, numbers_of, run_of, shown_of, stop_code, text_of, turn_code, turn_of}
use Rattle.blocks.specs.Blocks.{over, word, word_at}
use Rattle.replay_rules.specs.Replay.{Replayed, Result, replay_from, report_of}
use Rattle.replay_rules.specs.Room.{room_of}

-- a record whose answer fits is answered, whatever its code; one whose answer does not is code 8; no record is code 7, whatever the room
pub record Turning (s : State) (rest : List ℕ) (room : ℕ) : Type 0 where
  pub on : (r : Record) (n : ℕ) → record_of rest ≡ Ok (r, n) → length (text_of (step_of s (numbers_of r))) ≤ room
      → turn_of s rest room ≡ Ok (record { state = (step_of s (numbers_of r)).state; used = n; written = length (text_of (step_of s (numbers_of r))) })
  pub full : (r : Record) (n : ℕ) → record_of rest ≡ Ok (r, n) → room < length (text_of (step_of s (numbers_of r))) → turn_of s rest room ≡ Err Room
  pub part : record_of rest ≡ Err Part → turn_of s rest room ≡ Err NoRecord
  pub bad : record_of rest ≡ Err Malformed → turn_of s rest room ≡ Err NoRecord

abbrev pub TurnsMean : Type 0
TurnsMean = (s : State) (rest : List ℕ) (room : ℕ) → Turning s rest room

-- "An empty rest is the end, code 0"; "the counts leave out whatever stopped the replay"
pub record Beginning (s : State) (room : ℕ) : Type 0 where
  pub empty : run_of s [] room ≡ record { code = 0; records = 0; used = 0; text = []; state = s }
  pub stopped : (trace : List ℕ) (stop : Stop) → 0 < length trace → turn_of s trace room ≡ Err stop
      → run_of s trace room ≡ record { code = stop_code stop; records = 0; used = 0; text = []; state = s }

abbrev pub RunsBegin : Type 0
RunsBegin = (s : State) (room : ℕ) → Beginning s room

-- "each 4 bytes, low byte first"
abbrev pub WordsMean : Type 0
WordsMean = (word 67305985 ≡ (1 ∷ 2 ∷ 3 ∷ 4 ∷ [])) × (word 4294967295 ≡ (255 ∷ 255 ∷ 255 ∷ 255 ∷ [])) × (word 16777216 ≡ (0 ∷ 0 ∷ 0 ∷ 1 ∷ []))

-- and a number that 4 bytes hold is read back, whatever comes behind it
abbrev pub WordIsRead : Type 0
WordIsRead = (n : ℕ) (more : List ℕ) → n < 4294967296 → word_at (word n ++ more) 0 ≡ n

-- "code, records answered, trace bytes used, output bytes written", each where it is read
pub record Reports (p : Run) : Type 0 where
  pub code : p.code < 4294967296 → word_at (report_of p) 0 ≡ p.code
  pub records : p.records < 4294967296 → word_at (report_of p) 4 ≡ p.records
  pub used : p.used < 4294967296 → word_at (report_of p) 8 ≡ p.used
  pub written : length p.text < 4294967296 → word_at (report_of p) 12 ≡ length p.text

abbrev pub ReportsMean : Type 0
ReportsMean = (p : Run) → Reports p

-- 33 bytes of room for each full 19 of trace, whatever is left over
abbrev pub RoomMeans : Type 0
RoomMeans = (full over : ℕ) → over < 19 → room_of (19 * full + over) ≡ 33 * full

-- "A bad address .. is code 2 and writes nothing": of any code of making a state but 0
abbrev pub AnyCodeRefused : Type 0
AnyCodeRefused =
    (code : ℕ) (s : State) (trace output report : List ℕ) → (code ≡ 0 → ⊥) → replay_from code s trace output report ≡ record { code = 2; output = output; report = report }

-- a buffer that is lent is written whole where it has the length that is wanted; any other is left as it was
pub record Lent (size : ℕ) (bytes before : List ℕ) : Type 0 where
  pub fits : length before ≡ size → over size bytes before ≡ bytes
  pub other : (length before ≡ size → ⊥) → over size bytes before ≡ before

abbrev pub OverMeans : Type 0
OverMeans = (size : ℕ) (bytes before : List ℕ) → Lent size bytes before

-- what the text shows of an answer, each under its own name
abbrev pub ShownMeans : Type 0
ShownMeans =
    ((code reply : ℕ) (alert therm : Bool) → shown_text (record { code = code; reply = reply; alert = alert; therm = therm }) ≡ answer_text code reply alert therm)
    × ((a : Answer) → shown_of a ≡ record { code = number_of a.code; reply = a.reply; alert = a.alert; therm = a.therm })

-- document 01's numbers of the answers that are enums
pub record Numbers : Type 0 where
  pub whole : (r : Record) (n : ℕ) → parsed_code (Ok (r, n)) ≡ 0
  pub part : parsed_code (Err Part) ≡ 7
  pub malformed : parsed_code (Err Malformed) ≡ 7
  pub written : (n : ℕ) → wrote_code (Some n) ≡ 0
  pub full : wrote_code None ≡ 8
  pub went : (s : State) (n k : ℕ) → turn_code (going s n k) ≡ 0
  pub unread : turn_code (Err NoRecord) ≡ 7
  pub lacking : (s : State) (rest : List ℕ) (room : ℕ) (e : Unread) → record_of rest ≡ Err e → turn_code (turn_of s rest room) ≡ parsed_code (record_of rest)
  pub stopped : turn_code (Err Room) ≡ 8
  pub ended : end_code None ≡ 0
  pub stop : (stop : Stop) → end_code (Some stop) ≡ turn_code (Err stop)

abbrev pub NumbersMean : Type 0
NumbersMean = Numbers

-- the promises ask for what the definitions give, and so for nothing else: no second answer meets them
pub record Promised (s : State) (rest before : List ℕ) (wanted : Result) : Type 0 where
  pub turned : Turned s rest before (added_of s rest (length before) ++ drop (length (added_of s rest (length before))) before) (turn_of s rest (length before))
  pub ran : (stop : Option Stop) × ((p : Run) → run_of s rest (length before) ≡ p
      → Ran s rest before (p.text ++ drop (length p.text) before) (record { stop = stop; records = p.records; used = p.used; written = length p.text; state = p.state }))
  pub replayed : Replayed wanted (pos wanted.code) wanted.output wanted.report

abbrev pub PromisesMet : Type 0
PromisesMet = (s : State) (rest before : List ℕ) (wanted : Result) → Promised s rest before wanted
