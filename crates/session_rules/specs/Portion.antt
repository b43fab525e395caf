-- Document 02, item 1: one portion of a trace. Assumes nothing.
use Rattle.std.specs.Prelude.{Option, Some, None}
use Rattle.session_rules.specs.declared.session.Stop.TheVariants.{TooLong, NoSession, Record as NoRecord, Room, Ended}
use Rattle.replay_rules.specs.declared.play.Stop.{Stop as PlayStop}
use Rattle.replay_rules.specs.declared.play.Stop.TheVariants.{Record as PlayRecord, Room as PlayRoom}
use Rattle.session_rules.specs.declared.session.Stop.{Stop}
use Rattle.std.specs.Prelude.{ℕ, ◌+◌, ◌-◌, ◌≡◌, Bool, cond, false, not, ◌&&◌, ◌||◌, List, [], ◌++◌, eqb, ltb, length, drop, take}
use Rattle.text_rules.specs.Answer.{put}
use Rattle.replay_rules.specs.Play.{Run, run_of}
use Rattle.blocks.specs.Blocks.{filled, word}
use Rattle.session_rules.specs.declared.session.Fed.{Fed}
use Rattle.session_rules.specs.declared.session.Session.{Session}
use Rattle.session_rules.specs.declared.session.Window.{Window}
use Rattle.session_rules.specs.Session.{carried_of, is_session, padded, partial}

-- what a portion gives: its code, how many of its bytes were taken, the answers' text, and the session after it
pub record Feed : Type 0 where
  pub code : ℕ
  pub taken : ℕ
  pub text : List ℕ
  pub session : Session

-- the codes: 2, "one that takes the total over 16 MiB"; 6, for what is no session; 7, a record that is bad; 8, "the next answer doesn't fit";
-- 9, "a non-empty portion after the end was declared"; 0 where nothing stopped
abbrev pub number_of : Stop → ℕ
number_of TooLong = 2
number_of NoSession = 6
number_of NoRecord = 7
number_of Room = 8
number_of Ended = 9

abbrev pub fed_code : Option Stop → ℕ
fed_code None = 0
fed_code (Some stop) = number_of stop

-- "Refusals, changing nothing"
abbrev pub refusal : Session → ℕ → Feed
refusal s code = record { code = code; taken = 0; text = []; session = s }

-- the first 39 bytes, which decide whether a record stands there
abbrev pub window_of : List ℕ → Window
window_of bytes = record { bytes = filled 39 bytes; count = length (take 39 bytes) }

-- a run over what was carried and the portion behind it, which stopped at a partial record
abbrev pub waits : Run → List ℕ → Bool
waits r bytes = eqb r.code 7 && partial (drop r.used bytes)

-- the session after such a run: all of the portion was taken, or what lies before the record that stopped it
abbrev pub moved_on : Session → Run → Bool → Bool → List ℕ → Session
moved_on s r ended stopped rest =
    record {
      chip = r.state;
      records = s.records + r.records;
      used = s.used + r.used;
      written = s.written + length r.text;
      ended = s.ended || ended;
      stopped = stopped;
      count = length rest;
      carried = padded rest;
    }

-- "A partial record .. is code 7 only when the end is declared"; at the end of all bytes the rest is empty, code 0
abbrev pub all_taken : Session → List ℕ → Bool → Run → ℕ → Feed
all_taken s portion end r code =
    record {
      code = code;
      taken = length portion;
      text = r.text;
      session = moved_on s r end (eqb code 7) (drop r.used (carried_of s ++ portion));
    }

-- "any other bad rest at once"; "If the next answer doesn't fit, the call gives code 8; the caller comes back with .. the bytes not
-- taken". Where that record began in what was carried, none of the portion is taken, and the carried bytes stay
abbrev pub stopped_at : Session → Run → Feed
stopped_at s r =
    record {
      code = r.code;
      taken = r.used - s.count;
      text = r.text;
      session = moved_on s r false (eqb r.code 7) (drop r.used (carried_of s));
    }

abbrev pub settled : Session → List ℕ → Bool → Run → Bool → Feed
settled s portion end r waiting =
    cond waiting (all_taken s portion end r (cond end 7 0))
    (cond (eqb r.code 0) (all_taken s portion end r 0) (stopped_at s r))

-- "a non-empty portion after the end was declared is code 9; then the repeated 7; one that takes the total over 16 MiB is code 2"; before
-- all, code 6 for what is no session; 0 where the portion is looked at
unfoldable pub refused_with : Session → ℕ → ℕ
refused_with s size =
    cond (not (is_session s)) 6
    (cond (s.ended && ltb 0 size) 9
    (cond s.stopped 7
    (cond (ltb 16777216 (s.used + s.count + size)) 2 0)))

-- the same, by what refuses; none where the portion is looked at
unfoldable pub refusal_of : Session → ℕ → Option Stop
refusal_of s size =
    cond (not (is_session s)) (Some NoSession)
    (cond (s.ended && ltb 0 size) (Some Ended)
    (cond s.stopped (Some NoRecord)
    (cond (ltb 16777216 (s.used + s.count + size)) (Some TooLong) None)))

-- what stopped a play, as a portion has it
abbrev pub stop_for : Option PlayStop → Option Stop
stop_for None = None
stop_for (Some PlayRecord) = Some NoRecord
stop_for (Some PlayRoom) = Some Room

unfoldable pub feed_of : Session → List ℕ → Bool → ℕ → Feed
feed_of s portion end room =
    cond (eqb (refused_with s (length portion)) 0)
    (let bytes = carried_of s ++ portion in
    let r = run_of s.chip bytes room in
    settled s portion end r (waits r bytes))
    (refusal s (refused_with s (length portion)))

-- "code, records answered, trace bytes used, output bytes written": this call's code, and the session's counts so far
unfoldable pub report_after : Feed → List ℕ
report_after f = ((word f.code ++ word f.session.records) ++ word f.session.used) ++ word f.session.written

-- what one portion promises: each number, the session, and every byte of the output
pub record FedOn (wanted : Feed) (before after : List ℕ) (r : Fed) : Type 0 where
  pub code : fed_code r.stop ≡ wanted.code
  pub taken : r.taken ≡ wanted.taken
  pub written : r.written ≡ length wanted.text
  pub session : r.session ≡ wanted.session
  pub bytes : after ≡ put wanted.text before

-- the same, of a session and what is lent
abbrev pub FedBy : Session → List ℕ → Bool → List ℕ → List ℕ → Fed → Type 0
FedBy s portion end before after r = FedOn (feed_of s portion end (length before)) before after r
