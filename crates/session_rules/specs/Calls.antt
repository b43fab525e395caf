-- Document 02, item 1, over every list of calls: "However the trace is cut, once no answer waits for room, the answers joined, the end state
-- and the final report equal those of one replay over the whole with room enough". Proofs in proofs/Calls.antt. Assumes nothing.
use Rattle.std.specs.Prelude.{Ok}
use Rattle.rules.specs.declared.answer.Code.TheVariants.{Done}
use Rattle.std.specs.Prelude.{ℕ, ◌+◌, ◌-◌, ◌≤◌, ◌<◌, ◌≡◌, Bool, false, true, List, [], ◌∷◌, ◌++◌, map, ℤ, drop, length, take}
use Rattle.rules.specs.Alarm.{Demand, Shows}
use Rattle.rules.specs.PowerOn.{made_of}
use Rattle.text_rules.specs.declared.record.Record.{Record}
use Rattle.text_rules.specs.Record.{record_of}
use Rattle.text_rules.specs.Sizes.{longest_answer}
use Rattle.replay_rules.specs.Alarms.{history_at, run_at}
use Rattle.replay_rules.specs.Play.{answer_to, text_of}
use Rattle.replay_rules.specs.Replay.{report_of}
use Rattle.replay_rules.specs.Room.{room_of}
use Rattle.session_rules.specs.declared.session.Session.{Session}
use Rattle.session_rules.specs.Session.{carried_of, is_session, opened_of}
use Rattle.session_rules.specs.Portion.{Feed, feed_of, report_after}

-- ---- Calls one after the other ----

-- a portion, whether it is the end, and the room that is lent
pub record Call : Type 0 where
  pub portion : List ℕ
  pub end : Bool
  pub room : ℕ

abbrev pub fed : Session → Call → Feed
fed s c = feed_of s c.portion c.end c.room

unfoldable pub session_after : Session → List Call → Session
session_after s [] = s
session_after s (c ∷ cs) = session_after (fed s c).session cs

-- the answers joined
unfoldable pub answers_after : Session → List Call → List ℕ
answers_after s [] = []
answers_after s (c ∷ cs) = (fed s c).text ++ answers_after (fed s c).session cs

-- the bytes taken, joined
unfoldable pub taken_after : Session → List Call → List ℕ
taken_after s [] = []
taken_after s (c ∷ cs) = take (fed s c).taken c.portion ++ taken_after (fed s c).session cs

-- the same from power-on
abbrev pub opened : ℤ → Session
opened address = (opened_of address).session

abbrev pub session_at : ℤ → List Call → Session
session_at address cs = session_after (opened address) cs

abbrev pub answers_at : ℤ → List Call → List ℕ
answers_at address cs = answers_after (opened address) cs

abbrev pub taken_at : ℤ → List Call → List ℕ
taken_at address cs = taken_after (opened address) cs

-- ---- At every moment ----

-- the answers, the chip and the counts are those of one replay over the bytes taken, and what is carried is its unused rest: no answer is
-- lost and none is given twice
pub record AsOne (address : ℤ) (cs : List Call) (room : ℕ) : Type 0 where
  pub answers : (run_at address (taken_at address cs) room).text ≡ answers_at address cs
  pub chip : (run_at address (taken_at address cs) room).state ≡ (session_at address cs).chip
  pub records : (run_at address (taken_at address cs) room).records ≡ (session_at address cs).records
  pub used : (run_at address (taken_at address cs) room).used ≡ (session_at address cs).used
  pub written : (session_at address cs).written ≡ length (answers_at address cs)
  pub carried : drop (session_at address cs).used (taken_at address cs) ≡ carried_of (session_at address cs)
  pub size : length (taken_at address cs) ≤ 16777216

abbrev pub EveryMoment : Type 0
EveryMoment =
    (address : ℤ) → (made_of address).code ≡ Done → (cs : List Call) (room : ℕ) → room_of (length (taken_at address cs)) ≤ room
    → AsOne address cs room

-- what calls leave is a session again, so that code 6 is never given
abbrev pub StaysSession : Type 0
StaysSession = (address : ℤ) → (made_of address).code ≡ Done → (cs : List Call) → is_session (session_at address cs) ≡ true

-- ---- At the end ----

-- a call that is not refused by 9 and leaves the end declared: all of it was taken, and its report is that of one replay over the whole
pub record AtEnd (address : ℤ) (cs : List Call) (c : Call) (room : ℕ) : Type 0 where
  pub all : (fed (session_at address cs) c).taken ≡ length c.portion
  pub report : report_after (fed (session_at address cs) c) ≡ report_of (run_at address (taken_at address cs ++ c.portion) room)
  pub answers : answers_at address cs ++ (fed (session_at address cs) c).text ≡ (run_at address (taken_at address cs ++ c.portion) room).text
  pub chip : (fed (session_at address cs) c).session.chip ≡ (run_at address (taken_at address cs ++ c.portion) room).state

abbrev pub EndIsWhole : Type 0
EndIsWhole =
    (address : ℤ) → (made_of address).code ≡ Done → (cs : List Call) (c : Call) → (fed (session_at address cs) c).session.ended ≡ true
    → ((fed (session_at address cs) c).code ≡ 9 → ⊥) → (room : ℕ) → room_of (length (taken_at address cs ++ c.portion)) ≤ room
    → AtEnd address cs c room

-- "any other bad rest at once": a call that gives 7 with no end declared is one replay over all that was offered, and over any longer trace
-- that begins so
pub record AtOnce (address : ℤ) (cs : List Call) (c : Call) (trace : List ℕ) (room : ℕ) : Type 0 where
  pub run : run_at address trace room
      ≡ record {
        code = 7;
        records = (fed (session_at address cs) c).session.records;
        used = (fed (session_at address cs) c).session.used;
        text = answers_at address cs ++ (fed (session_at address cs) c).text;
        state = (fed (session_at address cs) c).session.chip;
      }
  pub report : report_after (fed (session_at address cs) c) ≡ report_of (run_at address trace room)

abbrev pub BadAtOnce : Type 0
BadAtOnce =
    (address : ℤ) → (made_of address).code ≡ Done → (cs : List Call) (c : Call) (more : List ℕ) (room : ℕ)
    → (session_at address cs).stopped ≡ false → (fed (session_at address cs) c).code ≡ 7 → (fed (session_at address cs) c).session.ended ≡ false
    → room_of (length (taken_at address cs ++ (c.portion ++ more))) ≤ room
    → AtOnce address cs c (taken_at address cs ++ (c.portion ++ more)) room

-- ---- Room ----

-- a call that gives 8, from any session: the record that waits is whole, its answer does not fit in the room that is left, and all before
-- it was taken; the end that came with it did not count
pub record Waiting (s : Session) (c : Call) (f : Feed) : Type 0 where
  pub numbers : Record
  pub size : ℕ
  pub whole : record_of (carried_of f.session ++ drop f.taken c.portion) ≡ Ok (numbers, size)
  pub full : c.room - length f.text < length (text_of (answer_to f.session.chip numbers))
  pub end : f.session.ended ≡ s.ended
  pub stopped : f.session.stopped ≡ false

abbrev pub EightMeans : Type 0
EightMeans = (s : Session) (c : Call) → (fed s c).code ≡ 8 → Waiting s c (fed s c)

-- with room for one answer it has answered a record, so that a caller who comes back gets on; with room for all, it is not given
abbrev pub GetsOn : Type 0
GetsOn = (s : Session) (c : Call) → (fed s c).code ≡ 8 → longest_answer ≤ c.room → s.records < (fed s c).session.records

abbrev pub RoomEnough : Type 0
RoomEnough = (s : Session) (c : Call) → room_of (s.count + length c.portion) ≤ c.room → (fed s c).code ≡ 8 → ⊥

-- ---- A trace that is cut ----

-- how many bytes of what is left are offered, whether as the end, and with how much room
pub record Cut : Type 0 where
  pub size : ℕ
  pub end : Bool
  pub room : ℕ

-- the calls of a caller who offers each time what was not taken yet
unfoldable pub calls_of : Session → List ℕ → List Cut → List Call
calls_of s trace [] = []
calls_of s trace (c ∷ cs) =
    let call : Call = record { portion = take c.size trace; end = c.end; room = c.room } in
    call ∷ calls_of (fed s call).session (drop (fed s call).taken trace) cs

-- what was taken is the trace's beginning, in its order, with no byte twice and none left out
abbrev pub CutsAreTheTrace : Type 0
CutsAreTheTrace =
    (s : Session) (trace : List ℕ) (cuts : List Cut)
    → taken_after s (calls_of s trace cuts) ≡ take (length (taken_after s (calls_of s trace cuts))) trace

-- the main sentence, of every trace of 16 MiB at most and every way to cut it and to offer room: bytes of it are offered as they come, and at
-- last what was not taken, as the end and with room for all. Unless a record was bad at once, which `BadAtOnce` speaks of, that call's report,
-- the answers joined and the chip are those of one replay over the whole
pub record Offer : Type 0 where
  pub size : ℕ
  pub room : ℕ

abbrev pub offered : Offer → Cut
offered o = record { size = o.size; end = false; room = o.room }

abbrev pub calls_at : ℤ → List ℕ → List Offer → List Call
calls_at address trace offers = calls_of (opened address) trace (map offered offers)

abbrev pub last_at : ℤ → List ℕ → List Offer → ℕ → Call
last_at address trace offers room =
    record { portion = drop (length (taken_at address (calls_at address trace offers))) trace; end = true; room = room }

pub record OneReplay (address : ℤ) (trace : List ℕ) (cs : List Call) (f : Feed) (room : ℕ) : Type 0 where
  pub report : report_after f ≡ report_of (run_at address trace room)
  pub answers : answers_at address cs ++ f.text ≡ (run_at address trace room).text
  pub chip : f.session.chip ≡ (run_at address trace room).state

abbrev pub HoweverCut : Type 0
HoweverCut =
    (address : ℤ) → (made_of address).code ≡ Done → (trace : List ℕ) → length trace ≤ 16777216 → (offers : List Offer) (room : ℕ) → room_of (length trace) ≤ room
    → (session_at address (calls_at address trace offers)).stopped ≡ false
    → OneReplay address trace (calls_at address trace offers) (fed (session_at address (calls_at address trace offers)) (last_at address trace offers room)) room

-- ---- Alarms ----

-- the demand's claim holds of the events that a session answered: those of one replay over what was taken
pub record InSession (address : ℤ) (cs : List Call) (room : ℕ) : Type 0 where
  pub demand : Demand (session_at address cs).chip (history_at address (taken_at address cs) room)
  pub shows : Shows (session_at address cs).chip (history_at address (taken_at address cs) room)

abbrev pub SessionNoAlarmLost : Type 0
SessionNoAlarmLost =
    (address : ℤ) → (made_of address).code ≡ Done → (cs : List Call) (room : ℕ) → room_of (length (taken_at address cs)) ≤ room
    → InSession address cs room
