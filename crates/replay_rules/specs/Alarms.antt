-- No alarm is lost and none invented in a whole replay: the demand of the rules' Alarm, for the events that a replay consumes.
-- The proof is in proofs/Alarms.antt; that events are consumed at all, in Examples.antt. Assumes nothing.
use Rattle.rules.specs.declared.answer.Code.TheVariants.{Done}
use Rattle.std.specs.Prelude.{ℕ, ◌≡◌, List, ◌∷◌, ◌++◌, ℤ}
use Rattle.rules.specs.declared.event.Numbers.{Numbers}
use Rattle.rules.specs.Alarm.{Demand, Shows, history_of, state_of}
use Rattle.rules.specs.History.{History}
use Rattle.rules.specs.PowerOn.{made_of}
use Rattle.rules.specs.Step.{step_of}
use Rattle.replay_rules.specs.Consumed.{answers_from, consumed_of, texts_of}
use Rattle.replay_rules.specs.Play.{Run, run_of, text_of}

-- a replay "starts from power-on": how it runs, which events it consumes, and their history
abbrev pub run_at : ℤ → List ℕ → ℕ → Run
run_at address trace room = run_of (made_of address).state trace room

abbrev pub events_at : ℤ → List ℕ → ℕ → List Numbers
events_at address trace room = consumed_of (made_of address).state trace room

abbrev pub history_at : ℤ → List ℕ → ℕ → History
history_at address trace room = history_of address (events_at address trace room)

-- one of the events: its answer stands in the output behind the answers before it, and shows what the history of those has
pub record AnswerShown (address : ℤ) (trace : List ℕ) (room : ℕ) (earlier : List Numbers) (e : Numbers) (later : List Numbers) : Type 0 where
  pub text : (run_at address trace room).text ≡ texts_of (answers_from (made_of address).state earlier) ++ (text_of (step_of (state_of address earlier) e) ++ texts_of (answers_from (step_of (state_of address earlier) e).state later))
  pub shows : Shows (state_of address earlier) (history_of address earlier)

-- the demand at the replay's end, what the bus would be shown next, and what each answer in the output shows
pub record InReplay (address : ℤ) (trace : List ℕ) (room : ℕ) : Type 0 where
  pub demand : Demand (run_at address trace room).state (history_at address trace room)
  pub shows : Shows (run_at address trace room).state (history_at address trace room)
  pub each : (earlier : List Numbers) (e : Numbers) (later : List Numbers) → events_at address trace room ≡ earlier ++ (e ∷ later) → AnswerShown address trace room earlier e later

abbrev pub ReplayNoAlarmLost : Type 0
ReplayNoAlarmLost = (address : ℤ) → (made_of address).code ≡ Done → (trace : List ℕ) (room : ℕ) → InReplay address trace room
