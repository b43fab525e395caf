-- The events that a replay consumes, what they are answered, and what is shown of them: a replay is its events sent one after the
-- other. Proofs in proofs/Consumed.antt. Assumes nothing.
use Rattle.rules.specs.declared.answer.Code.TheVariants.{Done}
use Rattle.rules.specs.Codes.{number_of}
use Rattle.std.specs.Prelude.{ℕ, zero, suc, ◌+◌, ◌-◌, ◌≡◌, cond, List, [], ◌∷◌, ◌++◌, eqb, ℤ, length, drop, Ok, Err}
use Rattle.rules.specs.declared.event.Numbers.{Numbers}
use Rattle.rules.specs.declared.state.State.{State}
use Rattle.rules.specs.declared.answer.Answer.{Answer}
use Rattle.rules.specs.PowerOn.{made_of}
use Rattle.rules.specs.Step.{after, step_of}
use Rattle.text_rules.specs.Record.{Parsed, record_of}
use Rattle.replay_rules.specs.Play.{numbers_of, on_turn, run_of, text_of, turn_of}

-- a record's event; without a record there is none
abbrev pub events_of : Parsed → List Numbers
events_of (Ok (r, n)) = numbers_of r ∷ []
events_of (Err e) = []

-- the events of the turns that went on: "nothing of it reaches the state" where the rest yields no record, "A record stopped by 8
-- isn't applied"
unfoldable pub consumed_from : ℕ → State → List ℕ → ℕ → List Numbers
consumed_from zero s rest room = []
consumed_from (suc turns) s rest room =
    cond (eqb (length rest) 0) []
    (on_turn (turn_of s rest room)
    (λ t n k. events_of (record_of rest) ++ consumed_from turns t (drop n rest) (room - k))
    (λ code. []))

unfoldable pub consumed_of : State → List ℕ → ℕ → List Numbers
consumed_of s trace room = consumed_from (length trace) s trace room

-- what events sent one after the other are answered
unfoldable pub answers_from : State → List Numbers → List Answer
answers_from s [] = []
answers_from s (e ∷ es) = step_of s e ∷ answers_from (step_of s e).state es

-- the answers' text, one behind the other
unfoldable pub texts_of : List Answer → List ℕ
texts_of [] = []
texts_of (a ∷ more) = text_of a ++ texts_of more

-- a replay counts its events, ends in the state after them, and writes their answers
pub record Told (s : State) (trace : List ℕ) (room : ℕ) : Type 0 where
  pub records : (run_of s trace room).records ≡ length (consumed_of s trace room)
  pub state : (run_of s trace room).state ≡ after s (consumed_of s trace room)
  pub text : (run_of s trace room).text ≡ texts_of (answers_from s (consumed_of s trace room))

abbrev pub ReplayTold : Type 0
ReplayTold = (s : State) (trace : List ℕ) (room : ℕ) → Told s trace room

-- code 0 is the end of the trace: every byte of it was used
abbrev pub AllUsed : Type 0
AllUsed =
    (s : State) (trace : List ℕ) (room : ℕ) → (run_of s trace room).code ≡ 0 → (run_of s trace room).used ≡ length trace

-- how many of the answers have code 6
unfoldable pub sixes : List Answer → ℕ
sixes [] = 0
sixes (a ∷ more) = cond (eqb (number_of a.code) 6) (1 + sixes more) (sixes more)

-- "It starts from power-on": no answer of a replay has code 6
abbrev pub ReplayNeverSix : Type 0
ReplayNeverSix =
    (address : ℤ) → (made_of address).code ≡ Done → (trace : List ℕ) (room : ℕ)
    → sixes (answers_from (made_of address).state (consumed_of (made_of address).state trace room)) ≡ 0
