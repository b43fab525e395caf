-- What one event leaves and what it leaves alone, from any state. The proofs are in proofs/Kept.antt. Assumes nothing.
use Rattle.std.specs.Prelude.{◌≡◌, true, false}
use Rattle.rules.specs.declared.answer.Code.TheVariants.{IllFormed}
use Rattle.rules.specs.declared.event.Numbers.{Numbers}
use Rattle.rules.specs.declared.state.State.{State}
use Rattle.rules.specs.Alarm.{view_of}
use Rattle.rules.specs.Codes.{is_done}
use Rattle.rules.specs.Event.{check_of}
use Rattle.rules.specs.History.{seen_after}
use Rattle.rules.specs.State.{given_of}
use Rattle.rules.specs.Step.{step_of}
use Rattle.rules.specs.WellFormed.{well_formed}

-- from any well-formed state: each register is the one before it, but for one that a write names, which holds what it keeps of the byte;
-- a value changes only where a conversion that runs ends and compares the channel, and is then the code of its sample; so with the
-- pointer, and whether a conversion runs
abbrev pub ViewKept : Type 0
ViewKept =
    (s : State) (e : Numbers) → well_formed s ≡ true → view_of (step_of s e).state ≡ seen_after (view_of s) (check_of e)

-- "address kept"
abbrev pub GivenKept : Type 0
GivenKept = (s : State) (e : Numbers) → given_of (step_of s e).state ≡ given_of s

-- 6, "state not well formed", before every other code
abbrev pub IllFormedRefused : Type 0
IllFormedRefused = (s : State) (e : Numbers) → well_formed s ≡ false → (step_of s e).code ≡ IllFormed

-- "Codes 1 to 6 give reply byte 0 and the state as it came"
abbrev pub RefusedKept : Type 0
RefusedKept =
    (s : State) (e : Numbers) → is_done (step_of s e).code ≡ false → ((step_of s e).state ≡ s) × ((step_of s e).reply ≡ 0)
