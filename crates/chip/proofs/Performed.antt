-- An event is what its task is: `Step.apply_of` by way of `Task.asked_of` and `Task.perform_of`. Assumes nothing.
use mathlib.Core.Path.{◌≡◌, refl}
use mathlib.Core.Bool.{Bool, cond, true, false}
use lib.Dec.{eqb}
use Rattle.rules.specs.declared.answer.Code.TheVariants.{Unheard}
use Rattle.rules.specs.declared.event.Event.{Event}
use Rattle.rules.specs.declared.event.Event.TheVariants.{Reset, Send, Write, Read, Receive, Respond, Start, End}
use Rattle.rules.specs.declared.state.State.{State}
use Rattle.rules.specs.Step.{apply_of, refused}
use Rattle.chip.specs.declared.task.Task.{Task}
use Rattle.chip.specs.declared.task.Task.TheVariants.{Foreign}
use Rattle.chip.specs.Task.{perform_of, asked_of}

-- what is done for an address: asked before the work or after it
by : (s : State) (t : Task) (mine : Bool) → perform_of s (cond mine t Foreign) ≡ cond mine (perform_of s t) (refused Unheard s)
by s t true = refl
by s t false = refl

pub performed : (s : State) (e : Event) → perform_of s (asked_of s e) ≡ apply_of s e
unfolding apply_of
performed s Reset = refl
performed s (Send address command) = by s _ (eqb address s.address)
performed s (Write address command b) = by s _ (eqb address s.address)
performed s (Read address command) = by s _ (eqb address s.address)
performed s (Receive address) = by s _ (eqb address s.address)
performed s Respond = refl
performed s Start = refl
performed s (End t) = refl
