-- What an event asks of one chip, and what doing it is answered. proofs/Performed.antt shows that the two together are `Step.apply_of`.
-- Assumes nothing.
use Rattle.std.specs.Prelude.{ℕ, cond, eqb}
use Rattle.rules.specs.declared.answer.Answer.{Answer}
use Rattle.rules.specs.declared.answer.Code.TheVariants.{Unheard}
use Rattle.rules.specs.declared.event.Event.{Event}
use Rattle.rules.specs.declared.event.Event.TheVariants as event
use Rattle.rules.specs.declared.state.State.{State}
use Rattle.rules.specs.PowerOn.{power_on}
use Rattle.rules.specs.Read.{read_at_pointer}
use Rattle.rules.specs.State.{given_of, with_pointer}
use Rattle.rules.specs.Step.{done, end_of, refused, respond_of, silent, start_of}
use Rattle.rules.specs.Write.{written}
use Rattle.chip.specs.declared.task.Task.{Task}
use Rattle.chip.specs.declared.task.Task.TheVariants.{Reset, Point, Write, Read, Respond, Start, End, Foreign}

-- the task, if the address is the chip's
abbrev pub heard_of : State → ℕ → Task → Task
heard_of s address t = cond (eqb address s.address) t Foreign

-- a receive is a read at the pointer
abbrev pub asked_of : State → Event → Task
asked_of s event.Reset = Reset
asked_of s (event.Send address command) = heard_of s address (Point command)
asked_of s (event.Write address command b) = heard_of s address (Write command b)
asked_of s (event.Read address command) = heard_of s address (Read command)
asked_of s (event.Receive address) = heard_of s address (Read s.pointer)
asked_of s event.Respond = Respond
asked_of s event.Start = Start
asked_of s (event.End t) = End t

abbrev pub perform_of : State → Task → Answer
perform_of s Reset = done (silent (power_on (given_of s)))
perform_of s (Point command) = done (silent (with_pointer s command))
perform_of s (Write command b) = done (silent (written s command b))
perform_of s (Read command) = done (read_at_pointer (with_pointer s command))
perform_of s Respond = respond_of s
perform_of s Start = start_of s
perform_of s (End t) = end_of s t
perform_of s Foreign = refused Unheard s
