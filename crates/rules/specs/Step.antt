-- One event: what it is answered and the state that it leaves. Assumes nothing.
use Rattle.std.specs.Prelude.{ℕ, ◌+◌, ◌*◌, ◌%◌, cond, ◌||◌, ◌&&◌, true, List, [], ◌∷◌, Ok, Err, eqb}
use Rattle.rules.specs.declared.event.Numbers.{Numbers}
use Rattle.rules.specs.declared.event.Samples.{Samples}
use Rattle.rules.specs.declared.event.Event.{Event}
use Rattle.rules.specs.declared.event.Event.TheVariants.{Reset, Send, Write, Read, Receive, Respond, Start, End}
use Rattle.rules.specs.declared.state.State.{State}
use Rattle.rules.specs.declared.answer.Answer.{Answer}
use Rattle.rules.specs.declared.answer.Code.{Code}
use Rattle.rules.specs.declared.answer.Code.TheVariants as codes
use Rattle.rules.specs.declared.answer.Code.TheVariants.{Unheard, NoStart, NoEnd, IllFormed}
use Rattle.rules.specs.declared.answer.Done.{Done}
use Rattle.rules.specs.Configuration.{standby}
use Rattle.rules.specs.Conversion.{converted}
use Rattle.rules.specs.Event.{Checked, check_of}
use Rattle.rules.specs.Lines.{alert_low, pin_line, therm_line}
use Rattle.rules.specs.PowerOn.{power_on}
use Rattle.rules.specs.Read.{read_at_pointer}
use Rattle.rules.specs.State.{given_of, with_busy, with_latch, with_pointer}
use Rattle.rules.specs.Status.{any_flag}
use Rattle.rules.specs.WellFormed.{well_formed}
use Rattle.rules.specs.Write.{written}

-- Answer codes: alert and therm are read from the state that the answer gives; 02, item 4: alert "reports pin 6 in either role"
abbrev pub answer_of : Code → ℕ → State → Answer
answer_of code reply s = record { code = code; reply = reply; alert = pin_line s; therm = therm_line s; state = s }

-- "0, done"
abbrev pub done : Done → Answer
done d = answer_of codes.Done d.reply d.state

-- "Codes 1 to 6 give reply byte 0 and the state as it came"
abbrev pub refused : Code → State → Answer
refused code s = answer_of code 0 s

-- "With code 0, kinds 0, 1, 2, 6 and 7 reply 0"
abbrev pub silent : State → Done
silent s = record { reply = 0; state = s }

-- 3, "kinds 1 to 4 with an address other than the chip's"
abbrev pub on_bus : State → ℕ → Done → Answer
on_bus s address d = cond (eqb address s.address) (done d) (refused Unheard s)

-- "replies 2 times the address plus 1": a bus address has seven bits
abbrev pub response_of : ℕ → ℕ
response_of address = 2 * (address % 128) + 1

-- "then clears the latch if flags 6 to 2 are all 0"
abbrev pub responded : State → State
responded s = with_latch s (s.latch && any_flag s)

-- "Kind 5 while ALERT is low"; 3, "kind 5 while ALERT is high"
unfoldable pub respond_of : State → Answer
respond_of s = cond (alert_low s) (answer_of codes.Done (response_of s.address) (responded s)) (refused Unheard s)

-- 4, "kind 6 in standby, or while a conversion runs"
unfoldable pub start_of : State → Answer
start_of s = cond (standby s.config || s.busy) (refused NoStart s) (done (silent (with_busy s true)))

-- 5, "kind 7 while no conversion runs"
unfoldable pub end_of : State → Samples → Answer
end_of s t = cond s.busy (done (silent (converted s t))) (refused NoEnd s)

-- the eight forms
unfoldable pub apply_of : State → Event → Answer
apply_of s Reset = done (silent (power_on (given_of s)))
apply_of s (Send address command) = on_bus s address (silent (with_pointer s command))
apply_of s (Write address command b) = on_bus s address (silent (written s command b))
apply_of s (Read address command) = on_bus s address (read_at_pointer (with_pointer s command))
apply_of s (Receive address) = on_bus s address (read_at_pointer s)
apply_of s Respond = respond_of s
apply_of s Start = start_of s
apply_of s (End t) = end_of s t

-- "Order: 6, 1, 2, then 3, 4 or 5"
abbrev pub checked_of : State → Checked → Answer
checked_of s (Ok e) = apply_of s e
checked_of s (Err code) = refused code s

unfoldable pub step_of : State → Numbers → Answer
step_of s e = cond (well_formed s) (checked_of s (check_of e)) (refused IllFormed s)

-- ---- Events one after the other ----

-- the answer to the last of the events, refused ones among them
unfoldable pub last_from : Answer → List Numbers → Answer
last_from before [] = before
last_from before (e ∷ es) = last_from (step_of before.state e) es

-- the state after them: before any, nothing was asked, so its code is done and its reply 0
abbrev pub after : State → List Numbers → State
after s es = (last_from (answer_of codes.Done 0 s) es).state
