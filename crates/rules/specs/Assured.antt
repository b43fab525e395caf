-- What a firmware lead would look for, from the demand: faults are shown, none is invented, ALERT stays low until it is acknowledged, and
-- a limit written in standby counts at once. The proofs are in proofs/Assured.antt; that each premise is met, in AlarmCases.antt. Assumes
-- nothing.
use Rattle.std.specs.Prelude.{ℕ, ◌≡◌, Bool, not, ◌&&◌, true, false, List, [], ◌∷◌, Ok}
use Rattle.rules.specs.declared.event.Event.TheVariants.{Write}
use Rattle.rules.specs.declared.event.Numbers.{Numbers}
use Rattle.rules.specs.declared.register.Channel.{Channel}
use Rattle.rules.specs.declared.state.State.{State}
use Rattle.rules.specs.Alarm.{Always, acknowledges, finds, history_from, in_therm2, latched, line_free, next, reads_next, sets, stands}
use Rattle.rules.specs.Bits.{bit}
use Rattle.rules.specs.Comparisons.{above_of, below_of, limits_of}
use Rattle.rules.specs.Event.{check_of}
use Rattle.rules.specs.History.{History, View, compares_at, did_of, in_standby, now}
use Rattle.rules.specs.Lines.{alert_low, pin_line}
use Rattle.rules.specs.Status.{Fault, Flag, flag_for, place_of}
use Rattle.rules.specs.Status.Fault.{Above, Below, Open}
use Rattle.rules.specs.Step.{after, step_of}

-- what the latest event of a history did
abbrev pub finds_now : Flag → History → Bool
finds_now f [] = false
finds_now f (x ∷ earlier) = finds f x

abbrev pub sets_now : History → Bool
sets_now [] = false
sets_now (x ∷ earlier) = sets x earlier

abbrev pub clears_latch_now : History → Bool
clears_latch_now [] = false
clears_latch_now (x ∷ earlier) = acknowledges x earlier (latched earlier)

-- a power-on, were it the next event
abbrev pub resets_next : State → History → Numbers → Bool
resets_next s h e = (did_of (now s.address h) (check_of e)).reset

-- the history with more events
abbrev pub next_all : State → History → List Numbers → History
next_all s h es = history_from s.address h s es

-- among events sent to a state, no power-on and no status read
unfoldable pub unread : State → History → List Numbers → Bool
unread s h [] = true
unread s h (e ∷ es) = not (resets_next s h e) && not (reads_next s h e) && unread (step_of s e).state (next s h e) es

-- no power-on and no alert response answered with all five flags 0
unfoldable pub uncleared : State → History → List Numbers → Bool
uncleared s h [] = true
uncleared s h (e ∷ es) =
    not (resets_next s h e) && not (clears_latch_now (next s h e)) && uncleared (step_of s e).state (next s h e) es

-- a fault that a comparison finds is shown by the next status read
abbrev pub FaultsShown : Type 0
FaultsShown =
    Always (λ s h. (later : List Numbers) (r : Numbers) (f : Flag) → finds_now f h ≡ true → unread s h later ≡ true
    → reads_next (after s later) (next_all s h later) r ≡ true → bit (place_of f) (step_of (after s later) r).reply ≡ true)

-- a status read never shows a fault that no comparison since the last clearing read found
abbrev pub NoneInvented : Type 0
NoneInvented =
    Always (λ s h. (r : Numbers) (f : Flag) → reads_next s h r ≡ true → stands f h ≡ false → bit (place_of f) (step_of s r).reply ≡ false)

-- from what set the latch until an alert response is answered with all flags 0, ALERT is low while configuration bits 7 and 5 are 0, and
-- pin 6 shows it: 02, item 4, so also when bit 5 was 1 in between
abbrev pub AlertStaysLow : Type 0
AlertStaysLow =
    Always (λ s h. (later : List Numbers) → sets_now h ≡ true → uncleared s h later ≡ true
    → line_free (now s.address (next_all s h later)) ≡ true → (alert_low (after s later) ≡ true) × (pin_line (after s later) ≡ false))

-- the value stands beyond a limit
abbrev pub beyond : View → Channel → Fault → Bool
beyond v ch Above = above_of (limits_of v.registers ch).high (v.value ch)
beyond v ch Below = below_of (limits_of v.registers ch).low (v.value ch)
beyond v ch Open = false

-- a limit or hysteresis, written in standby, that leaves a converted channel's value beyond one of its limits
pub record StandbyFault (s : State) (h : History) (e : Numbers) (ch : Channel) (k : Fault) : Type 0 where
  pub command : ℕ
  pub byte : ℕ
  pub form : check_of e ≡ Ok (Write s.address command byte)
  pub compares : compares_at command ≡ true
  pub standby : in_standby (now s.address h) ≡ true
  pub converted : (now s.address h).converted ch ≡ true
  pub over : beyond (now s.address (next s h e)) ch k ≡ true

-- shows in the next status read
abbrev pub StandbyLimitShown : Type 0
StandbyLimitShown =
    Always (λ s h. (e : Numbers) (ch : Channel) (k : Fault) → StandbyFault s h e ch k → (later : List Numbers) (r : Numbers)
    → unread (step_of s e).state (next s h e) later ≡ true
    → reads_next (after (step_of s e).state later) (next_all (step_of s e).state (next s h e) later) r ≡ true
    → bit (place_of (record { channel = ch; fault = k })) (step_of (after (step_of s e).state later) r).reply ≡ true)

-- and pin 6 is low at once while configuration bits 7 and 5 are 0
abbrev pub StandbyLimitAlerts : Type 0
StandbyLimitAlerts =
    Always (λ s h. (e : Numbers) (ch : Channel) (k : Fault) → StandbyFault s h e ch k
    → line_free (now s.address (next s h e)) ≡ true → (step_of s e).alert ≡ false)

-- 02, item 4: in the THERM2 role a value that a comparison finds above its high limit pulls pin 6 at once, "whatever bit 7 says"
abbrev pub Therm2Pulls : Type 0
Therm2Pulls =
    Always (λ s h. (e : Numbers) (ch : Channel) → finds_now (flag_for ch Above) (next s h e) ≡ true
    → in_therm2 (now s.address (next s h e)) ≡ true → (step_of s e).alert ≡ false)
