-- No alarm is lost and none invented, in any sequence of events from the latest power-on: the flags, their spells and the latch by the
-- history of History.antt, and the demand. The proof is in proofs/Alarm.antt. Assumes nothing.
use Rattle.std.specs.Prelude.{ℕ, ◌+◌, ◌≡◌, Bool, cond, not, ◌||◌, ◌&&◌, true, false, List, [], ◌∷◌, map, leb, ℤ, Ok}
use Rattle.std.proofs.Math.IntN.ℤ.{pos}
use Rattle.rules.specs.declared.answer.Code.TheVariants.{Done, Unheard}
use Rattle.rules.specs.declared.event.Event.TheVariants.{Reset}
use Rattle.rules.specs.declared.event.Numbers.{Numbers}
use Rattle.rules.specs.declared.register.Channel.{Channel}
use Rattle.rules.specs.declared.register.Register.TheVariants.{Config, Consecutive}
use Rattle.rules.specs.declared.state.State.{State}
use Rattle.rules.specs.Bits.{bit}
use Rattle.rules.specs.Channels.{any, any_channel}
use Rattle.rules.specs.Comparisons.{above_of, below_of, limits_of}
use Rattle.rules.specs.Comparisons.Comparator.{Therm2}
use Rattle.rules.specs.Event.{check_of}
use Rattle.rules.specs.History.{Entry, Finding, History, View, did_of, found_if, now, with_event}
use Rattle.rules.specs.History.Finding.{MadeNone, FoundNothing, FoundFault}
use Rattle.rules.specs.Hot.{hot}
use Rattle.rules.specs.PowerOn.{made_of}
use Rattle.rules.specs.State.{channel_at, stored_of}
use Rattle.rules.specs.Status.{Fault, Flag, flag_at, flags, place_of}
use Rattle.rules.specs.Status.Fault.{Above, Below, Open}
use Rattle.rules.specs.Step.{after, step_of}
use Rattle.rules.specs.Trial.{respond}
use Rattle.rules.specs.WellFormed.{well_formed}

-- ---- A latched flag (words in quotes are the demand's; those of document 01 are marked 01) ----

-- what an event's comparison with a limit found, by what is seen once its values and its new byte are in place; for the open flag, what
-- its diode check found
abbrev pub finding_at : Entry → Channel → Fault → Finding
finding_at x ch Above = found_if (x.facts.compared ch) (above_of (limits_of x.seen.registers ch).high (x.seen.value ch))
finding_at x ch Below = found_if (x.facts.compared ch) (below_of (limits_of x.seen.registers ch).low (x.seen.value ch))
finding_at x ch Open = x.facts.diode ch

abbrev pub finding_of : Flag → Entry → Finding
finding_of f x = finding_at x f.channel f.fault

abbrev pub is_fault : Finding → Bool
is_fault MadeNone = false
is_fault FoundNothing = false
is_fault FoundFault = true

abbrev pub finds : Flag → Entry → Bool
finds f x = is_fault (finding_of f x)

abbrev pub or_else : Finding → Finding → Finding
or_else MadeNone earlier = earlier
or_else FoundNothing earlier = FoundNothing
or_else FoundFault earlier = FoundFault

-- "its latest comparison (for the open flag, diode check)"
unfoldable pub latest : Flag → History → Finding
latest f [] = MadeNone
latest f (x ∷ earlier) = or_else (finding_of f x) (latest f earlier)

-- "a clearing read is a status read at which its latest comparison found no fault, or none was made"
abbrev pub clears : Flag → Entry → History → Bool
clears f x earlier = x.facts.status_read && not (is_fault (latest f earlier))

-- "The flag stands exactly if a comparison since the last clearing read found the fault": looking back from now, the event found it, or it
-- stood and the event did not clear it. A status read compares nothing, so no event does both
unfoldable pub stands : Flag → History → Bool
stands f [] = false
stands f (x ∷ earlier) = finds f x || (stands f earlier && not (clears f x earlier))

abbrev pub count : Bool → ℕ
count true = 1
count false = 0

-- "The first such comparison opens a spell"
unfoldable pub spells_opened : Flag → History → ℕ
spells_opened f [] = 0
spells_opened f (x ∷ earlier) = count (finds f x && not (stands f earlier)) + spells_opened f earlier

-- "the clearing reads that showed 1"
unfoldable pub clearing_reads_that_showed : Flag → History → ℕ
clearing_reads_that_showed f [] = 0
clearing_reads_that_showed f (x ∷ earlier) = count (clears f x earlier && bit (place_of f) x.reply) + clearing_reads_that_showed f earlier

-- ---- The latch ----

abbrev pub limit_found : Entry → Channel → Bool
limit_found x ch = is_fault (finding_at x ch Above) || is_fault (finding_at x ch Below)

-- a limit fault of any channel, and an open diode
abbrev pub finds_limit : Entry → Bool
finds_limit x = any_channel (limit_found x)

abbrev pub finds_open : Entry → Bool
finds_open x = any_channel (λ ch. is_fault (finding_at x ch Open))

-- 01: "completed conversions in a row in which any of the four limit faults was found"; not held at 4, since no more are ever needed
unfoldable pub in_arow : History → ℕ
in_arow [] = 0
in_arow (x ∷ earlier) = cond x.facts.ended (cond (finds_limit x) (in_arow earlier + 1) 0) (in_arow earlier)

-- 01: "1 plus the ones that stand together from bit 1 upwards within bits 3 to 1 of register 22"
abbrev pub needs : ℕ → ℕ
needs b = cond (bit 1 b) (cond (bit 2 b) (cond (bit 3 b) 4 3) 2) 1

-- 01, what sets it: "by a kind 7 with the diode open, by a kind 7 after which the run count is at least the needed number, and by a standby comparison
-- that finds any limit fault"
abbrev pub sets : Entry → History → Bool
sets x earlier =
    cond x.facts.ended (finds_open x || leb (needs (x.seen.registers Consecutive)) (in_arow (x ∷ earlier))) (finds_limit x)

-- 02, item 4: "With configuration bit 5 set, it is a second comparator": the role of pin 6
abbrev pub in_therm2 : View → Bool
in_therm2 v = bit 5 (v.registers Config)

-- ALERT's line is free: 01, "configuration bits 7 and 5 are 0"
abbrev pub line_free : View → Bool
line_free v = not (bit 7 (v.registers Config)) && not (bit 5 (v.registers Config))

-- "all five flags 0"
abbrev pub all_clear : History → Bool
all_clear earlier = not (any (map (λ f. stands f earlier) flags))

-- an alert response is answered where the latch stood before it and those bits are 0
abbrev pub answered : Entry → Bool → Bool
answered x latch = x.facts.asked && latch && line_free x.seen

-- one "answered with all five flags 0"; latch is whether it stood before
abbrev pub acknowledges : Entry → History → Bool → Bool
acknowledges x earlier latch = answered x latch && all_clear earlier

-- "The ALERT latch stands exactly if something that sets it came after the last alert response answered with all five flags 0": looking
-- back from now, as with a flag
unfoldable pub latched : History → Bool
latched [] = false
latched (x ∷ earlier) = sets x earlier || (latched earlier && not (acknowledges x earlier (latched earlier)))

-- ---- The demand ----

-- the part of a state that is seen
abbrev pub view_of : State → View
view_of s =
    record {
      address = s.address;
      pointer = s.pointer;
      running = s.busy;
      registers = stored_of s;
      converted = λ ch. (channel_at s ch).converted;
      value = λ ch. (channel_at s ch).value;
    }

-- a state of a chip, and the history that led to it. Here and below f may be any channel's and fault's: the open flag of a channel with no
-- diode never stands
pub record Demand (s : State) (h : History) : Type 0 where
  -- what the history has seen is so: every register, value, the pointer
  pub seen : view_of s ≡ now s.address h
  -- "The flag stands exactly if a comparison since the last clearing read found the fault."
  pub stand : (f : Flag) → flag_at s f ≡ stands f h
  -- "spells opened since power-on equal the clearing reads that showed 1, plus one if the flag stands"
  pub spells : (f : Flag) → spells_opened f h ≡ clearing_reads_that_showed f h + count (stands f h)
  -- "The ALERT latch stands exactly if something that sets it came after the last alert response answered with all five flags 0."
  pub latch : s.latch ≡ latched h

-- whether an event, were it the next, is a status read
abbrev pub reads_next : State → History → Numbers → Bool
reads_next s h e = (did_of (now s.address h) (check_of e)).status_read

-- the history with one event more
abbrev pub next : State → History → Numbers → History
next s h e = with_event s.address h e (step_of s e).reply

-- and what the bus is shown of it
pub record Shows (s : State) (h : History) : Type 0 where
  -- a status read is done, and its reply has each flag as the history has it
  pub reads : (e : Numbers) → reads_next s h e ≡ true → ((step_of s e).code ≡ Done) × ((f : Flag) → bit (place_of f) (step_of s e).reply ≡ stands f h)
  -- an alert response is answered exactly where the history has ALERT low, so never in the THERM2 role; otherwise its code is 3, unheard
  pub responses : (step_of s respond).code ≡ cond (latched h && line_free (now s.address h)) Done Unheard
  -- pin 6, the line that every answer reports, 1 being high. In the ALERT role: 01, "ALERT is low exactly if the latch is set and configuration
  -- bits 7 and 5 are 0"
  pub pin_alert : (e : Numbers) → in_therm2 (now s.address (next s h e)) ≡ false → (step_of s e).alert ≡ not (latched (next s h e) && line_free (now s.address (next s h e)))
  -- in the THERM2 role: 02, item 4, "The line is low while either mark is set, whatever bit 7 says"
  pub pin_therm2 : (e : Numbers) → in_therm2 (now s.address (next s h e)) ≡ true → (step_of s e).alert ≡ not (any_channel (λ ch. hot Therm2 ch (next s h e)))

-- the history of events sent to a chip in this state, whose replies are all that is asked of it
unfoldable pub history_from : ℕ → History → State → List Numbers → History
history_from address h s [] = h
history_from address h s (e ∷ es) = history_from address (with_event address h e (step_of s e).reply) (step_of s e).state es

-- in any sequence of events sent to a chip that was just powered on
abbrev pub state_of : ℤ → List Numbers → State
state_of address es = after (made_of address).state es

abbrev pub history_of : ℤ → List Numbers → History
history_of address es = history_from (made_of address).state.address [] (made_of address).state es

abbrev pub Always : (State → History → Type 0) → Type 0
Always P = (address : ℤ) → (made_of address).code ≡ Done → (es : List Numbers) → P (state_of address es) (history_of address es)

abbrev pub NoAlarmLost : Type 0
NoAlarmLost = Always (λ s h. Demand s h × Shows s h)

-- "from the latest power-on": from any well-formed state a reset leaves a chip that was just powered on, and begins a history anew
abbrev pub ResetBeginsAnew : Type 0
ResetBeginsAnew =
    (s : State) → well_formed s ≡ true → (h : History) (e : Numbers) → check_of e ≡ Ok Reset
    → ((made_of (pos s.address)).code ≡ Done) × ((step_of s e).state ≡ (made_of (pos s.address)).state)
    × (with_event s.address h e (step_of s e).reply ≡ [])
