-- What the end of a conversion leaves, with the diode closed and, by document 02's item 3, with it open, in other words than the step's
-- and the history's, which share `Channels.compared_in`: from any well-formed state, and after any history. The proofs are in
-- proofs/Ended.antt. Assumes nothing.
use Rattle.std.specs.Prelude.{ℕ, ◌+◌, ◌≡◌, Bool, cond, ◌||◌, true, false, ◌∷◌, ltb, leb, Ok}
use Rattle.rules.specs.declared.event.Event.TheVariants.{End}
use Rattle.rules.specs.declared.event.Numbers.{Numbers}
use Rattle.rules.specs.declared.event.Samples.{Samples}
use Rattle.rules.specs.declared.register.Channel.{Channel}
use Rattle.rules.specs.declared.register.Channel.TheVariants.{Local, Remote}
use Rattle.rules.specs.declared.register.Register.{Register}
use Rattle.rules.specs.declared.register.Register.TheVariants.{Consecutive}
use Rattle.rules.specs.declared.state.ChannelState.{ChannelState}
use Rattle.rules.specs.declared.state.Mark.{Mark}
use Rattle.rules.specs.declared.state.State.{State}
use Rattle.rules.specs.Alarm.{in_arow, latest, needs, sets, stands}
use Rattle.rules.specs.Comparisons.{Comparator, comparator_of, limits_of}
use Rattle.rules.specs.Conversion.{code_for}
use Rattle.rules.specs.Event.{check_of}
use Rattle.rules.specs.History.{Entry, History, View, entry_of, now, outcome}
use Rattle.rules.specs.History.Finding.{FoundFault}
use Rattle.rules.specs.Hot.{hot}
use Rattle.rules.specs.State.{channel_at, stored_of}
use Rattle.rules.specs.Status.{flag_for}
use Rattle.rules.specs.Status.Fault.{Above, Below, Open}
use Rattle.rules.specs.Step.{step_of}
use Rattle.rules.specs.WellFormed.{well_formed}

-- a code beyond a channel's limits, by the registers
abbrev pub over : (Register → ℕ) → Channel → ℕ → Bool
over f ch code = ltb (limits_of f ch).high code

abbrev pub under : (Register → ℕ) → Channel → ℕ → Bool
under f ch code = leb code (limits_of f ch).low

-- what a comparison or a diode check leaves of a mark
abbrev pub found : Bool → Mark → Mark
found fault was = record { found = fault; flag = was.flag || fault }

-- "completed conversions in a row .., held at 4"
abbrev pub one_more : ℕ → Bool → ℕ
one_more runs fault = cond fault (cond (ltb runs 4) (runs + 1) 4) 0

-- ---- The step ----

-- a channel with this code, stored and compared
pub record Stored (f : Register → ℕ) (ch : Channel) (code : ℕ) (was is : ChannelState) : Type 0 where
  pub value : is.value ≡ code
  pub converted : is.converted ≡ true
  pub high : is.high ≡ found (over f ch code) was.high
  pub low : is.low ≡ found (under f ch code) was.low
  pub therm : is.therm ≡ comparator_of (limits_of f ch).therm (limits_of f ch).hysteresis code was.therm
  pub therm2 : is.therm2 ≡ comparator_of (limits_of f ch).high (limits_of f ch).hysteresis code was.therm2

-- "the remote value, remote THERM flag and the latest remote limit verdicts stand as they were", and so the flags of these; "it doesn't count
-- as a conversion; earlier ones still do"; the THERM2 mark, worked out at the comparisons of THERM, stands too
pub record Stood (was is : ChannelState) : Type 0 where
  pub value : is.value ≡ was.value
  pub therm : is.therm ≡ was.therm
  pub therm2 : is.therm2 ≡ was.therm2
  pub high : is.high ≡ was.high
  pub low : is.low ≡ was.low
  pub converted : is.converted ≡ was.converted

-- "Kind 7 ends busy", and moves neither the pointer nor a register
pub record Idle (s left : State) : Type 0 where
  pub busy : left.busy ≡ false
  pub pointer : left.pointer ≡ s.pointer
  pub registers : (r : Register) → stored_of left r ≡ stored_of s r

-- with the diode open; code is what the local sample becomes
pub record Held (s left : State) (code : ℕ) : Type 0 where
  -- "sets the open flag and the latch": its check was made, and found it
  pub diode : (channel_at left Remote).diode ≡ record { found = true; flag = true }
  pub latch : left.latch ≡ true
  -- "stores and compares only the local channel"
  pub local : Stored (stored_of s) Local code (channel_at s Local) (channel_at left Local)
  pub remote : Stood (channel_at s Remote) (channel_at left Remote)
  -- "The run count looks at local faults only in that conversion"
  pub runs : left.runs ≡ one_more s.runs (over (stored_of s) Local code || under (stored_of s) Local code)
  pub rest : Idle s left

-- with it closed; of both samples
pub record Taken (s left : State) (local_code remote_code : ℕ) : Type 0 where
  pub diode : (channel_at left Remote).diode ≡ found false (channel_at s Remote).diode
  pub local : Stored (stored_of s) Local local_code (channel_at s Local) (channel_at left Local)
  pub remote : Stored (stored_of s) Remote remote_code (channel_at s Remote) (channel_at left Remote)
  -- "in which any of the four limit faults was found"
  pub runs : left.runs ≡ one_more s.runs (over (stored_of s) Local local_code || under (stored_of s) Local local_code || (over (stored_of s) Remote remote_code || under (stored_of s) Remote remote_code))
  -- "after which the run count is at least the needed number"
  pub latch : left.latch ≡ (s.latch || leb (needs (stored_of s Consecutive)) left.runs)
  pub rest : Idle s left

-- of a running conversion that ends
abbrev pub Ends : Bool → (State → Samples → State → Type 0) → Type 0
Ends broken P =
    (s : State) → well_formed s ≡ true → s.busy ≡ true → (e : Numbers) (t : Samples) → check_of e ≡ Ok (End t) → t.broken ≡ broken
    → P s t (step_of s e).state

abbrev pub OpenHolds : Type 0
OpenHolds = Ends true (λ s t left. Held s left (code_for (stored_of s) Local t.local))

abbrev pub ClosedTakes : Type 0
ClosedTakes = Ends false (λ s t left. Taken s left (code_for (stored_of s) Local t.local) (code_for (stored_of s) Remote t.remote))

-- ---- The history, with the diode open ----

-- v is what was seen before the event x, and code what the local sample becomes
pub record Passed (v : View) (h : History) (x : Entry) (code : ℕ) : Type 0 where
  -- the latest comparisons, and whether each flag stands
  pub latest_high : latest (flag_for Remote Above) (x ∷ h) ≡ latest (flag_for Remote Above) h
  pub latest_low : latest (flag_for Remote Below) (x ∷ h) ≡ latest (flag_for Remote Below) h
  pub latest_open : latest (flag_for Remote Open) (x ∷ h) ≡ FoundFault
  pub high : stands (flag_for Remote Above) (x ∷ h) ≡ stands (flag_for Remote Above) h
  pub low : stands (flag_for Remote Below) (x ∷ h) ≡ stands (flag_for Remote Below) h
  pub opened : stands (flag_for Remote Open) (x ∷ h) ≡ true
  pub therms : (k : Comparator) → hot k Remote (x ∷ h) ≡ hot k Remote h
  pub latches : sets x h ≡ true
  pub local_high : latest (flag_for Local Above) (x ∷ h) ≡ outcome (over v.registers Local code)
  pub local_low : latest (flag_for Local Below) (x ∷ h) ≡ outcome (under v.registers Local code)
  -- what is seen
  pub value : x.seen.value Remote ≡ v.value Remote
  pub converted : x.seen.converted Remote ≡ v.converted Remote
  pub local_value : x.seen.value Local ≡ code
  pub local_converted : x.seen.converted Local ≡ true
  -- conversions in a row with a fault
  pub in_a_row : in_arow (x ∷ h) ≡ cond (over v.registers Local code || under v.registers Local code) (in_arow h + 1) 0

abbrev pub OpenPasses : Type 0
OpenPasses =
    (address : ℕ) (h : History) (t : Samples) (reply : ℕ) → (now address h).running ≡ true → t.broken ≡ true
    → Passed (now address h) h (entry_of (now address h) (Ok (End t)) reply) (code_for (now address h).registers Local t.local)
