-- What an event leaves that neither powers the chip on nor ends a conversion, in other words than the step's and the history's: from any
-- well-formed state, by its form, at the chip's own address. The proofs are in proofs/Left.antt. Assumes nothing.
use Rattle.std.specs.Prelude.{ℕ, ◌≡◌, Bool, cond, ◌||◌, ◌&&◌, true, false, [], ◌∷◌, map, eqb, Ok}
use Rattle.rules.specs.declared.event.Event.{Event}
use Rattle.rules.specs.declared.event.Event.TheVariants.{Send, Write, Read, Receive, Respond, Start}
use Rattle.rules.specs.declared.event.Numbers.{Numbers}
use Rattle.rules.specs.declared.register.Channel.{Channel}
use Rattle.rules.specs.declared.register.Channel.TheVariants.{Local, Remote}
use Rattle.rules.specs.declared.register.Register.{Register}
use Rattle.rules.specs.declared.state.ChannelState.{ChannelState}
use Rattle.rules.specs.declared.state.Mark.{Mark}
use Rattle.rules.specs.declared.state.State.{State}
use Rattle.rules.specs.Bits.{bit}
use Rattle.rules.specs.Channels.{any}
use Rattle.rules.specs.Comparisons.{comparator_of, limits_of}
use Rattle.rules.specs.Ended.{found, over, under}
use Rattle.rules.specs.Event.{check_of}
use Rattle.rules.specs.State.{channel_at, stored_of}
use Rattle.rules.specs.Step.{step_of}
use Rattle.rules.specs.WellFormed.{well_formed}

-- "a write to 0B to 0E, 13, 14, 19, 20 or 21"
abbrev pub limit_write : ℕ → Bool
limit_write n =
    any (map (eqb n) (0x0b ∷ 0x0c ∷ 0x0d ∷ 0x0e ∷ 0x13 ∷ 0x14 ∷ 0x19 ∷ 0x20 ∷ 0x21 ∷ []))

-- "In standby, .. compares each channel converted since power-on"
abbrev pub compared_by : State → ℕ → Channel → Bool
compared_by s n ch = (limit_write n && bit 6 s.config) && (channel_at s ch).converted

abbrev pub nothing : Channel → Bool
nothing ch = false

-- a mark that a status read showed: a flag whose latest comparison found no fault "is cleared"
abbrev pub shown : Mark → Mark
shown m = record { found = m.found; flag = m.flag && m.found }

-- one channel, by whether the event compares it, with the registers after it, and whether it reads the status. No value is stored, none is
-- forgotten, and the diode is not checked
pub record ChannelLeft (f : Register → ℕ) (ch : Channel) (compares reads : Bool) (was is : ChannelState) : Type 0 where
  pub value : is.value ≡ was.value
  pub converted : is.converted ≡ was.converted
  pub high : is.high ≡ cond reads (shown was.high) (cond compares (found (over f ch is.value) was.high) was.high)
  pub low : is.low ≡ cond reads (shown was.low) (cond compares (found (under f ch is.value) was.low) was.low)
  pub diode : is.diode ≡ cond reads (shown was.diode) was.diode
  pub therm : is.therm ≡ cond compares (comparator_of (limits_of f ch).therm (limits_of f ch).hysteresis is.value was.therm) was.therm
  pub therm2 : is.therm2 ≡ cond compares (comparator_of (limits_of f ch).high (limits_of f ch).hysteresis is.value was.therm2) was.therm2

pub record LeftBy (at : ℕ) (compares : Channel → Bool) (reads : Bool) (s left : State) : Type 0 where
  pub pointer : left.pointer ≡ at
  -- "completed conversions in a row"
  pub runs : left.runs ≡ s.runs
  pub channel : (ch : Channel) → ChannelLeft (stored_of left) ch (compares ch) reads (channel_at s ch) (channel_at left ch)

abbrev pub Unwritten : State → State → Type 0
Unwritten s left = (r : Register) → stored_of left r ≡ stored_of s r

-- a channel that the event compares, and finds beyond a limit
abbrev pub beyond : State → State → ℕ → Channel → Bool
beyond s left n ch =
    compared_by s n ch && (over (stored_of left) ch (channel_at left ch).value || under (stored_of left) ch (channel_at left ch).value)

-- of an event of this form that is done
abbrev pub Leaves : (State → Event) → (State → State → Type 0) → Type 0
Leaves form P = (s : State) → well_formed s ≡ true → (e : Numbers) → check_of e ≡ Ok (form s) → P s (step_of s e).state

-- "by a standby comparison that finds any limit fault"
abbrev pub WriteLeaves : Type 0
WriteLeaves =
    (n b : ℕ) → Leaves (λ s. Write s.address n b) (λ s left. LeftBy n (compared_by s n) false s left × (left.latch ≡ (s.latch || (beyond s left n Local || beyond s left n Remote))))

-- "Reading register 02"
abbrev pub ReadLeaves : Type 0
ReadLeaves =
    (n : ℕ) → Leaves (λ s. Read s.address n) (λ s left. LeftBy n nothing (eqb n 0x02) s left × (left.latch ≡ s.latch) × Unwritten s left)

abbrev pub ReceiveLeaves : Type 0
ReceiveLeaves =
    Leaves (λ s. Receive s.address) (λ s left. LeftBy s.pointer nothing (eqb s.pointer 0x02) s left × (left.latch ≡ s.latch) × Unwritten s left)

abbrev pub SendLeaves : Type 0
SendLeaves = (n : ℕ) → Leaves (λ s. Send s.address n) (λ s left. LeftBy n nothing false s left × (left.latch ≡ s.latch) × Unwritten s left)

abbrev pub StartLeaves : Type 0
StartLeaves = Leaves (λ s. Start) (λ s left. LeftBy s.pointer nothing false s left × (left.latch ≡ s.latch) × Unwritten s left)

-- the latch is by `Judged.ResponseClears`
abbrev pub RespondLeaves : Type 0
RespondLeaves = Leaves (λ s. Respond) (λ s left. LeftBy s.pointer nothing false s left × Unwritten s left)
