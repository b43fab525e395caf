-- Answer codes, in other words: exactly which states code 6 refuses, that codes 1 and 2 come in any other before 3, 4 and 5, and that an
-- answer's lines are those of the state that it gives; and what a status read does to each flag, and an alert response to the latch. The
-- proofs are in proofs/Judged.antt. Assumes nothing.
use Rattle.std.specs.Prelude.{◌≤◌, ◌≡◌, ◌&&◌, ◌||◌, false, true, eqb, Ok, Err}
use Rattle.rules.specs.declared.answer.Code.{Code}
use Rattle.rules.specs.declared.event.Event.{Event}
use Rattle.rules.specs.declared.event.Numbers.{Numbers}
use Rattle.rules.specs.declared.register.Channel.TheVariants.{Local, Remote}
use Rattle.rules.specs.declared.register.Register.{Register}
use Rattle.rules.specs.declared.state.Mark.{Mark}
use Rattle.rules.specs.declared.state.State.{State}
use Rattle.rules.specs.Alarm.{view_of}
use Rattle.rules.specs.Codes.{number_of}
use Rattle.rules.specs.Event.{check_of, checked_number}
use Rattle.rules.specs.History.{did_of}
use Rattle.rules.specs.Lines.{alert_low, pin_line, therm_line}
use Rattle.rules.specs.Rows.{trim_of}
use Rattle.rules.specs.State.{channel_at, stored_of}
use Rattle.rules.specs.Status.{Flag, flag_at, flag_for, mark_at, shown_of}
use Rattle.rules.specs.Status.Fault.{Above, Below, Open}
use Rattle.rules.specs.Step.{refused, step_of}
use Rattle.rules.specs.Trial.{respond}
use Rattle.rules.specs.WellFormed.{well_formed}

-- 6, "address not 76 or 77; remote value over 1023; run count over 4; a bit set that the registers below never store"; the local value has
-- 8 bits, and the local channel no diode
pub record Regular (s : State) : Type 0 where
  pub address : (eqb s.address 76 || eqb s.address 77) ≡ true
  pub runs : s.runs ≤ 4
  pub bits : (r : Register) → trim_of r (stored_of s r) ≡ stored_of s r
  pub local : (channel_at s Local).value ≤ 255
  pub remote : (channel_at s Remote).value ≤ 1023
  pub found : (channel_at s Local).diode.found ≡ false
  pub flag : (channel_at s Local).diode.flag ≡ false

abbrev pub SixExactly : Type 0
SixExactly = (s : State) → (well_formed s ≡ true → Regular s) × (Regular s → well_formed s ≡ true)

-- "Order: 6, 1, 2, then 3, 4 or 5"
abbrev pub ChecksFirst : Type 0
ChecksFirst = (s : State) → well_formed s ≡ true → (n : Numbers) (code : Code) → check_of n ≡ Err code → step_of s n ≡ refused code s

-- and where the check of a well-formed state's event refuses, its number is the one that the step answers
abbrev pub CheckedNumbers : Type 0
CheckedNumbers =
    ((e : Event) → checked_number (Ok e) ≡ 0) × ((code : Code) → checked_number (Err code) ≡ number_of code)
    × ((s : State) → well_formed s ≡ true → (n : Numbers) (code : Code) → check_of n ≡ Err code → number_of (step_of s n).code ≡ checked_number (check_of n))

-- "alert and therm are read from that state", whatever the state and the event: alert is pin 6
abbrev pub LinesRead : Type 0
LinesRead = (s : State) (n : Numbers) → ((step_of s n).alert ≡ pin_line (step_of s n).state) × ((step_of s n).therm ≡ therm_line (step_of s n).state)

-- "then each of 6 to 2 whose latest comparison found no fault (or has none) is cleared"; and none is set
pub record ShownMark (m : Mark) : Type 0 where
  pub cleared : m.found ≡ false → (shown_of m).flag ≡ false
  pub kept : m.found ≡ true → (shown_of m).flag ≡ m.flag
  pub verdict : (shown_of m).found ≡ m.found

abbrev pub ShownMeans : Type 0
ShownMeans = (m : Mark) → ShownMark m

-- the same of the step, whichever flag and whatever else stands
abbrev pub StatusReadClears : Type 0
StatusReadClears =
    (s : State) → well_formed s ≡ true → (n : Numbers) → (did_of (view_of s) (check_of n)).status_read ≡ true → (f : Flag)
    → mark_at (step_of s n).state f ≡ record { found = (mark_at s f).found; flag = (mark_at s f).flag && (mark_at s f).found }

-- "then clears the latch if flags 6 to 2 are all 0": each by its name
abbrev pub ResponseClears : Type 0
ResponseClears =
    (s : State) → well_formed s ≡ true → alert_low s ≡ true
    → (step_of s respond).state.latch ≡ (s.latch && (flag_at s (flag_for Local Above) || (flag_at s (flag_for Local Below) || (flag_at s (flag_for Remote Above) || (flag_at s (flag_for Remote Below) || flag_at s (flag_for Remote Open))))))
