-- What is shown of the rules as a whole. The proofs are in proofs/Rows.antt, WellFormed.antt, NeverSix.antt and Unique.antt. Assumes
-- nothing.
use Rattle.std.specs.Prelude.{◌≡◌, true, false, List, ℤ}
use Rattle.rules.specs.declared.answer.Code.TheVariants.{Done, BadField, IllFormed}
use Rattle.rules.specs.declared.event.Numbers.{Numbers}
use Rattle.rules.specs.declared.register.Channel.{Channel}
use Rattle.rules.specs.declared.register.Register.{Register}
use Rattle.rules.specs.declared.register.Source.TheVariants.{Stored as From}
use Rattle.rules.specs.declared.register.Target.TheVariants.{Stored as Into}
use Rattle.rules.specs.declared.state.State.{State}
use Rattle.rules.specs.Commands.{source_of, target_of}
use Rattle.rules.specs.Lines.{alert_low}
use Rattle.rules.specs.PowerOn.{made_of}
use Rattle.rules.specs.Rows.{row_of}
use Rattle.rules.specs.State.{channel_at, rest_of, stored_of}
use Rattle.rules.specs.Step.{after, step_of}
use Rattle.rules.specs.WellFormed.{well_formed}

-- every register is read and written at its row's addresses: none is missing from the list, and no address serves two
abbrev pub EachIsRead : Type 0
EachIsRead = (r : Register) → source_of (row_of r).read ≡ From r

abbrev pub EachIsWritten : Type 0
EachIsWritten = (r : Register) → target_of (row_of r).write ≡ Into r

-- a fresh state is well formed
abbrev pub FreshWellFormed : Type 0
FreshWellFormed = (address : ℤ) → (made_of address).code ≡ Done → well_formed (made_of address).state ≡ true

-- every step keeps a state so
abbrev pub StepsWellFormed : Type 0
StepsWellFormed = (s : State) (e : Numbers) → well_formed s ≡ true → well_formed (step_of s e).state ≡ true

-- so that, from power-on, no event of any sequence is answered with code 6
abbrev pub NeverSix : Type 0
NeverSix =
    (address : ℤ) → (made_of address).code ≡ Done → (es : List Numbers) (e : Numbers)
    → (step_of (after (made_of address).state es) e).code ≡ IllFormed → ⊥

-- "a state of all zeros, which code 6 refuses"
abbrev pub RefusedAfterCode2 : Type 0
RefusedAfterCode2 = (address : ℤ) → (made_of address).code ≡ BadField → (e : Numbers) → (step_of (made_of address).state e).code ≡ IllFormed

-- "a state of all zeros": each part of it
pub record Zeros (s : State) : Type 0 where
  pub address : s.address ≡ 0
  pub rest : rest_of s ≡ record { pointer = 0; busy = false; runs = 0; latch = false }
  pub registers : (r : Register) → stored_of s r ≡ 0
  pub channels : (ch : Channel) → channel_at s ch ≡ record { value = 0; converted = false; high = record { found = false; flag = false }; low = record { found = false; flag = false }; diode = record { found = false; flag = false }; therm = false; therm2 = false }

abbrev pub ZerosAfterCode2 : Type 0
ZerosAfterCode2 = (address : ℤ) → (made_of address).code ≡ BadField → Zeros (made_of address).state

-- "no second answer could satisfy it": whatever meets a contract `r ≡ x` is the same
abbrev pub OneAnswer : {A : Type 0} → A → Type 0
OneAnswer {A} x = (r r' : A) → r ≡ x → r' ≡ x → r ≡ r'

-- the public operations' contracts, each with every argument free
abbrev pub OneFresh : Type 0
OneFresh = (address : ℤ) → OneAnswer (made_of address)

abbrev pub OneStep : Type 0
OneStep = (s : State) (e : Numbers) → OneAnswer (step_of s e)

abbrev pub OneWellFormed : Type 0
OneWellFormed = (s : State) → OneAnswer (well_formed s)

abbrev pub OneAlertLow : Type 0
OneAlertLow = (s : State) → OneAnswer (alert_low s)
