-- An event is what was sent: each form by its numbers, and which numbers are one. In other words than the table of kinds, whose errors are
-- refused here. The proofs are in proofs/Forms.antt. Assumes nothing.
use Rattle.std.specs.Prelude.{ℕ, ◌≤◌, ◌<◌, ◌≡◌, cond, leb, ℤ, Ok, Err}
use Rattle.std.proofs.Math.IntN.ℤ.{pos, negsuc}
use Rattle.rules.specs.declared.answer.Code.{Code}
use Rattle.rules.specs.declared.answer.Code.TheVariants.{BadKind, BadField}
use Rattle.rules.specs.declared.event.Event.{Event}
use Rattle.rules.specs.declared.event.Event.TheVariants.{Reset, Send, Write, Read, Receive, Respond, Start, End}
use Rattle.rules.specs.declared.event.Numbers.{Numbers}
use Rattle.rules.specs.Bits.{weight}
use Rattle.rules.specs.Event.{check_of}
use Rattle.rules.specs.Trial.{four}

-- the numbers of each form: the fields that it uses, and 0 for the others
abbrev pub numbers_of : Event → Numbers
numbers_of Reset = four 0 (pos 0) (pos 0) (pos 0)
numbers_of (Send a n) = four 1 (pos a) (pos n) (pos 0)
numbers_of (Write a n b) = four 2 (pos a) (pos n) (pos b)
numbers_of (Read a n) = four 3 (pos a) (pos n) (pos 0)
numbers_of (Receive a) = four 4 (pos a) (pos 0) (pos 0)
numbers_of Respond = four 5 (pos 0) (pos 0) (pos 0)
numbers_of Start = four 6 (pos 0) (pos 0) (pos 0)
numbers_of (End t) = four 7 t.local t.remote (pos (weight t.broken 1))

-- from -below to above
abbrev pub FromTo : ℕ → ℕ → ℤ → Type 0
FromTo below above (pos n) = n ≤ above
FromTo below above (negsuc n) = n < below

-- "bus address 0..127", "command 0..255", "data 0..255", "local .. -8192..8191", "remote .. -32768..32767"
abbrev pub InRange : Event → Type 0
InRange Reset = Unit {0}
InRange (Send a n) = (a ≤ 127) × (n ≤ 255)
InRange (Write a n b) = (a ≤ 127) × (n ≤ 255) × (b ≤ 255)
InRange (Read a n) = (a ≤ 127) × (n ≤ 255)
InRange (Receive a) = a ≤ 127
InRange Respond = Unit {0}
InRange Start = Unit {0}
InRange (End t) = FromTo 8192 8191 t.local × FromTo 32768 32767 t.remote

-- what is taken for an event is that event, and in range
abbrev pub TakenAsSent : Type 0
TakenAsSent = (n : Numbers) (e : Event) → check_of n ≡ Ok e → (numbers_of e ≡ n) × InRange e

-- and every event in range is taken
abbrev pub AllTaken : Type 0
AllTaken = (e : Event) → InRange e → check_of (numbers_of e) ≡ Ok e

-- the rest is code 1 where the kind is outside 0..7, otherwise 2
abbrev pub refusal_for : ℤ → Code
refusal_for (pos kind) = cond (leb kind 7) BadField BadKind
refusal_for (negsuc k) = BadKind

abbrev pub RefusedByKind : Type 0
RefusedByKind = (n : Numbers) (code : Code) → check_of n ≡ Err code → code ≡ refusal_for n.kind
