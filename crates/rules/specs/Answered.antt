-- The code and the reply of every event, by what is seen of the chip and its latch; and what a read of each address finds. In other words
-- than the step's, whose errors are refused here. The proofs are in proofs/Answered.antt. Assumes nothing.
use Rattle.std.specs.Prelude.{ℕ, ◌+◌, ◌*◌, ◌/◌, ◌≡◌, Bool, cond, ◌||◌, ◌&&◌, true, false, List, [], ◌∷◌, map, eqb, Ok}
use Rattle.rules.specs.declared.answer.Code.{Code}
use Rattle.rules.specs.declared.answer.Code.TheVariants.{Done, Unheard, NoStart, NoEnd}
use Rattle.rules.specs.declared.event.Event.{Event}
use Rattle.rules.specs.declared.event.Event.TheVariants.{Reset, Send, Write, Read, Receive, Respond, Start, End}
use Rattle.rules.specs.declared.event.Numbers.{Numbers}
use Rattle.rules.specs.declared.register.Channel.TheVariants.{Local, Remote}
use Rattle.rules.specs.declared.register.Register.{Register}
use Rattle.rules.specs.declared.state.State.{State}
use Rattle.rules.specs.Alarm.{line_free, view_of}
use Rattle.rules.specs.Channels.{any}
use Rattle.rules.specs.Commands.{source_of}
use Rattle.rules.specs.Event.{check_of}
use Rattle.rules.specs.History.{View, in_standby}
use Rattle.rules.specs.Read.{reading_of, reply_of}
use Rattle.rules.specs.Rows.{row_of}
use Rattle.rules.specs.State.{channel_at, stored_of}
use Rattle.rules.specs.Status.{status_of}
use Rattle.rules.specs.Step.{step_of}
use Rattle.rules.specs.WellFormed.{well_formed}

-- ---- Codes ----

-- 3, "kinds 1 to 4 with an address other than the chip's; kind 5 while ALERT is high"; 4, "kind 6 in standby, or while a conversion runs";
-- 5, "kind 7 while no conversion runs"
abbrev pub code_by : View → Bool → Event → Code
code_by v latch Reset = Done
code_by v latch (Send a n) = cond (eqb a v.address) Done Unheard
code_by v latch (Write a n b) = cond (eqb a v.address) Done Unheard
code_by v latch (Read a n) = cond (eqb a v.address) Done Unheard
code_by v latch (Receive a) = cond (eqb a v.address) Done Unheard
code_by v latch Respond = cond (latch && line_free v) Done Unheard
code_by v latch Start = cond (in_standby v || v.running) NoStart Done
code_by v latch (End t) = cond v.running Done NoEnd

abbrev pub CodesGiven : Type 0
CodesGiven =
    (s : State) → well_formed s ≡ true → (n : Numbers) (e : Event) → check_of n ≡ Ok e → (step_of s n).code ≡ code_by (view_of s) s.latch e

-- ---- Replies ----

-- what a read of an address replies
abbrev pub byte_at : State → ℕ → ℕ
byte_at s n = reply_of (reading_of s (source_of n))

-- "With code 0, kinds 0, 1, 2, 6 and 7 reply 0"; "Kinds 3 and 4 reply the register at the pointer"; "replies 2 times the address plus 1"
abbrev pub reply_by : State → Event → ℕ
reply_by s Reset = 0
reply_by s (Send a n) = 0
reply_by s (Write a n b) = 0
reply_by s (Read a n) = cond (eqb a s.address) (byte_at s n) 0
reply_by s (Receive a) = cond (eqb a s.address) (byte_at s s.pointer) 0
reply_by s Respond = cond (s.latch && line_free (view_of s)) (2 * s.address + 1) 0
reply_by s Start = 0
reply_by s (End t) = 0

abbrev pub RepliesGiven : Type 0
RepliesGiven =
    (s : State) → well_formed s ≡ true → (n : Numbers) (e : Event) → check_of n ≡ Ok e → (step_of s n).reply ≡ reply_by s e

-- ---- What a read finds ----

-- "Read addresses"
abbrev pub read_addresses : List ℕ
read_addresses =
    0x00 ∷ 0x01 ∷ 0x02 ∷ 0x03 ∷ 0x04 ∷ 0x05 ∷ 0x06 ∷ 0x07 ∷ 0x08 ∷ 0x10 ∷ 0x11 ∷ 0x12 ∷ 0x13 ∷ 0x14 ∷ 0x19 ∷ 0x20 ∷ 0x21 ∷ 0x22 ∷ 0xfe ∷ 0xff ∷ []

pub record Found (s : State) : Type 0 where
  pub registers : (r : Register) → byte_at s (row_of r).read ≡ stored_of s r
  pub local : byte_at s 0x00 ≡ (channel_at s Local).value
  pub remote : byte_at s 0x01 * 4 + byte_at s 0x10 / 64 ≡ (channel_at s Remote).value
  pub quarters : byte_at s 0x10 / 64 * 64 ≡ byte_at s 0x10
  pub status : byte_at s 0x02 ≡ status_of s
  pub maker : byte_at s 0xfe ≡ 0x41
  pub revision : byte_at s 0xff ≡ 0x51
  -- "a read of any other address replies 0"
  pub holes : (n : ℕ) → any (map (eqb n) read_addresses) ≡ false → byte_at s n ≡ 0

abbrev pub ReadsFind : Type 0
ReadsFind = (s : State) → well_formed s ≡ true → Found s
