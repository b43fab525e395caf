-- Registers: what a read finds, and what it leaves. Assumes nothing.
use Rattle.std.specs.Prelude.{ℕ, Option, Some, None}
use Rattle.rules.specs.declared.answer.Done.{Done}
use Rattle.rules.specs.declared.register.Source.{Source}
use Rattle.rules.specs.declared.register.Source.TheVariants.{Stored, Value, ValueFine, Status, Maker, Revision, Hole}
use Rattle.rules.specs.declared.state.State.{State}
use Rattle.rules.specs.Channels.{scale_of}
use Rattle.rules.specs.Commands.{source_of}
use Rattle.rules.specs.State.{channel_at, stored_of}
use Rattle.rules.specs.Status.{after_status, status_of}
use Rattle.rules.specs.Values.{high_byte_of, low_byte_of}

-- "Read addresses"; "FE reads 41, FF reads 51": the register's byte, or that there is no register
abbrev pub reading_of : State → Source → Option ℕ
reading_of s (Stored r) = Some (stored_of s r)
reading_of s (Value ch) = Some (high_byte_of (scale_of ch) (channel_at s ch).value)
reading_of s (ValueFine ch) = Some (low_byte_of (scale_of ch) (channel_at s ch).value)
reading_of s Status = Some (status_of s)
reading_of s Maker = Some 0x41
reading_of s Revision = Some 0x51
reading_of s Hole = None

-- "House: a read of any other address replies 0"
abbrev pub reply_of : Option ℕ → ℕ
reply_of (Some b) = b
reply_of None = 0

-- only register 02 changes by being read
abbrev pub after_read : State → Source → State
after_read s (Stored r) = s
after_read s (Value ch) = s
after_read s (ValueFine ch) = s
after_read s Status = after_status s
after_read s Maker = s
after_read s Revision = s
after_read s Hole = s

-- "reply the register at the pointer"; "Reading register 02 replies first"
unfoldable pub read_at_pointer : State → Done
read_at_pointer s =
    record { reply = reply_of (reading_of s (source_of s.pointer)); state = after_read s (source_of s.pointer) }
