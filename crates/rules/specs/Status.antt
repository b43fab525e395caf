-- Status, ALERT, THERM: the latched flags, the status byte and what its read clears. Assumes nothing.
use Rattle.std.specs.Prelude.{ℕ, ◌+◌, ◌^◌, Bool, ◌&&◌, cond, List, [], ◌∷◌, map}
use Rattle.rules.specs.declared.register.Channel.{Channel}
use Rattle.rules.specs.declared.state.ChannelState.{ChannelState}
use Rattle.rules.specs.declared.state.Mark.{Mark}
use Rattle.rules.specs.declared.state.State.{State}
use Rattle.rules.specs.Bits.{weight}
use Rattle.rules.specs.Channels.{any, channels, from_each, sum, traits}
use Rattle.rules.specs.State.{channel_at, each_channel}

-- what a latched flag tells of its channel
pub data Fault : Type 0 where
  Above : Fault
  Below : Fault
  Open : Fault

-- a latched flag; of a channel with no diode the open one is no flag of the part, and never set
pub record Flag : Type 0 where
  pub channel : Channel
  pub fault : Fault

abbrev pub flag_for : Channel → Fault → Flag
flag_for ch x = record { channel = ch; fault = x }

-- a channel's flags: high and low, and open where it has a diode
abbrev pub flags_for : Channel → List Flag
flags_for ch =
    flag_for ch Above ∷ flag_for ch Below ∷ cond (traits ch).diode (flag_for ch Open ∷ []) []

-- "flags 6 to 2"
abbrev pub flags : List Flag
flags = from_each flags_for channels

-- its place in the status byte: "6 local high, 5 local low, 4 remote high, 3 remote low, 2 open"
abbrev pub bit_of : Channel → Fault → ℕ
bit_of ch Above = (traits ch).high_bit
bit_of ch Below = (traits ch).low_bit
bit_of ch Open = (traits ch).open_bit

abbrev pub place_of : Flag → ℕ
place_of f = bit_of f.channel f.fault

-- the mark that has it
abbrev pub mark_of : ChannelState → Fault → Mark
mark_of c Above = c.high
mark_of c Below = c.low
mark_of c Open = c.diode

abbrev pub mark_at : State → Flag → Mark
mark_at s f = mark_of (channel_at s f.channel) f.fault

abbrev pub flag_at : State → Flag → Bool
flag_at s f = (mark_at s f).flag

-- "7 busy, .. 1 remote THERM, 0 local THERM"
abbrev pub flag_weight : State → Flag → ℕ
flag_weight s f = weight (flag_at s f) (2 ^ place_of f)

abbrev pub therm_weight : State → Channel → ℕ
therm_weight s ch = weight (channel_at s ch).therm (2 ^ (traits ch).therm_bit)

unfoldable pub status_of : State → ℕ
status_of s = weight s.busy 128 + sum (map (flag_weight s) flags) + sum (map (therm_weight s) channels)

-- "then each of 6 to 2 whose latest comparison found no fault (or has none) is cleared"
abbrev pub shown_of : Mark → Mark
shown_of m = record { found = m.found; flag = m.flag && m.found }

abbrev pub shown_channel : ChannelState → ChannelState
shown_channel c =
    record {
      value = c.value;
      converted = c.converted;
      high = shown_of c.high;
      low = shown_of c.low;
      diode = shown_of c.diode;
      therm = c.therm;
      therm2 = c.therm2;
    }

-- the state after register 02 was read
unfoldable pub after_status : State → State
after_status s = each_channel (λ ch. shown_channel) s

-- "flags 6 to 2 are all 0" denied
abbrev pub any_flag : State → Bool
any_flag s = any (map (flag_at s) flags)
