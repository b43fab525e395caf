-- Comparisons, "At kind 7, after both values are stored, both channels are compared and the diode checked", but for a channel that an
-- open diode holds back (document 02, item 3). Assumes nothing.
use Rattle.std.specs.Prelude.{ℕ, Bool, cond, ◌||◌, ◌&&◌, true, false, ℤ}
use Rattle.rules.specs.declared.event.Samples.{Samples}
use Rattle.rules.specs.declared.register.Channel.{Channel}
use Rattle.rules.specs.declared.register.Register.{Register}
use Rattle.rules.specs.declared.register.Register.TheVariants.{Config}
use Rattle.rules.specs.declared.state.ChannelState.{ChannelState}
use Rattle.rules.specs.declared.state.Limits.{Limits}
use Rattle.rules.specs.declared.state.State.{State}
use Rattle.rules.specs.Channels.{any_channel, broken_at, byte_of, compared_in, fine_of, sample_at, scale_of, traits}
use Rattle.rules.specs.Comparisons.{compared_of, diode_of, fault_of, limits_of}
use Rattle.rules.specs.Configuration.{extended}
use Rattle.rules.specs.Runs.{converted_sets, runs_of}
use Rattle.rules.specs.State.{channel_at, each_channel, stored_of, with_busy, with_latch, with_runs}
use Rattle.rules.specs.Values.{code_of, offset_of}

-- a channel's code for a sample, by the range and the offset that the registers hold
unfoldable pub code_for : (Register → ℕ) → Channel → ℤ → ℕ
code_for f ch sample =
    code_of (scale_of ch) (extended (f Config)) (offset_of (byte_of f (traits ch).offset) (fine_of f (traits ch).offset)) sample

-- the code in the value register, which makes the channel converted
abbrev pub measured_of : ℕ → ChannelState → ChannelState
measured_of code c =
    record { value = code; converted = true; high = c.high; low = c.low; diode = c.diode; therm = c.therm; therm2 = c.therm2 }

-- stored, then compared; 02: of a channel that the conversion does not compare, value, THERM flag and latest limit verdicts "stand as they
-- were", and "it doesn't count as a conversion; earlier ones still do"; THERM2's mark goes with THERM's flag
unfoldable pub taken_of : Limits → ℕ → Bool → ChannelState → ChannelState
taken_of limits code compares c = cond compares (compared_of limits (measured_of code c)) c

-- one channel's part of a conversion; the diode is checked in any case
unfoldable pub converted_of : Limits → ℕ → Bool → Bool → ChannelState → ChannelState
converted_of limits code compares broken c = diode_of broken (taken_of limits code compares c)

abbrev pub all_converted : State → Samples → State
all_converted s t =
    each_channel
    (λ ch. converted_of (limits_of (stored_of s) ch) (code_for (stored_of s) ch (sample_at t ch)) (compared_in t ch) (broken_at t ch)) s

-- a limit fault that this conversion found: 02, "The run count looks at local faults only in that conversion"
abbrev pub found_in : Samples → State → Bool
found_in t s = any_channel (λ ch. compared_in t ch && fault_of (channel_at s ch))

-- "Run count: completed conversions in a row in which any of the four limit faults was found"
abbrev pub counted : Samples → State → State
counted t s = with_runs s (runs_of s.runs (found_in t s))

-- "by a kind 7 with the diode open, by a kind 7 after which the run count is at least the needed number"
abbrev pub latched_by_conversion : Samples → State → State
latched_by_conversion t s =
    with_latch s (s.latch || converted_sets s.runs s.consecutive (any_channel (λ ch. broken_at t ch)))

-- "Kind 7 ends busy"
unfoldable pub converted : State → Samples → State
converted s t = with_busy (latched_by_conversion t (counted t (all_converted s t))) false
