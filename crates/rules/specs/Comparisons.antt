-- Comparisons: high, low, and THERM and THERM2 with their hysteresis, once for every channel over its limits in its own codes. Assumes
-- nothing.
use Rattle.std.specs.Prelude.{ℕ, ◌+◌, ◌*◌, ◌-◌, ◌/◌, Bool, cond, ◌||◌, ◌&&◌, true, false, ltb, leb}
use Rattle.rules.specs.declared.register.Channel.{Channel}
use Rattle.rules.specs.declared.register.Register.{Register}
use Rattle.rules.specs.declared.register.Register.TheVariants.{Hysteresis}
use Rattle.rules.specs.declared.state.ChannelState.{ChannelState}
use Rattle.rules.specs.declared.state.Limits.{Limits}
use Rattle.rules.specs.declared.state.Mark.{Mark}
use Rattle.rules.specs.Channels.{Held, byte_of, fine_of, scale_of, traits}

-- "Remote limits are 4 times the high byte plus low byte over 64"; of a channel with no low bytes, the byte
abbrev pub limit_of : ℕ → ℕ → ℕ → ℕ
limit_of scale high fine = scale * high + fine / 64

abbrev pub held_limit : (Register → ℕ) → ℕ → Held → ℕ
held_limit f scale h = limit_of scale (byte_of f h) (fine_of f h)

-- a channel's limits by the registers; THERM and its hysteresis, "both sides count 4 codes per degree"
abbrev pub limits_of : (Register → ℕ) → Channel → Limits
limits_of f ch =
    record {
      high = held_limit f (scale_of ch) (traits ch).high;
      low = held_limit f (scale_of ch) (traits ch).low;
      therm = held_limit f (scale_of ch) (traits ch).therm;
      hysteresis = scale_of ch * f Hysteresis;
    }

-- "High: value above limit."
abbrev pub above_of : ℕ → ℕ → Bool
above_of limit value = ltb limit value

-- "Low: value at or below limit."
abbrev pub below_of : ℕ → ℕ → Bool
below_of limit value = leb value limit

-- the comparator of THERM and of THERM2: "set when the value is above the limit, cleared when at or below (limit - hysteresis, not under
-- 0), otherwise kept"; the difference of two numbers is not under 0
abbrev pub comparator_of : ℕ → ℕ → ℕ → Bool → Bool
comparator_of limit hysteresis value was =
    cond (ltb limit value) true (cond (leb value (limit - hysteresis)) false was)

-- the two of a channel; 02, item 4: pin 6 "is a second comparator"
pub data Comparator : Type 0 where
  Therm : Comparator
  Therm2 : Comparator

-- the limit of each: THERM has its own; 02, item 4: THERM2 is "set above the high limit"
abbrev pub limit_for : Comparator → Limits → ℕ
limit_for Therm l = l.therm
limit_for Therm2 l = l.high

-- what a comparison leaves of a comparator that was so
abbrev pub tripped_of : Comparator → Limits → ℕ → Bool → Bool
tripped_of k l value was = comparator_of (limit_for k l) l.hysteresis value was

-- Status, "Flags 6 to 2 are set by a comparison that finds the fault": what it found is the latest verdict
abbrev pub verdict_of : Mark → Bool → Mark
verdict_of m fault = record { found = fault; flag = m.flag || fault }

-- one channel compared: both limits, and THERM; 02, item 4: THERM2's mark is "worked out at the same comparisons as THERM"
unfoldable pub compared_of : Limits → ChannelState → ChannelState
compared_of l c =
    record {
      value = c.value;
      converted = c.converted;
      high = verdict_of c.high (above_of l.high c.value);
      low = verdict_of c.low (below_of l.low c.value);
      diode = c.diode;
      therm = tripped_of Therm l c.value c.therm;
      therm2 = tripped_of Therm2 l c.value c.therm2;
    }

-- "compares each channel converted since power-on"
abbrev pub recompared_of : Limits → ChannelState → ChannelState
recompared_of l c = cond c.converted (compared_of l c) c

-- the diode check, made at a conversion
abbrev pub diode_of : Bool → ChannelState → ChannelState
diode_of broken c =
    record {
      value = c.value;
      converted = c.converted;
      high = c.high;
      low = c.low;
      diode = verdict_of c.diode broken;
      therm = c.therm;
      therm2 = c.therm2;
    }

-- a limit fault was found when the channel was last compared; one never converted was not compared
abbrev pub fault_of : ChannelState → Bool
fault_of c = c.converted && (c.high.found || c.low.found)
