-- A state by its parts: what was given, a byte for each register, a value for each channel, and the rest. This is the one file that
-- names the state's fields; every other definition takes a state apart and puts it together through it. Assumes nothing.
use Rattle.std.specs.Prelude.{ℕ, Bool, cond, eqb}
use Rattle.rules.specs.declared.register.Channel.{Channel}
use Rattle.rules.specs.declared.register.Channel.TheVariants.{Local, Remote}
use Rattle.rules.specs.declared.register.Register.{Register}
use Rattle.rules.specs.declared.register.Register.TheVariants.{Config, Rate, Hysteresis, Consecutive, LocalHigh, LocalLow, LocalTherm, RemoteHigh, RemoteHighFine, RemoteLow, RemoteLowFine, RemoteOffset, RemoteOffsetFine, RemoteTherm}
use Rattle.rules.specs.declared.state.Given.{Given}
use Rattle.rules.specs.declared.state.ChannelState.{ChannelState}
use Rattle.rules.specs.declared.state.State.{State}
use Rattle.rules.specs.Rows.{same}

-- ---- Taken apart ----

abbrev pub given_of : State → Given
given_of s = record { address = s.address }

-- the byte that a register holds
abbrev pub stored_of : State → Register → ℕ
stored_of s Config = s.config
stored_of s Rate = s.rate
stored_of s Hysteresis = s.hysteresis
stored_of s Consecutive = s.consecutive
stored_of s LocalHigh = s.localhigh
stored_of s LocalLow = s.locallow
stored_of s LocalTherm = s.localtherm
stored_of s RemoteHigh = s.remotehigh
stored_of s RemoteHighFine = s.remotehighfine
stored_of s RemoteLow = s.remotelow
stored_of s RemoteLowFine = s.remotelowfine
stored_of s RemoteOffset = s.remoteoffset
stored_of s RemoteOffsetFine = s.remoteoffsetfine
stored_of s RemoteTherm = s.remotetherm

abbrev pub channel_at : State → Channel → ChannelState
channel_at s Local =
    record {
      value = s.localvalue;
      converted = s.localconverted;
      high = record { found = s.localhighfound; flag = s.localhighflag };
      low = record { found = s.locallowfound; flag = s.locallowflag };
      diode = record { found = s.localdiodefound; flag = s.localdiodeflag };
      therm = s.localthermflag;
      therm2 = s.localtherm2mark;
    }
channel_at s Remote =
    record {
      value = s.remotevalue;
      converted = s.remoteconverted;
      high = record { found = s.remotehighfound; flag = s.remotehighflag };
      low = record { found = s.remotelowfound; flag = s.remotelowflag };
      diode = record { found = s.remotediodefound; flag = s.remotediodeflag };
      therm = s.remotethermflag;
      therm2 = s.remotetherm2mark;
    }

-- what belongs to no channel, is no register, and is not given
pub record Rest : Type 0 where
  pub pointer : ℕ
  pub busy : Bool
  pub runs : ℕ
  pub latch : Bool

abbrev pub rest_of : State → Rest
rest_of s = record { pointer = s.pointer; busy = s.busy; runs = s.runs; latch = s.latch }

-- ---- Put together ----

abbrev pub state_from : Given → Rest → (Register → ℕ) → (Channel → ChannelState) → State
state_from g p f c =
    record {
      address = g.address;
      pointer = p.pointer;
      config = f Config;
      rate = f Rate;
      hysteresis = f Hysteresis;
      consecutive = f Consecutive;
      busy = p.busy;
      runs = p.runs;
      latch = p.latch;
      localhigh = f LocalHigh;
      locallow = f LocalLow;
      localtherm = f LocalTherm;
      localvalue = (c Local).value;
      localconverted = (c Local).converted;
      localhighfound = (c Local).high.found;
      localhighflag = (c Local).high.flag;
      locallowfound = (c Local).low.found;
      locallowflag = (c Local).low.flag;
      localdiodefound = (c Local).diode.found;
      localdiodeflag = (c Local).diode.flag;
      localthermflag = (c Local).therm;
      localtherm2mark = (c Local).therm2;
      remotehigh = f RemoteHigh;
      remotehighfine = f RemoteHighFine;
      remotelow = f RemoteLow;
      remotelowfine = f RemoteLowFine;
      remoteoffset = f RemoteOffset;
      remoteoffsetfine = f RemoteOffsetFine;
      remotetherm = f RemoteTherm;
      remotevalue = (c Remote).value;
      remoteconverted = (c Remote).converted;
      remotehighfound = (c Remote).high.found;
      remotehighflag = (c Remote).high.flag;
      remotelowfound = (c Remote).low.found;
      remotelowflag = (c Remote).low.flag;
      remotediodefound = (c Remote).diode.found;
      remotediodeflag = (c Remote).diode.flag;
      remotethermflag = (c Remote).therm;
      remotetherm2mark = (c Remote).therm2;
    }

-- ---- One part changed, the others as they were ----

abbrev pub with_rest : State → Rest → State
with_rest s p = state_from (given_of s) p (stored_of s) (channel_at s)

abbrev pub with_pointer : State → ℕ → State
with_pointer s n = with_rest s (record { pointer = n; busy = s.busy; runs = s.runs; latch = s.latch })

abbrev pub with_busy : State → Bool → State
with_busy s b = with_rest s (record { pointer = s.pointer; busy = b; runs = s.runs; latch = s.latch })

abbrev pub with_runs : State → ℕ → State
with_runs s n = with_rest s (record { pointer = s.pointer; busy = s.busy; runs = n; latch = s.latch })

abbrev pub with_latch : State → Bool → State
with_latch s b = with_rest s (record { pointer = s.pointer; busy = s.busy; runs = s.runs; latch = b })

-- a function of registers, changed at one
abbrev pub put : Register → ℕ → (Register → ℕ) → Register → ℕ
put r b f q = cond (same r q) b (f q)

abbrev pub with_stored : State → Register → ℕ → State
with_stored s r b = state_from (given_of s) (rest_of s) (put r b (stored_of s)) (channel_at s)

-- every channel anew
abbrev pub with_channels : State → (Channel → ChannelState) → State
with_channels s c = state_from (given_of s) (rest_of s) (stored_of s) c

-- each channel changed by its own rule
abbrev pub each_channel : (Channel → ChannelState → ChannelState) → State → State
each_channel f s = with_channels s (λ ch. f ch (channel_at s ch))

-- one channel anew
abbrev pub number_of : Channel → ℕ
number_of Local = 0
number_of Remote = 1

abbrev pub with_channel : State → Channel → ChannelState → State
with_channel s ch c = with_channels s (λ x. cond (eqb (number_of ch) (number_of x)) c (channel_at s x))
