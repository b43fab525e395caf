-- The channels of the part, and as data what differs between them. Assumes nothing.
use Rattle.std.specs.Prelude.{ℕ, ◌+◌, Bool, ◌||◌, ◌&&◌, not, true, false, List, [], ◌∷◌, ◌++◌, map, ℤ}
use Rattle.rules.specs.declared.event.Samples.{Samples}
use Rattle.rules.specs.declared.register.Channel.{Channel}
use Rattle.rules.specs.declared.register.Channel.TheVariants.{Local, Remote}
use Rattle.rules.specs.declared.register.Register.{Register}
use Rattle.rules.specs.declared.register.Register.TheVariants.{LocalHigh, LocalLow, LocalTherm, RemoteHigh, RemoteHighFine, RemoteLow, RemoteLowFine, RemoteOffset, RemoteOffsetFine, RemoteTherm}

abbrev pub channels : List Channel
channels = Local ∷ Remote ∷ []

-- a number that registers hold: none, a byte, or a byte and a low byte
pub data Held : Type 0 where
  None : Held
  One : Register → Held
  Two : Register → Register → Held

abbrev pub byte_of : (Register → ℕ) → Held → ℕ
byte_of f None = 0
byte_of f (One r) = f r
byte_of f (Two r low) = f r

abbrev pub fine_of : (Register → ℕ) → Held → ℕ
fine_of f None = 0
fine_of f (One r) = 0
fine_of f (Two r low) = f low

pub record Traits : Type 0 where
  pub scale : ℕ  -- codes to a degree; the width of the value follows
  pub high : Held
  pub low : Held
  pub therm : Held
  pub offset : Held
  pub diode : Bool
  pub high_bit : ℕ  -- places in the status byte
  pub low_bit : ℕ
  pub open_bit : ℕ  -- of a channel with no diode 8, which is no bit of a byte
  pub therm_bit : ℕ

-- "local, whole °C", "remote, quarter °C"; the limits' and the offset's registers; "6 local high, 5 local low, 4 remote high,
-- 3 remote low, 2 open, 1 remote THERM, 0 local THERM"
abbrev pub traits : Channel → Traits
traits Local =
    record {
      scale = 1;
      high = One LocalHigh;
      low = One LocalLow;
      therm = One LocalTherm;
      offset = None;
      diode = false;
      high_bit = 6;
      low_bit = 5;
      open_bit = 8;
      therm_bit = 0;
    }
traits Remote =
    record {
      scale = 4;
      high = Two RemoteHigh RemoteHighFine;
      low = Two RemoteLow RemoteLowFine;
      therm = One RemoteTherm;
      offset = Two RemoteOffset RemoteOffsetFine;
      diode = true;
      high_bit = 4;
      low_bit = 3;
      open_bit = 2;
      therm_bit = 1;
    }

abbrev pub scale_of : Channel → ℕ
scale_of ch = (traits ch).scale

-- a channel's sample, and whether its diode was open
abbrev pub sample_at : Samples → Channel → ℤ
sample_at t Local = t.local
sample_at t Remote = t.remote

abbrev pub broken_at : Samples → Channel → Bool
broken_at t Local = false
broken_at t Remote = t.broken

-- compared in this conversion: 02, item 3, "a conversion with the diode open .. stores and compares only the local channel", so each
-- channel whose own diode is not open. What is stored, compared and counted, and the history, are by this
abbrev pub compared_in : Samples → Channel → Bool
compared_in t ch = not (broken_at t ch)

-- ---- Of all channels ----

abbrev pub any : List Bool → Bool
any [] = false
any (b ∷ bs) = b || any bs

abbrev pub all : List Bool → Bool
all [] = true
all (b ∷ bs) = b && all bs

abbrev pub sum : List ℕ → ℕ
sum [] = 0
sum (n ∷ ns) = n + sum ns

-- a list from each channel, one behind the other
abbrev pub from_each : {A : Type 0} → (Channel → List A) → List Channel → List A
from_each f [] = []
from_each f (ch ∷ chs) = f ch ++ from_each f chs

abbrev pub any_channel : (Channel → Bool) → Bool
any_channel f = any (map f channels)
