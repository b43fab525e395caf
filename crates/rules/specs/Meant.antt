-- What the demand shares with the step, in other words: the comparisons are by the order of numbers, and a code is the exact sum, clamped.
-- An error made in one of these definitions, which step and history both use, is refused here. The proofs are in proofs/Meant.antt. Assumes
-- nothing.
use Rattle.std.specs.Prelude.{ℕ, zero, suc, ◌+◌, ◌*◌, ◌/◌, ◌^◌, ◌≤◌, ◌<◌, ◌≡◌, Bool, true, false, not, ◌&&◌, ◌||◌, List, [], ◌∷◌, map, ℤ, ◌+ℤ◌, ◌-ℤ◌}
use Rattle.std.proofs.Math.IntN.ℤ.{pos, negsuc}
use Rattle.rules.specs.declared.answer.Code.TheVariants.{Done, BadField}
use Rattle.rules.specs.declared.register.Channel.{Channel}
use Rattle.rules.specs.declared.register.Channel.TheVariants.{Local, Remote}
use Rattle.rules.specs.declared.register.Register.{Register}
use Rattle.rules.specs.declared.register.Register.TheVariants.{Config, Hysteresis, LocalHigh, LocalLow, LocalTherm, RemoteHigh, RemoteHighFine, RemoteLow, RemoteLowFine, RemoteOffset, RemoteOffsetFine, RemoteTherm}
use Rattle.rules.specs.declared.event.Samples.{Samples}
use Rattle.rules.specs.declared.state.Limits.{Limits}
use Rattle.rules.specs.declared.state.State.{State}
use Rattle.rules.specs.Bits.{bit, weight}
use Rattle.rules.specs.Channels.{all, any, any_channel, broken_at, compared_in, sample_at, sum, traits}
use Rattle.rules.specs.Comparisons.{above_of, below_of, comparator_of, limits_of, tripped_of}
use Rattle.rules.specs.Comparisons.Comparator.{Therm, Therm2}
use Rattle.rules.specs.Conversion.{code_for}
use Rattle.rules.specs.Lines.{alert_low, pin_line, therm_line}
use Rattle.rules.specs.PowerOn.{made_of}
use Rattle.rules.specs.Rows.{kept_bits, kept_in, row_of, trim_of}
use Rattle.rules.specs.Rows.Keeps.{All, Bits7652, Bits76}
use Rattle.rules.specs.Runs.{needed_of}
use Rattle.rules.specs.State.{channel_at, rest_of}
use Rattle.rules.specs.Status.{Flag, flag_for, flags, place_of}
use Rattle.rules.specs.Status.Fault.{Above, Below, Open}
use Rattle.rules.specs.Values.{offset_of}

-- "High: value above limit. Low: value at or below limit."
pub record Ordered (limit value : ℕ) : Type 0 where
  pub above : limit < value → above_of limit value ≡ true
  pub not_above : value ≤ limit → above_of limit value ≡ false
  pub below : value ≤ limit → below_of limit value ≡ true
  pub not_below : limit < value → below_of limit value ≡ false

abbrev pub ComparisonsOrder : Type 0
ComparisonsOrder = (limit value : ℕ) → Ordered limit value

-- THERM, and 02's THERM2: "set when the value is above the limit, cleared when at or below (limit - hysteresis, not under 0), otherwise kept".
-- One law of both, over limit and scale: limit and value in codes, the hysteresis in degrees of scale codes each
pub record Comparing (scale limit hysteresis value : ℕ) (was : Bool) : Type 0 where
  pub set : limit < value → comparator_of limit (scale * hysteresis) value was ≡ true
  pub cleared : value + scale * hysteresis ≤ limit → comparator_of limit (scale * hysteresis) value was ≡ false
  pub at_zero : value ≡ 0 → comparator_of limit (scale * hysteresis) value was ≡ false
  pub kept : 0 < value → limit < value + scale * hysteresis → value ≤ limit → comparator_of limit (scale * hysteresis) value was ≡ was

abbrev pub ComparatorMeans : Type 0
ComparatorMeans = (scale limit hysteresis value : ℕ) (was : Bool) → Comparing scale limit hysteresis value was

-- 02, item 4: THERM2 is "set above the high limit", THERM above its own; both are by the one hysteresis
abbrev pub TrippedMeans : Type 0
TrippedMeans =
    (l : Limits) (value : ℕ) (was : Bool) → (tripped_of Therm l value was ≡ comparator_of l.therm l.hysteresis value was)
    × (tripped_of Therm2 l value was ≡ comparator_of l.high l.hysteresis value was)

-- "Remote limits are 4 times the high byte plus low byte over 64"; "For the remote channel both sides count 4 codes per degree."
abbrev pub LimitsMean : Type 0
LimitsMean =
    (f : Register → ℕ)
    → (limits_of f Local ≡ record { high = f LocalHigh; low = f LocalLow; therm = f LocalTherm; hysteresis = f Hysteresis })
    × (limits_of f Remote ≡ record { high = 4 * f RemoteHigh + f RemoteHighFine / 64; low = 4 * f RemoteLow + f RemoteLowFine / 64; therm = 4 * f RemoteTherm; hysteresis = 4 * f Hysteresis })

-- a code is the exact sum where its range has it, otherwise the nearer end
pub record Clamped (top : ℕ) (exact : ℤ) (code : ℕ) : Type 0 where
  pub inside : (n : ℕ) → exact ≡ pos n → n ≤ top → code ≡ n
  pub over : (n : ℕ) → exact ≡ pos n → top < n → code ≡ top
  pub under : (n : ℕ) → exact ≡ negsuc n → code ≡ 0

-- "measured quarters plus offset, exactly; then default range clamps to 0..511; extended adds 256 and clamps to 0..1023"; "Local: clamp to
-- 0..127, or add 64 and clamp to 0..255"
pub record Coded (f : Register → ℕ) (sample : ℤ) : Type 0 where
  pub remote : bit 2 (f Config) ≡ false → Clamped 511 (sample +ℤ offset_of (f RemoteOffset) (f RemoteOffsetFine)) (code_for f Remote sample)
  pub remote_extended : bit 2 (f Config) ≡ true → Clamped 1023 (sample +ℤ offset_of (f RemoteOffset) (f RemoteOffsetFine) +ℤ pos 256) (code_for f Remote sample)
  pub local : bit 2 (f Config) ≡ false → Clamped 127 sample (code_for f Local sample)
  pub local_extended : bit 2 (f Config) ≡ true → Clamped 255 (sample +ℤ pos 64) (code_for f Local sample)

abbrev pub CodesMean : Type 0
CodesMean = (f : Register → ℕ) (sample : ℤ) → Coded f sample

-- "Offset in quarters: high byte as signed, times 4, plus low byte over 64"
pub record Quarters (high fine : ℕ) : Type 0 where
  pub plain : high < 128 → offset_of high fine ≡ pos (high * 4 + fine / 64)
  pub negative : 128 ≤ high → high < 256 → fine < 256 → offset_of high fine ≡ pos (high * 4 + fine / 64) -ℤ pos 1024

abbrev pub OffsetsMean : Type 0
OffsetsMean = (high fine : ℕ) → Quarters high fine

-- ---- Bits, kept bits, flags, samples, and what making a chip gives ----

abbrev pub count_from : ℕ → ℕ → List ℕ
count_from n zero = []
count_from n (suc k) = n ∷ count_from (n + 1) k

-- every byte
unfoldable pub bytes : List ℕ
bytes = count_from 0 256

-- the byte's bits at these places, and no other
abbrev pub bits_at : List ℕ → ℕ → ℕ
bits_at places b = sum (map (λ k. weight (bit k b) (2 ^ k)) places)

abbrev pub BitsMean : Type 0
BitsMean = map (bits_at (7 ∷ 6 ∷ 5 ∷ 4 ∷ 3 ∷ 2 ∷ 1 ∷ 0 ∷ [])) bytes ≡ bytes

-- "configuration keeps only bits 7, 6, 5, 2; registers 12, 13, 14 keep only bits 7 and 6; others keep all bits"
abbrev pub KeepsMean : Type 0
KeepsMean =
    (map (kept_bits All) bytes ≡ bytes) × (map (kept_bits Bits7652) bytes ≡ map (bits_at (7 ∷ 6 ∷ 5 ∷ 2 ∷ [])) bytes)
    × (map (kept_bits Bits76) bytes ≡ map (bits_at (7 ∷ 6 ∷ [])) bytes)

-- what a register stores of a byte is what it keeps of it
abbrev pub TrimMeans : Type 0
TrimMeans = (r : Register) (b : ℕ) → trim_of r b ≡ kept_bits (row_of r).keeps b

-- 6, "a bit set that the registers below never store"
abbrev pub SixMeans : Type 0
SixMeans = (r : Register) (b : ℕ) → (kept_in r b ≡ true → trim_of r b ≡ b) × (trim_of r b ≡ b → kept_in r b ≡ true)

-- "6 local high, 5 local low, 4 remote high, 3 remote low, 2 open"
abbrev pub FlagsMean : Type 0
FlagsMean =
    (flags ≡ (flag_for Local Above ∷ flag_for Local Below ∷ flag_for Remote Above ∷ flag_for Remote Below ∷ flag_for Remote Open ∷ []))
    × (map place_of flags ≡ (6 ∷ 5 ∷ 4 ∷ 3 ∷ 2 ∷ []))

-- "any" asks each channel, and each flag
abbrev pub AnyMeans : Type 0
AnyMeans =
    ((f : Channel → Bool) → any_channel f ≡ (f Local || f Remote))
    × ((p : Flag → Bool) → any (map p flags) ≡ (p (flag_for Local Above) || (p (flag_for Local Below) || (p (flag_for Remote Above) || (p (flag_for Remote Below) || (p (flag_for Remote Open) || false))))))

-- one of a list, all of it, and its sum
pub record Listed : Type 0 where
  pub any_none : any [] ≡ false
  pub any_more : (b : Bool) (bs : List Bool) → any (b ∷ bs) ≡ (b || any bs)
  pub all_none : all [] ≡ true
  pub all_more : (b : Bool) (bs : List Bool) → all (b ∷ bs) ≡ (b && all bs)
  pub sum_none : sum [] ≡ 0
  pub sum_more : (n : ℕ) (ns : List ℕ) → sum (n ∷ ns) ≡ n + sum ns

abbrev pub ListsMean : Type 0
ListsMean = Listed

-- "1 remote THERM, 0 local THERM"
abbrev pub ThermBitsMean : Type 0
ThermBitsMean = ((traits Remote).therm_bit ≡ 1) × ((traits Local).therm_bit ≡ 0)

-- "a: local, b: remote, c: diode open"; the local channel has no diode
abbrev pub SamplesMean : Type 0
SamplesMean =
    (t : Samples) → (sample_at t Local ≡ t.local) × (sample_at t Remote ≡ t.remote) × (broken_at t Local ≡ false) × (broken_at t Remote ≡ t.broken)

-- document 02, item 3: "a conversion with the diode open .. compares only the local channel"; any other compares both
abbrev pub ComparedMeans : Type 0
ComparedMeans =
    (t : Samples) → (compared_in t Local ≡ true) × (t.broken ≡ true → compared_in t Remote ≡ false) × (t.broken ≡ false → compared_in t Remote ≡ true)

-- "A fresh state is made for address 76 or 77; any other address is code 2"
pub record Makes : Type 0 where
  pub first : ((made_of (pos 76)).code ≡ Done) × ((made_of (pos 76)).state.address ≡ 76)
  pub second : ((made_of (pos 77)).code ≡ Done) × ((made_of (pos 77)).state.address ≡ 77)
  pub others : (n : ℕ) → (n ≡ 76 → ⊥) → (n ≡ 77 → ⊥) → (made_of (pos n)).code ≡ BadField
  pub negative : (n : ℕ) → (made_of (negsuc n)).code ≡ BadField

abbrev pub MadeMeans : Type 0
MadeMeans = Makes

-- "all else 00, pointer 00, no channel yet converted, no comparison made, run count 0", at either address; 02, item 4: the marks "are clear at
-- power-on"
pub record New (s : State) : Type 0 where
  pub rest : rest_of s ≡ record { pointer = 0; busy = false; runs = 0; latch = false }
  pub channels : (ch : Channel) → channel_at s ch ≡ record { value = 0; converted = false; high = record { found = false; flag = false }; low = record { found = false; flag = false }; diode = record { found = false; flag = false }; therm = false; therm2 = false }

abbrev pub NewMeans : Type 0
NewMeans = New (made_of (pos 76)).state × New (made_of (pos 77)).state

-- "1 plus the ones that stand together from bit 1 upwards within bits 3 to 1", whatever the other bits
abbrev pub NeedsMean : Type 0
NeedsMean =
    (b : ℕ) → needed_of b ≡ 1 + (weight (bit 1 b) 1 + (weight (bit 1 b && bit 2 b) 1 + weight (bit 1 b && (bit 2 b && bit 3 b)) 1))

-- "ALERT is low exactly if the latch is set and configuration bits 7 and 5 are 0. THERM is low exactly if flag 1 or 0 is set." Pin 6, by its
-- role: bit 5 set, "low while either mark is set, whatever bit 7 says"; bit 5 clear, as ALERT
abbrev pub LinesMean : Type 0
LinesMean =
    (s : State) → (alert_low s ≡ (s.latch && (not (bit 7 s.config) && not (bit 5 s.config))))
    × (bit 5 s.config ≡ true → pin_line s ≡ not ((channel_at s Local).therm2 || (channel_at s Remote).therm2))
    × (bit 5 s.config ≡ false → pin_line s ≡ not (s.latch && not (bit 7 s.config)))
    × (therm_line s ≡ not ((channel_at s Local).therm || (channel_at s Remote).therm))
