-- What the demand shares with the step means what it says. Assumes nothing.
use Prim.Native.Nat.{ℕ, suc, ◌+◌, ◌*◌, ◌-◌, ◌/◌, ◌≤◌, ◌<◌}
use native.Mathlib.Nat.{add-zero, one-mul}
use native.Mathlib.Omega.{arith}
use mathlib.Core.Path.{◌≡◌, refl, ap, ◌∙◌}
use mathlib.Core.Bool.{Bool, true, false, cond, not, ◌&&◌, ◌||◌, and_assoc, and-true, or-false}
use mathlib.Core.List.{[], ◌∷◌}
use lib.Dec.{ltb}
use lib.IntN.{ℤ, sub_ℕ, ◌+ℤ◌, ◌-ℤ◌, ◌*ℤ◌, +ℤ_idr}
use lib.IntN.ℤ.{pos, negsuc}
use borrow.Author.Tests.{eq-eqb, eqb-true, le-leb, le-ltb, lt-leb, lt-ltb, ltb-false, ne_eqb}
use Rattle.rules.specs.declared.register.Channel.{Channel}
use Rattle.rules.specs.declared.register.Channel.TheVariants.{Local, Remote}
use Rattle.rules.specs.declared.register.Register.TheVariants.{RemoteOffset, RemoteOffsetFine}
use Rattle.rules.specs.Bits.{bit, weight}
use Rattle.rules.specs.Comparisons.{comparator_of}
use Rattle.rules.specs.Configuration.{chooses_therm2, masked}
use Rattle.rules.specs.Conversion.{code_for}
use Rattle.rules.specs.Lines.{pin_line}
use Rattle.rules.specs.Meant.{AnyMeans, BitsMean, Clamped, CodesMean, ComparatorMeans, ComparedMeans, ComparisonsOrder, FlagsMean, KeepsMean, LimitsMean, LinesMean, ListsMean, MadeMeans, NeedsMean, New, NewMeans, OffsetsMean, SamplesMean, SixMeans, ThermBitsMean, TrimMeans, TrippedMeans, bytes}
use Rattle.rules.specs.PowerOn.{made_at, new_channel}
use Rattle.rules.specs.Rows.{trim_of}
use Rattle.rules.specs.Runs.{needed_of, ones}
use Rattle.rules.specs.State.{channel_at}
use Rattle.rules.specs.Values.{clamp_of, code_of, offset_of}

pub comparisons_order : ComparisonsOrder
comparisons_order limit value =
    record {
      above = λ h. lt-ltb limit value h;
      not_above = λ h. le-ltb limit value h;
      below = λ h. le-leb value limit h;
      not_below = λ h. lt-leb value limit h;
    }

pub comparator_means : ComparatorMeans
comparator_means scale limit hysteresis value was =
    let all = by (scale * hysteresis) in
    record { set = all.0; cleared = all.1; at_zero = all.2; kept = all.3 }
  where
    by : (codes : ℕ) → (limit < value → comparator_of limit codes value was ≡ true) × (value + codes ≤ limit → comparator_of limit codes value was ≡ false) × (value ≡ 0 → comparator_of limit codes value was ≡ false) × (0 < value → limit < value + codes → value ≤ limit → comparator_of limit codes value was ≡ was)
    by codes = (λ h. rw (lt-ltb limit value h), λ h. rw (le-ltb limit value (omega arith), le-leb value (limit - codes) (omega arith)), λ h. rw (le-ltb limit value (omega arith), le-leb value (limit - codes) (omega arith)), λ z h m. rw (le-ltb limit value m, lt-leb value (limit - codes) (omega arith)))

pub tripped_means : TrippedMeans
tripped_means l value was = (refl, refl)

pub limits_mean : LimitsMean
limits_mean f = (simp (one-mul, add-zero), simp add-zero)

clamped : (top : ℕ) (exact : ℤ) → Clamped top exact (clamp_of top exact)
clamped top exact =
    record {
      inside = λ n e h. ap (clamp_of top) e ∙ within n h;
      over = λ n e h. ap (clamp_of top) e ∙ rw (le-ltb n top (omega arith));
      under = λ n e. ap (clamp_of top) e;
    }
  where
    within : (n : ℕ) → n ≤ top → cond (ltb n top) n top ≡ n
    within n h = by (ltb n top) refl
      where
        by : (t : Bool) → ltb n top ≡ t → cond t n top ≡ n
        by true e = refl
        by false e = let g : top ≤ n = ltb-false n top e in omega arith

pub codes_mean : CodesMean
unfolding code_for code_of offset_of
codes_mean f sample =
    let offset = offset_of (f RemoteOffset) (f RemoteOffsetFine) in
    record {
      remote = λ e. rw (e, +ℤ_idr (sample +ℤ offset)) (clamped 511 (sample +ℤ offset));
      remote_extended = λ e. rw e (clamped 1023 (sample +ℤ offset +ℤ pos 256));
      local = λ e. rw (e, +ℤ_idr sample, +ℤ_idr sample) (clamped 127 sample);
      local_extended = λ e. rw (e, +ℤ_idr sample) (clamped 255 (sample +ℤ pos 64));
    }

-- a difference that is negative
less : (a b : ℕ) → a < b → sub_ℕ a b ≡ negsuc (b - suc a)
less a b h = rw (lt-ltb a b h)

fourfold : (m : ℕ) → negsuc m *ℤ pos 4 ≡ negsuc (m * 4 + 3)
fourfold m = let e : suc m * 4 ≡ suc (m * 4 + 3) = omega arith in rw e

negative : (high f : ℕ) → high < 256 → f < 4 → (pos high -ℤ pos 256) *ℤ pos 4 +ℤ pos f ≡ pos (high * 4 + f) -ℤ pos 1024
negative high f h g =
    let k : high * 4 + f < 1024 = omega arith in
    let l : f < suc ((256 - suc high) * 4 + 3) = omega arith in
    let e : suc ((256 - suc high) * 4 + 3) - suc f ≡ 1024 - suc (high * 4 + f) = omega arith in
    rw (less (high * 4 + f) 1024 k, less high 256 h, fourfold (256 - suc high), less f (suc ((256 - suc high) * 4 + 3)) l, e)

pub offsets_mean : OffsetsMean
unfolding offset_of
offsets_mean high fine =
    record {
      plain = λ h. rw (lt-ltb high 128 h);
      negative = λ h g k. rw (le-ltb high 128 h) (negative high (fine / 64) g (omega arith));
    }

-- ---- Bits, kept bits, flags, samples, and what making a chip gives ----

pub bits_mean : BitsMean
unfolding bytes
bits_mean = refl

pub keeps_mean : KeepsMean
unfolding bytes
keeps_mean = (refl, refl, refl)

pub six_means : SixMeans
six_means r b = (eqb-true (trim_of r b) b, eq-eqb (trim_of r b) b)

pub flags_mean : FlagsMean
flags_mean = (refl, refl)

pub any_means : AnyMeans
any_means = (λ f. ap (λ (b : Bool). f Local || b) (or-false (f Remote)), λ p. refl)

pub lists_mean : ListsMean
lists_mean =
    record {
      any_none = refl;
      any_more = λ b bs. refl;
      all_none = refl;
      all_more = λ b bs. refl;
      sum_none = refl;
      sum_more = λ n ns. refl;
    }

pub trim_means : TrimMeans
trim_means r b = refl

pub therm_bits_mean : ThermBitsMean
therm_bits_mean = (refl, refl)

pub samples_mean : SamplesMean
samples_mean t = (refl, refl, refl, refl)

pub compared_means : ComparedMeans
compared_means t = (refl, λ e. rw e, λ e. rw e)

pub made_means : MadeMeans
made_means =
    record { first = (refl, refl); second = (refl, refl); others = λ n p q. rw (ne_eqb n 76 p, ne_eqb n 77 q); negative = λ n. refl }

pub new_means : NewMeans
new_means = (new 76, new 77)
  where
    new : (a : ℕ) → New (made_at a).state
    new a = record { rest = refl; channels = by }
      where
        by : (ch : Channel) → channel_at (made_at a).state ch ≡ new_channel
        by Local = refl
        by Remote = refl

pub needs_mean : NeedsMean
unfolding needed_of
needs_mean b = by (bit 1 b) (bit 2 b) (bit 3 b)
  where
    by : (x y z : Bool) → 1 + ones (x ∷ y ∷ z ∷ []) ≡ 1 + (weight x 1 + (weight (x && y) 1 + weight (x && (y && z)) 1))
    by true true true = refl
    by true true false = refl
    by true false z = refl
    by false y z = refl

pub lines_mean : LinesMean
lines_mean s =
    (and_assoc s.latch (not (masked s.config)) (not (chooses_therm2 s.config)), marks, alert, ap (λ (b : Bool). not ((channel_at s Local).therm || b)) (or-false (channel_at s Remote).therm))
  where
    marks : bit 5 s.config ≡ true → pin_line s ≡ not ((channel_at s Local).therm2 || (channel_at s Remote).therm2)
    marks role = rw role (ap (λ (b : Bool). not ((channel_at s Local).therm2 || b)) (or-false (channel_at s Remote).therm2))

    alert : bit 5 s.config ≡ false → pin_line s ≡ not (s.latch && not (bit 7 s.config))
    alert role = rw role (ap not (and-true (s.latch && not (masked s.config))))
