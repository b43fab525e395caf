-- A fresh state is well formed and every step keeps it so, through what each event does to the parts that are judged. Assumes nothing.
use Prim.Native.Nat.{ℕ, ◌+◌, ◌≤◌, ◌<◌}
use native.Mathlib.Omega.{arith}
use native.Mathlib.Nat.{le_trans}
use mathlib.Core.Path.{◌≡◌, refl, sym, subst, ap}
use mathlib.Core.Bool.{Bool, true, false, cond, ◌&&◌, ◌||◌, not, or-true}
use mathlib.Core.List.{map}
use lib.Dec.{leb, ltb, eqb}
use lib.IntN.{ℤ, ◌+ℤ◌}
use lib.IntN.ℤ.{pos, negsuc}
use borrow.Author.Tests.{ltb-true, le-leb, eq-eqb}
use Rattle.rules.specs.declared.answer.Answer.{Answer}
use Rattle.rules.specs.declared.answer.Code.TheVariants.{Done}
use Rattle.rules.specs.declared.event.Event.{Event}
use Rattle.rules.specs.declared.event.Event.TheVariants.{Reset, Send, Write, Read, Receive, Respond, Start, End}
use Rattle.rules.specs.declared.event.Samples.{Samples}
use Rattle.rules.specs.declared.register.Channel.{Channel}
use Rattle.rules.specs.declared.register.Channel.TheVariants.{Local, Remote}
use Rattle.rules.specs.declared.register.Register.{Register}
use Rattle.rules.specs.declared.register.Register.TheVariants.{Config}
use Rattle.rules.specs.declared.register.Source.{Source}
use Rattle.rules.specs.declared.register.Source.TheVariants.{Stored as From, Value, ValueFine, Status, Maker, Revision, Hole}
use Rattle.rules.specs.declared.register.Target.{Target}
use Rattle.rules.specs.declared.register.Target.TheVariants.{Stored as Into, OneShot, Nowhere}
use Rattle.rules.specs.declared.state.ChannelState.{ChannelState}
use Rattle.rules.specs.declared.state.Given.{Given}
use Rattle.rules.specs.declared.state.Limits.{Limits}
use Rattle.rules.specs.declared.state.Mark.{Mark}
use Rattle.rules.specs.declared.state.State.{State}
use Rattle.rules.specs.Channels.{all, broken_at, byte_of, channels, compared_in, fine_of, sample_at, scale_of, traits}
use Rattle.rules.specs.Codes.{number_of}
use Rattle.rules.specs.Commands.{source_of, target_of}
use Rattle.rules.specs.Comparisons.{compared_of, limits_of, recompared_of}
use Rattle.rules.specs.Configuration.{extended, standby}
use Rattle.rules.specs.Conversion.{all_converted, code_for, converted, converted_of, counted, found_in, latched_by_conversion, measured_of, taken_of}
use Rattle.rules.specs.PowerOn.{is_address, made_at, new_channel, new_rest, no_state, power_on}
use Rattle.rules.specs.Read.{after_read, read_at_pointer}
use Rattle.rules.specs.Rows.{Keeps, kept_bits, kept_in, registers, row_of, same, trim_of}
use Rattle.rules.specs.Rows.Keeps.{All, Bits7652, Bits76}
use Rattle.rules.specs.Runs.{runs_of}
use Rattle.rules.specs.Sound.{FreshWellFormed, StepsWellFormed}
use Rattle.rules.specs.State.{with_latch, with_runs, Rest, channel_at, given_of, put, rest_of, state_from, stored_of, with_busy, with_channels, with_pointer, with_rest, with_stored}
use Rattle.rules.specs.Status.{any_flag, after_status, shown_channel, shown_of}
use Rattle.rules.specs.Values.{clamp_of, code_of, offset_of, shift_of, top_of}
use Rattle.rules.specs.WellFormed.{diode_well, register_well, value_well, well_formed}
use Rattle.rules.specs.Write.{all_recompared, any_fault, standby_compared, stopped_if, stored, written, written_to}
use Rattle.rules.proofs.Answers.{answer_has, done_of}
use Rattle.rules.proofs.Choice.{whichever}
use Rattle.rules.proofs.Lists.{all_true, each_true, left, no, right}
use Rattle.rules.proofs.Rows.{channels_back, every, every_channel, same_one, stored_back}

-- a channel that code 6 does not refuse
pub record Fit (ch : Channel) (c : ChannelState) : Type 0 where
  pub value : leb c.value (top_of (scale_of ch) true) ≡ true
  pub diode : (traits ch).diode || not (c.diode.found || c.diode.flag) ≡ true

-- over what is judged and nothing else, so that a change of anything else leaves it as it is
pub record Parts (a n : ℕ) (f : Register → ℕ) (c : Channel → ChannelState) : Type 0 where
  pub address : is_address a ≡ true
  pub runs : leb n 4 ≡ true
  pub registers_kept : (r : Register) → kept_in r (f r) ≡ true
  pub channels_fit : (ch : Channel) → Fit ch (c ch)

abbrev pub Well : State → Type 0
Well s = Parts s.address s.runs (stored_of s) (channel_at s)

pub well : (s : State) → well_formed s ≡ true → Well s
unfolding well_formed
well s h4 =
    let a = is_address s.address in
    let n = leb s.runs 4 in
    let r = all (map (register_well s) registers) in
    let v = all (map (value_well s) channels) in
    let d = all (map (diode_well s) channels) in
    let h3 = left (a && n && r && v) d h4 in
    let h2 = left (a && n && r) v h3 in
    let h1 = left (a && n) r h2 in
    let values = every_channel (λ ch. value_well s ch ≡ true) (each_true (value_well s) channels (right (a && n && r) v h3)) in
    let diodes = every_channel (λ ch. diode_well s ch ≡ true) (each_true (diode_well s) channels (right (a && n && r && v) d h4)) in
    record {
      address = left a n h1;
      runs = right a n h1;
      registers_kept = every (λ r. register_well s r ≡ true) (each_true (register_well s) registers (right (a && n) r h2));
      channels_fit = λ ch. record { value = values ch; diode = diodes ch };
    }

pub unwell : (s : State) → Well s → well_formed s ≡ true
unfolding well_formed
unwell s w =
    rw (w.address, w.runs, all_true (register_well s) registers w.registers_kept, all_true (value_well s) channels (λ ch. (w.channels_fit ch).value))
    (all_true (diode_well s) channels (λ ch. (w.channels_fit ch).diode))

-- the three ways in which a state is put together anew
anew : (g : Given) (p : Rest) (f : Register → ℕ) (c : Channel → ChannelState) → Parts g.address p.runs f c → Well (state_from g p f c)
anew g p f c w =
    record {
      address = w.address;
      runs = w.runs;
      registers_kept = subst (λ (h : Register → ℕ). (r : Register) → kept_in r (h r) ≡ true) (sym (stored_back g p f c)) w.registers_kept;
      channels_fit = subst (λ (h : Channel → ChannelState). (ch : Channel) → Fit ch (h ch)) (sym (channels_back g p f c)) w.channels_fit;
    }

rest_well : (s : State) (p : Rest) → leb p.runs 4 ≡ true → Well s → Well (with_rest s p)
rest_well s p n w =
    anew (given_of s) p (stored_of s) (channel_at s) (record { address = w.address; runs = n; registers_kept = w.registers_kept; channels_fit = w.channels_fit })

-- one part of the rest changed
pointer_well : (s : State) (n : ℕ) → Well s → Well (with_pointer s n)
pointer_well s n w =
    rest_well s (record { pointer = n; busy = s.busy; runs = s.runs; latch = s.latch }) w.runs w

busy_well : (s : State) (b : Bool) → Well s → Well (with_busy s b)
busy_well s b w =
    rest_well s (record { pointer = s.pointer; busy = b; runs = s.runs; latch = s.latch }) w.runs w

runs_well : (s : State) (n : ℕ) → leb n 4 ≡ true → Well s → Well (with_runs s n)
runs_well s n h w =
    rest_well s (record { pointer = s.pointer; busy = s.busy; runs = n; latch = s.latch }) h w

latch_well : (s : State) (b : Bool) → Well s → Well (with_latch s b)
latch_well s b w =
    rest_well s (record { pointer = s.pointer; busy = s.busy; runs = s.runs; latch = b }) w.runs w

channels_well : (s : State) (c : Channel → ChannelState) → ((ch : Channel) → Fit ch (c ch)) → Well s → Well (with_channels s c)
channels_well s c h w =
    anew (given_of s) (rest_of s) (stored_of s) c (record { address = w.address; runs = w.runs; registers_kept = w.registers_kept; channels_fit = h })

-- what was trimmed is kept
trimmed : (k : Keeps) (b : ℕ) → eqb (kept_bits k (kept_bits k b)) (kept_bits k b) ≡ true
trimmed All b = eq-eqb b b refl
trimmed Bits7652 b = eq-eqb (kept_bits Bits7652 (kept_bits Bits7652 b)) (kept_bits Bits7652 b) (omega arith)
trimmed Bits76 b = eq-eqb (kept_bits Bits76 (kept_bits Bits76 b)) (kept_bits Bits76 b) (omega arith)

stored_well : (s : State) (r : Register) (b : ℕ) → Well s → Well (with_stored s r (trim_of r b))
stored_well s r b w =
    anew (given_of s) (rest_of s) (put r (trim_of r b) (stored_of s)) (channel_at s)
    (record { address = w.address; runs = w.runs; registers_kept = kept; channels_fit = w.channels_fit })
  where
    kept : (q : Register) → kept_in q (put r (trim_of r b) (stored_of s) q) ≡ true
    kept q = by (same r q) refl
      where
        by : (t : Bool) → same r q ≡ t → kept_in q (cond t (trim_of r b) (stored_of s q)) ≡ true
        by true e = subst (λ (x : Register). kept_in x (trim_of r b) ≡ true) (same_one r q e) (trimmed (row_of r).keeps b)
        by false e = w.registers_kept q

-- ---- Comparisons and reads ----

recompared_fit : (ch : Channel) (l : Limits) (c : ChannelState) → Fit ch c → Fit ch (recompared_of l c)
unfolding compared_of
recompared_fit ch l c f =
    whichever (Fit ch) c.converted (compared_of l c) c (record { value = f.value; diode = f.diode }) f

standby_well : (s : State) → Well s → Well (standby_compared s)
unfolding standby_compared
standby_well s w =
    latch_well (all_recompared s) (s.latch || any_fault (all_recompared s))
    (channels_well s _ (λ ch. recompared_fit ch (limits_of (stored_of s) ch) (channel_at s ch) (w.channels_fit ch)) w)

-- a diode's mark after a read and after a check; a channel with no diode passes the check
shown_diode : (d : Bool) (m : Mark) → d || not (m.found || m.flag) ≡ true → d || not ((shown_of m).found || (shown_of m).flag) ≡ true
shown_diode true m h = refl
shown_diode false m h = by m.found m.flag h
  where
    by : (f g : Bool) → not (f || g) ≡ true → not (f || (g && f)) ≡ true
    by true g h = h
    by false true h = no h
    by false false h = h

checked_diode : (d broken : Bool) (m : Mark) → broken && not d ≡ false → d || not (m.found || m.flag) ≡ true → d || not (broken || (m.flag || broken)) ≡ true
checked_diode true broken m e h = refl
checked_diode false true m e h = no (sym e)
checked_diode false false m e h = by m.found m.flag h
  where
    by : (f g : Bool) → not (f || g) ≡ true → not (g || false) ≡ true
    by true g h = no h
    by false true h = no h
    by false false h = refl

pub diode_checked : (t : Samples) (ch : Channel) → broken_at t ch && not (traits ch).diode ≡ false
diode_checked t Local = refl
diode_checked t Remote = by t.broken
  where
    by : (b : Bool) → b && false ≡ false
    by true = refl
    by false = refl

shown_fit : (ch : Channel) (c : ChannelState) → Fit ch c → Fit ch (shown_channel c)
shown_fit ch c f = record { value = f.value; diode = shown_diode (traits ch).diode c.diode f.diode }

read_well : (s : State) (q : Source) → Well s → Well (after_read s q)
unfolding after_status
read_well s (From r) w = w
read_well s (Value ch) w = w
read_well s (ValueFine ch) w = w
read_well s Status w = channels_well s _ (λ ch. shown_fit ch (channel_at s ch) (w.channels_fit ch)) w
read_well s Maker w = w
read_well s Revision w = w
read_well s Hole w = w

-- ---- A write ----

target_well : (s : State) (t : Target) (b : ℕ) → Well s → Well (written_to s t b)
unfolding stored
target_well s (Into r) b w =
    let u = with_stored s r (trim_of r b) in
    let v = stopped_if s.config u in
    let wu = stored_well s r b w in
    let wv : Well v = whichever Well (not (standby s.config) && standby u.config) (with_busy u false) u (busy_well u false wu) wu in
    whichever Well ((row_of r).compares && standby v.config) (standby_compared v) v (standby_well v wv) wv
target_well s OneShot b w =
    whichever Well (standby s.config && not s.busy) (with_busy s true) s (busy_well s true w) w
target_well s Nowhere b w = w

-- ---- A conversion ----

-- a code is of its range, and so of the extended one
clamped : (top : ℕ) (z : ℤ) → clamp_of top z ≤ top
clamped top (pos n) = by (ltb n top) refl
  where
    by : (t : Bool) → ltb n top ≡ t → cond t n top ≤ top
    by true e = let h : n < top = ltb-true n top e in omega arith
    by false e = omega arith
clamped top (negsuc n) = omega arith

in_range : (n : ℕ) (wide : Bool) → top_of n wide ≤ top_of n true
in_range n true = omega arith
in_range n false = omega arith

code_fits : (f : Register → ℕ) (ch : Channel) (sample : ℤ) → leb (code_for f ch sample) (top_of (scale_of ch) true) ≡ true
unfolding code_for code_of
code_fits f ch sample =
    let n = scale_of ch in
    let wide = extended (f Config) in
    let offset = offset_of (byte_of f (traits ch).offset) (fine_of f (traits ch).offset) in
    le-leb (code_for f ch sample) _ (le_trans (clamped (top_of n wide) (sample +ℤ offset +ℤ pos (shift_of n wide))) (in_range n wide))

taken_fit : (ch : Channel) (l : Limits) (code : ℕ) (compares : Bool) (c : ChannelState) → leb code (top_of (scale_of ch) true) ≡ true → Fit ch c → Fit ch (taken_of l code compares c)
unfolding taken_of compared_of
taken_fit ch l code compares c small f =
    whichever (Fit ch) compares (compared_of l (measured_of code c)) c (record { value = small; diode = f.diode }) f

converted_fit : (ch : Channel) (l : Limits) (code : ℕ) (compares broken : Bool) (c : ChannelState) → leb code (top_of (scale_of ch) true) ≡ true → broken && not (traits ch).diode ≡ false → Fit ch c → Fit ch (converted_of l code compares broken c)
unfolding converted_of
converted_fit ch l code compares broken c small e f =
    let g = taken_fit ch l code compares c small f in
    record { value = g.value; diode = checked_diode (traits ch).diode broken (taken_of l code compares c).diode e g.diode }

counted_fits : (n : ℕ) (fault : Bool) → leb (runs_of n fault) 4 ≡ true
counted_fits n true = by (ltb n 4) refl
  where
    by : (t : Bool) → ltb n 4 ≡ t → leb (cond t (n + 1) 4) 4 ≡ true
    by true e = let h : n < 4 = ltb-true n 4 e in le-leb (n + 1) 4 (omega arith)
    by false e = refl
counted_fits n false = refl

converted_well : (s : State) (t : Samples) → Well s → Well (converted s t)
unfolding converted
converted_well s t w =
    let u = all_converted s t in
    let v = counted t u in
    let small = counted_fits s.runs (found_in t u) in
    let fit : (ch : Channel) → Fit ch (converted_of (limits_of (stored_of s) ch) (code_for (stored_of s) ch (sample_at t ch)) (compared_in t ch) (broken_at t ch) (channel_at s ch)) = λ ch. converted_fit ch (limits_of (stored_of s) ch) (code_for (stored_of s) ch (sample_at t ch)) (compared_in t ch) (broken_at t ch) (channel_at s ch) (code_fits (stored_of s) ch (sample_at t ch)) (diode_checked t ch) (w.channels_fit ch) in
    let last = latched_by_conversion t v in
    busy_well last false
    (latch_well v last.latch
    (runs_well u (runs_of s.runs (found_in t u)) small (channels_well s _ fit w)))

-- ---- Each event ----

power_well : (g : Given) → is_address g.address ≡ true → Well (power_on g)
power_well g h =
    anew g new_rest (λ r. (row_of r).start) (λ ch. new_channel)
    (record { address = h; runs = refl; registers_kept = every (λ r. kept_in r (row_of r).start ≡ true) (each_true (λ r. kept_in r (row_of r).start) registers refl); channels_fit = fit })
  where
    fit : (ch : Channel) → Fit ch new_channel
    fit ch = record { value = le-leb 0 (top_of (scale_of ch) true) (omega arith); diode = or-true (traits ch).diode }

done_well : (s : State) (e : Event) → Well s → Well (done_of s e).state
unfolding written read_at_pointer
done_well s Reset w = power_well (given_of s) w.address
done_well s (Send a n) w = pointer_well s n w
done_well s (Write a n b) w = target_well (with_pointer s n) (target_of n) b (pointer_well s n w)
done_well s (Read a n) w = read_well (with_pointer s n) (source_of n) (pointer_well s n w)
done_well s (Receive a) w = read_well s (source_of s.pointer) w
done_well s Respond w = latch_well s (s.latch && any_flag s) w
done_well s Start w = busy_well s true w
done_well s (End t) w = converted_well s t w

pub steps_well_formed : StepsWellFormed
steps_well_formed s n h =
    unwell _ (answer_has (λ (x : Answer). Well x.state) s (λ code. well s h) n (λ e is taken. done_well s e (well s h)))

pub fresh_well_formed : FreshWellFormed
fresh_well_formed (pos a) h = by (is_address a) refl h
  where
    by : (t : Bool) → is_address a ≡ t → (cond t (made_at a) no_state).code ≡ Done → well_formed (cond t (made_at a) no_state).state ≡ true
    by true e h = unwell (power_on (record { address = a })) (power_well (record { address = a }) e)
    by false e h = absurd (omega (arith, ap number_of h))
fresh_well_formed (negsuc n) h = absurd (omega (arith, ap number_of h))
