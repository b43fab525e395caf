-- What each event does to the parts of a state that the history speaks of: what is seen, each mark, the run count and the latch. From
-- any well-formed state, over every channel and every flag at once. Assumes nothing.
use Prim.Native.Nat.{ℕ}
use mathlib.Core.Path.{◌≡◌, refl, sym, subst, ap, ◌∙◌}
use mathlib.Core.Bool.{Bool, true, false, cond, ◌&&◌, ◌||◌, not, and_assoc, and-true, not-and_self, or_comm, or-false}
use lib.Dec.{eqb, leb}
use Rattle.std.specs.Prelude.{Ok, Err}
use Rattle.rules.specs.declared.answer.Code.TheVariants.{Done, Unheard, NoStart, NoEnd}
use Rattle.rules.specs.declared.event.Event.TheVariants.{Reset, Send, Write, Read, Receive, Respond, Start, End}
use Rattle.rules.specs.declared.event.Samples.{Samples}
use Rattle.rules.specs.declared.register.Channel.{Channel}
use Rattle.rules.specs.declared.register.Register.{Register}
use Rattle.rules.specs.declared.register.Register.TheVariants.{Config, Consecutive}
use Rattle.rules.specs.declared.register.Source.{Source}
use Rattle.rules.specs.declared.register.Source.TheVariants.{Stored as From, Value, ValueFine, Status, Maker, Revision, Hole}
use Rattle.rules.specs.declared.register.Target.{Target}
use Rattle.rules.specs.declared.register.Target.TheVariants.{Stored as Into, OneShot, Nowhere}
use Rattle.rules.specs.declared.state.ChannelState.{ChannelState}
use Rattle.rules.specs.declared.state.Given.{Given}
use Rattle.rules.specs.declared.state.Limits.{Limits}
use Rattle.rules.specs.declared.state.Mark.{Mark}
use Rattle.rules.specs.declared.state.State.{State}
use Rattle.rules.specs.Alarm.{finding_at, finds_limit, finds_open, is_fault, limit_found, line_free, view_of}
use Rattle.rules.specs.Channels.{any_channel, broken_at, compared_in, sample_at, traits}
use Rattle.rules.specs.Commands.{source_of, target_of}
use Rattle.rules.specs.Comparisons.{Comparator, above_of, below_of, compared_of, diode_of, fault_of, limits_of, recompared_of, tripped_of, verdict_of}
use Rattle.rules.specs.Comparisons.Comparator.{Therm, Therm2}
use Rattle.rules.specs.Configuration.{chooses_therm2, masked, standby}
use Rattle.rules.specs.Conversion.{code_for, converted, converted_of, taken_of}
use Rattle.rules.specs.Event.{Checked}
use Rattle.rules.specs.History.{did_of, Entry, Facts, Finding, View, ask_facts, bytes_after, compares_at, end_facts, entry_of, found_if, measured_view, no_facts, outcome, pointed, powered, read_facts, running_after, started_view, write_facts, written_view}
use Rattle.rules.specs.History.Finding.{MadeNone, FoundNothing, FoundFault}
use Rattle.rules.specs.Hot.{hot_after}
use Rattle.rules.specs.Lines.{alert_low}
use Rattle.rules.specs.PowerOn.{new_channel, new_rest, power_on}
use Rattle.rules.specs.Read.{after_read, read_at_pointer}
use Rattle.rules.specs.Rows.{row_of, same, trim_of}
use Rattle.rules.specs.Runs.{needed_of, runs_of}
use Rattle.rules.specs.State.{Rest, channel_at, given_of, put, rest_of, state_from, stored_of, with_busy, with_pointer, with_rest, with_stored}
use Rattle.rules.specs.Status.{Fault, after_status, any_flag, mark_of, shown_channel, shown_of}
use Rattle.rules.specs.Status.Fault.{Above, Below, Open}
use Rattle.rules.specs.Step.{answer_of, apply_of, checked_of, done, end_of, refused, responded, respond_of, response_of, silent, start_of}
use Rattle.rules.specs.Write.{compared_if, standby_compared, stored, written, written_to}
use Rattle.rules.proofs.Choice.{whichever}
use Rattle.rules.proofs.Commands.{compare_named, compares_to, is_into, is_one_shot, is_status, register_named, shot_named, status_named}
use Rattle.rules.proofs.Lists.{no}
use Rattle.rules.proofs.Rows.{channels_back, same_one, stored_back}
use Rattle.rules.proofs.WellFormed.{Well, diode_checked}

-- ---- What an event leaves of each part ----

abbrev pub by_finding : Finding → Mark → Mark
by_finding MadeNone m = m
by_finding FoundNothing m = verdict_of m false
by_finding FoundFault m = verdict_of m true

abbrev pub marked : Entry → Channel → Fault → Mark → Mark
marked x ch k m = cond x.facts.status_read (shown_of m) (by_finding (finding_at x ch k) m)

-- a comparator of a channel
abbrev pub tripped : ChannelState → Comparator → Bool
tripped c Therm = c.therm
tripped c Therm2 = c.therm2

-- what sets the latch, by the run count after the event
abbrev pub sets_with : Entry → ℕ → Bool
sets_with x runs =
    cond x.facts.ended (finds_open x || leb (needed_of (x.seen.registers Consecutive)) runs) (finds_limit x)

abbrev pub latch_after : State → Entry → ℕ → Bool
latch_after s x runs =
    sets_with x runs || (s.latch && not (x.facts.asked && s.latch && line_free x.seen && not (any_flag s)))

pub record Steps (s : State) (x : Entry) (t : State) : Type 0 where
  pub seen : view_of t ≡ x.seen
  pub mark : (ch : Channel) (k : Fault) → mark_of (channel_at t ch) k ≡ marked x ch k (mark_of (channel_at s ch) k)
  pub runs : t.runs ≡ cond x.facts.ended (runs_of s.runs (finds_limit x)) s.runs
  pub latch : t.latch ≡ latch_after s x t.runs
  pub therms : (ch : Channel) (k : Comparator) → tripped (channel_at t ch) k ≡ hot_after x k ch (tripped (channel_at s ch) k)

abbrev pub entry : Facts → View → ℕ → Entry
entry facts v reply = record { facts = facts; seen = v; reply = reply }

-- ---- A state put together ----

abbrev view_from : Given → Rest → (Register → ℕ) → (Channel → ChannelState) → View
view_from g p f c =
    record {
      address = g.address;
      pointer = p.pointer;
      running = p.busy;
      registers = f;
      converted = λ ch. (c ch).converted;
      value = λ ch. (c ch).value;
    }

view_back : (g : Given) (p : Rest) (f : Register → ℕ) (c : Channel → ChannelState) → view_of (state_from g p f c) ≡ view_from g p f c
view_back g p f c = λ i.
    record {
      address = g.address;
      pointer = p.pointer;
      running = p.busy;
      registers = stored_back g p f c i;
      converted = λ ch. (channels_back g p f c i ch).converted;
      value = λ ch. (channels_back g p f c i ch).value;
    }

-- from what each part became; the view may be written in another way
module _ (s : State) (facts : Facts) (v : View) (reply : ℕ) (p : Rest) (f : Register → ℕ) (c : Channel → ChannelState) (is : view_from (given_of s) p f c ≡ v) where
  abbrev Became : View → Type 0
  Became w =
      ((ch : Channel) (k : Fault) → mark_of (c ch) k ≡ marked (entry facts w reply) ch k (mark_of (channel_at s ch) k))
      × (p.runs ≡ cond facts.ended (runs_of s.runs (finds_limit (entry facts w reply))) s.runs)
      × (p.latch ≡ latch_after s (entry facts w reply) p.runs)
      × ((ch : Channel) (k : Comparator) → tripped (c ch) k ≡ hot_after (entry facts w reply) k ch (tripped (channel_at s ch) k))

  became : Became (view_from (given_of s) p f c) → Steps s (entry facts v reply) (state_from (given_of s) p f c)
  became h =
      let there : Became v = subst Became is h in
      record {
        seen = view_back (given_of s) p f c ∙ is;
        mark = λ ch k. ap (λ (x : Channel → ChannelState). mark_of (x ch) k) (channels_back (given_of s) p f c) ∙ there.0 ch k;
        runs = there.1;
        latch = there.2;
        therms = λ ch k. ap (λ (x : Channel → ChannelState). tripped (x ch) k) (channels_back (given_of s) p f c) ∙ there.3 ch k;
      }

  -- an event that compared nothing, read no status and asked for no response
  quiet : facts ≡ no_facts → c ≡ channel_at s → p.runs ≡ s.runs → p.latch ≡ s.latch → Steps s (entry facts v reply) (state_from (given_of s) p f c)
  quiet none same n l =
      subst (λ (x : Facts). Steps s (entry x v reply) (state_from (given_of s) p f c)) (sym none) still
    where
      held : (ch : Channel) (k : Fault) → mark_of (c ch) k ≡ marked (entry no_facts v reply) ch k (mark_of (channel_at s ch) k)
      held ch Above = ap (λ (x : Channel → ChannelState). (x ch).high) same
      held ch Below = ap (λ (x : Channel → ChannelState). (x ch).low) same
      held ch Open = ap (λ (x : Channel → ChannelState). (x ch).diode) same

      still : Steps s (entry no_facts v reply) (state_from (given_of s) p f c)
      still =
          record {
            seen = view_back (given_of s) p f c ∙ is;
            mark = λ ch k. ap (λ (x : Channel → ChannelState). mark_of (x ch) k) (channels_back (given_of s) p f c) ∙ held ch k;
            runs = n;
            latch = l ∙ sym (and-true s.latch);
            therms = λ ch k. ap (λ (x : Channel → ChannelState). tripped (x ch) k) (channels_back (given_of s) p f c ∙ same);
          }

-- nothing at all
idle : (s : State) (reply : ℕ) → Steps s (entry no_facts (view_of s) reply) s
idle s reply = quiet s no_facts (view_of s) reply (rest_of s) (stored_of s) (channel_at s) refl refl refl refl refl

-- only what is no mark, no register, no run count and no latch
moved : (s : State) (v : View) (reply : ℕ) (p : Rest) → p.runs ≡ s.runs → p.latch ≡ s.latch → view_from (given_of s) p (stored_of s) (channel_at s) ≡ v → Steps s (entry no_facts v reply) (with_rest s p)
moved s v reply p n l is = quiet s no_facts v reply p (stored_of s) (channel_at s) is refl refl n l

-- ---- A read ----

-- a status read shows every mark
shown_mark : (c : ChannelState) (k : Fault) → mark_of (shown_channel c) k ≡ shown_of (mark_of c k)
shown_mark c Above = refl
shown_mark c Below = refl
shown_mark c Open = refl

-- and leaves both comparators
shown_tripped : (c : ChannelState) (k : Comparator) → tripped (shown_channel c) k ≡ tripped c k
shown_tripped c Therm = refl
shown_tripped c Therm2 = refl

at_source : (s : State) (p : Rest) → p.runs ≡ s.runs → p.latch ≡ s.latch → (v : View) → view_from (given_of s) p (stored_of s) (channel_at s) ≡ v → (reply : ℕ) (q : Source) → Steps s (entry (read_facts (is_status q)) v reply) (after_read (with_rest s p) q)
unfolding after_status
at_source s p n l v is reply (From r) = moved s v reply p n l is
at_source s p n l v is reply (Value ch) = moved s v reply p n l is
at_source s p n l v is reply (ValueFine ch) = moved s v reply p n l is
at_source s p n l v is reply Status =
    became s (read_facts true) v reply p (stored_of s) (λ ch. shown_channel (channel_at s ch)) is ((λ ch k. shown_mark (channel_at s ch) k), n, l ∙ sym (and-true s.latch), λ ch k. shown_tripped (channel_at s ch) k)
at_source s p n l v is reply Maker = moved s v reply p n l is
at_source s p n l v is reply Revision = moved s v reply p n l is
at_source s p n l v is reply Hole = moved s v reply p n l is

-- ---- Comparisons ----

pub outcome_fault : (b : Bool) → is_fault (outcome b) ≡ b
outcome_fault true = refl
outcome_fault false = refl

by_outcome : (b : Bool) (m : Mark) → verdict_of m b ≡ by_finding (outcome b) m
by_outcome true m = refl
by_outcome false m = refl

-- a rule of each channel, and so of any
each_same : (p q : Channel → Bool) → ((ch : Channel) → p ch ≡ q ch) → any_channel p ≡ any_channel q
each_same p q e = ap any_channel (λ i ch. e ch i)

-- a channel compared while it holds this value, or left as it was
module _ (l : Limits) (value : ℕ) (converted : Bool) (c : ChannelState) where
  abbrev chosen : Bool → ChannelState
  chosen x =
      cond x (compared_of l (record { value = value; converted = converted; high = c.high; low = c.low; diode = c.diode; therm = c.therm; therm2 = c.therm2 })) c

  abbrev above : Bool → Finding
  above x = found_if x (above_of l.high (chosen x).value)

  abbrev below : Bool → Finding
  below x = found_if x (below_of l.low (chosen x).value)

  chosen_high : (x : Bool) → (chosen x).high ≡ by_finding (above x) c.high
  unfolding compared_of
  chosen_high true = by_outcome (above_of l.high value) c.high
  chosen_high false = refl

  chosen_low : (x : Bool) → (chosen x).low ≡ by_finding (below x) c.low
  unfolding compared_of
  chosen_low true = by_outcome (below_of l.low value) c.low
  chosen_low false = refl

  chosen_diode : (x : Bool) → (chosen x).diode ≡ c.diode
  unfolding compared_of
  chosen_diode true = refl
  chosen_diode false = refl

  chosen_found : (x : Bool) → x && ((chosen x).high.found || (chosen x).low.found) ≡ (is_fault (above x) || is_fault (below x))
  unfolding compared_of
  chosen_found true = rw (outcome_fault (above_of l.high value), outcome_fault (below_of l.low value))
  chosen_found false = refl

  chosen_tripped : (x : Bool) (k : Comparator) → tripped (chosen x) k ≡ cond x (tripped_of k l (chosen x).value (tripped c k)) (tripped c k)
  unfolding compared_of
  chosen_tripped true Therm = refl
  chosen_tripped true Therm2 = refl
  chosen_tripped false k = refl

module _ (s : State) (reply : ℕ) (p : Rest) (f : Register → ℕ) where
  abbrev again : Channel → ChannelState
  again ch = recompared_of (limits_of f ch) (channel_at s ch)

  abbrev anew : Entry
  anew = entry (write_facts (view_of s) true) (view_from (given_of s) p f again) reply

  again_mark : (ch : Channel) (k : Fault) → mark_of (again ch) k ≡ marked anew ch k (mark_of (channel_at s ch) k)
  again_mark ch Above = let c = channel_at s ch in chosen_high (limits_of f ch) c.value c.converted c c.converted
  again_mark ch Below = let c = channel_at s ch in chosen_low (limits_of f ch) c.value c.converted c c.converted
  again_mark ch Open = let c = channel_at s ch in chosen_diode (limits_of f ch) c.value c.converted c c.converted

  again_kept : (ch : Channel) → ((again ch).converted ≡ (channel_at s ch).converted) × ((again ch).value ≡ (channel_at s ch).value)
  unfolding compared_of
  again_kept ch =
      let c = channel_at s ch in
      whichever (λ (d : ChannelState). (d.converted ≡ c.converted) × (d.value ≡ c.value)) c.converted (compared_of (limits_of f ch) c) c (refl, refl) (refl, refl)

  again_fault : (ch : Channel) → fault_of (again ch) ≡ limit_found anew ch
  again_fault ch =
      let c = channel_at s ch in
      rw (again_kept ch).0 (chosen_found (limits_of f ch) c.value c.converted c c.converted)

  again_tripped : (ch : Channel) (k : Comparator) → tripped (again ch) k ≡ hot_after anew k ch (tripped (channel_at s ch) k)
  again_tripped ch k = let c = channel_at s ch in chosen_tripped (limits_of f ch) c.value c.converted c c.converted k

  -- a comparison in standby
  standby_steps : p.runs ≡ s.runs → p.latch ≡ s.latch → (v : View) → view_from (given_of s) p f (channel_at s) ≡ v → Steps s (entry (write_facts (view_of s) true) v reply) (standby_compared (state_from (given_of s) p f (channel_at s)))
  unfolding standby_compared compared_of
  standby_steps n l v is =
      became s (write_facts (view_of s) true) v reply after f again (looks ∙ is)
      (again_mark, n, rw (l, and-true s.latch) (or_comm s.latch _ ∙ ap (λ (b : Bool). b || s.latch) (each_same (λ ch. fault_of (again ch)) (limit_found anew) again_fault)), again_tripped)
    where
      after : Rest
      after = record { pointer = p.pointer; busy = p.busy; runs = p.runs; latch = p.latch || any_channel (λ ch. fault_of (again ch)) }

      looks : view_from (given_of s) after f again ≡ view_from (given_of s) p f (channel_at s)
      looks = λ i. record { address = s.address; pointer = p.pointer; running = p.busy; registers = f; converted = λ ch. (again_kept ch).0 i; value = λ ch. (again_kept ch).1 i }

-- ---- A conversion ----

-- a channel with no diode has a clear mark of one, which a check leaves
unchecked : (d b : Bool) (m : Mark) → b && not d ≡ false → d || not (m.found || m.flag) ≡ true → verdict_of m b ≡ by_finding (found_if d b) m
unchecked true b m e h = by_outcome b m
unchecked false true m e h = no (sym e)
unchecked false false m e h = by m.found m.flag h
  where
    by : (x y : Bool) → not (x || y) ≡ true → ◌≡◌ {A = Mark} (record { found = false; flag = y || false }) (record { found = x; flag = y })
    by true y h = no h
    by false true h = no h
    by false false h = refl

-- it leaves both comparators
checked_tripped : (b : Bool) (c : ChannelState) (k : Comparator) → tripped (diode_of b c) k ≡ tripped c k
checked_tripped b c Therm = refl
checked_tripped b c Therm2 = refl

-- an open diode is found by a check
open_found : (d b : Bool) → b && not d ≡ false → b ≡ is_fault (found_if d b)
open_found true b e = sym (outcome_fault b)
open_found false true e = no (sym e)
open_found false false e = refl

module _ (s : State) (w : Well s) (t : Samples) where
  abbrev code : Channel → ℕ
  code ch = code_for (stored_of s) ch (sample_at t ch)

  abbrev made : Channel → ChannelState
  made ch = converted_of (limits_of (stored_of s) ch) (code ch) (compared_in t ch) (broken_at t ch) (channel_at s ch)

  abbrev faulty : Bool
  faulty = any_channel (λ ch. compared_in t ch && fault_of (made ch))

  abbrev rest : Rest
  rest =
      record {
        pointer = s.pointer;
        busy = false;
        runs = runs_of s.runs faulty;
        latch = s.latch || (any_channel (broken_at t) || leb (needed_of s.consecutive) (runs_of s.runs faulty));
      }

  abbrev ends : Entry
  ends = entry (end_facts true t) (view_from (given_of s) rest (stored_of s) made) 0

  made_mark : (ch : Channel) (k : Fault) → mark_of (made ch) k ≡ marked ends ch k (mark_of (channel_at s ch) k)
  unfolding converted_of taken_of
  made_mark ch Above = chosen_high (limits_of (stored_of s) ch) (code ch) true (channel_at s ch) (compared_in t ch)
  made_mark ch Below = chosen_low (limits_of (stored_of s) ch) (code ch) true (channel_at s ch) (compared_in t ch)
  made_mark ch Open =
      ap (λ (m : Mark). verdict_of m (broken_at t ch)) (chosen_diode (limits_of (stored_of s) ch) (code ch) true (channel_at s ch) (compared_in t ch))
      ∙ unchecked (traits ch).diode (broken_at t ch) (channel_at s ch).diode (diode_checked t ch) (w.channels_fit ch).diode

  made_seen : (ch : Channel) → ((made ch).converted ≡ (compared_in t ch || (channel_at s ch).converted)) × ((made ch).value ≡ cond (compared_in t ch) (code ch) (channel_at s ch).value)
  unfolding converted_of taken_of compared_of
  made_seen ch = by (compared_in t ch)
    where
      by : (x : Bool) → ((taken_of (limits_of (stored_of s) ch) (code ch) x (channel_at s ch)).converted ≡ (x || (channel_at s ch).converted)) × ((taken_of (limits_of (stored_of s) ch) (code ch) x (channel_at s ch)).value ≡ cond x (code ch) (channel_at s ch).value)
      by true = (refl, refl)
      by false = (refl, refl)

  made_fault : (ch : Channel) → compared_in t ch && fault_of (made ch) ≡ limit_found ends ch
  unfolding converted_of taken_of
  made_fault ch = by (compared_in t ch) (made_seen ch).0 ∙ chosen_found (limits_of (stored_of s) ch) (code ch) true (channel_at s ch) (compared_in t ch)
    where
      by : (x : Bool) → (made ch).converted ≡ (x || (channel_at s ch).converted) → x && fault_of (made ch) ≡ x && ((made ch).high.found || (made ch).low.found)
      by true e = rw e
      by false e = refl

  made_tripped : (ch : Channel) (k : Comparator) → tripped (made ch) k ≡ hot_after ends k ch (tripped (channel_at s ch) k)
  unfolding converted_of taken_of
  made_tripped ch k =
      checked_tripped (broken_at t ch) (taken_of (limits_of (stored_of s) ch) (code ch) (compared_in t ch) (channel_at s ch)) k
      ∙ chosen_tripped (limits_of (stored_of s) ch) (code ch) true (channel_at s ch) (compared_in t ch) k

  made_latch : rest.latch ≡ latch_after s ends rest.runs
  made_latch =
      rw (and-true s.latch)
      (ap (λ (b : Bool). s.latch || (b || leb (needed_of s.consecutive) rest.runs))
      (each_same (broken_at t) (λ ch. is_fault (finding_at ends ch Open)) (λ ch. open_found (traits ch).diode (broken_at t ch) (diode_checked t ch)))
      ∙ or_comm s.latch _)

  looks_made : view_from (given_of s) rest (stored_of s) made ≡ measured_view (view_of s) t
  looks_made = λ i. record { address = s.address; pointer = s.pointer; running = false; registers = stored_of s; converted = λ ch. (made_seen ch).0 i; value = λ ch. (made_seen ch).1 i }

  pub converted_steps : Steps s (entry (end_facts true t) (measured_view (view_of s) t) 0) (converted s t)
  unfolding converted
  converted_steps =
      became s (end_facts true t) (measured_view (view_of s) t) 0 rest (stored_of s) made looks_made
      (made_mark, ap (runs_of s.runs) (each_same (λ ch. compared_in t ch && fault_of (made ch)) (limit_found ends) made_fault), made_latch, made_tripped)

  end_steps : Steps s (entry_of (view_of s) (Ok (End t)) 0) (apply_of s (End t)).state
  unfolding apply_of end_of
  end_steps = by s.busy
    where
      by : (b : Bool) → Steps s (entry (end_facts b t) (cond b (measured_view (view_of s) t) (view_of s)) 0) (cond b (done (silent (converted s t))) (refused NoEnd s)).state
      by true = converted_steps
      by false = idle s 0

-- ---- A write byte ----

-- the bytes after it, by what the command names
abbrev bytes_to : Target → ℕ → (Register → ℕ) → Register → ℕ
bytes_to (Into q) b f = put q (trim_of q b) f
bytes_to OneShot b f = f
bytes_to Nowhere b f = f

-- where it leaves a conversion running or not, and the rest as it was
abbrev rest_with : State → ℕ → Bool → Rest
rest_with s n busy = record { pointer = n; busy = busy; runs = s.runs; latch = s.latch }

abbrev Writes : State → ℕ → ℕ → Bool → State → Type 0
Writes s n b compares t = Steps s (entry (write_facts (view_of s) compares) (written_view (view_of s) n b) 0) t

module _ (s : State) (n b : ℕ) (to : Target) (into : (r : Register) → is_into r to ≡ eqb n (row_of r).write) where
  bytes_same : bytes_to to b (stored_of s) ≡ bytes_after (view_of s) n b
  bytes_same = λ i r. by to into r i
    where
      by : (to : Target) → ((r : Register) → is_into r to ≡ eqb n (row_of r).write) → (r : Register) → bytes_to to b (stored_of s) r ≡ bytes_after (view_of s) n b r
      by (Into q) into r = rw (← (into r)) (at (same q r) refl)
        where
          at : (t : Bool) → same q r ≡ t → cond t (trim_of q b) (stored_of s r) ≡ cond t (trim_of r b) (stored_of s r)
          at true e = ap (λ (x : Register). trim_of x b) (same_one q r e)
          at false e = refl
      by OneShot into r = rw (← (into r))
      by Nowhere into r = rw (← (into r))

  module _ (busy : Bool) (runs : busy ≡ running_after (view_of s) n (bytes_to to b (stored_of s))) where
    looks : view_from (given_of s) (rest_with s n busy) (bytes_to to b (stored_of s)) (channel_at s) ≡ written_view (view_of s) n b
    looks = λ i.
        record {
          address = s.address;
          pointer = n;
          running = (runs ∙ ap (running_after (view_of s) n) bytes_same) i;
          registers = bytes_same i;
          converted = λ ch. (channel_at s ch).converted;
          value = λ ch. (channel_at s ch).value;
        }

    abbrev stands : State
    stands = state_from (given_of s) (rest_with s n busy) (bytes_to to b (stored_of s)) (channel_at s)

    -- where nothing is compared, and where every channel is
    compared : (w : Bool) → Writes s n b w (cond w (standby_compared stands) stands)
    compared true = standby_steps s 0 (rest_with s n busy) (bytes_to to b (stored_of s)) refl refl (written_view (view_of s) n b) looks
    compared false =
        quiet s (write_facts (view_of s) false) (written_view (view_of s) n b) 0 (rest_with s n busy) (bytes_to to b (stored_of s)) (channel_at s) looks refl refl refl refl

-- a write that compares leaves the configuration
config_kept : (s : State) (r : Register) (b : ℕ) → (row_of r).compares && standby (put r b (stored_of s) Config) ≡ (row_of r).compares && standby s.config
config_kept s r b = by (same r Config) refl
  where
    by : (t : Bool) → same r Config ≡ t → (row_of r).compares && standby (cond t b s.config) ≡ (row_of r).compares && standby s.config
    by true e = subst (λ (q : Register). (row_of q).compares && standby b ≡ (row_of q).compares && standby s.config) (sym (same_one r Config e)) refl
    by false e = refl

target_steps : (s : State) (n b : ℕ) (to : Target) → is_one_shot to ≡ eqb n 0x0f → ((r : Register) → is_into r to ≡ eqb n (row_of r).write) → Writes s n b (compares_to to && standby s.config) (written_to (with_pointer s n) to b)
unfolding stored
target_steps s n b (Into r) shot into =
    subst (λ (u : State). Writes s n b w (compared_if (row_of r).compares u)) (sym (stopped_is stop))
    (subst (λ (z : Bool). Writes s n b w (cond z (standby_compared (left stop)) (left stop))) (sym (config_kept s r (trim_of r b)))
    (compared s n b (Into r) into (cond stop false s.busy) (rw (← shot)) w))
  where
    w : Bool
    w = (row_of r).compares && standby s.config

    stop : Bool
    stop = not (standby s.config) && standby (put r (trim_of r b) (stored_of s) Config)

    u : State
    u = with_stored (with_pointer s n) r (trim_of r b)

    left : Bool → State
    left z = state_from (given_of s) (rest_with s n (cond z false s.busy)) (put r (trim_of r b) (stored_of s)) (channel_at s)

    stopped_is : (z : Bool) → cond z (with_busy u false) u ≡ left z
    stopped_is true = refl
    stopped_is false = refl
target_steps s n b OneShot shot into =
    subst (Writes s n b false) (sym (begun_is (standby s.config && not s.busy)))
    (compared s n b OneShot into (cond (standby s.config && not s.busy) true s.busy) (rw (← shot) (by (standby s.config) s.busy)) false)
  where
    begun_is : (z : Bool) → cond z (with_busy (with_pointer s n) true) (with_pointer s n) ≡ state_from (given_of s) (rest_with s n (cond z true s.busy)) (stored_of s) (channel_at s)
    begun_is true = refl
    begun_is false = refl

    by : (x y : Bool) → cond (x && not y) true y ≡ cond x true (cond (not x && x) false y)
    by true true = refl
    by true false = refl
    by false y = refl
target_steps s n b Nowhere shot into =
    compared s n b Nowhere into s.busy (rw (← shot, not-and_self (standby s.config))) false

write_steps : (s : State) (a n b : ℕ) → Steps s (entry_of (view_of s) (Ok (Write a n b)) 0) (apply_of s (Write a n b)).state
unfolding apply_of written
write_steps s a n b = by (eqb a s.address)
  where
    done_steps : Writes s n b (compares_at n && standby s.config) (written_to (with_pointer s n) (target_of n) b)
    done_steps =
        subst (λ (w : Bool). Writes s n b (w && standby s.config) (written_to (with_pointer s n) (target_of n) b)) (compare_named n)
        (target_steps s n b (target_of n) (shot_named n) (λ r. register_named r n))

    by : (m : Bool) → Steps s (entry (write_facts (view_of s) (m && compares_at n && standby s.config)) (cond m (written_view (view_of s) n b) (view_of s)) 0) (cond m (done (silent (written s n b))) (refused Unheard s)).state
    by true = done_steps
    by false = idle s 0

-- ---- The other forms ----

read_steps : (s : State) (m : Bool) (p : Rest) → p.runs ≡ s.runs → p.latch ≡ s.latch → (v : View) → view_from (given_of s) p (stored_of s) (channel_at s) ≡ v → (reply : ℕ) → Steps s (entry (read_facts (m && eqb p.pointer 0x02)) (cond m v (view_of s)) reply) (cond m (done (read_at_pointer (with_rest s p))) (refused Unheard s)).state
unfolding read_at_pointer
read_steps s true p n l v is reply =
    subst (λ (b : Bool). Steps s (entry (read_facts b) v reply) (after_read (with_rest s p) (source_of p.pointer))) (status_named p.pointer) (at_source s p n l v is reply (source_of p.pointer))
read_steps s false p n l v is reply = idle s reply

receive_steps : (s : State) (m : Bool) (reply : ℕ) → Steps s (entry (read_facts (m && eqb s.pointer 0x02)) (view_of s) reply) (cond m (done (read_at_pointer s)) (refused Unheard s)).state
receive_steps s true reply = read_steps s true (rest_of s) refl refl (view_of s) refl reply
receive_steps s false reply = read_steps s false (rest_of s) refl refl (view_of s) refl reply

respond_steps : (s : State) (reply : ℕ) → Steps s (entry ask_facts (view_of s) reply) (respond_of s).state
unfolding respond_of
respond_steps s reply = by (alert_low s) refl
  where
    free : Bool
    free = line_free (view_of s)

    low : alert_low s ≡ (s.latch && free)
    low = and_assoc s.latch (not (masked s.config)) (not (chooses_therm2 s.config))

    held : (ch : Channel) (k : Fault) → mark_of (channel_at s ch) k ≡ marked (entry ask_facts (view_of s) reply) ch k (mark_of (channel_at s ch) k)
    held ch Above = refl
    held ch Below = refl
    held ch Open = refl

    answered : (f : Bool) → f ≡ not (not f)
    answered true = refl
    answered false = refl

    at : (p : Rest) → p.pointer ≡ s.pointer → p.busy ≡ s.busy → p.runs ≡ s.runs → p.latch ≡ latch_after s (entry ask_facts (view_of s) reply) p.runs → Steps s (entry ask_facts (view_of s) reply) (with_rest s p)
    at p q b n l =
        record {
          seen = view_back (given_of s) p (stored_of s) (channel_at s) ∙ λ i. record { address = s.address; pointer = q i; running = b i; registers = stored_of s; converted = λ ch. (channel_at s ch).converted; value = λ ch. (channel_at s ch).value };
          mark = λ ch k. ap (λ (x : Channel → ChannelState). mark_of (x ch) k) (channels_back (given_of s) p (stored_of s) (channel_at s)) ∙ held ch k;
          runs = n;
          latch = l;
          therms = λ ch k. ap (λ (x : Channel → ChannelState). tripped (x ch) k) (channels_back (given_of s) p (stored_of s) (channel_at s));
        }

    by : (t : Bool) → alert_low s ≡ t → Steps s (entry ask_facts (view_of s) reply) (cond t (answer_of Done (response_of s.address) (responded s)) (refused Unheard s)).state
    by true e = at _ refl refl refl (let is : s.latch && free ≡ true = sym low ∙ e in rw (is, ← (answered (any_flag s))))
    by false e = at (rest_of s) refl refl refl (let is : s.latch && free ≡ false = sym low ∙ e in rw is (sym (and-true s.latch)))

start_steps : (s : State) → Steps s (entry no_facts (started_view (view_of s)) 0) (start_of s).state
unfolding start_of
start_steps s = by (standby s.config) s.busy refl refl
  where
    at : (b : Bool) → b ≡ (s.busy || not (standby s.config)) → Steps s (entry no_facts (started_view (view_of s)) 0) (with_busy s b)
    at b e = moved s (started_view (view_of s)) 0 _ refl refl
        (λ i. record { address = s.address; pointer = s.pointer; running = e i; registers = stored_of s; converted = λ ch. (channel_at s ch).converted; value = λ ch. (channel_at s ch).value })

    by : (x y : Bool) → standby s.config ≡ x → s.busy ≡ y → Steps s (entry no_facts (started_view (view_of s)) 0) (cond (x || y) (refused NoStart s) (done (silent (with_busy s true)))).state
    by true y e g = at s.busy (rw e (sym (or-false s.busy)))
    by false true e g = at s.busy (rw g)
    by false false e g = at true (rw (e, g))

send_steps : (s : State) (n : ℕ) (m : Bool) → Steps s (entry no_facts (cond m (pointed (view_of s) n) (view_of s)) 0) (cond m (done (silent (with_pointer s n))) (refused Unheard s)).state
send_steps s n true = moved s (pointed (view_of s) n) 0 _ refl refl refl
send_steps s n false = idle s 0

-- no part depends on the reply
any_reply : {s t : State} {x : Entry} → Steps s x t → (reply : ℕ) → Steps s (entry x.facts x.seen reply) t
any_reply {s} {t} {x} g reply = record { seen = g.seen; mark = mark; runs = g.runs; latch = g.latch; therms = g.therms }
  where
    mark : (ch : Channel) (k : Fault) → mark_of (channel_at t ch) k ≡ marked (entry x.facts x.seen reply) ch k (mark_of (channel_at s ch) k)
    mark ch Above = g.mark ch Above
    mark ch Below = g.mark ch Below
    mark ch Open = g.mark ch Open

-- every event but a reset
pub steps : (s : State) → Well s → (k : Checked) (reply : ℕ) → (did_of (view_of s) k).reset ≡ false → Steps s (entry_of (view_of s) k reply) (checked_of s k).state
unfolding apply_of
steps s w (Ok Reset) reply e = no (sym e)
steps s w (Ok (Send a n)) reply e = any_reply (send_steps s n (eqb a s.address)) reply
steps s w (Ok (Write a n b)) reply e = any_reply (write_steps s a n b) reply
steps s w (Ok (Read a n)) reply e = read_steps s (eqb a s.address) _ refl refl _ refl reply
steps s w (Ok (Receive a)) reply e = receive_steps s (eqb a s.address) reply
steps s w (Ok Respond) reply e = respond_steps s reply
steps s w (Ok Start) reply e = any_reply (start_steps s) reply
steps s w (Ok (End t)) reply e = any_reply (end_steps s w t) reply
steps s w (Err code) reply e = idle s reply

-- a power-on
pub power_view : (g : Given) → view_of (power_on g) ≡ powered g.address
power_view g = view_back g new_rest (λ r. (row_of r).start) (λ ch. new_channel)
