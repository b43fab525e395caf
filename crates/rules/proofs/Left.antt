-- What an event leaves that neither powers the chip on nor ends a conversion. Assumes nothing.
use Prim.Native.Nat.{ℕ}
use mathlib.Core.Path.{◌≡◌, refl, sym, subst, ap, ◌∙◌}
use mathlib.Core.Bool.{Bool, true, false, cond, ◌&&◌, ◌||◌, and-true, or_comm, or-false}
use lib.Dec.{eqb}
use borrow.Author.Tests.{eq-eqb}
use Rattle.std.specs.Prelude.{Ok}
use Rattle.rules.specs.declared.event.Event.{Event}
use Rattle.rules.specs.declared.event.Event.TheVariants.{Send, Write, Read, Receive, Respond, Start}
use Rattle.rules.specs.declared.event.Numbers.{Numbers}
use Rattle.rules.specs.declared.register.Channel.{Channel}
use Rattle.rules.specs.declared.register.Channel.TheVariants.{Local, Remote}
use Rattle.rules.specs.declared.register.Register.{Register}
use Rattle.rules.specs.declared.state.Mark.{Mark}
use Rattle.rules.specs.declared.state.State.{State}
use Rattle.rules.specs.Alarm.{is_fault, view_of}
use Rattle.rules.specs.Comparisons.Comparator.{Therm, Therm2}
use Rattle.rules.specs.Ended.{found, over, under}
use Rattle.rules.specs.Event.{check_of}
use Rattle.rules.specs.History.{Facts, View, ask_facts, compares_at, facts, found_if, in_standby, no_check, no_facts, pointed, read_facts, started_view, write_facts, written_view}
use Rattle.rules.specs.Left.{LeftBy, ReadLeaves, ReceiveLeaves, RespondLeaves, SendLeaves, StartLeaves, Unwritten, WriteLeaves, beyond, compared_by, nothing, shown}
use Rattle.rules.specs.State.{channel_at, stored_of}
use Rattle.rules.specs.Status.{shown_of}
use Rattle.rules.specs.Status.Fault.{Above, Below, Open}
use Rattle.rules.specs.Step.{apply_of, step_of}
use Rattle.rules.specs.WellFormed.{well_formed}
use Rattle.rules.proofs.Steps.{Steps, by_finding, entry, outcome_fault, steps}
use Rattle.rules.proofs.WellFormed.{well}

-- what holds of the state that a form leaves holds of the step's
taken : (P : State → Type 0) (s : State) → well_formed s ≡ true → (e : Numbers) (k : Event) → check_of e ≡ Ok k → P (apply_of s k).state → P (step_of s e).state
unfolding step_of
taken P s w e k is h = rw (w, is) h

by_mark : (r c f : Bool) (m : Mark) → cond r (shown_of m) (by_finding (found_if c f) m) ≡ cond r (shown m) (cond c (found f m) m)
by_mark true c f m = refl
by_mark false true true m = refl
by_mark false true false m = refl
by_mark false false f m = refl

by_diode : (r : Bool) (m : Mark) → cond r (shown_of m) m ≡ cond r (shown m) m
by_diode true m = refl
by_diode false m = refl

either : (c a b : Bool) → (is_fault (found_if c a) || is_fault (found_if c b)) ≡ (c && (a || b))
either true a b = rw (outcome_fault a, outcome_fault b)
either false a b = refl

-- from what each event does: facts without a conversion, a reset and a diode check
module _ (s t : State) (compared : Channel → Bool) (reads asked : Bool) (v : View) (g : Steps s (entry (facts false false compared no_check reads asked) v 0) t) (values : (ch : Channel) → v.value ch ≡ (channel_at s ch).value) (conversions : (ch : Channel) → v.converted ch ≡ (channel_at s ch).converted) where
  abbrev did : Facts
  did = facts false false compared no_check reads asked

  -- what is seen is the state's own
  own : Steps s (entry did (view_of t) 0) t
  own = subst (λ (w : View). Steps s (entry did w 0) t) (sym g.seen) g

  unwritten : ((r : Register) → v.registers r ≡ stored_of s r) → Unwritten s t
  unwritten same r = ap (λ (w : View). w.registers r) g.seen ∙ same r

  left_by : LeftBy v.pointer compared reads s t
  left_by =
      record {
        pointer = ap (λ (w : View). w.pointer) g.seen;
        runs = g.runs;
        channel = λ ch.
            record {
              value = ap (λ (w : View). w.value ch) g.seen ∙ values ch;
              converted = ap (λ (w : View). w.converted ch) g.seen ∙ conversions ch;
              high = own.mark ch Above ∙ by_mark reads (compared ch) (over (stored_of t) ch (channel_at t ch).value) (channel_at s ch).high;
              low = own.mark ch Below ∙ by_mark reads (compared ch) (under (stored_of t) ch (channel_at t ch).value) (channel_at s ch).low;
              diode = own.mark ch Open ∙ by_diode reads (channel_at s ch).diode;
              therm = own.therms ch Therm;
              therm2 = own.therms ch Therm2;
            };
      }

-- the chip's own address is its own
mine : (s : State) → eqb s.address s.address ≡ true
mine s = eq-eqb s.address s.address refl

pub write_leaves : WriteLeaves
write_leaves n b s w e is = taken (λ left. LeftBy n (compared_by s n) false s left × (left.latch ≡ (s.latch || (beyond s left n Local || beyond s left n Remote)))) s w e (Write s.address n b) is
    (left_by s t (compared_by s n) false false (written_view (view_of s) n b) g (λ ch. refl) (λ ch. refl), latch)
  where
    t : State
    t = (apply_of s (Write s.address n b)).state

    g : Steps s (entry (write_facts (view_of s) (compares_at n && in_standby (view_of s))) (written_view (view_of s) n b) 0) t
    g = subst (λ (m : Bool). Steps s (entry (write_facts (view_of s) (m && compares_at n && in_standby (view_of s))) (cond m (written_view (view_of s) n b) (view_of s)) 0) t)
        (mine s) (steps s (well s w) (Ok (Write s.address n b)) 0 refl)

    h : Steps s (entry (facts false false (compared_by s n) no_check false false) (view_of t) 0) t
    h = own s t (compared_by s n) false false (written_view (view_of s) n b) g (λ ch. refl) (λ ch. refl)

    at : (ch : Channel) → (is_fault (found_if (compared_by s n ch) (over (stored_of t) ch (channel_at t ch).value)) || is_fault (found_if (compared_by s n ch) (under (stored_of t) ch (channel_at t ch).value))) ≡ beyond s t n ch
    at ch = either (compared_by s n ch) (over (stored_of t) ch (channel_at t ch).value) (under (stored_of t) ch (channel_at t ch).value)

    latch : t.latch ≡ (s.latch || (beyond s t n Local || beyond s t n Remote))
    latch = h.latch ∙ rw (at Local, at Remote, or-false (beyond s t n Remote), and-true s.latch) (or_comm (beyond s t n Local || beyond s t n Remote) s.latch)

-- an event that compares nothing and is no alert response; the view keeps registers, values and conversions
module _ (s t : State) (reads : Bool) (v : View) (g : Steps s (entry (read_facts reads) v 0) t) (registers : v.registers ≡ stored_of s) (values : (ch : Channel) → v.value ch ≡ (channel_at s ch).value) (conversions : (ch : Channel) → v.converted ch ≡ (channel_at s ch).converted) where
  quiet : LeftBy v.pointer nothing reads s t × (t.latch ≡ s.latch) × Unwritten s t
  quiet =
      (left_by s t nothing reads false v g values conversions, g.latch ∙ and-true s.latch, unwritten s t nothing reads false v g values conversions (λ r. ap (λ (f : Register → ℕ). f r) registers))

pub read_leaves : ReadLeaves
read_leaves n s w e is =
    taken (λ left. LeftBy n nothing (eqb n 0x02) s left × (left.latch ≡ s.latch) × Unwritten s left) s w e (Read s.address n) is
    (quiet s t (eqb n 0x02) (pointed (view_of s) n) g refl (λ ch. refl) (λ ch. refl))
  where
    t : State
    t = (apply_of s (Read s.address n)).state

    g : Steps s (entry (read_facts (eqb n 0x02)) (pointed (view_of s) n) 0) t
    g = subst (λ (m : Bool). Steps s (entry (read_facts (m && eqb n 0x02)) (cond m (pointed (view_of s) n) (view_of s)) 0) t) (mine s)
        (steps s (well s w) (Ok (Read s.address n)) 0 refl)

pub receive_leaves : ReceiveLeaves
receive_leaves s w e is =
    taken (λ left. LeftBy s.pointer nothing (eqb s.pointer 0x02) s left × (left.latch ≡ s.latch) × Unwritten s left) s w e (Receive s.address) is
    (quiet s t (eqb s.pointer 0x02) (view_of s) g refl (λ ch. refl) (λ ch. refl))
  where
    t : State
    t = (apply_of s (Receive s.address)).state

    g : Steps s (entry (read_facts (eqb s.pointer 0x02)) (view_of s) 0) t
    g = subst (λ (m : Bool). Steps s (entry (read_facts (m && eqb s.pointer 0x02)) (view_of s) 0) t) (mine s)
        (steps s (well s w) (Ok (Receive s.address)) 0 refl)

pub send_leaves : SendLeaves
send_leaves n s w e is =
    taken (λ left. LeftBy n nothing false s left × (left.latch ≡ s.latch) × Unwritten s left) s w e (Send s.address n) is
    (quiet s t false (pointed (view_of s) n) g refl (λ ch. refl) (λ ch. refl))
  where
    t : State
    t = (apply_of s (Send s.address n)).state

    g : Steps s (entry no_facts (pointed (view_of s) n) 0) t
    g = subst (λ (m : Bool). Steps s (entry no_facts (cond m (pointed (view_of s) n) (view_of s)) 0) t) (mine s)
        (steps s (well s w) (Ok (Send s.address n)) 0 refl)

pub start_leaves : StartLeaves
start_leaves s w e is =
    taken (λ left. LeftBy s.pointer nothing false s left × (left.latch ≡ s.latch) × Unwritten s left) s w e Start is
    (quiet s (apply_of s Start).state false (started_view (view_of s)) (steps s (well s w) (Ok Start) 0 refl) refl (λ ch. refl) (λ ch. refl))

pub respond_leaves : RespondLeaves
respond_leaves s w e is =
    taken (λ left. LeftBy s.pointer nothing false s left × Unwritten s left) s w e Respond is
    (left_by s t nothing false true (view_of s) g (λ ch. refl) (λ ch. refl), unwritten s t nothing false true (view_of s) g (λ ch. refl) (λ ch. refl) (λ r. refl))
  where
    t : State
    t = (apply_of s Respond).state

    g : Steps s (entry ask_facts (view_of s) 0) t
    g = steps s (well s w) (Ok Respond) 0 refl
