-- What a firmware lead would look for, from the agreement of state and history. Assumes nothing.
use Prim.Native.Nat.{◌-◌}
use mathlib.Core.Path.{◌≡◌, refl, sym, subst, ap, ◌∙◌}
use mathlib.Core.Bool.{Bool, true, false, cond, ◌&&◌, ◌||◌, not, or-true}
use mathlib.Core.List.{List, [], ◌∷◌}
use lib.Dec.{eqb, leb}
use lib.IntN.{ℤ}
use borrow.Author.Tests.{eq-eqb}
use Rattle.rules.specs.declared.answer.Answer.{Answer}
use Rattle.rules.specs.declared.answer.Code.TheVariants.{Done}
use Rattle.rules.specs.declared.event.Numbers.{Numbers}
use Rattle.rules.specs.declared.register.Channel.{Channel}
use Rattle.rules.specs.declared.register.Register.TheVariants.{Config}
use Rattle.rules.specs.declared.state.Given.{Given}
use Rattle.rules.specs.declared.state.State.{State}
use Rattle.rules.specs.Alarm.{finding_at, finds, in_therm2, is_fault, latched, latest, limit_found, line_free, sets, stands, state_of, history_of, next, reads_next, history_from}
use Rattle.rules.specs.Assured.{AlertStaysLow, FaultsShown, NoneInvented, StandbyFault, StandbyLimitAlerts, StandbyLimitShown, Therm2Pulls, beyond, clears_latch_now, finds_now, next_all, resets_next, sets_now, uncleared, unread}
use Rattle.rules.specs.Bits.{bit}
use Rattle.rules.specs.Comparisons.{above_of, limits_of}
use Rattle.rules.specs.Comparisons.Comparator.{Therm2}
use Rattle.rules.specs.Configuration.{chooses_therm2, masked}
use Rattle.rules.specs.Event.{check_of}
use Rattle.rules.specs.History.{Entry, Facts, History, View, begun, compares_at, did_of, entry_of, found_if, in_standby, now, seen_after, write_facts}
use Rattle.rules.specs.Hot.{hot}
use Rattle.rules.specs.Lines.{alert_low, pin_line, pin_low, therm2_low}
use Rattle.rules.specs.PowerOn.{made_of}
use Rattle.rules.specs.State.{given_of}
use Rattle.rules.specs.Status.{Fault, Flag, flag_for, place_of}
use Rattle.rules.specs.Status.Fault.{Above, Below, Open}
use Rattle.rules.specs.Step.{after, answer_of, last_from, step_of}
use Rattle.rules.specs.WellFormed.{well_formed}
use Rattle.rules.proofs.Alarm.{Agrees, agrees, all_more, line, one_more, shows}
use Rattle.rules.proofs.Kept.{given_kept}
use Rattle.rules.proofs.Lists.{left, no, not-true, right}
use Rattle.rules.proofs.NeverSix.{after_well}
use Rattle.rules.proofs.Rows.{any_channel_lem}
use Rattle.rules.proofs.WellFormed.{fresh_well_formed, steps_well_formed}

-- ---- A flag stands on, and so does the latch ----

found_stands : (f : Flag) (h : History) → finds_now f h ≡ true → stands f h ≡ true
unfolding stands
found_stands f [] e = no e
found_stands f (x ∷ h) e = rw e

set_latches : (h : History) → sets_now h ≡ true → latched h ≡ true
unfolding latched
set_latches [] e = no e
set_latches (x ∷ h) e = rw e

-- while no status is read,
stands_on : (f : Flag) (x : Entry) (h : History) → x.facts.reset ≡ false → x.facts.status_read ≡ false → stands f h ≡ true → stands f (begun x h) ≡ true
unfolding stands
stands_on f x h kept deaf e = by x.facts.reset kept
  where
    on : (r : Bool) → r ≡ false → finds f x || (stands f h && not (r && not (is_fault (latest f h)))) ≡ true
    on true q = no (sym q)
    on false q = rw e (or-true (finds f x))

    by : (t : Bool) → t ≡ false → stands f (cond t [] (x ∷ h)) ≡ true
    by true p = no (sym p)
    by false p = on x.facts.status_read deaf

still_stands : (f : Flag) (later : List Numbers) (s : State) (h : History) → stands f h ≡ true → unread s h later ≡ true → stands f (next_all s h later) ≡ true
unfolding history_from unread
still_stands f [] s h e u = e
still_stands f (n ∷ later) s h e u =
    let t = (step_of s n).state in
    let k = next s h n in
    let calm = left (not (resets_next s h n) && not (reads_next s h n)) (unread t k later) u in
    let kept = not-true (resets_next s h n) (left (not (resets_next s h n)) (not (reads_next s h n)) calm) in
    let deaf = not-true (reads_next s h n) (right (not (resets_next s h n)) (not (reads_next s h n)) calm) in
    let on = still_stands f later t k (stands_on f (entry_of (now s.address h) (check_of n) (step_of s n).reply) h kept deaf e) (right (not (resets_next s h n) && not (reads_next s h n)) (unread t k later) u) in
    subst (λ (g : Given). stands f (history_from g.address k t later) ≡ true) (given_kept s n) on

-- and while no alert response clears it
latched_on : (x : Entry) (h : History) → x.facts.reset ≡ false → clears_latch_now (begun x h) ≡ false → latched h ≡ true → latched (begun x h) ≡ true
unfolding latched
latched_on x h kept held e = by x.facts.reset kept held
  where
    by : (t : Bool) → t ≡ false → clears_latch_now (cond t [] (x ∷ h)) ≡ false → latched (cond t [] (x ∷ h)) ≡ true
    by true p q = no (sym p)
    by false p q = rw (q, e) (or-true (sets x h))

still_latched : (later : List Numbers) (s : State) (h : History) → latched h ≡ true → uncleared s h later ≡ true → latched (next_all s h later) ≡ true
unfolding history_from uncleared
still_latched [] s h e u = e
still_latched (n ∷ later) s h e u =
    let t = (step_of s n).state in
    let k = next s h n in
    let calm = left (not (resets_next s h n) && not (clears_latch_now k)) (uncleared t k later) u in
    let kept = not-true (resets_next s h n) (left (not (resets_next s h n)) (not (clears_latch_now k)) calm) in
    let held = not-true (clears_latch_now k) (right (not (resets_next s h n)) (not (clears_latch_now k)) calm) in
    let on = still_latched later t k (latched_on (entry_of (now s.address h) (check_of n) (step_of s n).reply) h kept held e) (right (not (resets_next s h n) && not (clears_latch_now k)) (uncleared t k later) u) in
    subst (λ (g : Given). latched (history_from g.address k t later) ≡ true) (given_kept s n) on

-- ---- From a state that agrees with its history ----

-- ALERT low is pin 6 low: bit 5 is 0
low_pin : (s : State) → alert_low s ≡ true → pin_low s ≡ true
low_pin s e = by (chooses_therm2 s.config) (not-true (chooses_therm2 s.config) (right (s.latch && not (masked s.config)) (not (chooses_therm2 s.config)) e))
  where
    by : (role : Bool) → role ≡ false → cond role (therm2_low s) (alert_low s) ≡ true
    by true q = no (sym q)
    by false q = e

-- whatever is given with the address is kept by every event
all_given : (es : List Numbers) (x : Answer) → given_of (last_from x es).state ≡ given_of x.state
unfolding last_from
all_given [] x = refl
all_given (e ∷ es) x = all_given es (step_of x.state e) ∙ given_kept x.state e

module _ (s : State) (h : History) (w : well_formed s ≡ true) (g : Agrees s h) where
  later_well : (later : List Numbers) → well_formed (after s later) ≡ true
  later_well later = after_well later (answer_of Done 0 s) w

  shown_later : (later : List Numbers) (r : Numbers) (f : Flag) → stands f h ≡ true → unread s h later ≡ true → reads_next (after s later) (next_all s h later) r ≡ true → bit (place_of f) (step_of (after s later) r).reply ≡ true
  shown_later later r f found calm read =
      ((shows (after s later) (next_all s h later) (later_well later) (all_more later s h w g)).reads r read).1 f ∙ still_stands f later s h found calm

  low_later : (later : List Numbers) → latched h ≡ true → uncleared s h later ≡ true → line_free (now s.address (next_all s h later)) ≡ true → (alert_low (after s later) ≡ true) × (pin_line (after s later) ≡ false)
  low_later later set kept free =
      let k = next_all s h later in
      let at : line_free (now (after s later).address k) ≡ true = subst (λ (x : Given). line_free (now x.address k) ≡ true) (sym (all_given later (answer_of Done 0 s))) free in
      let low : alert_low (after s later) ≡ true = line (after s later) k (all_more later s h w g) ∙ rw (still_latched later s h set kept, at) in
      (low, ap not (low_pin (after s later) low))

  -- a limit written in standby
  module _ (e : Numbers) (ch : Channel) (k : Fault) (p : StandbyFault s h e ch k) where
    abbrev before : View
    before = now s.address h

    abbrev flag : Flag
    flag = record { channel = ch; fault = k }

    abbrev entry_with : Facts → Entry
    entry_with x = record { facts = x; seen = seen_after before (check_of e); reply = (step_of s e).reply }

    abbrev with : Facts → History
    with x = begun (entry_with x) h

    its_facts : did_of before (check_of e) ≡ write_facts before true
    its_facts =
        let own : before.address ≡ s.address = ap (λ (v : View). v.address) (sym g.seen) in
        let all : eqb s.address before.address && compares_at p.command && in_standby before ≡ true = rw (own, eq-eqb s.address s.address refl, p.compares, p.standby) in
        ap (did_of before) p.form ∙ ap (write_facts before) all

    it_finds : finds_now flag (next s h e) ≡ true
    it_finds =
        subst (λ (x : Facts). beyond (now s.address (with x)) ch k ≡ true → finds_now flag (with x) ≡ true) (sym its_facts) (by k) p.over
      where
        by : (k : Fault) → beyond (seen_after before (check_of e)) ch k ≡ true → finds_now (record { channel = ch; fault = k }) (with (write_facts before true)) ≡ true
        by Above over = rw (p.converted, over)
        by Below over = rw (p.converted, over)
        by Open over = no over

    it_sets : sets_now (next s h e) ≡ true
    it_sets =
        subst (λ (x : Facts). finds_now flag (with x) ≡ true → sets_now (with x) ≡ true) (sym its_facts) (λ found. any_channel_lem (limit_found (entry_with (write_facts before true))) ch (by k found)) it_finds
      where
        by : (k : Fault) → finds_now (record { channel = ch; fault = k }) (with (write_facts before true)) ≡ true → limit_found (entry_with (write_facts before true)) ch ≡ true
        by Above found = rw found
        by Below found = rw found (or-true (is_fault (finding_at (entry_with (write_facts before true)) ch Above)))
        by Open found = no found

-- ---- The claims ----

module _ (address : ℤ) (made : (made_of address).code ≡ Done) (es : List Numbers) where
  well_now : well_formed (state_of address es) ≡ true
  well_now = after_well es (answer_of Done 0 (made_of address).state) (fresh_well_formed address made)

pub faults_shown : FaultsShown
faults_shown address made es later r f found =
    shown_later (state_of address es) (history_of address es) (well_now address made es) (agrees address made es) later r f (found_stands f (history_of address es) found)

pub none_invented : NoneInvented
none_invented address made es r f read quiet =
    ((shows (state_of address es) (history_of address es) (well_now address made es) (agrees address made es)).reads r read).1 f ∙ quiet

pub alert_stays_low : AlertStaysLow
alert_stays_low address made es later set =
    low_later (state_of address es) (history_of address es) (well_now address made es) (agrees address made es) later (set_latches (history_of address es) set)

pub standby_limit_shown : StandbyLimitShown
standby_limit_shown address made es e ch k p later r =
    let s = state_of address es in
    let h = history_of address es in
    let w = well_now address made es in
    let g = agrees address made es in
    shown_later (step_of s e).state (next s h e) (steps_well_formed s e w) (one_more s h w g e) later r (record { channel = ch; fault = k })
    (found_stands (record { channel = ch; fault = k }) (next s h e) (it_finds s h w g e ch k p))

pub standby_limit_alerts : StandbyLimitAlerts
standby_limit_alerts address made es e ch k p free =
    let s = state_of address es in
    let h = history_of address es in
    let w = well_now address made es in
    let g = agrees address made es in
    (shows s h w g).pin_alert e (not-true (in_therm2 (now s.address (next s h e))) (right (not (bit 7 ((now s.address (next s h e)).registers Config))) (not (in_therm2 (now s.address (next s h e)))) free))
    ∙ rw (set_latches (next s h e) (it_sets s h w g e ch k p), free)

-- what a comparison finds above the high limit sets the mark
found_trips : (ch : Channel) (h : History) → finds_now (flag_for ch Above) h ≡ true → hot Therm2 ch h ≡ true
unfolding hot
found_trips ch [] e = no e
found_trips ch (x ∷ h) e =
    by (x.facts.compared ch) (above_of (limits_of x.seen.registers ch).high (x.seen.value ch)) e
  where
    by : (made above : Bool) → is_fault (found_if made above) ≡ true → cond made (cond above true (cond (leb (x.seen.value ch) ((limits_of x.seen.registers ch).high - (limits_of x.seen.registers ch).hysteresis)) false (hot Therm2 ch h))) (hot Therm2 ch h) ≡ true
    by true true q = refl
    by true false q = no q
    by false above q = no q

pub therm2_pulls : Therm2Pulls
therm2_pulls address made es e ch found role =
    let s = state_of address es in
    let h = history_of address es in
    (shows s h (well_now address made es) (agrees address made es)).pin_therm2 e role
    ∙ ap not (any_channel_lem (λ c. hot Therm2 c (next s h e)) ch (found_trips ch (next s h e) found))
