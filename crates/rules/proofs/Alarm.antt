-- The chip's flags and latch agree with the history, event by event; so for every sequence of events. Assumes nothing.
use Prim.Native.Nat.{ℕ, ◌+◌, ◌≤◌, ◌<◌}
use native.Mathlib.Omega.{arith}
use mathlib.Core.Path.{◌≡◌, refl, subst, sym, ap, ◌∙◌}
use mathlib.Core.Bool.{Bool, true, false, cond, ◌&&◌, not, and_assoc, and-true, or-false, or-true}
use mathlib.Core.List.{List, [], ◌∷◌, map}
use lib.Dec.{leb, ltb}
use lib.IntN.{ℤ}
use lib.IntN.ℤ.{pos, negsuc}
use borrow.Author.Tests.{le-leb, le-ltb, ltb-false, ltb-true}
use Rattle.rules.specs.declared.answer.Answer.{Answer}
use Rattle.rules.specs.declared.answer.Code.TheVariants.{Done, Unheard}
use Rattle.rules.specs.declared.event.Numbers.{Numbers}
use Rattle.rules.specs.declared.register.Channel.{Channel}
use Rattle.rules.specs.declared.register.Register.TheVariants.{Consecutive}
use Rattle.rules.specs.declared.state.ChannelState.{ChannelState}
use Rattle.rules.specs.declared.state.Given.{Given}
use Rattle.rules.specs.declared.state.Mark.{Mark}
use Rattle.rules.specs.declared.state.State.{State}
use Rattle.rules.specs.Alarm.{Always, Demand, NoAlarmLost, ResetBeginsAnew, Shows, count, history_from, history_of, next, state_of, finding_at, finding_of, finds_limit, in_arow, in_therm2, is_fault, latched, latest, line_free, needs, clearing_reads_that_showed, spells_opened, stands, view_of}
use Rattle.rules.specs.Bits.{bit}
use Rattle.rules.specs.Channels.{any, any_channel}
use Rattle.rules.specs.Codes.{number_of}
use Rattle.rules.specs.Comparisons.{Comparator}
use Rattle.rules.specs.Comparisons.Comparator.{Therm, Therm2}
use Rattle.rules.specs.Configuration.{chooses_therm2, masked}
use Rattle.rules.specs.Event.{check_of}
use Rattle.rules.specs.History.{Entry, Facts, Finding, History, View, begun, did_of, entry_of, now, read_facts, with_event}
use Rattle.rules.specs.History.Finding.{MadeNone, FoundNothing, FoundFault}
use Rattle.rules.specs.Hot.{hot, hot_after}
use Rattle.rules.specs.Lines.{alert_low, pin_line, pin_low, therm2_low}
use Rattle.rules.specs.PowerOn.{is_address, made_at, made_of, new_channel, new_rest, no_mark, no_state, power_on}
use Rattle.rules.specs.Rows.{row_of}
use Rattle.rules.specs.Runs.{needed_of, ones, runs_of}
use Rattle.rules.specs.State.{channel_at, given_of}
use Rattle.rules.specs.Status.{Fault, Flag, any_flag, flag_at, flags, mark_at, mark_of, place_of, shown_of}
use Rattle.rules.specs.Status.Fault.{Above, Below, Open}
use Rattle.rules.specs.Step.{after, answer_of, apply_of, checked_of, last_from, refused, responded, respond_of, response_of, step_of}
use Rattle.rules.specs.WellFormed.{well_formed}
use Rattle.rules.proofs.Answers.{answer_has}
use Rattle.rules.proofs.Kept.{given_kept, reset_state, status_done, status_only}
use Rattle.rules.proofs.NeverSix.{after_well}
use Rattle.rules.proofs.Rows.{channels_back}
use Rattle.rules.proofs.Status.{status_bit}
use Rattle.rules.proofs.Steps.{Steps, by_finding, entry, power_view, steps, tripped}
use Rattle.rules.proofs.WellFormed.{fresh_well_formed, steps_well_formed, well}

-- ---- One latched flag ----

-- a mark as the history has it, and its spells
pub record Holds (f : Flag) (m : Mark) (h : History) : Type 0 where
  pub flag : m.flag ≡ stands f h
  pub found : m.found ≡ is_fault (latest f h)
  pub spells : spells_opened f h ≡ clearing_reads_that_showed f h + count (stands f h)

module _ {f : Flag} {m : Mark} {h : History} (g : Holds f m h) (x : Entry) where
  -- an event that compares, or does not
  compared : (k : Finding) → finding_of f x ≡ k → x.facts.status_read ≡ false → Holds f (by_finding k m) (x ∷ h)
  unfolding stands latest spells_opened clearing_reads_that_showed
  compared MadeNone made unread =
      record { flag = rw (made, unread, and-true (stands f h)) g.flag; found = rw made g.found; spells = rw (made, unread, and-true (stands f h)) (omega (arith, g.spells)) }
  compared FoundFault made unread =
      record { flag = rw made (or-true m.flag); found = rw made; spells = rw (made, unread) (one (stands f h) g.spells) }
    where
      one : (b : Bool) → spells_opened f h ≡ clearing_reads_that_showed f h + count b → count (not b) + spells_opened f h ≡ 0 + clearing_reads_that_showed f h + 1
      one true e = omega (arith, e)
      one false e = omega (arith, e)
  compared FoundNothing made unread =
      record { flag = rw (made, unread, and-true (stands f h)) (or-false m.flag ∙ g.flag); found = rw made; spells = rw (made, unread, and-true (stands f h)) (omega (arith, g.spells)) }

  -- a status read that showed the flag
  read : finding_of f x ≡ MadeNone → x.facts.status_read ≡ true → bit (place_of f) x.reply ≡ m.flag → Holds f (shown_of m) (x ∷ h)
  unfolding stands latest spells_opened clearing_reads_that_showed
  read none reads shown =
      record {
        flag = rw (none, reads, g.flag, g.found) (by (is_fault (latest f h)));
        found = rw none g.found;
        spells = rw (none, reads) (tally (is_fault (latest f h)) (stands f h) (shown ∙ g.flag) g.spells);
      }
    where
      by : (t : Bool) → stands f h && t ≡ stands f h && not (not t)
      by true = refl
      by false = refl

      tally : (t b : Bool) → bit (place_of f) x.reply ≡ b → spells_opened f h ≡ clearing_reads_that_showed f h + count b → 0 + spells_opened f h ≡ count (not t && bit (place_of f) x.reply) + clearing_reads_that_showed f h + count (b && not (not t))
      tally true true e n = omega (arith, n)
      tally true false e n = omega (arith, n)
      tally false true e n = rw e (omega (arith, n))
      tally false false e n = rw e (omega (arith, n))

-- ---- The run count and the needed number ----

abbrev held : ℕ → ℕ
held n = cond (ltb n 4) n 4

held_next : (n : ℕ) (fault : Bool) → runs_of (held n) fault ≡ held (cond fault (n + 1) 0)
held_next n true = by (ltb n 4) refl
  where
    by : (t : Bool) → ltb n 4 ≡ t → cond (ltb (cond t n 4) 4) (cond t n 4 + 1) 4 ≡ held (n + 1)
    by true e = last (ltb (n + 1) 4) refl
      where
        last : (u : Bool) → ltb (n + 1) 4 ≡ u → cond (ltb n 4) (n + 1) 4 ≡ cond u (n + 1) 4
        last true q = rw e
        last false q = rw e (let p : n < 4 = ltb-true n 4 e in let r : 4 ≤ n + 1 = ltb-false (n + 1) 4 q in omega arith)
    by false e = let p : 4 ≤ n = ltb-false n 4 e in rw (le-ltb (n + 1) 4 (omega arith))
held_next n false = refl

held_reached : (k n : ℕ) → k ≤ 4 → leb k (held n) ≡ leb k n
held_reached k n small = by (ltb n 4) refl
  where
    by : (t : Bool) → ltb n 4 ≡ t → leb k (cond t n 4) ≡ leb k n
    by true e = refl
    by false e = let p : 4 ≤ n = ltb-false n 4 e in le-leb k 4 small ∙ sym (le-leb k n (omega arith))

-- the two ways of counting the needed number agree, and it is 4 at the most
pub needs_same : (b : ℕ) → (needed_of b ≡ needs b) × (needs b ≤ 4)
unfolding needed_of
needs_same b = by (bit 1 b) (bit 2 b) (bit 3 b)
  where
    by : (x y z : Bool) → (1 + ones (x ∷ y ∷ z ∷ []) ≡ cond x (cond y (cond z 4 3) 2) 1) × (cond x (cond y (cond z 4 3) 2) 1 ≤ 4)
    by true true true = (refl, omega arith)
    by true true false = (refl, omega arith)
    by true false z = (refl, omega arith)
    by false y z = (refl, omega arith)

-- ---- The whole state ----

pub record Agrees (s : State) (h : History) : Type 0 where
  pub seen : view_of s ≡ now s.address h
  pub marks : (f : Flag) → Holds f (mark_at s f) h
  pub counted : s.runs ≡ held (in_arow h)
  pub latching : s.latch ≡ latched h
  pub hots : (ch : Channel) (k : Comparator) → tripped (channel_at s ch) k ≡ hot k ch h

module _ {s t : State} {x : Entry} {h : History} (g : Agrees s h) (e : Steps s x t) where
  any_stands : any_flag s ≡ any (map (λ f. stands f h) flags)
  any_stands = ap (λ (p : Flag → Bool). any (map p flags)) (λ i f. (g.marks f).flag i)

  counted_on : t.runs ≡ held (in_arow (x ∷ h))
  unfolding in_arow
  counted_on = e.runs ∙ by x.facts.ended
    where
      by : (b : Bool) → cond b (runs_of s.runs (finds_limit x)) s.runs ≡ held (cond b (cond (finds_limit x) (in_arow h + 1) 0) (in_arow h))
      by true = rw g.counted (held_next (in_arow h) (finds_limit x))
      by false = g.counted

  latched_on : t.latch ≡ latched (x ∷ h)
  unfolding latched
  latched_on =
      let k = x.seen.registers Consecutive in
      e.latch
      ∙ rw (counted_on, (needs_same k).0, held_reached (needs k) (in_arow (x ∷ h)) (needs_same k).1, g.latching, any_stands)

  hot_on : (ch : Channel) (k : Comparator) → tripped (channel_at t ch) k ≡ hot k ch (x ∷ h)
  unfolding hot
  hot_on ch k = e.therms ch k ∙ ap (hot_after x k ch) (g.hots ch k)

  -- every flag, whether the event compares or is a status read that showed it
  marks_on : ((f : Flag) → x.facts.status_read ≡ true → (finding_of f x ≡ MadeNone) × (bit (place_of f) x.reply ≡ flag_at s f)) → (f : Flag) → Holds f (mark_at t f) (x ∷ h)
  marks_on shown f =
      subst (λ (m : Mark). Holds f m (x ∷ h)) (sym (e.mark f.channel f.fault)) (by x.facts.status_read refl)
    where
      by : (r : Bool) → x.facts.status_read ≡ r → Holds f (cond r (shown_of (mark_at s f)) (by_finding (finding_of f x) (mark_at s f))) (x ∷ h)
      by true q = read (g.marks f) x (shown f q).0 q (shown f q).1
      by false q = compared (g.marks f) x (finding_of f x) refl q

-- ---- Every event, and every sequence of them ----

none_yet : (f : Flag) (m : Mark) → m.flag ≡ false → m.found ≡ false → Holds f m []
unfolding stands latest spells_opened clearing_reads_that_showed
none_yet f m e d = record { flag = e; found = d; spells = refl }

powered_agrees : (g : Given) → Agrees (power_on g) []
unfolding in_arow latched hot
powered_agrees g =
    record {
      seen = power_view g;
      marks = marks;
      counted = refl;
      latching = refl;
      hots = λ ch k. ap (λ (c : Channel → ChannelState). tripped (c ch) k) (channels_back g new_rest (λ r. (row_of r).start) (λ ch. new_channel)) ∙ cold k;
    }
  where
    clear : (k : Fault) → mark_of new_channel k ≡ no_mark
    clear Above = refl
    clear Below = refl
    clear Open = refl

    cold : (k : Comparator) → tripped new_channel k ≡ false
    cold Therm = refl
    cold Therm2 = refl

    marks : (f : Flag) → Holds f (mark_at (power_on g) f) []
    marks f =
        subst (λ (m : Mark). Holds f m []) (sym (ap (λ (c : Channel → ChannelState). mark_of (c f.channel) f.fault) (channels_back g new_rest (λ r. (row_of r).start) (λ ch. new_channel)) ∙ clear f.fault))
        (none_yet f no_mark refl refl)

module _ (s : State) (h : History) (w : well_formed s ≡ true) (g : Agrees s h) (n : Numbers) where
  abbrev reply : ℕ
  reply = (step_of s n).reply

  -- the entry by what the state shows, which is what the history has seen
  abbrev noted : Entry
  noted = entry_of (view_of s) (check_of n) reply

  -- a status read found nothing, and showed each flag
  noted_shown : (f : Flag) → noted.facts.status_read ≡ true → (finding_of f noted ≡ MadeNone) × (bit (place_of f) reply ≡ flag_at s f)
  noted_shown f e = (
    subst (λ (x : Facts). finding_of f (entry x noted.seen reply) ≡ MadeNone) (sym (status_only (view_of s) (check_of n) e)) (none f.fault),
    ap (bit (place_of f)) (status_done s w n e).1 ∙ status_bit s (well s w) f.channel f.fault,
  )
    where
      none : (k : Fault) → finding_at (entry (read_facts true) noted.seen reply) f.channel k ≡ MadeNone
      none Above = refl
      none Below = refl
      none Open = refl

  stepped : step_of s n ≡ checked_of s (check_of n)
  unfolding step_of
  stepped = rw w

  on : noted.facts.reset ≡ false → Agrees (step_of s n).state (noted ∷ h)
  on e =
      let steps_on : Steps s noted (step_of s n).state = subst (λ (x : Answer). Steps s noted x.state) (sym stepped) (steps s (well s w) (check_of n) reply e) in
      record { seen = steps_on.seen; marks = marks_on g steps_on noted_shown; counted = counted_on g steps_on; latching = latched_on g steps_on; hots = hot_on g steps_on }

  from_noted : Agrees (step_of s n).state (begun noted h)
  from_noted = by noted.facts.reset refl
    where
      by : (t : Bool) → noted.facts.reset ≡ t → Agrees (step_of s n).state (cond t [] (noted ∷ h))
      by true e = subst (λ (x : State). Agrees x []) (sym (reset_state s w n e)) (powered_agrees (given_of s))
      by false e = on e

  pub one_more : Agrees (step_of s n).state (with_event s.address h n reply)
  one_more =
      subst (λ (v : View). Agrees (step_of s n).state (begun (entry_of v (check_of n) reply) h)) g.seen from_noted

-- the state after events is by the state alone
pub last_state : (es : List Numbers) (x y : Answer) → x.state ≡ y.state → (last_from x es).state ≡ (last_from y es).state
unfolding last_from
last_state [] x y e = e
last_state (f ∷ es) x y e = ap (λ (s : State). (last_from (step_of s f) es).state) e

pub after_one : (s : State) (e : Numbers) (es : List Numbers) → after s (e ∷ es) ≡ after (step_of s e).state es
unfolding last_from
after_one s e es = last_state es (step_of s e) (answer_of Done 0 (step_of s e).state) refl

pub all_more : (es : List Numbers) (s : State) (h : History) → well_formed s ≡ true → Agrees s h → Agrees (after s es) (history_from s.address h s es)
unfolding history_from last_from
all_more [] s h w g = g
all_more (e ∷ es) s h w g =
    let t = (step_of s e).state in
    let k = with_event s.address h e (step_of s e).reply in
    let same : t.address ≡ s.address = ap (λ (x : Given). x.address) (given_kept s e) in
    subst (λ (u : State). Agrees u (history_from s.address k t es)) (sym (after_one s e es))
    (subst (λ (a : ℕ). Agrees (after t es) (history_from a k t es)) same
    (all_more es t k (steps_well_formed s e w) (one_more s h w g e)))

fresh : (address : ℤ) → (made_of address).code ≡ Done → Agrees (made_of address).state []
fresh (pos a) made = by (is_address a) made
  where
    by : (t : Bool) → (cond t (made_at a) no_state).code ≡ Done → Agrees (cond t (made_at a) no_state).state []
    by true e = powered_agrees (record { address = a })
    by false e = absurd (omega (arith, ap number_of e))
fresh (negsuc n) made = absurd (omega (arith, ap number_of made))

-- a chip that was just powered on, and whatever it was sent
pub agrees : Always Agrees
agrees address made es = all_more es (made_of address).state [] (fresh_well_formed address made) (fresh address made)

-- ---- The claims ----

demand : (s : State) (h : History) → Agrees s h → Demand s h
demand s h g =
    record { seen = g.seen; stand = λ f. (g.marks f).flag; spells = λ f. (g.marks f).spells; latch = g.latching }

-- ALERT by the latch and what is seen of the configuration
pub line : (s : State) (h : History) → Agrees s h → alert_low s ≡ (latched h && line_free (now s.address h))
line s h g =
    rw (← g.latching, ← g.seen) (and_assoc s.latch (not (masked s.config)) (not (chooses_therm2 s.config)))

-- pin 6 by its role
pub pin : (s : State) (h : History) → Agrees s h → pin_low s ≡ cond (in_therm2 (now s.address h)) (any_channel (λ ch. hot Therm2 ch h)) (latched h && line_free (now s.address h))
pin s h g =
    ap (λ (v : View). cond (in_therm2 v) (therm2_low s) (alert_low s)) g.seen
    ∙ ap (cond (in_therm2 (now s.address h)) (therm2_low s)) (line s h g)
    ∙ ap (λ (p : Channel → Bool). cond (in_therm2 (now s.address h)) (any_channel p) (latched h && line_free (now s.address h))) (λ i ch. g.hots ch Therm2 i)

-- an answer's line is its state's
answer_line : (s : State) (n : Numbers) → (step_of s n).alert ≡ pin_line (step_of s n).state
answer_line s n =
    answer_has (λ (x : Answer). x.alert ≡ pin_line x.state) s (λ code. refl) n (λ e is taken. refl)

answered : (s : State) (t : Bool) → (cond t (answer_of Done (response_of s.address) (responded s)) (refused Unheard s)).code ≡ cond t Done Unheard
answered s true = refl
answered s false = refl

pub shows : (s : State) (h : History) → well_formed s ≡ true → Agrees s h → Shows s h
unfolding step_of apply_of respond_of
shows s h w g =
    record {
      reads = λ e read.
          let is = subst (λ (v : View). (did_of v (check_of e)).status_read ≡ true) (sym g.seen) read in
          ((status_done s w e is).0, λ f. (noted_shown s h w g e f is).1 ∙ (g.marks f).flag);
      responses = rw w (answered s (alert_low s) ∙ ap (λ (t : Bool). cond t Done Unheard) (line s h g));
      pin_alert = λ e role. answer_line s e ∙ ap not (after_event e) ∙ rw role;
      pin_therm2 = λ e role. answer_line s e ∙ ap not (after_event e) ∙ rw role;
    }
  where
    after_event : (e : Numbers) → let k = next s h e in pin_low (step_of s e).state ≡ cond (in_therm2 (now s.address k)) (any_channel (λ ch. hot Therm2 ch k)) (latched k && line_free (now s.address k))
    after_event e =
        let k = next s h e in
        pin (step_of s e).state k (one_more s h w g e)
        ∙ ap (λ (x : Given). cond (in_therm2 (now x.address k)) (any_channel (λ ch. hot Therm2 ch k)) (latched k && line_free (now x.address k))) (given_kept s e)

pub no_alarm_lost : NoAlarmLost
no_alarm_lost address made es =
    let s = state_of address es in
    let h = history_of address es in
    let g = agrees address made es in
    (demand s h g, shows s h (after_well es (answer_of Done 0 (made_of address).state) (fresh_well_formed address made)) g)

pub reset_begins_anew : ResetBeginsAnew
unfolding step_of apply_of
reset_begins_anew s w h e is =
    let known = (well s w).address in
    rw (is, w, known) (refl, refl, refl)
