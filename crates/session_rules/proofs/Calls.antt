-- What is claimed of portions one after the other, by the invariant of a session that calls have reached. Assumes nothing.
use Rattle.std.specs.Prelude.{Ok, Err}
use Prim.Native.Nat.{ℕ, min, ◌+◌, ◌-◌, ◌≤◌, ◌<◌}
use native.Mathlib.Omega.{arith}
use mathlib.Core.Path.{◌≡◌, refl, sym, ap, subst, ◌∙◌}
use mathlib.Core.Logic.{◌⊎◌, inl, inr, ⊎_elim}
use mathlib.Core.Bool.{Bool, cond, true, false, ◌||◌, or-false, or-true}
use mathlib.Core.List.{List, [], ◌∷◌, ◌++◌, append_assoc, append-nil, map}
use lib.Dec.{eqb, ltb}
use lib.IntN.{ℤ}
use lib.ListN.{length, drop, take, length-append, length-take, take-append-drop}
use lib.Seq.{drop_at, take-add, take_all, take-take}
use borrow.Author.Tests.{ltb-true, ne_eqb}
use Rattle.rules.specs.declared.state.State.{State}
use Rattle.rules.specs.Alarm.{Demand, Shows}
use Rattle.rules.specs.PowerOn.{made_of}
use Rattle.text_rules.specs.declared.record.Record.{Record}
use Rattle.text_rules.specs.declared.record.Unread.TheVariants.{Part, Malformed}
use Rattle.text_rules.specs.Record.{record_of}
use Rattle.text_rules.proofs.More.{refusal_stays}
use Rattle.replay_rules.specs.Alarms.{history_at, run_at}
use Rattle.replay_rules.specs.Play.{Run, answer_to, run_of, text_of}
use Rattle.blocks.specs.Blocks.{word}
use Rattle.replay_rules.specs.Replay.{report_of}
use Rattle.replay_rules.specs.Room.{room_of}
use Rattle.replay_rules.proofs.Alarms.{replay_no_alarm_lost}
use Rattle.replay_rules.proofs.Room.{no_eight}
use Rattle.session_rules.specs.declared.session.Session.{Session}
use Rattle.session_rules.specs.Session.{carried_of, is_session, opened_of}
use Rattle.session_rules.specs.Portion.{Feed, report_after, stopped_at}
use Rattle.session_rules.specs.Calls.{BadAtOnce, Call, CutsAreTheTrace, EightMeans, EndIsWhole, EveryMoment, GetsOn, HoweverCut, Offer, OneReplay, RoomEnough, SessionNoAlarmLost, StaysSession, Waiting, answers_at, calls_at, calls_of, fed, last_at, offered, opened, session_after, session_at, taken_after, taken_at}
use Rattle.session_rules.proofs.Course.{after, after_halt, course, halt, run_lacks, same_run}
use Rattle.session_rules.proofs.Course.Lacking.{Never}
use Rattle.session_rules.proofs.Courses.{course_more, course_room, sizes, text_size}
use Rattle.session_rules.proofs.Ways.{Way, moved, moved_back, part_nil}
use Rattle.session_rules.proofs.Ways.Way.{Through, Waits, Bad, Full}
use Rattle.session_rules.proofs.Sessions.{Given, Held, Open, carried_size, given, held, is_held, not_ended}
use Rattle.session_rules.proofs.Sessions.Given.{Refused, Looked}
use Rattle.session_rules.proofs.Sessions.Why.{Strange, Late, Again, Over, Not}
use Rattle.session_rules.proofs.Reached.{Reached, answers_fit, fed_reached, join, now, reached, stand, taken_size}

pub every_moment : EveryMoment
every_moment address e cs room h =
    let k = reached address e cs in
    let s = session_at address cs in
    let q : run_at address (taken_at address cs) room ≡ stand s (answers_at address cs) (cond (eqb s.count 0) 0 7) = now k room (answers_fit k room h) in
    record {
      answers = ap (λ (p : Run). p.text) q;
      chip = ap (λ (p : Run). p.state) q;
      records = ap (λ (p : Run). p.records) q;
      used = ap (λ (p : Run). p.used) q;
      written = k.written;
      carried = ap (drop s.used) k.whole ∙ drop_at k.through (carried_of s) s.used k.size;
      size = omega (arith, taken_size k, k.held.total);
    }

pub stays_session : StaysSession
stays_session address e cs = is_held (session_at address cs) (reached address e cs).held

pub session_no_alarm_lost : SessionNoAlarmLost
session_no_alarm_lost address e cs room h =
    let m = every_moment address e cs room h in
    let lost = replay_no_alarm_lost address e (taken_at address cs) room in
    record {
      demand = subst (λ (t : State). Demand t (history_at address (taken_at address cs) room)) m.chip lost.demand;
      shows = subst (λ (t : State). Shows t (history_at address (taken_at address cs) room)) m.chip lost.shows;
    }

-- ---- At the end ----

-- a call that is not refused by 9 and leaves the end declared takes all, and gives 7 or 0 as the session then says
record Ended (portion : List ℕ) (f : Feed) : Type 0 where
  all : f.taken ≡ length portion
  code : f.code ≡ cond f.session.stopped 7 0

ended : (s : Session) (portion : List ℕ) (end : Bool) (room : ℕ) → Held s → {f : Feed} → Given s portion end room f → f.session.ended ≡ true → (f.code ≡ 9 → ⊥) → Ended portion f
ended s portion end room h (Refused code (Strange a) n) e m = absurd (let y : is_session s ≡ true = is_held s h in (let x : ◌≡◌ {A = ℕ} 0 1 = cc in omega arith))
ended s portion end room h (Refused code (Late a b c) n) e m = absurd (m refl)
ended s portion end room h (Refused code (Again a b c) n) e m = record { all = sym (b e); code = rw c }
ended s portion end room h (Refused code (Over a b c d) n) e m = absurd (omega (arith, b e, d, h.total))
ended s portion end room h (Refused code (Not o) n) e m = absurd (n refl)
ended s portion end room h (Looked o (Through z l)) e m = record { all = refl; code = refl }
ended s portion end room h (Looked o (Waits z g p)) e m = record { all = refl; code = by end }
  where
    by : (t : Bool) → ◌≡◌ {A = ℕ} (cond t 7 0) (cond (eqb (cond t 7 0) 7) 7 0)
    by true = refl
    by false = refl
ended s portion end room h (Looked o (Bad z p)) e m =
    let early : s.ended ≡ false = not_ended s portion end room h o (λ nil. let y : record_of (drop (run_of s.chip (carried_of s ++ portion) room).used (carried_of s ++ portion)) ≡ Err Part = ap record_of nil ∙ part_nil in (let x : ◌≡◌ {A = ℕ} 0 1 = cc in omega arith)) in
    absurd (let y : (s.ended || false) ≡ false = rw early in (let x : ◌≡◌ {A = ℕ} 0 1 = cc in omega arith))
ended s portion end room h (Looked o (Full z q n read full)) e m =
    let early : s.ended ≡ false = not_ended s portion end room h o (λ nil. let y : record_of (drop (run_of s.chip (carried_of s ++ portion) room).used (carried_of s ++ portion)) ≡ Err Part = ap record_of nil ∙ part_nil in (let x : ◌≡◌ {A = ℕ} 0 1 = cc in omega arith)) in
    absurd (let y : (s.ended || false) ≡ false = rw early in (let x : ◌≡◌ {A = ℕ} 0 1 = cc in omega arith))

-- once the end was declared, something is carried exactly if it stopped with 7
said : (s : Session) → Held s → s.ended ≡ true → ◌≡◌ {A = ℕ} (cond (eqb s.count 0) 0 7) (cond s.stopped 7 0)
said s h e = by s.stopped (rw e at h.end)
  where
    by : (t : Bool) → cond t (ltb 0 s.count) (eqb s.count 0) ≡ true → ◌≡◌ {A = ℕ} (cond (eqb s.count 0) 0 7) (cond t 7 0)
    by true q = rw (ne_eqb s.count 0 (λ z. omega (arith, z, ltb-true 0 s.count q)))
    by false q = rw q

pub end_is_whole : EndIsWhole
unfolding report_after report_of
end_is_whole address e cs c last not-nine room h =
    let s = session_at address cs in
    let k = reached address e cs in
    let f = fed s c in
    let d = ended s c.portion c.end c.room k.held (given s c.portion c.end c.room) last not-nine in
    let all : take f.taken c.portion ≡ c.portion = take_all f.taken c.portion (omega (arith, d.all)) in
    let k' : Reached (made_of address).state f.session (taken_at address cs ++ c.portion) (answers_at address cs ++ f.text) =
    subst (λ (x : List ℕ). Reached (made_of address).state f.session (taken_at address cs ++ x) (answers_at address cs ++ f.text)) all (fed_reached k c) in
    let q : run_at address (taken_at address cs ++ c.portion) room ≡ stand f.session (answers_at address cs ++ f.text) f.code =
    now k' room (answers_fit k' room h) ∙ ap (stand f.session (answers_at address cs ++ f.text)) (said f.session k'.held last ∙ sym d.code) in
    record {
      all = d.all;
      report =
          ap (λ (n : ℕ). ((word f.code ++ word f.session.records) ++ word f.session.used) ++ word n) k'.written
          ∙ sym (ap report_of q);
      answers = sym (ap (λ (p : Run). p.text) q);
      chip = sym (ap (λ (p : Run). p.state) q);
    }

-- ---- Bad at once ----

-- a call that gives 7 before the end is stopped by a record that is bad
bad : (s : Session) (portion : List ℕ) (end : Bool) (room : ℕ) {f : Feed} → Given s portion end room f → s.stopped ≡ false → f.code ≡ 7 → f.session.ended ≡ false
    → let r = run_of s.chip (carried_of s ++ portion) room in Open s (length portion) × (r.code ≡ 7) × (record_of (drop r.used (carried_of s ++ portion)) ≡ Err Malformed) × (f ≡ stopped_at s r)
bad s portion end room (Refused code (Strange a) n) g e l = absurd (omega arith)
bad s portion end room (Refused code (Late a b c) n) g e l = absurd (omega arith)
bad s portion end room (Refused code (Again a b c) n) g e l = absurd (let x : ◌≡◌ {A = ℕ} 0 1 = cc in omega arith)
bad s portion end room (Refused code (Over a b c d) n) g e l = absurd (omega arith)
bad s portion end room (Refused code (Not o) n) g e l = absurd (n refl)
bad s portion end room (Looked o (Through z t)) g e l = absurd (omega arith)
bad s portion end room (Looked o (Waits z t p)) g e l = absurd (by end e l)
  where
    by : (t : Bool) → ◌≡◌ {A = ℕ} (cond t 7 0) 7 → (s.ended || t) ≡ false → ⊥
    by true e l = let y : (s.ended || true) ≡ true = or-true s.ended in (let x : ◌≡◌ {A = ℕ} 0 1 = cc in omega arith)
    by false e l = omega arith
bad s portion end room (Looked o (Bad z p)) g e l = (o, z, p, refl)
bad s portion end room (Looked o (Full z q n read full)) g e l = absurd (omega (arith, z, e))

pub bad_at_once : BadAtOnce
unfolding report_after report_of
bad_at_once address e cs c more room going seven early h =
    let s = session_at address cs in
    let k = reached address e cs in
    let taken = taken_at address cs in
    let answers = answers_at address cs in
    let f = fed s c in
    let bytes = carried_of s ++ c.portion in
    let r = run_of s.chip bytes c.room in
    let way = course s.chip bytes c.room in
    let b = bad s c.portion c.end c.room (given s c.portion c.end c.room) going seven early in
    let z = sizes way in
    let left = drop r.used bytes in
    let total : length (taken ++ (c.portion ++ more)) ≡ length taken + (length c.portion + length more) =
    length-append taken (c.portion ++ more) ∙ ap (λ (n : ℕ). length taken + n) (length-append c.portion more) in
    let fits : length answers + length r.text ≤ room =
    omega (arith, h, total, taken_size k, k.written, k.held.long, k.held.least, z.long, z.least, z.inside, length-append (carried_of s) c.portion, carried_size s k.held) in
    let some : 0 < length left = by left b.2 in
    let never : record_of (left ++ more) ≡ Err Malformed = refusal_stays left more b.2 in
    let same : run_of s.chip bytes (room - length answers) ≡ r = course_room (room - length answers) way (λ y. omega (arith, y, b.1)) (omega (arith, fits)) in
    let place : taken ++ (c.portion ++ more) ≡ k.through ++ (bytes ++ more) =
    ap (λ (x : List ℕ). x ++ (c.portion ++ more)) k.whole ∙ append_assoc k.through (carried_of s) (c.portion ++ more)
    ∙ ap (λ (x : List ℕ). k.through ++ x) (sym (append_assoc (carried_of s) c.portion more)) in
    let stops : run_of s.chip (bytes ++ more) (room - length answers) ≡ after r (halt r.state 7) =
    course_more more (course s.chip bytes (room - length answers))
    ∙ ap (λ (p : Run). after p (run_of p.state (drop p.used bytes ++ more) (room - length answers - length p.text))) same
    ∙ ap (after r) (run_lacks r.state (left ++ more) (room - length answers - length r.text) (omega (arith, some, length-append left more)) (Never never)) in
    let run : run_of (made_of address).state (taken ++ (c.portion ++ more)) room ≡ stand f.session (answers ++ f.text) 7 =
    ap (λ (x : List ℕ). run_of (made_of address).state x room) place ∙ join k (bytes ++ more) room (omega (arith, fits))
    ∙ ap (after (stand s answers 0)) (stops ∙ after_halt r 7)
    ∙ same_run refl (sym (ap (λ (x : Feed). x.session.records) b.3)) (sym (ap (λ (x : Feed). x.session.used) b.3))
    (ap (λ (x : List ℕ). answers ++ x) (sym (ap (λ (x : Feed). x.text) b.3))) (sym (ap (λ (x : Feed). x.session.chip) b.3)) in
    record {
      run = run;
      report =
          ap (λ (n : ℕ). ((word n ++ word f.session.records) ++ word f.session.used) ++ word f.session.written) seven
          ∙ ap (λ (n : ℕ). ((word 7 ++ word f.session.records) ++ word f.session.used) ++ word n) (fed_reached k c).written
          ∙ sym (ap report_of run);
    }
  where
    by : (l : List ℕ) → record_of l ≡ Err Malformed → 0 < length l
    by [] p = absurd (let y : record_of [] ≡ Err Part = part_nil in (let x : ◌≡◌ {A = ℕ} 0 1 = cc in omega arith))
    by (x ∷ l) p = omega arith

-- ---- Room ----

pub eight : (s : Session) (portion : List ℕ) (end : Bool) (room : ℕ) {f : Feed} → Given s portion end room f → f.code ≡ 8
    → let r = run_of s.chip (carried_of s ++ portion) room in Open s (length portion) × (Way s portion end room r f) × (f ≡ stopped_at s r) × (r.code ≡ 8)
eight s portion end room (Refused code (Strange a) n) e = absurd (omega arith)
eight s portion end room (Refused code (Late a b c) n) e = absurd (omega arith)
eight s portion end room (Refused code (Again a b c) n) e = absurd (omega arith)
eight s portion end room (Refused code (Over a b c d) n) e = absurd (omega arith)
eight s portion end room (Refused code (Not o) n) e = absurd (n refl)
eight s portion end room (Looked o (Through z t)) e = absurd (omega arith)
eight s portion end room (Looked o (Waits z t p)) e = absurd (by end e)
  where
    by : (t : Bool) → ◌≡◌ {A = ℕ} (cond t 7 0) 8 → ⊥
    by true e = omega arith
    by false e = omega arith
eight s portion end room (Looked o (Bad z p)) e = absurd (omega (arith, z, e))
eight s portion end room (Looked o (Full z q n read full)) e = (o, Full z q n read full, refl, z)

waiting : (s : Session) (c : Call) → is_session s ≡ true → Open s (length c.portion) → let r = run_of s.chip (carried_of s ++ c.portion) c.room in r.code ≡ 8
    → (q : Record) (n : ℕ) → record_of (drop r.used (carried_of s ++ c.portion)) ≡ Ok (q, n) → c.room - length r.text < length (text_of (answer_to r.state q))
    → Waiting s c (stopped_at s r)
waiting s c is o code q n read full =
    let h = held s is in
    let bytes = carried_of s ++ c.portion in
    let r = run_of s.chip bytes c.room in
    let k = course s.chip bytes c.room in
    let m = moved s c.portion c.end c.room r k (carried_size s h) h.part (Full code q n read full) in
    let z = sizes k in
    let f = stopped_at s r in
    let back : carried_of f.session ≡ m.rest = moved_back m in
    let parts : bytes ≡ take r.used bytes ++ (m.rest ++ drop f.taken c.portion) =
    ap (λ (x : List ℕ). carried_of s ++ x) (sym (take-append-drop f.taken c.portion))
    ∙ sym (append_assoc (carried_of s) (take f.taken c.portion) (drop f.taken c.portion))
    ∙ ap (λ (x : List ℕ). x ++ drop f.taken c.portion) m.split
    ∙ append_assoc (take r.used bytes) m.rest (drop f.taken c.portion) in
    let left : drop r.used bytes ≡ m.rest ++ drop f.taken c.portion =
    ap (drop r.used) parts ∙ drop_at (take r.used bytes) (m.rest ++ drop f.taken c.portion) r.used (omega (arith, length-take r.used bytes, z.inside)) in
    record {
      numbers = q;
      size = n;
      whole = ap (λ (x : List ℕ). record_of (x ++ drop f.taken c.portion)) back ∙ ap record_of (sym left) ∙ read;
      full = full;
      end = or-false s.ended;
      stopped = rw code;
    }

pub eight_means : EightMeans
eight_means s c e =
    let b = eight s c.portion c.end c.room (given s c.portion c.end c.room) e in
    subst (Waiting s c) (sym b.2) (by b.0 b.3 b.1)
  where
    by : {f : Feed} → let r = run_of s.chip (carried_of s ++ c.portion) c.room in Open s (length c.portion) → r.code ≡ 8 → Way s c.portion c.end c.room r f → Waiting s c (stopped_at s r)
    by o code (Through z t) = absurd (omega (arith, code, z))
    by o code (Waits z t p) = absurd (omega (arith, code, z))
    by o code (Bad z p) = absurd (omega (arith, code, z))
    by o code (Full z q n read full) = waiting s c o.is o code q n read full

pub gets_on : GetsOn
gets_on s c e h =
    let b = eight s c.portion c.end c.room (given s c.portion c.end c.room) e in
    let r = run_of s.chip (carried_of s ++ c.portion) c.room in
    let z = sizes (course s.chip (carried_of s ++ c.portion) c.room) in
    let w = eight_means s c e in
    let t = text_size (fed s c).session.chip w.numbers in
    let n : (fed s c).session.records ≡ s.records + r.records = ap (λ (x : Feed). x.session.records) b.2 in
    let m : length (fed s c).text ≡ length r.text = ap (λ (x : Feed). length x.text) b.2 in
    omega (arith, n, m, z.long, w.full, t, h)

pub room_enough : RoomEnough
room_enough s c h e =
    let b = eight s c.portion c.end c.room (given s c.portion c.end c.room) e in
    let bytes = carried_of s ++ c.portion in
    let n : length bytes ≡ s.count + length c.portion = length-append (carried_of s) c.portion ∙ ap (λ (k : ℕ). k + length c.portion) (carried_size s (held s b.0.is)) in
    no_eight s.chip bytes c.room (rw n h) b.3

-- ---- A trace that is cut ----

-- no more is taken than was offered
inside : (s : Session) (c : Call) → (fed s c).taken ≤ length c.portion
inside s c = by (given s c.portion c.end c.room)
  where
    by : {f : Feed} → Given s c.portion c.end c.room f → f.taken ≤ length c.portion
    by (Refused code w n) = omega arith
    by (Looked o w) =
        let h = held s o.is in
        (moved s c.portion c.end c.room (run_of s.chip (carried_of s ++ c.portion) c.room) (course s.chip (carried_of s ++ c.portion) c.room) (carried_size s h) h.part w).inside

pub cuts_are_the_trace : CutsAreTheTrace
unfolding calls_of taken_after
cuts_are_the_trace s trace [] = refl
cuts_are_the_trace s trace (c ∷ cs) = by (cuts_are_the_trace (fed s call).session (drop (fed s call).taken trace) cs)
  where
    call : Call
    call = record { portion = take c.size trace; end = c.end; room = c.room }

    later : List ℕ
    later = taken_after (fed s call).session (calls_of (fed s call).session (drop (fed s call).taken trace) cs)

    by : later ≡ take (length later) (drop (fed s call).taken trace) → take (fed s call).taken (take c.size trace) ++ later ≡ take (length (take (fed s call).taken (take c.size trace) ++ later)) trace
    by e =
        let n = (fed s call).taken in
        let k : n ≤ length (take c.size trace) = inside s call in
        let l : length (take c.size trace) ≡ min c.size (length trace) = length-take c.size trace in
        let front : take n (take c.size trace) ≡ take n trace = take-take n c.size trace (omega (arith, k, l)) in
        let size : length (take n trace ++ later) ≡ n + length later = length-append (take n trace) later ∙ omega (arith, length-take n trace, k, l) in
        rw (front, size) (ap (λ (x : List ℕ). take n trace ++ x) e ∙ sym (take-add n (length later) trace))

-- without an end no end is declared
still : (s : Session) (portion : List ℕ) (room : ℕ) {f : Feed} → Given s portion false room f → s.ended ≡ false → f.session.ended ≡ false
still s portion room (Refused code w n) e = e
still s portion room (Looked o (Through z l)) e = or-false s.ended ∙ e
still s portion room (Looked o (Waits z g p)) e = or-false s.ended ∙ e
still s portion room (Looked o (Bad z p)) e = or-false s.ended ∙ e
still s portion room (Looked o (Full z q n read full)) e = or-false s.ended ∙ e

still_after : (offers : List Offer) (s : Session) (trace : List ℕ) → s.ended ≡ false → (session_after s (calls_of s trace (map offered offers))).ended ≡ false
unfolding calls_of session_after
still_after [] s trace e = e
still_after (o ∷ offers) s trace e =
    let c : Call = record { portion = take o.size trace; end = false; room = o.room } in
    still_after offers (fed s c).session (drop (fed s c).taken trace) (still s c.portion c.room (given s c.portion false c.room) e)

opened_early : (address : ℤ) → (opened address).ended ≡ false
unfolding opened_of
opened_early address = refl

-- the last call declares the end, or is stopped at once by a record that is bad
last_ways : (s : Session) (portion : List ℕ) (room : ℕ) {f : Feed} → Held s → s.ended ≡ false → s.stopped ≡ false → s.used + s.count + length portion ≤ 16777216 → (f.code ≡ 8 → ⊥)
    → Given s portion true room f → ((f.session.ended ≡ true) × (f.code < 9)) ⊎ ((f.code ≡ 7) × (f.session.ended ≡ false))
last_ways s portion room h e g t n (Refused code (Strange a) m) = absurd (let y : is_session s ≡ true = is_held s h in (let x : ◌≡◌ {A = ℕ} 0 1 = cc in omega arith))
last_ways s portion room h e g t n (Refused code (Late a b c) m) = absurd (let x : ◌≡◌ {A = ℕ} 0 1 = cc in omega arith)
last_ways s portion room h e g t n (Refused code (Again a b c) m) = absurd (let x : ◌≡◌ {A = ℕ} 0 1 = cc in omega arith)
last_ways s portion room h e g t n (Refused code (Over a b c d) m) = absurd (omega (arith, d, t))
last_ways s portion room h e g t n (Refused code (Not o) m) = absurd (m refl)
last_ways s portion room h e g t n (Looked o (Through z l)) = inl (or-true s.ended, omega arith)
last_ways s portion room h e g t n (Looked o (Waits z k p)) = inl (or-true s.ended, omega arith)
last_ways s portion room h e g t n (Looked o (Bad z p)) = inr (z, or-false s.ended ∙ e)
last_ways s portion room h e g t n (Looked o (Full z q m read full)) = absurd (n z)

pub however_cut : HoweverCut
however_cut address e trace small offers room h going =
    let cs = calls_at address trace offers in
    let s = session_at address cs in
    let k = reached address e cs in
    let t = taken_at address cs in
    let c = last_at address trace offers room in
    let f = fed s c in
    let whole : t ++ c.portion ≡ trace =
    ap (λ (x : List ℕ). x ++ c.portion) (cuts_are_the_trace (opened address) trace (map offered offers)) ∙ take-append-drop (length t) trace in
    let size : length t + length c.portion ≡ length trace = sym (length-append t c.portion) ∙ ap length whole in
    let early : s.ended ≡ false = still_after offers (opened address) trace (opened_early address) in
    let few : room_of (s.count + length c.portion) ≤ room = omega (arith, h, size, taken_size k) in
    ⊎_elim
    (λ d.
    let w = end_is_whole address e cs c d.0 (λ n. omega (arith, n, d.1)) room (subst (λ (l : List ℕ). room_of (length l) ≤ room) (sym whole) h) in
    subst (λ (l : List ℕ). OneReplay address l cs f room) whole (record { report = w.report; answers = w.answers; chip = w.chip }))
    (λ d.
    let place : t ++ (c.portion ++ []) ≡ trace = ap (λ (l : List ℕ). t ++ l) (append-nil c.portion) ∙ whole in
    let w = bad_at_once address e cs c [] room going d.0 d.1 (subst (λ (l : List ℕ). room_of (length l) ≤ room) (sym place) h) in
    subst (λ (l : List ℕ). OneReplay address l cs f room) place (record { report = w.report; answers = sym (ap (λ (p : Run). p.text) w.run); chip = sym (ap (λ (p : Run). p.state) w.run) }))
    (last_ways s c.portion room k.held early going (omega (arith, small, size, taken_size k)) (room_enough s c few) (given s c.portion true room))
