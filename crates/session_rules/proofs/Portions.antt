-- What a portion gives, in other words: by the ways that it ends. Assumes nothing.
use Rattle.session_rules.proofs.Codes.{feeds, one_stop}
use Rattle.std.specs.Prelude.{Ok, Err}
use Rattle.rules.specs.Codes.{number_of as code_number}
use Rattle.rules.specs.declared.answer.Code.TheVariants.{BadField}
use Prim.Native.Nat.{ℕ, ◌+◌, ◌-◌, ◌<◌, ◌≤◌}
use native.Mathlib.Omega.{arith}
use mathlib.Core.Path.{◌≡◌, refl, sym, ap, subst, ◌∙◌}
use mathlib.Core.Logic.{⊎_elim}
use mathlib.Core.Bool.{Bool, cond, false, true, ◌&&◌, ◌||◌, or-false}
use mathlib.Core.List.{List, [], ◌++◌}
use lib.Dec.{eqb, ltb}
use lib.ListN.{drop, length, replicate, take, drop_of_length-le}
use lib.Seq.{length-take-le, take_all}
use borrow.Author.Tests.{lt-ltb, le-ltb, eq-eqb, eqb-true, ltb-true}
use lib.IntN.{ℤ}
use lib.IntN.ℤ.{negsuc, pos}
use Rattle.rules.specs.declared.state.State.{State}
use Rattle.rules.specs.PowerOn.{all_zero, is_address, made_at, made_of, no_state}
use Rattle.rules.specs.WellFormed.{well_formed}
use Rattle.text_rules.specs.declared.record.Record.{Record}
use Rattle.text_rules.specs.declared.record.Unread.TheVariants.{Part, Malformed}
use Rattle.text_rules.specs.Number.{digits_of, number_of, plain_of}
use Rattle.text_rules.specs.Line.{fit_of, line_of}
use Rattle.text_rules.specs.Record.{record_of}
use Rattle.text_rules.proofs.Bounded.{part_is_bounded}
use Rattle.text_rules.proofs.Records.{record_fits}
use Rattle.replay_rules.specs.Play.{Run, run_of}
use Rattle.session_rules.specs.declared.session.Session.{Session}
use Rattle.session_rules.specs.Session.{carried_of, is_session, opened_from, opened_of, padded, partial}
use Rattle.session_rules.specs.Portion.{Feed, feed_of, refusal, refused_with}
use Rattle.session_rules.specs.Portions.{EmptyChangesNothing, Fits, Looks, LooksMean, OpeningMeans, PartialMeans, PortionPromise, Ready, RefusalNumbers, RefusalsMean, SessionsAre, bad_rows, partial_rows}
use Rattle.session_rules.proofs.Codes.{refusal_code}
use Rattle.session_rules.proofs.Course.{Course, course, halt, run_end}
use Rattle.session_rules.proofs.Course.Course.{End, Lacks, Tight, Goes}
use Rattle.session_rules.proofs.Courses.{course_beyond}
use Rattle.session_rules.proofs.Windows.{length_packed}
use Rattle.session_rules.proofs.Ways.{Way, part_nil}
use Rattle.session_rules.proofs.Ways.Way.{Through, Waits, Bad, Full}
use Rattle.session_rules.proofs.Sessions.{Given, Held, Open, carried_size, given, held, is_held, not_ended}
use Rattle.session_rules.proofs.Sessions.Given.{Refused, Looked}
use Rattle.session_rules.proofs.Sessions.Why.{Strange, Late, Again, Over, Not}

pub partial_means : PartialMeans
unfolding partial record_of line_of fit_of number_of plain_of digits_of partial_rows bad_rows
partial_means = (refl, refl)

pub portion_promise : PortionPromise
portion_promise s portion end before =
    record {
      stop = (feeds s portion end (length before)).0;
      met = record { code = (feeds s portion end (length before)).1; taken = refl; written = refl; session = refl; bytes = refl };
      one = λ after r f. (λ i. record { stop = one_stop _ _ (f.code ∙ sym (feeds s portion end (length before)).1) i; taken = f.taken i; written = f.written i; session = f.session i }, f.bytes);
    }

-- ---- Sessions ----

padded_is : (l : List ℕ) → length l ≤ 38 → padded l ≡ l ++ replicate (38 - length l) 0
padded_is l h = ap (λ (x : List ℕ). x ++ replicate (38 - length l) 0) (take_all 38 l h)

zero_none : well_formed all_zero ≡ false
unfolding well_formed
zero_none = refl

pub opening_means : OpeningMeans
unfolding opened_of is_session
opening_means address = record { fresh = λ e. rw e; none = λ e. (e, refl, by address e) }
  where
    none : (a : ℕ) (t : Bool) → is_address a ≡ t → (cond t (made_at a) no_state).code ≡ BadField → well_formed (cond t (made_at a) no_state).state ≡ false
    none a true q e = absurd (omega (arith, ap code_number e))
    none a false q e = zero_none

    zeros : (address : ℤ) → (made_of address).code ≡ BadField → well_formed (made_of address).state ≡ false
    zeros (pos a) e = none a (is_address a) refl e
    zeros (negsuc n) e = zero_none

    by : (address : ℤ) → (made_of address).code ≡ BadField → is_session (opened_from (made_of address).state) ≡ false
    by address e = rw (zeros address e)

pub sessions_are : SessionsAre
sessions_are s = record { only = λ e. only (held s e); all = λ f. is_held s (all f) }
  where
    only : Held s → Fits s
    only h =
        record {
          chip = h.well;
          least = h.least;
          most = h.most;
          short = h.short;
          long = h.long;
          total = h.total;
          few = h.few;
          zeros = sym h.padding ∙ padded_is (carried_of s) (omega (arith, carried_size s h, h.few)) ∙ ap (λ (n : ℕ). carried_of s ++ replicate (38 - n) 0) (carried_size s h);
          size = length_packed 38 (carried_of s) s.carried (sym h.padding);
          part = h.part;
          cut = λ e f. ltb-true 0 s.count (rw (e, f) at h.end);
          whole = λ e f. eqb-true s.count 0 (rw (e, f) at h.end);
        }

    fits : Fits s → (ended stopped : Bool) → s.ended ≡ ended → s.stopped ≡ stopped → cond ended (cond stopped (ltb 0 s.count) (eqb s.count 0)) true ≡ true
    fits f true true e g = lt-ltb 0 s.count (f.cut e g)
    fits f true false e g = eq-eqb s.count 0 (f.whole e g)
    fits f false stopped e g = refl

    all : Fits s → Held s
    all f =
        let n : length (carried_of s) ≡ s.count = length-take-le s.count s.carried (omega (arith, f.few, f.size)) in
        record {
          well = f.chip;
          least = f.least;
          most = f.most;
          short = f.short;
          long = f.long;
          total = f.total;
          few = f.few;
          padding = padded_is (carried_of s) (omega (arith, n, f.few)) ∙ ap (λ (k : ℕ). carried_of s ++ replicate (38 - k) 0) n ∙ sym f.zeros;
          part = f.part;
          end = fits f s.ended s.stopped refl refl;
        }

-- ---- Refusals ----

pub refused : (s : Session) (portion : List ℕ) (end : Bool) (room code : ℕ) → refused_with s (length portion) ≡ code → eqb code 0 ≡ false → feed_of s portion end room ≡ refusal s code
unfolding feed_of
refused s portion end room code e n = rw (e, n)

pub refusals_mean : RefusalsMean
unfolding refused_with
refusals_mean s portion end room =
    record {
      strange = λ a. refused s portion end room 6 (rw a) refl;
      late = λ a b c. refused s portion end room 9 (rw (a, b, lt-ltb 0 (length portion) c)) refl;
      again = λ a b c. refused s portion end room 7 (rw (a, empty c, b)) refl;
      over = λ a b c d. refused s portion end room 2 (rw (a, empty c, b, lt-ltb 16777216 (s.used + s.count + length portion) d)) refl;
    }
  where
    empty : (s.ended ≡ true → length portion ≡ 0) → (s.ended && ltb 0 (length portion)) ≡ false
    empty h = by s.ended refl
      where
        by : (t : Bool) → s.ended ≡ t → (t && ltb 0 (length portion)) ≡ false
        by true e = le-ltb 0 (length portion) (omega (arith, h e))
        by false e = refl

pub refusal_numbers : RefusalNumbers
refusal_numbers = refusal_code

-- ---- A portion that is looked at ----

-- a session, field by field
pub same_session : {a b : Session} → a.chip ≡ b.chip → a.records ≡ b.records → a.used ≡ b.used → a.written ≡ b.written → a.ended ≡ b.ended → a.stopped ≡ b.stopped → a.count ≡ b.count → a.carried ≡ b.carried → a ≡ b
same_session c r u w e s n k i =
    record { chip = c i; records = r i; used = u i; written = w i; ended = e i; stopped = s i; count = n i; carried = k i }

pub same_feed : {a b : Feed} → a.code ≡ b.code → a.taken ≡ b.taken → a.text ≡ b.text → a.session ≡ b.session → a ≡ b
same_feed c t x s i = record { code = c i; taken = t i; text = x i; session = s i }

-- a run that used nothing did nothing
idle : {s : State} {bytes : List ℕ} {room : ℕ} {q : Run} → Course s bytes room q → q.used ≡ 0 → (q.records ≡ 0) × (q.text ≡ []) × (q.state ≡ s)
idle (End s room) e = (refl, refl, refl)
idle (Lacks s bytes room g l) e = (refl, refl, refl)
idle (Tight s bytes room r n read full) e = (refl, refl, refl)
idle (Goes s bytes room r n q read fits c) e = absurd (omega (arith, e, record_fits bytes read))

module _ (s : Session) (portion : List ℕ) (end : Bool) (room : ℕ) (ready : Ready s portion) where
  abbrev bytes : List ℕ
  bytes = take s.count s.carried ++ portion

  abbrev r : Run
  r = run_of s.chip bytes room

  abbrev left : List ℕ
  left = drop r.used bytes

  h : Held s
  h = held s ready.is

  -- what a claim about such a portion has to say of its four ways
  looked : (P : Feed → Type 0) → ((o : Open s (length portion)) (f : Feed) → Way s portion end room r f → P f) → P (feed_of s portion end room)
  looked P on = by (given s portion end room)
    where
      by : {f : Feed} → Given s portion end room f → P f
      by (Refused code (Strange a) n) = absurd (let x : ◌≡◌ {A = ℕ} 0 1 = (let y = ready.is in cc) in omega arith)
      by (Refused code (Late a b c) n) = absurd (omega (arith, c, ready.before b))
      by (Refused code (Again a b c) n) = absurd (let x : ◌≡◌ {A = ℕ} 0 1 = (let y = ready.going in cc) in omega arith)
      by (Refused code (Over a b c d) n) = absurd (omega (arith, d, ready.total))
      by (Refused code (Not o) n) = absurd (n refl)
      by {f} (Looked o w) = on o f w

  -- no end was declared where something is left
  early : (left ≡ [] → ⊥) → (o : Open s (length portion)) → s.ended ≡ false
  early n o = not_ended s portion end room h o n

  not_nil : (record_of left ≡ Err Part → ⊥) → left ≡ [] → ⊥
  not_nil n z = n (ap record_of z ∙ part_nil)

  some_left : 0 < length left → left ≡ [] → ⊥
  some_left g z = omega (arith, g, ap length z)

  clash : {A : Type 0} → record_of left ≡ Err Part → (record_of left ≡ Err Part → ⊥) → A
  clash p n = absurd (n p)

  no_bad : record_of left ≡ Err Malformed → record_of left ≡ Err Part → ⊥
  no_bad e p = let x : ◌≡◌ {A = ℕ} 0 1 = cc in omega arith

  no_whole : {q : Record} {n : ℕ} → record_of left ≡ Ok (q, n) → record_of left ≡ Err Part → ⊥
  no_whole e p = let x : ◌≡◌ {A = ℕ} 0 1 = cc in omega arith

  bad_whole : {q : Record} {n : ℕ} → record_of left ≡ Ok (q, n) → record_of left ≡ Err Malformed → ⊥
  bad_whole e p = let x : ◌≡◌ {A = ℕ} 0 1 = cc in omega arith

  nil_part : left ≡ [] → record_of left ≡ Err Part
  nil_part z = ap record_of z ∙ part_nil

  abbrev moved : Bool → Bool → ℕ → List ℕ → Session
  moved ended stopped count carried =
      record { chip = r.state; records = s.records + r.records; used = s.used + r.used; written = s.written + length r.text; ended = ended; stopped = stopped; count = count; carried = carried }

  through : left ≡ [] → (ended : Bool) → (s.ended ≡ false → ended ≡ end) → (s.ended ≡ true → ended ≡ true) → (o : Open s (length portion)) (f : Feed) → Way s portion end room r f
      → f ≡ record { code = 0; taken = length portion; text = r.text; session = moved ended false 0 (replicate 38 0) }
  through z ended a b o _ (Through e l) = same_feed refl refl refl (same_session refl refl refl refl (by s.ended refl) refl (ap length z) (ap padded z))
    where
      by : (t : Bool) → s.ended ≡ t → (t || end) ≡ ended
      by true q = sym (b q)
      by false q = sym (a q)
  through z ended a b o _ (Waits e g p) = absurd (some_left g z)
  through z ended a b o _ (Bad e p) = absurd (no_bad p (nil_part z))
  through z ended a b o _ (Full e q n read full) = absurd (no_whole read (nil_part z))

  waits : 0 < length left → record_of left ≡ Err Part → (o : Open s (length portion)) (f : Feed) → Way s portion end room r f
      → f ≡ record { code = cond end 7 0; taken = length portion; text = r.text; session = moved end (eqb (cond end 7 0) 7) (length left) (left ++ replicate (38 - length left) 0) }
  waits g p o _ (Through e l) = absurd (some_left g l)
  waits g p o _ (Waits e g' p') = same_feed refl refl refl (same_session refl refl refl refl (ap (λ (t : Bool). t || end) (early (some_left g) o)) refl refl (padded_is left (part_is_bounded left p)))
  waits g p o _ (Bad e p') = absurd (no_bad p' p)
  waits g p o _ (Full e q n read full) = absurd (no_whole read p)

  -- stopped before a record, and what was carried is used up or untouched
  stops : (record_of left ≡ Err Part → ⊥) → (o : Open s (length portion)) (f : Feed) → Way s portion end room r f
      → f ≡ record { code = r.code; taken = r.used - s.count; text = r.text; session = moved false (eqb r.code 7) (length (drop r.used (carried_of s))) (padded (drop r.used (carried_of s))) }
  stops n o _ (Through e l) = absurd (n (nil_part l))
  stops n o _ (Waits e g p) = absurd (n p)
  stops n o _ (Bad e p) = same_feed refl refl refl (same_session refl refl refl refl (or-false s.ended ∙ early (not_nil n) o) refl refl refl)
  stops n o _ (Full e q m read full) = same_feed refl refl refl (same_session refl refl refl refl (or-false s.ended ∙ early (not_nil n) o) refl refl refl)

  -- the code says which
  code_bad : record_of left ≡ Err Malformed → r.code ≡ 7
  code_bad p = looked (λ f. r.code ≡ 7) by
    where
      by : (o : Open s (length portion)) (f : Feed) → Way s portion end room r f → r.code ≡ 7
      by o _ (Through e l) = absurd (no_bad p (nil_part l))
      by o _ (Waits e g p') = e
      by o _ (Bad e p') = e
      by o _ (Full e q n read full) = absurd (bad_whole read p)

  code_full : {q : Record} {n : ℕ} → record_of left ≡ Ok (q, n) → r.code ≡ 8
  code_full p = looked (λ f. r.code ≡ 8) by
    where
      by : (o : Open s (length portion)) (f : Feed) → Way s portion end room r f → r.code ≡ 8
      by o _ (Through e l) = absurd (no_whole p (nil_part l))
      by o _ (Waits e g p') = absurd (no_whole p p')
      by o _ (Bad e p') = absurd (bad_whole p p')
      by o _ (Full e q n read full) = e

  -- behind what was carried
  used_up : 0 < r.used → drop r.used (carried_of s) ≡ []
  used_up g =
      ⊎_elim (λ e. absurd (omega (arith, g, e))) (λ b. drop_of_length-le (carried_of s) {i = r.used} (omega (arith, b))) (course_beyond (carried_of s) portion h.part refl (course s.chip bytes room))

  -- nothing was done
  nothing : r.used ≡ 0 → (r.records ≡ 0) × (r.text ≡ []) × (r.state ≡ s.chip)
  nothing e = idle (course s.chip bytes room) e

  -- the session as it was
  kept : r.used ≡ 0 → (ended stopped : Bool) → moved ended stopped (length (drop r.used (carried_of s))) (padded (drop r.used (carried_of s)))
      ≡ record { chip = s.chip; records = s.records; used = s.used; written = s.written; ended = ended; stopped = stopped; count = s.count; carried = s.carried }
  kept e ended stopped =
      let n = nothing e in
      let d : drop r.used (carried_of s) ≡ carried_of s = ap (λ (k : ℕ). drop k (carried_of s)) e in
      same_session n.2 (omega (arith, n.0)) (omega (arith, e)) (omega (arith, ap length n.1)) refl refl (ap length d ∙ carried_size s h) (ap padded d ∙ h.padding)

  used_none : r.used ≡ 0 → r.used - s.count ≡ 0
  used_none e = omega (arith, e)

  abbrev marks : Bool → Bool → Session
  marks ended stopped = record { chip = s.chip; records = s.records; used = s.used; written = s.written; ended = ended; stopped = stopped; count = s.count; carried = s.carried }

  abbrev halted : Feed
  halted = record { code = r.code; taken = r.used - s.count; text = r.text; session = moved false (eqb r.code 7) (length (drop r.used (carried_of s))) (padded (drop r.used (carried_of s))) }

  stopping : (record_of left ≡ Err Part → ⊥) → feed_of s portion end room ≡ halted
  stopping n = looked (λ f. f ≡ halted) (stops n)

  behind : 0 < r.used → {code : ℕ} → r.code ≡ code → halted ≡ record { code = code; taken = r.used - s.count; text = r.text; session = moved false (eqb code 7) 0 (replicate 38 0) }
  behind g c = same_feed c refl refl (same_session refl refl refl refl refl (ap (λ (k : ℕ). eqb k 7) c) (ap length (used_up g)) (ap padded (used_up g)))

  marked : {a b c d : Bool} → a ≡ c → b ≡ d → marks a b ≡ marks c d
  marked f e = same_session refl refl refl refl f e refl refl

  looks : Looks s portion end room r left
  looks =
      record {
        through = λ z ended a b. looked (λ f. f ≡ record { code = 0; taken = length portion; text = r.text; session = moved ended false 0 (replicate 38 0) }) (through z ended a b);
        carries = λ g p e. looked (λ f. f ≡ record { code = cond end 7 0; taken = length portion; text = r.text; session = moved end (eqb (cond end 7 0) 7) (length left) (left ++ replicate (38 - length left) 0) }) (waits g p)
            ∙ ap (λ (t : Bool). record { code = cond t 7 0; taken = length portion; text = r.text; session = moved t (eqb (cond t 7 0) 7) (length left) (left ++ replicate (38 - length left) 0) }) e;
        cut = λ g p e. looked (λ f. f ≡ record { code = cond end 7 0; taken = length portion; text = r.text; session = moved end (eqb (cond end 7 0) 7) (length left) (left ++ replicate (38 - length left) 0) }) (waits g p)
            ∙ ap (λ (t : Bool). record { code = cond t 7 0; taken = length portion; text = r.text; session = moved t (eqb (cond t 7 0) 7) (length left) (left ++ replicate (38 - length left) 0) }) e;
        bad = λ p g. stopping (no_bad p) ∙ behind g (code_bad p);
        bad_seam = λ p e. stopping (no_bad p) ∙ same_feed (code_bad p) (used_none e) (nothing e).1 (kept e false (eqb r.code 7) ∙ marked refl (ap (λ (k : ℕ). eqb k 7) (code_bad p)));
        full = λ q n p g. stopping (no_whole p) ∙ behind g (code_full p);
        full_seam = λ q n p e. stopping (no_whole p) ∙ same_feed (code_full p) (used_none e) (nothing e).1 (kept e false (eqb r.code 7) ∙ marked (sym (looked (λ f. s.ended ≡ false) (λ o f w. early (not_nil (no_whole p)) o))) (ap (λ (k : ℕ). eqb k 7) (code_full p) ∙ sym ready.going));
      }

pub looks_mean : LooksMean
looks_mean s portion end room ready r e =
    subst (λ (q : Run). Looks s portion end room q (drop q.used (take s.count s.carried ++ portion))) e (looks s portion end room ready)

pub empty_changes_nothing : EmptyChangesNothing
empty_changes_nothing s end room is ended going =
    let h = held s is in
    let none : s.count ≡ 0 = eqb-true s.count 0 (rw (ended, going) at h.end) in
    let ready : Ready s [] = record { is = is; before = λ e. refl; going = going; total = omega (arith, h.total) } in
    let nil : take s.count s.carried ++ [] ≡ [] = ap (λ (n : ℕ). take n s.carried ++ []) none in
    let run : run_of s.chip (take s.count s.carried ++ []) room ≡ halt s.chip 0 = ap (λ (l : List ℕ). run_of s.chip l room) nil ∙ run_end s.chip room in
    let l = looks_mean s [] end room ready (halt s.chip 0) run in
    l.through nil true (λ e. absurd (let x : ◌≡◌ {A = ℕ} 0 1 = cc in omega arith)) (λ e. refl)
    ∙ same_feed refl refl refl (same_session refl (omega arith) (omega arith) (omega arith) (sym ended) (sym going) (sym none) (ap (λ (n : ℕ). padded (take n s.carried)) (sym none) ∙ h.padding))
