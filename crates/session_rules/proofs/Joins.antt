-- A play over two parts that stand one behind the other, under way: `Midway` is the loop's invariant. Each turn plays the 39 bytes that stand
-- next, or all that is left. Assumes nothing.
use Prim.Native.Nat.{ℕ, ◌+◌, ◌*◌, ◌-◌, ◌≤◌, ◌<◌}
use native.Mathlib.Nat.{sub-zero}
use native.Mathlib.Omega.{arith}
use mathlib.Core.Path.{◌≡◌, refl, sym, ap, subst, ◌∙◌}
use mathlib.Core.Bool.{Bool, true, false, ◌||◌}
use mathlib.Core.Logic.{◌⊎◌, inl, inr, ⊎_elim}
use mathlib.Core.List.{List, [], ◌++◌}
use lib.Dec.{eqb}
use borrow.Author.Tests.{eqb-false, eqb-true}
use lib.ListN.{length, drop, take, length-append, length-drop, length-take, take-append-drop}
use lib.Seq.{drop-append-le, drop-drop}
use Rattle.rules.specs.declared.state.State.{State}
use Rattle.text_rules.specs.Answer.{Front}
use Rattle.text_rules.specs.Sizes.{shortest_record}
use Rattle.text_rules.proofs.Bounded.{window_decides}
use Rattle.text_rules.proofs.More.{whole_stays}
use Rattle.text_rules.proofs.Records.{record_fits}
use Rattle.text_rules.proofs.Put.{front_length, front_none, front_then, rest}
use Rattle.replay_rules.specs.declared.play.Played.{Played}
use Rattle.replay_rules.specs.Play.{end_code, Ran, Run, run_of}
use Rattle.replay_rules.proofs.Plays.{back, from}
use Rattle.session_rules.specs.declared.session.Window.{Window}
use Rattle.session_rules.specs.Portion.{window_of}
use Rattle.session_rules.proofs.Course.{Course, Lacking, after, after_after, after_halt, course, halt, halt_after, run_lacks, run_tight, same_run}
use Rattle.session_rules.proofs.Course.Course.{End, Lacks, Tight, Goes}
use Rattle.session_rules.proofs.Course.Lacking.{Never, Partly}
use Rattle.session_rules.proofs.Windows.{drop_append, shown_is}
use Rattle.session_rules.proofs.Courses.{Stop, course_more, course_stop, sizes}
use Rattle.session_rules.proofs.Courses.Stop.{AtEnd, NoRecord, NoRoom}

abbrev pub so : ℕ → ℕ → ℕ → List ℕ → State → Run
so code n u text s = record { code = code; records = n; used = u; text = text; state = s }

pub record Midway (s : State) (t x₀ x : List ℕ) (now : State) (n u w : ℕ) : Type 0 where
  pub text : List ℕ
  pub front : Front text x₀ x w
  pub inside : u ≤ length t
  pub few : shortest_record * n ≤ u
  pub goes : run_of s t (length x₀) ≡ after (so 0 n u text now) (run_of now (drop u t) (length x₀ - w))

pub midway_start : (s : State) (t x : List ℕ) → Midway s t x x s 0 0 0
midway_start s t x =
    record { text = []; front = front_none; inside = omega arith; few = omega arith; goes = rw (sub-zero (length x)) (sym (halt_after s 0 (run_of s t (length x)))) }

-- what a window shows of two parts, from a place in the first on
module _ (first second : List ℕ) (u : ℕ) (h : u ≤ length first) where
  all_left : take (length first - u) (drop u first) ++ second ≡ drop u (first ++ second)
  all_left = rw (rest u first) (sym (drop-append-le u first second h))

  module _ {w : Window} (e : w ≡ window_of (take (length first - u) (drop u first) ++ second)) where
    abbrev both : List ℕ
    both = take (length first - u) (drop u first) ++ second

    pub seen_is : take w.count w.bytes ≡ take 39 (drop u (first ++ second))
    seen_is = shown_is both e ∙ ap (take 39) all_left

-- behind the first part
pub behind : (first second : List ℕ) (u : ℕ) → length first ≤ u → drop u (first ++ second) ≡ take (length second - (u - length first)) (drop (u - length first) second)
behind first second u h = drop_append u first second h ∙ sym (rest (u - length first) second)

-- how large the numbers of a play are
pub ran_sizes : {s : State} {t before after : List ℕ} {p : Played} → Ran s t before after p → (shortest_record * p.records ≤ p.used) × (p.used ≤ length t) × (p.written ≤ length before) × (length after ≡ length before)
ran_sizes {s} {t} {before} ran =
    let z = sizes (course s t (length before)) in
    let text = (run_of s t (length before)).text in (
      omega (arith, ran.records, ran.used, z.least),
      omega (arith, ran.used, z.inside),
      omega (arith, ran.written, z.fits),
      ap length ran.bytes ∙ length-append text (drop (length text) before) ∙ omega (arith, length-drop (length text) before, z.fits),
    )

-- a test of the code, as facts
pub either : (a b : ℕ) → (eqb a 8 || eqb b 0) ≡ true → (a ≡ 8) ⊎ (b ≡ 0)
either a b e = by (eqb a 8) refl e
  where
    by : (t : Bool) → eqb a 8 ≡ t → (t || eqb b 0) ≡ true → (a ≡ 8) ⊎ (b ≡ 0)
    by true q e = inl (eqb-true a 8 q)
    by false q e = inr (eqb-true b 0 e)

pub neither : (a b : ℕ) → (eqb a 8 || eqb b 0) ≡ false → 0 < b
neither a b e = by (eqb a 8) e
  where
    by : (t : Bool) → (t || eqb b 0) ≡ false → 0 < b
    by true e = absurd (let x : ◌≡◌ {A = ℕ} 0 1 = cc in omega arith)
    by false e = let n : (b ≡ 0 → ⊥) = eqb-false b 0 e in omega (arith, n)

-- the window and what lies behind it
split : (l : List ℕ) (u : ℕ) → u ≤ length (take 39 l) → drop u l ≡ drop u (take 39 l) ++ drop 39 l
split l u h = ap (drop u) (sym (take-append-drop 39 l)) ∙ drop-append-le u (take 39 l) (drop 39 l) h

-- a run that used nothing: there was nothing, no record, or no room
data Idle (s : State) (bytes : List ℕ) (q : Run) : Type 0 where
  Nothing : bytes ≡ [] → Idle s bytes q
  Nowhere : Lacking bytes → q ≡ halt s 7 → Idle s bytes q
  Roomless : q.code ≡ 8 → Idle s bytes q

idle : {s : State} {bytes : List ℕ} {room : ℕ} {q : Run} → Course s bytes room q → q.used ≡ 0 → Idle s bytes q
idle (End s room) e = Nothing refl
idle (Lacks s bytes room g l) e = Nowhere l refl
idle (Tight s bytes room r n read full) e = Roomless refl
idle (Goes s bytes room r n q read fits c) e = absurd (omega (arith, e, record_fits bytes read))

module _ (s : State) (l : List ℕ) (room : ℕ) (some : 0 < length l) where
  abbrev seen : List ℕ
  seen = take 39 l

  abbrev q : Run
  q = run_of s seen room

  -- a run over the window that stopped for want of room, or at once, is the run over all
  full : q.code ≡ 8 → run_of s l room ≡ q
  full e =
      ap (λ (x : List ℕ). run_of s x room) (sym (take-append-drop 39 l)) ∙ course_more (drop 39 l) (course s seen room)
      ∙ ap (after q) (by e (course_stop (course s seen room))) ∙ after_halt q 8 ∙ same_run (sym e) refl refl refl refl
    where
      by : {code : ℕ} → code ≡ 8 → Stop q.state (drop q.used seen) (room - length q.text) code
          → run_of q.state (drop q.used seen ++ drop 39 l) (room - length q.text) ≡ halt q.state 8
      by e (AtEnd h) = absurd (omega arith)
      by e (NoRecord g h) = absurd (omega arith)
      by e (NoRoom r n read tight) = run_tight q.state (drop q.used seen ++ drop 39 l) (room - length q.text) r n (whole_stays (drop q.used seen) (drop 39 l) read) tight

  lacks : Lacking seen → Lacking l
  lacks (Partly e) = Partly (sym (window_decides l) ∙ e)
  lacks (Never e) = Never (sym (window_decides l) ∙ e)

  none : q.used ≡ 0 → run_of s l room ≡ q
  none e = by (idle (course s seen room) e)
    where
      by : Idle s seen q → run_of s l room ≡ q
      by (Nothing z) = absurd (omega (arith, ap length z, length-take 39 l, some))
      by (Nowhere h z) = run_lacks s l room some (lacks h) ∙ sym z
      by (Roomless z) = full z

  pub decided : (q.code ≡ 8) ⊎ (q.used ≡ 0) → run_of s l room ≡ q
  decided h = ⊎_elim full none h

module _ {s : State} {t x₀ x : List ℕ} {now : State} {n u w : ℕ} (m : Midway s t x₀ x now n u w) where
  room : length (from w x) ≡ length x₀ - w
  room = rw (rest w x, length-drop, front_length m.front)

  module _ {part ys : List ℕ} {p : Played} (ran : Ran now part (from w x) ys p) where
    abbrev r : Run
    r = run_of now part (length x₀ - w)

    abbrev R : Run
    R = run_of now part (length (from w x))

    same : R ≡ r
    same = ap (run_of now part) room

    front : Front (m.text ++ r.text) x₀ (back w x ys) (w + p.written)
    front =
        front_then m.front
        (record {
          room = omega (arith, ap (λ (y : Run). length y.text) same, (sizes (course now part (length x₀ - w))).fits, room);
          count = ran.written ∙ ap (λ (y : Run). length y.text) same;
          bytes = ran.bytes ∙ ap (λ (y : Run). y.text ++ drop (length y.text) (from w x)) same;
        })

    to : {A : Type 0} (get : Run → A) {v : A} → v ≡ get R → v ≡ get r
    to get e = e ∙ ap get same

    -- the play of the part is the rest of the run
    pub midway_last : run_of now (drop u t) (length x₀ - w) ≡ r → Ran s t x₀ (back w x ys) (record { stop = p.stop; records = n + p.records; used = u + p.used; written = w + p.written; state = p.state })
    midway_last e =
        let g : run_of s t (length x₀) ≡ after (so 0 n u m.text now) r = m.goes ∙ ap (after (so 0 n u m.text now)) e in
        record {
          code = to (λ (y : Run). y.code) ran.code ∙ sym (ap (λ (y : Run). y.code) g);
          records = ap (λ (k : ℕ). n + k) (to (λ (y : Run). y.records) ran.records) ∙ sym (ap (λ (y : Run). y.records) g);
          used = ap (λ (k : ℕ). u + k) (to (λ (y : Run). y.used) ran.used) ∙ sym (ap (λ (y : Run). y.used) g);
          written = front.count ∙ sym (ap (λ (y : Run). length y.text) g);
          state = to (λ (y : Run). y.state) ran.state ∙ sym (ap (λ (y : Run). y.state) g);
          bytes = front.bytes ∙ sym (ap (λ (y : Run). y.text ++ drop (length y.text) x₀) g);
        }

  module _ {part ys : List ℕ} {p : Played} (is : part ≡ take 39 (drop u t)) (played : Ran now part (from w x) ys p) where
    ran : Ran now (take 39 (drop u t)) (from w x) ys p
    ran = subst (λ (y : List ℕ). Ran now y (from w x) ys p) is played

    abbrev l : List ℕ
    l = drop u t

    abbrev v : Run
    v = run_of now (take 39 l) (length x₀ - w)

    -- the loop ends: for want of room, or since no record stands there
    pub midway_stop : 0 < length l → (end_code p.stop ≡ 8) ⊎ (p.used ≡ 0) → Ran s t x₀ (back w x ys) (record { stop = p.stop; records = n + p.records; used = u + p.used; written = w + p.written; state = p.state })
    midway_stop some h =
        midway_last ran
        (decided now l (length x₀ - w) some
        (⊎_elim (λ e. inl (sym (to ran (λ (y : Run). y.code) ran.code) ∙ e)) (λ e. inr (sym (to ran (λ (y : Run). y.used) ran.used) ∙ e)) h))

    -- or goes on
    pub midway_step : Midway s t x₀ (back w x ys) p.state (n + p.records) (u + p.used) (w + p.written)
    midway_step =
        let z = sizes (course now (take 39 l) (length x₀ - w)) in
        let used : p.used ≡ v.used = to ran (λ (y : Run). y.used) ran.used in
        let records : p.records ≡ v.records = to ran (λ (y : Run). y.records) ran.records in
        let state : p.state ≡ v.state = to ran (λ (y : Run). y.state) ran.state in
        let written : p.written ≡ length v.text = to ran (λ (y : Run). length y.text) ran.written in
        let within : v.used ≤ length (take 39 l) = z.inside in
        let more : run_of now l (length x₀ - w) ≡ after v (run_of v.state (drop v.used (take 39 l) ++ drop 39 l) (length x₀ - w - length v.text)) =
        ap (λ (y : List ℕ). run_of now y (length x₀ - w)) (sym (take-append-drop 39 l)) ∙ course_more (drop 39 l) (course now (take 39 l) (length x₀ - w)) in
        let place : drop v.used (take 39 l) ++ drop 39 l ≡ drop (u + p.used) t =
        sym (split l v.used within) ∙ drop-drop v.used u t ∙ ap (λ (k : ℕ). drop (u + k) t) (sym used) in
        let left : length x₀ - w - length v.text ≡ length x₀ - (w + p.written) = omega (arith, written) in
        let q = run_of p.state (drop (u + p.used) t) (length x₀ - (w + p.written)) in
        let on : run_of v.state (drop v.used (take 39 l) ++ drop 39 l) (length x₀ - w - length v.text) ≡ q =
        ap (λ (y : List ℕ). run_of v.state y (length x₀ - w - length v.text)) place ∙ ap (run_of v.state (drop (u + p.used) t)) left
        ∙ ap (λ (y : State). run_of y (drop (u + p.used) t) (length x₀ - (w + p.written))) (sym state) in
        record {
          text = m.text ++ v.text;
          front = front ran;
          inside = omega (arith, used, within, length-take 39 l, length-drop u t, m.inside);
          few = omega (arith, used, records, z.least, m.few);
          goes =
              m.goes ∙ ap (after (so 0 n u m.text now)) more ∙ sym (after_after (so 0 n u m.text now) v (run_of v.state (drop v.used (take 39 l) ++ drop 39 l) (length x₀ - w - length v.text)))
              ∙ ap (after (after (so 0 n u m.text now) v)) on
              ∙ same_run refl (ap (λ (k : ℕ). n + k + q.records) (sym records)) (ap (λ (k : ℕ). u + k + q.used) (sym used)) refl refl;
        }
