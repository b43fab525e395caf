-- A run without its count of turns: nothing is left, no record is there, an answer does not fit, or one record is answered and the run goes
-- on behind it. Whatever is shown of a run is shown of these four. Assumes nothing.
use Rattle.std.specs.Prelude.{Ok, Err}
use Prim.Native.Nat.{ℕ, zero, suc, ◌+◌, ◌-◌, ◌≤◌, ◌<◌}
use native.Mathlib.Omega.{arith}
use mathlib.Core.Path.{◌≡◌, refl, sym, ap, subst, ◌∙◌}
use mathlib.Core.Bool.{Bool, true, false, cond}
use mathlib.Core.List.{List, [], ◌∷◌, ◌++◌, append_assoc, append-nil}
use lib.Dec.{eqb, leb}
use lib.ListN.{length, drop, length-drop}
use borrow.Author.Tests.{le-leb, lt-leb, leb-true, leb-false, ne_eqb}
use Rattle.rules.specs.declared.state.State.{State}
use Rattle.text_rules.specs.declared.record.Record.{Record}
use Rattle.text_rules.specs.Record.{Parsed}
use Rattle.text_rules.specs.declared.record.Unread.TheVariants.{Part, Malformed}
use Rattle.text_rules.specs.Record.{record_of}
use Rattle.text_rules.proofs.Records.{record_fits}
use Rattle.replay_rules.specs.Play.{Turn}
use Rattle.replay_rules.specs.Play.{Run, added_of, answer_to, begun, ended, run_from, run_of, text_of, turn_of, went}
use Rattle.replay_rules.proofs.Came.{Came, came, onward}
use Rattle.replay_rules.proofs.Came.Came.{On, Full, Bad}

-- one run, and another from where it left
abbrev pub after : Run → Run → Run
after p q =
    record { code = q.code; records = p.records + q.records; used = p.used + q.used; text = p.text ++ q.text; state = q.state }

-- nothing was done
abbrev pub halt : State → ℕ → Run
halt s code = record { code = code; records = 0; used = 0; text = []; state = s }

-- one record answered
abbrev pub one : State → Record → ℕ → Run
one s r n = record { code = 0; records = 1; used = n; text = text_of (answer_to s r); state = (answer_to s r).state }

pub same_run : {p q : Run} → p.code ≡ q.code → p.records ≡ q.records → p.used ≡ q.used → p.text ≡ q.text → p.state ≡ q.state → p ≡ q
same_run c r u t s i = record { code = c i; records = r i; used = u i; text = t i; state = s i }

pub after_after : (p q r : Run) → after (after p q) r ≡ after p (after q r)
after_after p q r = same_run refl (omega arith) (omega arith) (append_assoc p.text q.text r.text) refl

pub after_halt : (p : Run) (code : ℕ) → after p (halt p.state code) ≡ ended p code
after_halt p code = same_run refl (omega arith) (omega arith) (append-nil p.text) refl

pub halt_after : (s : State) (code : ℕ) (q : Run) → after (halt s code) q ≡ q
halt_after s code q = same_run refl (omega arith) (omega arith) refl refl

-- how many turns there are does not matter, where they are enough
abbrev Steady : ℕ → Type 0
Steady turns =
    (turns' : ℕ) (p q : Run) (rest : List ℕ) (room : ℕ) → length rest ≤ turns → length rest ≤ turns'
    → run_from turns (after p q) rest room ≡ after p (run_from turns' q rest room)

none : (turns : ℕ) (p : Run) (rest : List ℕ) (room : ℕ) → length rest ≡ 0 → run_from turns p rest room ≡ ended p 0
unfolding run_from
none zero p rest room e = refl
none (suc turns) p rest room e = rw e

steady : (turns : ℕ) → Steady turns
unfolding run_from
steady zero turns' p q rest room h h' = sym (ap (after p) (none turns' q rest room (omega arith)))
steady (suc turns) zero p q rest room h h' = none (suc turns) (after p q) rest room (omega arith)
steady (suc turns) (suc turns') p q rest room h h' = by (steady turns turns') (eqb (length rest) 0) (came q.state rest room)
  where
    by : ((p q : Run) (rest : List ℕ) (room : ℕ) → length rest ≤ turns → length rest ≤ turns' → run_from turns (after p q) rest room ≡ after p (run_from turns' q rest room))
        → (empty : Bool) {t : Turn} {text : List ℕ} → Came q.state rest room t text
        → cond empty (ended (after p q) 0) (onward turns (after p q) rest room t text) ≡ after p (cond empty (ended q 0) (onward turns' q rest room t text))
    by later true c = refl
    by later false (On r n read fits) =
        let text = text_of (answer_to q.state r) in
        let s = (answer_to q.state r).state in
        let f = record_fits rest read in
        let l : length (drop n rest) ≡ length rest - n = length-drop n rest in
        let same : went (after p q) s n text ≡ after p (went q s n text) = same_run refl (omega arith) (omega arith) (append_assoc p.text q.text text) refl in
        ap (λ (x : Run). run_from turns x (drop n rest) (room - length text)) same
        ∙ later p (went q s n text) (drop n rest) (room - length text) (omega (arith, f)) (omega (arith, f))
    by later false (Full r n read full) = refl
    by later false (Bad all) = refl

-- a run from where another stands
pub run_on : (turns : ℕ) (p : Run) (rest : List ℕ) (room : ℕ) → length rest ≤ turns → p.code ≡ 0 → run_from turns p rest room ≡ after p (run_of p.state rest room)
unfolding run_of
run_on turns p rest room h e =
    ap (λ (x : Run). run_from turns x rest room) (same_run e (omega arith) (omega arith) (sym (append-nil p.text)) refl)
    ∙ steady turns (length rest) p (begun p.state) rest room h (omega arith)

-- no record stands there
pub data Lacking (rest : List ℕ) : Type 0 where
  Partly : record_of rest ≡ Err Part → Lacking rest
  Never : record_of rest ≡ Err Malformed → Lacking rest

pub data Course : State → List ℕ → ℕ → Run → Type 0 where
  End : (s : State) (room : ℕ) → Course s [] room (halt s 0)
  Lacks : (s : State) (bytes : List ℕ) (room : ℕ) → 0 < length bytes → Lacking bytes → Course s bytes room (halt s 7)
  Tight : (s : State) (bytes : List ℕ) (room : ℕ) (r : Record) (n : ℕ) → record_of bytes ≡ Ok (r, n) → room < length (text_of (answer_to s r)) → Course s bytes room (halt s 8)
  Goes : (s : State) (bytes : List ℕ) (room : ℕ) (r : Record) (n : ℕ) (q : Run) → record_of bytes ≡ Ok (r, n) → length (text_of (answer_to s r)) ≤ room
      → Course (answer_to s r).state (drop n bytes) (room - length (text_of (answer_to s r))) q → Course s bytes room (after (one s r n) q)

step : (turns : ℕ) (p : Run) (rest : List ℕ) (room : ℕ) → 0 < length rest
    → run_from (suc turns) p rest room ≡ onward turns p rest room (turn_of p.state rest room) (added_of p.state rest room)
unfolding run_from
step turns p rest room g = rw (ne_eqb (length rest) 0 (λ z. omega arith))

module _ (s : State) (bytes : List ℕ) (room : ℕ) where
  first : 0 < length bytes → run_of s bytes room ≡ onward (length bytes - 1) (begun s) bytes room (turn_of s bytes room) (added_of s bytes room)
  unfolding run_of
  first g =
      let n : length bytes ≡ suc (length bytes - 1) = omega arith in
      ap (λ (turns : ℕ). run_from turns (begun s) bytes room) n ∙ step (length bytes - 1) (begun s) bytes room g

  pub run_lacks : 0 < length bytes → Lacking bytes → run_of s bytes room ≡ halt s 7
  unfolding turn_of added_of
  run_lacks g (Partly e) = first g ∙ rw e
  run_lacks g (Never e) = first g ∙ rw e

  module _ (r : Record) (n : ℕ) (read : record_of bytes ≡ Ok (r, n)) where
    some : 0 < length bytes
    some = let f = record_fits bytes read in omega (arith, f)

    pub run_tight : room < length (text_of (answer_to s r)) → run_of s bytes room ≡ halt s 8
    unfolding turn_of added_of
    run_tight h = first some ∙ rw (read, lt-leb (length (text_of (answer_to s r))) room h)

    pub run_goes : length (text_of (answer_to s r)) ≤ room → run_of s bytes room ≡ after (one s r n) (run_of (answer_to s r).state (drop n bytes) (room - length (text_of (answer_to s r))))
    unfolding turn_of added_of
    run_goes h =
        let f = record_fits bytes read in
        let l : length (drop n bytes) ≡ length bytes - n = length-drop n bytes in
        let text = text_of (answer_to s r) in
        let to = (answer_to s r).state in
        let turn : run_of s bytes room ≡ run_from (length bytes - 1) (went (begun s) to n text) (drop n bytes) (room - length text) = first some ∙ rw (read, le-leb (length text) room h) in
        let same : went (begun s) to n text ≡ one s r n = same_run refl (omega arith) (omega arith) refl refl in
        turn
        ∙ run_on (length bytes - 1) (went (begun s) to n text) (drop n bytes) (room - length text) (omega (arith, f)) refl
        ∙ ap (λ (x : Run). after x (run_of to (drop n bytes) (room - length text))) same

pub run_end : (s : State) (room : ℕ) → run_of s [] room ≡ halt s 0
unfolding run_of run_from
run_end s room = refl

-- every run has a course
abbrev Courses : ℕ → Type 0
Courses turns = (s : State) (bytes : List ℕ) (room : ℕ) → length bytes ≤ turns → Course s bytes room (run_of s bytes room)

courses_some : (turns : ℕ) → Courses turns → (s : State) (bytes : List ℕ) (room : ℕ) → 0 < length bytes → length bytes ≤ suc turns → Course s bytes room (run_of s bytes room)
courses_some turns later s bytes room g h = by (record_of bytes) refl
  where
    to : {q : Run} → run_of s bytes room ≡ q → Course s bytes room q → Course s bytes room (run_of s bytes room)
    to e c = subst (Course s bytes room) (sym e) c

    by : (p : Parsed) → record_of bytes ≡ p → Course s bytes room (run_of s bytes room)
    by (Ok (r, n)) read = fit (leb (length (text_of (answer_to s r))) room) refl
      where
        fit : (b : Bool) → leb (length (text_of (answer_to s r))) room ≡ b → Course s bytes room (run_of s bytes room)
        fit true q =
            let f = record_fits bytes read in
            let l : length (drop n bytes) ≡ length bytes - n = length-drop n bytes in
            let fits = leb-true (length (text_of (answer_to s r))) room q in
            to (run_goes s bytes room r n read fits)
            (Goes s bytes room r n _ read fits (later (answer_to s r).state (drop n bytes) (room - length (text_of (answer_to s r))) (omega (arith, f))))
        fit false q =
            let full = leb-false (length (text_of (answer_to s r))) room q in
            to (run_tight s bytes room r n read full) (Tight s bytes room r n read full)
    by (Err Part) e = to (run_lacks s bytes room g (Partly e)) (Lacks s bytes room g (Partly e))
    by (Err Malformed) e = to (run_lacks s bytes room g (Never e)) (Lacks s bytes room g (Never e))

courses_next : (turns : ℕ) → Courses turns → Courses (suc turns)
courses_next turns later s [] room h = subst (Course s [] room) (sym (run_end s room)) (End s room)
courses_next turns later s (b ∷ bytes) room h = courses_some turns later s (b ∷ bytes) room (omega arith) h

courses_zero : Courses 0
courses_zero s [] room h = subst (Course s [] room) (sym (run_end s room)) (End s room)
courses_zero s (b ∷ bytes) room h = absurd (omega arith)

courses : (turns : ℕ) → Courses turns
courses zero = courses_zero
courses (suc turns) = courses_next turns (courses turns)

pub course : (s : State) (bytes : List ℕ) (room : ℕ) → Course s bytes room (run_of s bytes room)
course s bytes room = courses (length bytes) s bytes room (omega arith)
