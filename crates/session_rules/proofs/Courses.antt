-- What is shown of a run by its course. Assumes nothing.
use Rattle.std.specs.Prelude.{Ok, Err}
use Prim.Native.Nat.{ℕ, ◌+◌, ◌*◌, ◌-◌, ◌≤◌, ◌<◌}
use native.Mathlib.Nat.{sub-zero}
use native.Mathlib.Omega.{arith}
use mathlib.Core.Path.{◌≡◌, refl, sym, ap, ◌∙◌}
use mathlib.Core.Bool.{true}
use mathlib.Core.Logic.{◌⊎◌, inl, inr}
use mathlib.Core.List.{List, [], ◌++◌}
use lib.ListN.{length, drop, take, length-append, length-drop}
use lib.Seq.{drop-append-le, drop-drop, take-add, length-take-le, drop_at}
use Rattle.rules.specs.declared.state.State.{State}
use Rattle.rules.specs.WellFormed.{well_formed}
use Rattle.rules.specs.Codes.{number_of}
use Rattle.rules.proofs.Codes.{number_small}
use Rattle.rules.proofs.WellFormed.{steps_well_formed}
use Rattle.text_rules.specs.declared.record.Record.{Record}
use Rattle.text_rules.specs.declared.record.Unread.TheVariants.{Part}
use Rattle.text_rules.specs.Record.{record_of}
use Rattle.text_rules.specs.Sizes.{longest_answer, longest_record, shortest_answer, shortest_record}
use Rattle.text_rules.proofs.Bounded.{part_ends_inside, record_is_bounded}
use Rattle.text_rules.proofs.More.{whole_stays}
use Rattle.text_rules.proofs.Records.{record_fits}
use Rattle.text_rules.proofs.Size.{answer_long, answer_short}
use Rattle.replay_rules.specs.Play.{Run, answer_to, ended, numbers_of, run_of, text_of}
use Rattle.session_rules.proofs.Course.{Course, Lacking, after, after_after, halt_after, one, run_end, run_goes, run_lacks}
use Rattle.session_rules.proofs.Course.Course.{End, Lacks, Tight, Goes}

-- no answer is shorter or longer than there are
pub text_size : (s : State) (r : Record) → (shortest_answer ≤ length (text_of (answer_to s r))) × (length (text_of (answer_to s r)) ≤ longest_answer)
unfolding text_of
text_size s r =
    let a = answer_to s r in
    let h : number_of a.code < 7 = number_small a.code in
    (answer_long (number_of a.code) a.reply a.alert a.therm, answer_short (number_of a.code) a.reply a.alert a.therm (omega arith))

-- how large a run's numbers are
pub record Sizes (bytes : List ℕ) (room : ℕ) (q : Run) : Type 0 where
  pub inside : q.used ≤ length bytes
  pub least : shortest_record * q.records ≤ q.used
  pub most : q.used ≤ longest_record * q.records
  pub short : shortest_answer * q.records ≤ length q.text
  pub long : length q.text ≤ longest_answer * q.records
  pub fits : length q.text ≤ room

pub sizes : {s : State} {bytes : List ℕ} {room : ℕ} {q : Run} → Course s bytes room q → Sizes bytes room q
sizes (End s room) = record { inside = omega arith; least = omega arith; most = omega arith; short = omega arith; long = omega arith; fits = omega arith }
sizes (Lacks s bytes room g l) = record { inside = omega arith; least = omega arith; most = omega arith; short = omega arith; long = omega arith; fits = omega arith }
sizes (Tight s bytes room r n read full) = record { inside = omega arith; least = omega arith; most = omega arith; short = omega arith; long = omega arith; fits = omega arith }
sizes (Goes s bytes room r n q read fits c) =
    let h = sizes c in
    let f = record_fits bytes read in
    let b = (record_is_bounded bytes r n read).most in
    let t = text_size s r in
    let l : length (drop n bytes) ≡ length bytes - n = length-drop n bytes in
    let m : length (text_of (answer_to s r) ++ q.text) ≡ length (text_of (answer_to s r)) + length q.text = length-append (text_of (answer_to s r)) q.text in
    record {
      inside = omega (arith, h.inside, f);
      least = omega (arith, h.least, f);
      most = omega (arith, h.most, b);
      short = omega (arith, h.short, t, m);
      long = omega (arith, h.long, t, m);
      fits = omega (arith, h.fits, fits, m);
    }

pub course_well : {s : State} {bytes : List ℕ} {room : ℕ} {q : Run} → Course s bytes room q → well_formed s ≡ true → well_formed q.state ≡ true
course_well (End s room) w = w
course_well (Lacks s bytes room g l) w = w
course_well (Tight s bytes room r n read full) w = w
course_well (Goes s bytes room r n q read fits c) w = course_well c (steps_well_formed s (numbers_of r) w)

further : (s : State) (bytes : List ℕ) (room : ℕ) (r : Record) (n : ℕ) (q : Run) (more : List ℕ) → record_of bytes ≡ Ok (r, n) → length (text_of (answer_to s r)) ≤ room
    → run_of (answer_to s r).state (drop n bytes ++ more) (room - length (text_of (answer_to s r)))
    ≡ after q (run_of q.state (drop q.used (drop n bytes) ++ more) (room - length (text_of (answer_to s r)) - length q.text))
    → run_of s (bytes ++ more) room ≡ after (after (one s r n) q) (run_of q.state (drop (n + q.used) bytes ++ more) (room - length (text_of (answer_to s r) ++ q.text)))
further s bytes room r n q more read fits e =
    let f = record_fits bytes read in
    let text = text_of (answer_to s r) in
    let left : room - length text - length q.text ≡ room - length (text ++ q.text) = omega (arith, length-append text q.text) in
    let rest : drop q.used (drop n bytes) ≡ drop (n + q.used) bytes = drop-drop q.used n bytes in
    let later : List ℕ → ℕ → Run = λ x m. run_of q.state (x ++ more) m in
    run_goes s (bytes ++ more) room r n (whole_stays bytes more read) fits
    ∙ ap (λ (x : List ℕ). after (one s r n) (run_of (answer_to s r).state x (room - length text))) (drop-append-le n bytes more f.1)
    ∙ ap (after (one s r n)) (e ∙ ap (λ (x : List ℕ). after q (later x (room - length text - length q.text))) rest ∙ ap (λ (m : ℕ). after q (later (drop (n + q.used) bytes) m)) left)
    ∙ sym (after_after (one s r n) q (later (drop (n + q.used) bytes) (room - length (text ++ q.text))))

-- more bytes: the run is the same up to where it stopped, and goes on from there
pub course_more : {s : State} {bytes : List ℕ} {room : ℕ} {q : Run} (more : List ℕ) → Course s bytes room q
    → run_of s (bytes ++ more) room ≡ after q (run_of q.state (drop q.used bytes ++ more) (room - length q.text))
course_more more (End s room) = rw (sub-zero room) (sym (halt_after s 0 (run_of s more room)))
course_more more (Lacks s bytes room g l) = rw (sub-zero room) (sym (halt_after s 7 (run_of s (bytes ++ more) room)))
course_more more (Tight s bytes room r n read full) = rw (sub-zero room) (sym (halt_after s 8 (run_of s (bytes ++ more) room)))
course_more more (Goes s bytes room r n q read fits c) = further s bytes room r n q more read fits (course_more more c)

-- where the run stopped: the end, no record, or no room
pub data Stop (s : State) (rest : List ℕ) (room : ℕ) : ℕ → Type 0 where
  AtEnd : rest ≡ [] → Stop s rest room 0
  NoRecord : 0 < length rest → Lacking rest → Stop s rest room 7
  NoRoom : (r : Record) (n : ℕ) → record_of rest ≡ Ok (r, n) → room < length (text_of (answer_to s r)) → Stop s rest room 8

pub course_stop : {s : State} {bytes : List ℕ} {room : ℕ} {q : Run} → Course s bytes room q
    → Stop q.state (drop q.used bytes) (room - length q.text) q.code
course_stop (End s room) = AtEnd refl
course_stop (Lacks s bytes room g l) = NoRecord g l
course_stop (Tight s bytes room r n read full) = NoRoom r n read (omega arith)
course_stop (Goes s bytes room r n q read fits c) =
    let text = text_of (answer_to s r) in
    let left : room - length text - length q.text ≡ room - length (text ++ q.text) = omega (arith, length-append text q.text) in
    rw (← left, ← drop-drop q.used n bytes) (course_stop c)

-- a record that begins in a partial one ends behind it
pub course_beyond : {s : State} {bytes : List ℕ} {room : ℕ} {q : Run} (part more : List ℕ) → record_of part ≡ Err Part → bytes ≡ part ++ more → Course s bytes room q
    → (q.used ≡ 0) ⊎ (length part < q.used)
course_beyond part more p e (End s room) = inl refl
course_beyond part more p e (Lacks s bytes room g l) = inl refl
course_beyond part more p e (Tight s bytes room r n read full) = inl refl
course_beyond part more p e (Goes s bytes room r n q read fits c) =
    let h : length part < n = part_ends_inside part more r n p (ap record_of (sym e) ∙ read) in
    inr (omega arith)

-- its own bytes, with room for its answers: the same run, with code 0
pub course_own : {s : State} {bytes : List ℕ} {room : ℕ} {q : Run} (any : ℕ) → Course s bytes room q → length q.text ≤ any
    → run_of s (take q.used bytes) any ≡ ended q 0
course_own any (End s room) h = run_end s any
course_own any (Lacks s bytes room g l) h = run_end s any
course_own any (Tight s bytes room r n read full) h = run_end s any
course_own any (Goes s bytes room r n q read fits c) h =
    let f = record_fits bytes read in
    let text = text_of (answer_to s r) in
    let m : length (text ++ q.text) ≡ length text + length q.text = length-append text q.text in
    let whole : record_of (take n bytes ++ take q.used (drop n bytes)) ≡ Ok (r, n) = whole_stays (take n bytes) (take q.used (drop n bytes)) (record_is_bounded bytes r n read).own in
    let rest : drop n (take n bytes ++ take q.used (drop n bytes)) ≡ take q.used (drop n bytes) = drop_at (take n bytes) (take q.used (drop n bytes)) n (length-take-le n bytes f.1) in
    rw (take-add n q.used bytes)
    (run_goes s (take n bytes ++ take q.used (drop n bytes)) any r n whole (omega (arith, m, h))
    ∙ rw (rest, course_own (any - length text) c (omega (arith, m, h))))

-- other room, where it is enough and the run was not stopped for want of it
pub course_room : {s : State} {bytes : List ℕ} {room : ℕ} {q : Run} (any : ℕ) → Course s bytes room q → (q.code ≡ 8 → ⊥) → length q.text ≤ any
    → run_of s bytes any ≡ q
course_room any (End s room) n h = run_end s any
course_room any (Lacks s bytes room g l) n h = run_lacks s bytes any g l
course_room any (Tight s bytes room r m read full) n h = absurd (n refl)
course_room any (Goes s bytes room r m q read fits c) n h =
    let text = text_of (answer_to s r) in
    let l : length (text ++ q.text) ≡ length text + length q.text = length-append text q.text in
    run_goes s bytes any r m read (omega (arith, l, h)) ∙ rw (course_room (any - length text) c n (omega (arith, l, h)))
