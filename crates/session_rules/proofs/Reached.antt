-- The invariant of a session that calls have reached: the run over the bytes that were used is at its end with the session's counts, the
-- answers joined and the chip; behind those bytes stands what is carried. Assumes nothing.
use Rattle.std.specs.Prelude.{Err}
use Rattle.rules.specs.declared.answer.Code.TheVariants.{Done}
use Prim.Native.Nat.{ℕ, ◌+◌, ◌-◌, ◌≤◌}
use native.Mathlib.Omega.{arith}
use mathlib.Core.Path.{◌≡◌, refl, sym, ap, subst, ◌∙◌}
use mathlib.Core.Bool.{Bool, cond}
use mathlib.Core.List.{List, [], ◌∷◌, ◌++◌, append_assoc, append-nil}
use lib.Dec.{eqb}
use lib.IntN.{ℤ}
use lib.ListN.{length, drop, take, drop_of_length-le, length-append, length-take}
use borrow.Author.Tests.{ne_eqb}
use Rattle.rules.specs.declared.state.State.{State}
use Rattle.rules.specs.PowerOn.{made_of}
use Rattle.text_rules.specs.declared.record.Unread.TheVariants.{Part}
use Rattle.text_rules.specs.Record.{record_of}
use Rattle.replay_rules.specs.Play.{Run, run_of}
use Rattle.replay_rules.specs.Room.{room_of}
use Rattle.session_rules.specs.declared.session.Session.{Session}
use Rattle.session_rules.specs.Session.{carried_of, opened_of}
use Rattle.session_rules.specs.Portion.{Feed}
use Rattle.session_rules.specs.Calls.{Call, answers_after, fed, opened, session_after, taken_after}
use Rattle.session_rules.proofs.Course.{after, after_halt, course, halt, run_end, run_lacks, same_run}
use Rattle.session_rules.proofs.Course.Lacking.{Partly}
use Rattle.session_rules.proofs.Courses.{course_more, course_own, sizes}
use Rattle.session_rules.proofs.Ways.{moved, moved_back}
use Rattle.session_rules.proofs.Sessions.{Given, Held, carried_size, fed_held, given, opened_held}
use Rattle.session_rules.proofs.Sessions.Given.{Refused, Looked}

-- a run that stands where the session stands
abbrev pub stand : Session → List ℕ → ℕ → Run
stand s answers code = record { code = code; records = s.records; used = s.used; text = answers; state = s.chip }

pub record Reached (from : State) (s : Session) (taken answers : List ℕ) : Type 0 where
  pub through : List ℕ
  pub done : (room : ℕ) → length answers ≤ room → run_of from through room ≡ stand s answers 0
  pub size : length through ≡ s.used
  pub written : s.written ≡ length answers
  pub held : Held s
  pub whole : taken ≡ through ++ carried_of s

module _ {from : State} {s : Session} {taken answers : List ℕ} (h : Reached from s taken answers) where
  -- a run over more bytes goes on from the session
  pub join : (bytes : List ℕ) (room : ℕ) → length answers ≤ room → run_of from (h.through ++ bytes) room ≡ after (stand s answers 0) (run_of s.chip bytes (room - length answers))
  join bytes room fits =
      let q = h.done room fits in
      let gone : drop s.used h.through ≡ [] = drop_of_length-le h.through {i = s.used} (omega (arith, h.size)) in
      course_more bytes (course from h.through room)
      ∙ ap (λ (p : Run). after p (run_of p.state (drop p.used h.through ++ bytes) (room - length p.text))) q
      ∙ ap (λ (l : List ℕ). after (stand s answers 0) (run_of s.chip (l ++ bytes) (room - length answers))) gone

  -- how many bytes were taken, and how long the answers are
  pub taken_size : length taken ≡ s.used + s.count
  taken_size = ap length h.whole ∙ length-append h.through (carried_of s) ∙ omega (arith, h.size, carried_size s h.held)

  pub answers_fit : (room : ℕ) → room_of (length taken) ≤ room → length answers ≤ room
  answers_fit room e = omega (arith, e, taken_size, h.written, h.held.long, h.held.least)

  -- the run over the bytes taken: what is carried is its unused rest
  pub now : (room : ℕ) → length answers ≤ room → run_of from taken room ≡ stand s answers (cond (eqb s.count 0) 0 7)
  now room fits =
      ap (λ (l : List ℕ). run_of from l room) h.whole ∙ join (carried_of s) room fits ∙ ap (after (stand s answers 0)) (by (carried_of s) s.count (carried_size s h.held) h.held.part)
      ∙ after_halt (stand s answers 0) (cond (eqb s.count 0) 0 7)
    where
      by : (l : List ℕ) (n : ℕ) → length l ≡ n → record_of l ≡ Err Part → run_of s.chip l (room - length answers) ≡ halt s.chip (cond (eqb n 0) 0 7)
      by [] n e p = rw (sym e) (run_end s.chip (room - length answers))
      by (x ∷ l) n e p = rw (ne_eqb n 0 (λ z. omega (arith, z, e))) (run_lacks s.chip (x ∷ l) (room - length answers) (omega arith) (Partly p))

  -- one call more
  way_reached : (portion : List ℕ) (end : Bool) (room : ℕ) {f : Feed} → Given s portion end room f → Reached from f.session (taken ++ take f.taken portion) (answers ++ f.text)
  way_reached portion end room (Refused code e n) =
      rw (append-nil taken, append-nil answers) h
  way_reached portion end room {f} (Looked e w) =
      let bytes = carried_of s ++ portion in
      let r = run_of s.chip bytes room in
      let c = course s.chip bytes room in
      let k = h.held in
      let m = moved s portion end room r c (carried_size s k) k.part w in
      let z = sizes c in
      let back : carried_of f.session ≡ m.rest = moved_back m in
      record {
        through = h.through ++ take r.used bytes;
        done = λ any fits.
            let l : length (answers ++ f.text) ≡ length answers + length f.text = length-append answers f.text in
            let t : length f.text ≡ length r.text = ap length m.text in
            join (take r.used bytes) any (omega (arith, fits, l))
            ∙ ap (after (stand s answers 0)) (course_own (any - length answers) c (omega (arith, fits, l, t)))
            ∙ same_run refl (sym m.records) (sym m.used) (ap (λ (x : List ℕ). answers ++ x) (sym m.text)) (sym m.chip);
        size = length-append h.through (take r.used bytes) ∙ omega (arith, h.size, length-take r.used bytes, z.inside, m.used);
        written = m.written ∙ omega (arith, h.written, length-append answers f.text, ap length m.text);
        held = fed_held s portion end room k (Looked e w);
        whole =
            ap (λ (x : List ℕ). x ++ take f.taken portion) h.whole ∙ append_assoc h.through (carried_of s) (take f.taken portion)
            ∙ ap (λ (x : List ℕ). h.through ++ x) (m.split ∙ ap (λ (x : List ℕ). take r.used bytes ++ x) (sym back))
            ∙ sym (append_assoc h.through (take r.used bytes) (carried_of f.session));
      }

  pub fed_reached : (c : Call) → Reached from (fed s c).session (taken ++ take (fed s c).taken c.portion) (answers ++ (fed s c).text)
  fed_reached c = way_reached c.portion c.end c.room (given s c.portion c.end c.room)

-- any calls
pub calls_reached : (cs : List Call) {from : State} {s : Session} {taken answers : List ℕ} → Reached from s taken answers
    → Reached from (session_after s cs) (taken ++ taken_after s cs) (answers ++ answers_after s cs)
unfolding session_after taken_after answers_after
calls_reached [] {taken} {answers} h = rw (append-nil taken, append-nil answers) h
calls_reached (c ∷ cs) {from} {s} {taken} {answers} h =
    let t = (fed s c).session in
    subst (λ (x : List ℕ). Reached from (session_after t cs) x (answers ++ ((fed s c).text ++ answers_after t cs))) (append_assoc taken (take (fed s c).taken c.portion) (taken_after t cs))
    (subst (λ (x : List ℕ). Reached from (session_after t cs) ((taken ++ take (fed s c).taken c.portion) ++ taken_after t cs) x) (append_assoc answers (fed s c).text (answers_after t cs))
    (calls_reached cs (fed_reached h c)))

pub opened_reached : (address : ℤ) → (made_of address).code ≡ Done → Reached (made_of address).state (opened address) [] []
unfolding opened_of
opened_reached address e =
    record { through = []; done = λ room fits. run_end (made_of address).state room; size = refl; written = refl; held = opened_held address e; whole = refl }

pub reached : (address : ℤ) → (made_of address).code ≡ Done → (cs : List Call) → Reached (made_of address).state (session_after (opened address) cs) (taken_after (opened address) cs) (answers_after (opened address) cs)
reached address e cs = calls_reached cs (opened_reached address e)
