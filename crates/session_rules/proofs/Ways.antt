-- What a portion that is looked at comes to: all of it is taken, at the end of its records or at a partial one; or it is taken up to a
-- record that is bad, or up to one that waits for room. Assumes nothing.
use Rattle.std.specs.Prelude.{Ok, Err}
use Prim.Native.Nat.{ℕ, ◌+◌, ◌-◌, ◌≤◌, ◌<◌}
use native.Mathlib.Omega.{arith}
use mathlib.Core.Path.{◌≡◌, refl, sym, ap, subst, ◌∙◌}
use mathlib.Core.Logic.{⊎_elim}
use mathlib.Core.Bool.{Bool, cond}
use mathlib.Core.List.{List, [], ◌++◌, append-nil}
use lib.ListN.{length, drop, take, drop_of_length-le, length-append, replicate, take-append-drop}
use lib.Seq.{take_all, take-append-add, take-append_seam}
use Rattle.text_rules.specs.declared.record.Record.{Record}
use Rattle.text_rules.specs.declared.record.Unread.TheVariants.{Part, Malformed}
use Rattle.text_rules.specs.Line.{fit_of, line_of}
use Rattle.text_rules.specs.Record.{record_of}
use Rattle.text_rules.proofs.Bounded.{part_is_bounded}
use Rattle.replay_rules.specs.Play.{Run, answer_to, text_of}
use Rattle.session_rules.specs.declared.session.Session.{Session}
use Rattle.session_rules.specs.Session.{carried_of, padded, partial}
use Rattle.session_rules.specs.Portion.{Feed, all_taken, settled, stopped_at, waits}
use Rattle.session_rules.proofs.Course.{Course}
use Rattle.session_rules.proofs.Course.Lacking.{Never, Partly}
use Rattle.session_rules.proofs.Courses.{Stop, course_beyond, course_stop, sizes}
use Rattle.session_rules.proofs.Courses.Stop.{AtEnd, NoRecord, NoRoom}

pub part_nil : record_of [] ≡ Err Part
unfolding record_of line_of fit_of
part_nil = refl

module _ (s : Session) (portion : List ℕ) (end : Bool) (room : ℕ) (r : Run) where
  abbrev bytes : List ℕ
  bytes = carried_of s ++ portion

  abbrev left : List ℕ
  left = drop r.used bytes

  pub data Way : Feed → Type 0 where
    Through : r.code ≡ 0 → left ≡ [] → Way (all_taken s portion end r 0)
    Waits : r.code ≡ 7 → 0 < length left → record_of left ≡ Err Part → Way (all_taken s portion end r (cond end 7 0))
    Bad : r.code ≡ 7 → record_of left ≡ Err Malformed → Way (stopped_at s r)
    Full : r.code ≡ 8 → (q : Record) (n : ℕ) → record_of left ≡ Ok (q, n) → room - length r.text < length (text_of (answer_to r.state q)) → Way (stopped_at s r)

  pub way : Course s.chip bytes room r → Way (settled s portion end r (waits r bytes))
  unfolding partial
  way c = by refl (course_stop c)
    where
      by : {code : ℕ} → r.code ≡ code → Stop r.state left (room - length r.text) code → Way (settled s portion end r (waits r bytes))
      by e (AtEnd h) = subst Way (sym through) (Through e h)
        where
          through : settled s portion end r (waits r bytes) ≡ all_taken s portion end r 0
          through = rw e
      by e (NoRecord g (Partly p)) = subst Way (sym waiting) (Waits e g p)
        where
          waiting : settled s portion end r (waits r bytes) ≡ all_taken s portion end r (cond end 7 0)
          waiting = rw (e, p)
      by e (NoRecord g (Never p)) = subst Way (sym stopped) (Bad e p)
        where
          stopped : settled s portion end r (waits r bytes) ≡ stopped_at s r
          stopped = rw (e, p)
      by e (NoRoom q n read full) = subst Way (sym stopped) (Full e q n read full)
        where
          stopped : settled s portion end r (waits r bytes) ≡ stopped_at s r
          stopped = rw e

-- the bytes that are carried come back out of the 38 that hold them
carried_back : (rest : List ℕ) → length rest ≤ 38 → take (length rest) (padded rest) ≡ rest
carried_back rest h = rw (take_all 38 rest h) (take-append_seam rest (replicate (38 - length rest) 0))

-- what was taken is what was used and what is carried; a partial record is carried
pub record Moved (s : Session) (portion : List ℕ) (r : Run) (f : Feed) : Type 0 where
  pub rest : List ℕ
  pub part : record_of rest ≡ Err Part
  pub split : carried_of s ++ take f.taken portion ≡ take r.used (carried_of s ++ portion) ++ rest
  pub inside : f.taken ≤ length portion
  pub count : f.session.count ≡ length rest
  pub holds : f.session.carried ≡ padded rest
  pub chip : f.session.chip ≡ r.state
  pub records : f.session.records ≡ s.records + r.records
  pub used : f.session.used ≡ s.used + r.used
  pub written : f.session.written ≡ s.written + length r.text
  pub text : f.text ≡ r.text

pub moved_back : {s : Session} {portion : List ℕ} {r : Run} {f : Feed} (m : Moved s portion r f) → carried_of f.session ≡ m.rest
moved_back {f} m =
    ap (λ (n : ℕ). take n f.session.carried) m.count ∙ ap (take (length m.rest)) m.holds
    ∙ carried_back m.rest (part_is_bounded m.rest m.part)

module _ (s : Session) (portion : List ℕ) (end : Bool) (room : ℕ) (r : Run) (c : Course s.chip (carried_of s ++ portion) room r) (size : length (carried_of s) ≡ s.count) (part : record_of (carried_of s) ≡ Err Part) where
  all_moved : (code : ℕ) → record_of (drop r.used (carried_of s ++ portion)) ≡ Err Part → Moved s portion r (all_taken s portion end r code)
  all_moved code p =
      record {
        rest = drop r.used (carried_of s ++ portion);
        part = p;
        split = rw (take_all (length portion) portion (omega arith)) (sym (take-append-drop r.used (carried_of s ++ portion)));
        inside = omega arith;
        count = refl;
        holds = refl;
        chip = refl;
        records = refl;
        used = refl;
        written = refl;
        text = refl;
      }

  stop_moved : Moved s portion r (stopped_at s r)
  stop_moved = ⊎_elim none some (course_beyond (carried_of s) portion part refl c)
    where
      none : r.used ≡ 0 → Moved s portion r (stopped_at s r)
      none e =
          record {
            rest = drop r.used (carried_of s);
            part = rw e part;
            split = let z : 0 - s.count ≡ 0 = omega arith in rw (e, z) (append-nil (carried_of s));
            inside = omega (arith, e);
            count = refl;
            holds = refl;
            chip = refl;
            records = refl;
            used = refl;
            written = refl;
            text = refl;
          }

      some : length (carried_of s) < r.used → Moved s portion r (stopped_at s r)
      some h =
          let z = sizes c in
          let gone : drop r.used (carried_of s) ≡ [] = drop_of_length-le (carried_of s) {i = r.used} (omega arith) in
          let place : r.used ≡ length (carried_of s) + (r.used - s.count) = omega (arith, size) in
          record {
            rest = drop r.used (carried_of s);
            part = rw gone part_nil;
            split =
                sym (take-append-add (carried_of s) portion (r.used - s.count)) ∙ ap (λ (n : ℕ). take n (carried_of s ++ portion)) (sym place)
                ∙ sym (append-nil (take r.used (carried_of s ++ portion))) ∙ ap (λ (l : List ℕ). take r.used (carried_of s ++ portion) ++ l) (sym gone);
            inside = omega (arith, z.inside, length-append (carried_of s) portion, size);
            count = refl;
            holds = refl;
            chip = refl;
            records = refl;
            used = refl;
            written = refl;
            text = refl;
          }

  pub moved : {f : Feed} → Way s portion end room r f → Moved s portion r f
  moved (Through e h) = all_moved 0 (rw h part_nil)
  moved (Waits e g p) = all_moved (cond end 7 0) p
  moved (Bad e p) = stop_moved
  moved (Full e q n read full) = stop_moved
