-- A portion's ways out, from what its calls give: the play over what is carried and the portion, and the window on what is left. Assumes
-- nothing.
use Rattle.std.specs.Prelude.{Option, Some}
use Rattle.session_rules.specs.declared.session.Stop.{Stop}
use Rattle.std.specs.Prelude.{Err}
use Prim.Native.Nat.{ℕ, zero, suc, min, ◌+◌, ◌-◌, ◌≤◌, ◌<◌}
use native.Mathlib.Nat.{sub-zero}
use native.Mathlib.Numerals.{unary_clauses}
use native.Mathlib.Omega.{arith}
use mathlib.Core.Path.{◌≡◌, refl, sym, ap, ◌∙◌}
use mathlib.Core.Bool.{Bool, cond, true, false, ◌&&◌, ◌||◌}
use mathlib.Core.List.{List, [], ◌∷◌, ◌++◌}
use lib.Dec.{eqb}
use lib.ListN.{length, drop, take, length-append, length-take}
use lib.Seq.{take_all, take-nil}
use borrow.Author.Tests.{eqb-true, ne_eqb}
use Rattle.text_rules.specs.declared.record.Unread.TheVariants.{Part}
use Rattle.text_rules.specs.Record.{record_of}
use Rattle.text_rules.proofs.Bounded.{part_is_bounded, window_decides}
use Rattle.replay_rules.specs.declared.play.Played.{Played}
use Rattle.replay_rules.specs.Play.{end_code, Ran, Run, run_of}
use Rattle.session_rules.specs.declared.session.Session.{Session}
use Rattle.session_rules.specs.declared.session.Window.{Window}
use Rattle.session_rules.specs.Session.{carried_of, is_part, padded, partial}
use Rattle.session_rules.specs.Portion.{fed_code, Feed, FedOn, all_taken, feed_of, moved_on, refused_with, settled, stopped_at, waits, window_of}
use Rattle.session_rules.proofs.Course.{course}
use Rattle.session_rules.proofs.Courses.{Stop as Stopped, course_stop, sizes}
use Rattle.session_rules.proofs.Courses.Stop.{AtEnd, NoRecord, NoRoom}
use Rattle.session_rules.proofs.Codes.{some_code}
use Rattle.session_rules.proofs.Windows.{drop_min, shown_is}
use Rattle.session_rules.proofs.Sessions.{Held, Open, carried_size, held, is_part_lem, looked_at, why}

part_of : (l : List ℕ) → partial l ≡ true → record_of l ≡ Err Part
unfolding partial
part_of l e = is_part_lem (record_of l) e

take_behind : (m n : ℕ) (l : List ℕ) → m ≤ n → take (n - m) (drop m l) ≡ drop m (take n l)
take_behind zero n l h = rw (sub-zero n)
take_behind (suc m) zero l h = absurd (omega arith)
take_behind (suc m) (suc n) [] h = take-nil (suc n - suc m)
take_behind (suc m) (suc n) (x ∷ l) h = simp unary_clauses (take_behind m n l (omega arith))

seven : (t : Bool) → t ≡ eqb (cond t 7 0) 7
seven true = refl
seven false = refl

-- a session that `moved` gives
abbrev pub moved_by : Session → Played → Bool → Bool → List ℕ → Session
moved_by s p ended stopped rest =
    record {
      chip = p.state;
      records = s.records + p.records;
      used = s.used + p.used;
      written = s.written + p.written;
      ended = s.ended || ended;
      stopped = stopped;
      count = length rest;
      carried = padded rest;
    }

module _ (s : Session) (portion : List ℕ) (end : Bool) (before : List ℕ) where
  pub fed_refused : {o : Option Stop} (stop : Stop) → fed_code o ≡ refused_with s (length portion) → o ≡ Some stop → FedOn (feed_of s portion end (length before)) before before (record { stop = Some stop; taken = 0; written = 0; session = s })
  unfolding feed_of
  fed_refused stop e is =
      let code : fed_code (Some stop) ≡ refused_with s (length portion) = ap fed_code (sym is) ∙ e in
      let o : eqb (refused_with s (length portion)) 0 ≡ false = ne_eqb (refused_with s (length portion)) 0 (λ z. some_code stop (code ∙ z)) in
      record { code = rw o code; taken = rw o; written = rw o; session = rw o; bytes = rw o }

  module _ (looked : 0 ≡ refused_with s (length portion)) where
    o : Open s (length portion)
    o = looked_at (why s (length portion)) (sym looked)

    pub s_held : Held s
    s_held = held s o.is

    -- what is carried lies inside the array that holds it
    pub carried_fits_lem : s.count ≤ length s.carried
    carried_fits_lem = omega (arith, length-take s.count s.carried, carried_size s s_held)

    pub carried_count : s.count ≡ length (take s.count s.carried)
    carried_count = sym (carried_size s s_held)

    module _ {after : List ℕ} {p : Played} (ran : Ran s.chip (carried_of s ++ portion) before after p) where
      abbrev bytes : List ℕ
      bytes = carried_of s ++ portion

      abbrev r : Run
      r = run_of s.chip bytes (length before)

      -- no sum is too large
      pub sums : (s.records + p.records < 18446744073709551616) × (s.used + p.used < 18446744073709551616) × (s.written + p.written < 18446744073709551616)
      sums =
          let z = sizes (course s.chip bytes (length before)) in
          let h = s_held in
          let n : length bytes ≡ s.count + length portion = length-append (carried_of s) portion ∙ ap (λ (k : ℕ). k + length portion) (carried_size s h) in (
            omega (arith, ran.records, z.least, z.inside, n, h.least, h.total, o.total),
            omega (arith, ran.used, z.inside, n, o.total),
            omega (arith, ran.written, ran.records, z.long, z.least, z.inside, n, h.long, h.least, o.total),
          )

      used_same : p.used ≡ r.used
      used_same = ran.used

      abbrev left : List ℕ
      left = drop r.used bytes

      -- the session as the run gives it
      moved_is : (ended stopped stopped' : Bool) {part rest : List ℕ} → stopped ≡ stopped' → part ≡ rest → moved_by s p ended stopped part ≡ moved_on s r ended stopped' rest
      moved_is ended stopped stopped' f g i =
          record {
            chip = ran.state i;
            records = s.records + ran.records i;
            used = s.used + ran.used i;
            written = s.written + ran.written i;
            ended = s.ended || ended;
            stopped = f i;
            count = length (g i);
            carried = padded (g i);
          }

      module _ {w : Window} (win : w ≡ window_of (drop p.used bytes)) where
        abbrev seen : List ℕ
        seen = take w.count w.bytes

        seen_is : seen ≡ take 39 left
        seen_is = shown_is (drop p.used bytes) win ∙ ap (λ (k : ℕ). take 39 (drop k bytes)) used_same

        module _ {t : Bool} (part : t ≡ partial seen) where
          abbrev waiting : Bool
          waiting = eqb (end_code p.stop) 7 && t

          waiting_is : waiting ≡ waits r bytes
          unfolding partial
          waiting_is =
              ap (λ (k : ℕ). eqb k 7 && t) ran.code ∙ ap (λ (b : Bool). eqb r.code 7 && b) (part ∙ ap (λ (l : List ℕ). is_part (record_of l)) seen_is ∙ ap is_part (window_decides left))

          -- the feed is that of the run
          feed_is : feed_of s portion end (length before) ≡ settled s portion end r waiting
          unfolding feed_of
          feed_is = rw (← looked) (ap (settled s portion end r) (sym waiting_is))

          -- what is left is short where all was taken
          all_seen : (waiting || eqb (end_code p.stop) 0) ≡ true → seen ≡ left
          all_seen h = seen_is ∙ take_all 39 left (by waiting refl h)
            where
              empty : {code : ℕ} → code ≡ 0 → Stopped r.state left (length before - length r.text) code → length left ≤ 39
              empty e (AtEnd z) = omega (arith, ap length z)
              empty e (NoRecord g l) = absurd (omega arith)
              empty e (NoRoom q n read full) = absurd (omega arith)

              short : (a b : Bool) → (a && b) ≡ true → b ≡ true
              short true b e = e
              short false b e = absurd (let x : ◌≡◌ {A = ℕ} 0 1 = cc in omega arith)

              by : (u : Bool) → waiting ≡ u → (u || eqb (end_code p.stop) 0) ≡ true → length left ≤ 39
              by true q h =
                  let b : partial left ≡ true = short (eqb r.code 7) (partial left) (sym waiting_is ∙ q) in
                  omega (arith, part_is_bounded left (part_of left b))
              by false q h = empty (sym ran.code ∙ eqb-true (end_code p.stop) 0 h) (course_stop (course s.chip bytes (length before)))

          -- all was taken
          pub fed_all : (waiting || eqb (end_code p.stop) 0) ≡ true → {stop : Option Stop} {session : Session} → fed_code stop ≡ cond (waiting && end) 7 0 → session ≡ moved_by s p end (waiting && end) seen
              → FedOn (feed_of s portion end (length before)) before after (record { stop = stop; taken = length portion; written = p.written; session = session })
          fed_all h {stop} {session} c m =
              let e = feed_is ∙ all waiting (eqb (end_code p.stop) 0) refl refl h in
              record {
                code = c ∙ sym (ap (λ (f : Feed). f.code) e);
                taken = sym (ap (λ (f : Feed). f.taken) e);
                written = ran.written ∙ sym (ap (λ (f : Feed). length f.text) e);
                session = m ∙ moved_is end (waiting && end) (eqb (cond (waiting && end) 7 0) 7) (seven (waiting && end)) (all_seen h) ∙ sym (ap (λ (f : Feed). f.session) e);
                bytes = ran.bytes ∙ sym (ap (λ (f : Feed). f.text ++ drop (length f.text) before) e);
              }
            where
              all : (u nil : Bool) → waiting ≡ u → eqb (end_code p.stop) 0 ≡ nil → (u || nil) ≡ true → settled s portion end r u ≡ all_taken s portion end r (cond (u && end) 7 0)
              all true nil q z h = refl
              all false true q z h = let n : eqb r.code 0 ≡ true = sym (ap (λ (k : ℕ). eqb k 0) ran.code) ∙ z in rw n
              all false false q z h = absurd (let x : ◌≡◌ {A = ℕ} 0 1 = cc in omega arith)

          -- it was taken up to a record that is bad, or that waits for room
          pub fed_stop : (waiting || eqb (end_code p.stop) 0) ≡ false → {m : ℕ} → m ≡ min p.used s.count → {part : List ℕ} → part ≡ take (s.count - m) (drop m s.carried)
              → {session : Session} → session ≡ moved_by s p false (eqb (end_code p.stop) 7) part
              → {halt : Option Stop} → fed_code halt ≡ end_code p.stop
              → FedOn (feed_of s portion end (length before)) before after (record { stop = halt; taken = p.used - m; written = p.written; session = session })
          fed_stop h {m} f {part} g {session} k o =
              let e = feed_is ∙ stop waiting (eqb (end_code p.stop) 0) refl refl h in
              record {
                code = o ∙ ran.code ∙ sym (ap (λ (x : Feed). x.code) e);
                taken = omega (arith, f, used_same) ∙ sym (ap (λ (x : Feed). x.taken) e);
                written = ran.written ∙ sym (ap (λ (x : Feed). length x.text) e);
                session = k ∙ moved_is false (eqb (end_code p.stop) 7) (eqb r.code 7) (ap (λ (n : ℕ). eqb n 7) ran.code) (g ∙ rest) ∙ sym (ap (λ (x : Feed). x.session) e);
                bytes = ran.bytes ∙ sym (ap (λ (x : Feed). x.text ++ drop (length x.text) before) e);
              }
            where
              stop : (u nil : Bool) → waiting ≡ u → eqb (end_code p.stop) 0 ≡ nil → (u || nil) ≡ false → settled s portion end r u ≡ stopped_at s r
              stop true nil q z h = absurd (let x : ◌≡◌ {A = ℕ} 0 1 = cc in omega arith)
              stop false true q z h = absurd (let x : ◌≡◌ {A = ℕ} 0 1 = cc in omega arith)
              stop false false q z h = let n : eqb r.code 0 ≡ false = sym (ap (λ (k : ℕ). eqb k 0) ran.code) ∙ z in rw n

              rest : take (s.count - m) (drop m s.carried) ≡ drop r.used (carried_of s)
              rest =
                  take_behind m s.count s.carried (omega (arith, f))
                  ∙ ap (λ (n : ℕ). drop n (carried_of s)) (f ∙ ap (λ (n : ℕ). min p.used n) (sym (carried_size s s_held))) ∙ drop_min p.used (carried_of s)
                  ∙ ap (λ (n : ℕ). drop n (carried_of s)) used_same
