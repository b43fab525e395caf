-- What being a session says, and that a portion leaves one. Assumes nothing.
use Rattle.std.specs.Prelude.{Ok, Err}
use Rattle.rules.specs.declared.answer.Code.TheVariants.{Done}
use Prim.Native.Nat.{ℕ, ◌+◌, ◌*◌, ◌-◌, ◌≤◌, ◌<◌}
use native.Mathlib.Omega.{arith}
use mathlib.Core.Path.{◌≡◌, refl, sym, ap, ◌∙◌}
use mathlib.Core.Bool.{Bool, cond, true, false, not, ◌&&◌, ◌||◌}
use mathlib.Core.List.{List, [], ◌∷◌, ◌++◌}
use lib.Dec.{eqb, leb, ltb}
use lib.IntN.{ℤ}
use lib.ListN.{length, drop, replicate, take, length-append, length-replicate, length-take}
use lib.Seq.{drop-nil}
use borrow.Author.Tests.{eqb-false, eqb-true, le-leb, leb-true, lt-ltb, ltb-false, ltb-true}
use Rattle.rules.specs.PowerOn.{made_of}
use Rattle.rules.specs.WellFormed.{well_formed}
use Rattle.rules.proofs.WellFormed.{fresh_well_formed}
use Rattle.text_rules.specs.Record.{Parsed}
use Rattle.text_rules.specs.declared.record.Unread.TheVariants.{Part, Malformed}
use Rattle.text_rules.specs.Record.{record_of}
use Rattle.text_rules.specs.Sizes.{longest_answer, longest_record, shortest_answer, shortest_record}
use Rattle.text_rules.proofs.Bounded.{part_is_bounded}
use Rattle.saved_rules.specs.Layout.{same_bytes}
use Rattle.saved_rules.proofs.Same.{are_same, same_self}
use Rattle.replay_rules.specs.Play.{Run, run_of}
use Rattle.session_rules.specs.declared.session.Session.{Session}
use Rattle.session_rules.specs.Session.{carried_fits, carried_of, counts_fit, end_fits, is_part, is_session, opened_of, padded, partial}
use Rattle.session_rules.specs.Portion.{Feed, feed_of, refusal, refused_with, settled, waits}
use Rattle.session_rules.proofs.Course.{course}
use Rattle.session_rules.proofs.Courses.{course_well, sizes}
use Rattle.session_rules.proofs.Ways.{Way, moved, moved_back, part_nil, way}
use Rattle.session_rules.proofs.Ways.Way.{Through, Waits, Bad, Full}

both : (a b : Bool) → (a && b) ≡ true → (a ≡ true) × (b ≡ true)
both true b e = (refl, e)
both false b e = absurd (let y : ◌≡◌ {A = ℕ} 0 1 = cc in omega arith)

and : {a b : Bool} → a ≡ true → b ≡ true → (a && b) ≡ true
and e f = rw (e, f)

pub is_part_lem : (p : Parsed) → is_part p ≡ true → p ≡ Err Part
is_part_lem (Ok (r, n)) e = absurd (let y : ◌≡◌ {A = ℕ} 0 1 = cc in omega arith)
is_part_lem (Err Part) e = refl
is_part_lem (Err Malformed) e = absurd (let y : ◌≡◌ {A = ℕ} 0 1 = cc in omega arith)

-- a session, field by field
pub record Held (s : Session) : Type 0 where
  pub well : well_formed s.chip ≡ true
  pub least : shortest_record * s.records ≤ s.used
  pub most : s.used ≤ longest_record * s.records
  pub short : shortest_answer * s.records ≤ s.written
  pub long : s.written ≤ longest_answer * s.records
  pub total : s.used + s.count ≤ 16777216
  pub few : s.count ≤ 38
  pub padding : padded (carried_of s) ≡ s.carried
  pub part : record_of (carried_of s) ≡ Err Part
  pub end : end_fits s ≡ true

four : (a b c d : Bool) → (a && b && c && d) ≡ true → (a ≡ true) × (b ≡ true) × (c ≡ true) × (d ≡ true)
four a b c d e =
    let x = both (a && b && c) d e in
    let y = both (a && b) c x.0 in
    let z = both a b y.0 in
    (z.0, z.1, y.1, x.1)

pub held : (s : Session) → is_session s ≡ true → Held s
unfolding is_session partial
held s e =
    let a = four (well_formed s.chip) (counts_fit s) (carried_fits s) (end_fits s) e in
    let b = four (leb (shortest_record * s.records) s.used) (leb s.used (longest_record * s.records)) (leb (shortest_answer * s.records) s.written && leb s.written (longest_answer * s.records)) (leb (s.used + s.count) 16777216) a.1 in
    let c = both (leb (shortest_answer * s.records) s.written) (leb s.written (longest_answer * s.records)) b.2 in
    let d = four true (leb s.count 38) (same_bytes (padded (carried_of s)) s.carried) (partial (carried_of s)) a.2 in
    record {
      well = a.0;
      least = leb-true _ _ b.0;
      most = leb-true _ _ b.1;
      short = leb-true _ _ c.0;
      long = leb-true _ _ c.1;
      total = leb-true _ _ b.3;
      few = leb-true _ _ d.1;
      padding = are_same (padded (carried_of s)) s.carried d.2;
      part = is_part_lem (record_of (carried_of s)) d.3;
      end = a.3;
    }

pub is_held : (s : Session) → Held s → is_session s ≡ true
unfolding is_session partial
is_held s h =
    let same : same_bytes (padded (carried_of s)) s.carried ≡ true = ap (same_bytes (padded (carried_of s))) (sym h.padding) ∙ same_self (padded (carried_of s)) in
    let is : partial (carried_of s) ≡ true = ap is_part h.part in
    and (and (and h.well
    (and (and (and (le-leb _ _ h.least) (le-leb _ _ h.most)) (and (le-leb _ _ h.short) (le-leb _ _ h.long))) (le-leb _ _ h.total)))
    (and (and (le-leb _ _ h.few) same) is))
    h.end

-- the carried bytes are as many as it says
pub carried_size : (s : Session) → Held s → length (carried_of s) ≡ s.count
carried_size s h =
    let n : length (padded (carried_of s)) ≡ length s.carried = ap length h.padding in
    let zeros : List ℕ = replicate (38 - length (carried_of s)) 0 in
    let m : length (take 38 (carried_of s) ++ zeros) ≡ length (take 38 (carried_of s)) + length zeros = length-append (take 38 (carried_of s)) zeros in
    let k : length zeros ≡ 38 - length (carried_of s) = length-replicate {A = ℕ} (38 - length (carried_of s)) 0 in
    omega (arith, n, m, k, length-take 38 (carried_of s), length-take s.count s.carried, h.few)

-- a session that was just opened is one
pub opened_held : (address : ℤ) → (made_of address).code ≡ Done → Held (opened_of address).session
unfolding opened_of
opened_held address e =
    record {
      well = fresh_well_formed address e;
      least = omega arith;
      most = omega arith;
      short = omega arith;
      long = omega arith;
      total = omega arith;
      few = omega arith;
      padding = refl;
      part = part_nil;
      end = refl;
    }

-- ---- A portion ----

-- what a portion that is looked at stands on
pub record Open (s : Session) (size : ℕ) : Type 0 where
  pub is : is_session s ≡ true
  pub before : s.ended ≡ true → size ≡ 0
  pub going : s.stopped ≡ false
  pub total : s.used + s.count + size ≤ 16777216

-- why a portion is refused, or that it is not
pub data Why (s : Session) (size : ℕ) : ℕ → Type 0 where
  Strange : is_session s ≡ false → Why s size 6
  Late : is_session s ≡ true → s.ended ≡ true → 0 < size → Why s size 9
  Again : is_session s ≡ true → (s.ended ≡ true → size ≡ 0) → s.stopped ≡ true → Why s size 7
  Over : is_session s ≡ true → (s.ended ≡ true → size ≡ 0) → s.stopped ≡ false → 16777216 < s.used + s.count + size → Why s size 2
  Not : Open s size → Why s size 0

pub why : (s : Session) (size : ℕ) → Why s size (refused_with s size)
unfolding refused_with
why s size = by (is_session s) s.ended (ltb 0 size) s.stopped (ltb 16777216 (s.used + s.count + size)) refl refl refl refl refl
  where
    empty : (ended some : Bool) → s.ended ≡ ended → ltb 0 size ≡ some → (ended && some) ≡ false → s.ended ≡ true → size ≡ 0
    empty true true a b c e = absurd (let y : ◌≡◌ {A = ℕ} 0 1 = cc in omega arith)
    empty true false a b c e = omega (arith, ltb-false 0 size b)
    empty false some a b c e = absurd (let y : ◌≡◌ {A = ℕ} 0 1 = cc in omega arith)

    on : (stopped over : Bool) → is_session s ≡ true → (s.ended ≡ true → size ≡ 0) → s.stopped ≡ stopped → ltb 16777216 (s.used + s.count + size) ≡ over → Why s size (cond stopped 7 (cond over 2 0))
    on true over a g d f = Again a g d
    on false true a g d f = Over a g d (ltb-true _ _ f)
    on false false a g d f = Not (record { is = a; before = g; going = d; total = ltb-false _ _ f })

    by : (is ended some stopped over : Bool) → is_session s ≡ is → s.ended ≡ ended → ltb 0 size ≡ some → s.stopped ≡ stopped → ltb 16777216 (s.used + s.count + size) ≡ over
        → Why s size (cond (not is) 6 (cond (ended && some) 9 (cond stopped 7 (cond over 2 0))))
    by false ended some stopped over a b c d f = Strange a
    by true true true stopped over a b c d f = Late a b (ltb-true _ _ c)
    by true true false stopped over a b c d f = on stopped over a (empty true false b c refl) d f
    by true false some stopped over a b c d f = on stopped over a (empty false some b c refl) d f

pub looked_at : {s : Session} {size code : ℕ} → Why s size code → code ≡ 0 → Open s size
looked_at (Strange a) e = absurd (omega arith)
looked_at (Late a b c) e = absurd (omega arith)
looked_at (Again a b c) e = absurd (omega arith)
looked_at (Over a b c d) e = absurd (omega arith)
looked_at (Not o) e = o

-- refused, which changes nothing, or looked at
pub data Given (s : Session) (portion : List ℕ) (end : Bool) (room : ℕ) : Feed → Type 0 where
  Refused : (code : ℕ) → Why s (length portion) code → (code ≡ 0 → ⊥) → Given s portion end room (refusal s code)
  Looked : Open s (length portion) → {f : Feed} → Way s portion end room (run_of s.chip (carried_of s ++ portion) room) f → Given s portion end room f

pub given : (s : Session) (portion : List ℕ) (end : Bool) (room : ℕ) → Given s portion end room (feed_of s portion end room)
unfolding feed_of
given s portion end room = by (eqb (refused_with s (length portion)) 0) refl
  where
    r : Run
    r = run_of s.chip (carried_of s ++ portion) room

    by : (t : Bool) → eqb (refused_with s (length portion)) 0 ≡ t → Given s portion end room (cond t (settled s portion end r (waits r (carried_of s ++ portion))) (refusal s (refused_with s (length portion))))
    by true q = Looked (looked_at (why s (length portion)) (eqb-true _ _ q)) (way s portion end room r (course s.chip (carried_of s ++ portion) room))
    by false q = Refused (refused_with s (length portion)) (why s (length portion)) (eqb-false _ _ q)

none : (l : List ℕ) → length l ≡ 0 → l ≡ []
none [] e = refl
none (x ∷ l) e = absurd (omega arith)

module _ (s : Session) (portion : List ℕ) (end : Bool) (room : ℕ) (h : Held s) (o : Open s (length portion)) where
  abbrev bytes : List ℕ
  bytes = carried_of s ++ portion

  abbrev run : Run
  run = run_of s.chip bytes room

  abbrev left : List ℕ
  left = drop run.used bytes

  -- after the end was declared there is nothing to look at
  at_end : s.ended ≡ true → left ≡ []
  at_end e =
      let c : eqb s.count 0 ≡ true = rw (e, o.going) at h.end in
      let n : length bytes ≡ 0 = omega (arith, length-append (carried_of s) portion, carried_size s h, eqb-true s.count 0 c, o.before e) in
      ap (drop run.used) (none bytes n) ∙ drop-nil run.used

  -- so the end was not declared where something is left
  pub not_ended : (left ≡ [] → ⊥) → s.ended ≡ false
  not_ended n = by s.ended refl
    where
      by : (t : Bool) → s.ended ≡ t → t ≡ false
      by true e = absurd (n (at_end e))
      by false e = refl

  abbrev EndFits : Session → Type 0
  EndFits t = end_fits t ≡ true

  ends : {f : Feed} → Way s portion end room run f → end_fits f.session ≡ true
  ends (Through e z) = rw z (by (s.ended || end))
    where
      by : (t : Bool) → cond t true true ≡ true
      by true = refl
      by false = refl
  ends (Waits e g p) = rw (not_ended (λ z. omega (arith, ap length z, g)), lt-ltb 0 (length left) g) (by end)
    where
      by : (t : Bool) → cond t (cond (eqb (cond t 7 0) 7) true (eqb (length left) 0)) true ≡ true
      by true = refl
      by false = refl
  ends (Bad e p) = rw (not_ended (λ z. let y : record_of left ≡ Err Part = rw z part_nil in (let x : ◌≡◌ {A = ℕ} 0 1 = cc in omega arith)))
  ends (Full e q n read full) = rw (not_ended (λ z. let y : record_of left ≡ Err Part = rw z part_nil in (let x : ◌≡◌ {A = ℕ} 0 1 = cc in omega arith)))

  pub way_held : {f : Feed} → Way s portion end room run f → Held f.session
  way_held {f} w =
      let c = course s.chip bytes room in
      let m = moved s portion end room run c (carried_size s h) h.part w in
      let z = sizes c in
      let few : length m.rest ≤ 38 = part_is_bounded m.rest m.part in
      let back : carried_of f.session ≡ m.rest = moved_back m in
      let size : length (carried_of s) + length (take f.taken portion) ≡ length (take run.used bytes) + length m.rest =
      sym (length-append (carried_of s) (take f.taken portion)) ∙ ap length m.split ∙ length-append (take run.used bytes) m.rest in
      record {
        well = ap well_formed m.chip ∙ course_well c h.well;
        least = omega (arith, m.records, m.used, h.least, z.least);
        most = omega (arith, m.records, m.used, h.most, z.most);
        short = omega (arith, m.records, m.written, h.short, z.short);
        long = omega (arith, m.records, m.written, h.long, z.long);
        total = omega (arith, m.used, m.count, size, length-take run.used bytes, z.inside, length-take f.taken portion, carried_size s h, o.total);
        few = omega (arith, m.count, few);
        padding = ap padded back ∙ sym m.holds;
        part = ap record_of back ∙ m.part;
        end = ends w;
      }

pub fed_held : (s : Session) (portion : List ℕ) (end : Bool) (room : ℕ) → Held s → {f : Feed} → Given s portion end room f → Held f.session
fed_held s portion end room h (Refused code e n) = h
fed_held s portion end room h (Looked o w) = way_held s portion end room h o w
