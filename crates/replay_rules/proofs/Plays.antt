-- A play under way, and its ways on: one turn more, stopped, at the end. The loop's invariant is `Mid`. Assumes nothing.
use Rattle.std.specs.Prelude.{Option, Some, None, Ok, Err}
use Prim.Native.Nat.{ℕ, zero, suc, ◌+◌, ◌-◌, ◌≤◌, ◌<◌}
use native.Mathlib.Nat.{sub-add-eq, sub-zero}
use native.Mathlib.Omega.{arith}
use mathlib.Core.Path.{◌≡◌, refl, sym, ◌∙◌}
use mathlib.Core.Bool.{false}
use mathlib.Core.List.{List, [], ◌++◌}
use lib.Dec.{eqb}
use lib.ListN.{length, take, drop, length-drop, drop_of_length-le, take-append-drop}
use lib.Seq.{drop-drop}
use borrow.Author.Tests.{ne_eqb}
use Rattle.rules.specs.declared.state.State.{State}
use Rattle.text_rules.specs.declared.record.Record.{Record}
use Rattle.text_rules.specs.Record.{record_of}
use Rattle.text_rules.specs.Sizes.{shortest_record}
use Rattle.text_rules.proofs.Put.{front_length, front_none, front_then, rest}
use Rattle.text_rules.proofs.Records.{record_fits}
use Rattle.replay_rules.specs.declared.play.Stop.{Stop}
use Rattle.replay_rules.specs.declared.play.Stop.TheVariants.{Record as NoRecord}
use Rattle.replay_rules.specs.declared.play.Went.{Went}
use Rattle.replay_rules.specs.Play.{Turn, end_code, Mid, Ran, Run, Turned, added_of, ended, run_from, run_of, turn_of}
use Rattle.replay_rules.proofs.Came.{Came, came_so}
use Rattle.replay_rules.proofs.Came.Came.{On, Full, Bad}

-- what a turn that went on says of its text and its record
record Gone (part : List ℕ) (room n k : ℕ) (text : List ℕ) : Type 0 where
  count : k ≡ length text
  fits : length text ≤ room
  long : shortest_record ≤ n
  inside : n ≤ length part

gone : {s : State} {part : List ℕ} {room : ℕ} {g : Went} {text : List ℕ} → Came s part room (Ok g) text → Gone part room g.used g.written text
gone {part} (On r n read fits) =
    record { count = refl; fits = fits; long = (record_fits part read).0; inside = (record_fits part read).1 }

-- a turn that was stopped added nothing
idle : {s : State} {part : List ℕ} {room : ℕ} {stop : Stop} {text : List ℕ} → Came s part room (Err stop) text → text ≡ []
idle (Full r n read full) = refl
idle (Bad all) = refl

pub mid_start : (s : State) (t x : List ℕ) → Mid s t x x s 0 0 0
unfolding run_of
mid_start s t x =
    record { text = []; front = front_none; inside = omega arith; few = omega arith; goes = rw (sub-zero (length t), sub-zero (length x)) }

-- the same by other names
pub mid_as : {s s' : State} {t x₀ x x' : List ℕ} {now now' : State} {n u w : ℕ} → Mid s t x₀ x now n u w → s ≡ s' → x' ≡ x → now' ≡ now → Mid s' t x₀ x' now' n u w
mid_as m p q r = rw (← p, q, r) m

-- "An empty rest is the end, code 0", however many turns are left
pub at_end : (turns : ℕ) (p : Run) (room : ℕ) → run_from turns p [] room ≡ ended p 0
unfolding run_from
at_end zero p room = refl
at_end (suc turns) p room = refl

-- a part that is lent from a place on, and the whole once the part has come back
abbrev pub from : ℕ → List ℕ → List ℕ
from n l = take (length l - n) (drop n l)

abbrev pub back : ℕ → List ℕ → List ℕ → List ℕ
back n l part = take n l ++ (part ++ drop (length l - n) (drop n l))

-- where a record stands the trace goes on
pub record_left : (u : ℕ) (t : List ℕ) {r : Record} {n : ℕ} → record_of (from u t) ≡ Ok (r, n) → u < length t
record_left u t {n} read =
    let f = record_fits (from u t) read in
    let h : n ≤ length (drop u t) = rw (rest u t) at f.1 in
    omega (arith, length-drop u t)

module _ {s : State} {t x₀ x : List ℕ} {now : State} {n u w : ℕ} (m : Mid s t x₀ x now n u w) where
  room : length (from w x) ≡ length x₀ - w
  room = rw (rest w x, length-drop, front_length m.front)

  -- the run as it stands, and what is promised where it ends so
  abbrev so : ℕ → Run
  so code = record { code = code; records = n; used = u; text = m.text; state = now }

  reached : {stop : Option Stop} {x' : List ℕ} → run_of s t (length x₀) ≡ so (end_code stop) → x' ≡ x → Ran s t x₀ x' (record { stop = stop; records = n; used = u; written = w; state = now })
  reached ran same =
      record { code = rw ran; records = rw ran; used = rw ran; written = rw ran m.front.count; state = rw ran; bytes = rw ran (same ∙ m.front.bytes) }

  pub mid_end : length t ≤ u → Ran s t x₀ x (record { stop = None; records = n; used = u; written = w; state = now })
  mid_end e = reached (m.goes ∙ rw (drop_of_length-le t {i = u} e) (at_end (length t - n) (so 0) (length x₀ - w))) refl

  module _ (left : u < length t) {ys : List ℕ} {r : Turn} (turn : Turned now (from u t) (from w x) ys r) where
    fuel : length t - n ≡ suc (length t - (n + 1))
    fuel = omega (arith, m.few)

    more : eqb (length (drop u t)) 0 ≡ false
    more = let h : length (drop u t) ≡ length t - u = length-drop u t in ne_eqb (length (drop u t)) 0 (λ z. omega arith)

    said : {to : Turn} → r ≡ to → turn_of now (drop u t) (length x₀ - w) ≡ to
    said e = rw (rest u t, room) at (sym turn.said ∙ e)

    -- no record is shorter than the shortest
    pub turn_long : {g : Went} → r ≡ Ok g → shortest_record ≤ g.used
    turn_long e = (gone (came_so turn e)).long

    pub mid_step : {v : Went} → r ≡ Ok v → Mid s t x₀ (back w x ys) v.state (n + 1) (u + v.used) (w + v.written)
    unfolding run_from
    mid_step {v} e =
        let k = v.used in
        let j = v.written in
        let g = gone (came_so turn e) in
        record {
          text = m.text ++ added_of now (from u t) (length (from w x));
          front = front_then m.front (record { room = g.fits; count = g.count; bytes = turn.bytes });
          inside = let h : k ≤ length (drop u t) = rw (rest u t) at g.inside in omega (arith, length-drop u t);
          few = omega (arith, g.long, m.few);
          goes = m.goes ∙ rw (fuel, more, said e) (rw (rest u t, room, ← drop-drop k u t, sub-add-eq (length x₀) w j));
        }

    -- a turn that is stopped leaves the output as it was
    pub mid_same : {stop : Stop} → r ≡ Err stop → back w x ys ≡ x
    mid_same e =
        let same : ys ≡ from w x = turn.bytes ∙ rw (idle (came_so turn e)) in
        rw (same, take-append-drop (length x - w) (drop w x), take-append-drop w x)

    pub mid_stop : {stop : Stop} → r ≡ Err stop → Ran s t x₀ (back w x ys) (record { stop = Some stop; records = n; used = u; written = w; state = now })
    unfolding run_from
    mid_stop e = reached (m.goes ∙ rw (fuel, more, said e)) (mid_same e)

  -- no record stands there
  pub mid_bad : u < length t → ((before : List ℕ) → Turned now (drop u t) before before (Err NoRecord)) → Ran s t x₀ x (record { stop = Some NoRecord; records = n; used = u; written = w; state = now })
  unfolding run_from
  mid_bad left bad =
      let turn : Turned now (from u t) (from w x) (from w x) (Err NoRecord) = rw (rest u t) (bad (from w x)) in
      reached (m.goes ∙ rw (fuel left turn, more left turn, said left turn refl)) refl
