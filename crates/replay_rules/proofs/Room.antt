-- Where there is room enough, code 8 is not given: by induction over the turns, each of which uses a record's bytes or more and
-- writes an answer's or fewer. Assumes nothing.
use Prim.Native.Nat.{ℕ, zero, suc, ◌+◌, ◌-◌, ◌/◌, ◌≤◌, ◌<◌}
use native.Mathlib.Omega.{arith}
use mathlib.Core.Path.{◌≡◌, refl}
use mathlib.Core.Logic.{◌⊎◌, inl, inr, ⊎_elim}
use mathlib.Core.Bool.{Bool, true, false, cond}
use mathlib.Core.List.{List}
use lib.Dec.{eqb}
use lib.ListN.{length, drop, length-append, length-drop}
use borrow.Author.Tests.{le-leb}
use Rattle.rules.specs.declared.state.State.{State}
use Rattle.rules.proofs.Codes.{number_small}
use Rattle.rules.specs.Codes.{number_of}
use Rattle.text_rules.specs.declared.record.Record.{Record}
use Rattle.text_rules.specs.Sizes.{longest_answer, shortest_record}
use Rattle.text_rules.proofs.Records.{record_fits}
use Rattle.text_rules.proofs.Size.{answer_short}
use Rattle.replay_rules.specs.Play.{Turn}
use Rattle.replay_rules.specs.Play.{Run, added_of, answer_to, begun, ended, run_from, run_of, text_of, turn_of, went}
use Rattle.replay_rules.specs.Room.{AnswersFit, FewRecords, NoEight, SameRun, room_of}
use Rattle.replay_rules.proofs.Came.{Came, came, onward}
use Rattle.replay_rules.proofs.Came.Came.{On, Full, Bad}

text_short : (s : State) (r : Record) → length (text_of (answer_to s r)) ≤ longest_answer
unfolding text_of
text_short s r =
    answer_short (number_of (answer_to s r).code) (answer_to s r).reply (answer_to s r).alert (answer_to s r).therm (omega (arith, number_small (answer_to s r).code))

-- the room of n bytes, of which a record takes m, is that of one answer and of the bytes behind the record
one_less : (n m : ℕ) → shortest_record ≤ m → m ≤ n → longest_answer + room_of (n - m) ≤ room_of n
one_less n m g i = omega arith

-- from p, with n bytes left: two runs, each with room enough
record Enough (p : Run) (n : ℕ) (q q' : Run) : Type 0 where
  code : (q.code ≡ 0) ⊎ (q.code ≡ 7)
  size : length q.text ≤ length p.text + room_of n
  same : q ≡ q'

stopped : (p : Run) (n code : ℕ) → (code ≡ 0) ⊎ (code ≡ 7) → Enough p n (ended p code) (ended p code)
stopped p n code h = record { code = h; size = omega arith; same = refl }

abbrev Enoughs : ℕ → Type 0
Enoughs turns =
    (p : Run) (rest : List ℕ) (room room' : ℕ) → room_of (length rest) ≤ room → room_of (length rest) ≤ room' → Enough p (length rest) (run_from turns p rest room) (run_from turns p rest room')

module _ (turns : ℕ) (later : Enoughs turns) (p : Run) (rest : List ℕ) (room room' : ℕ) (h : room_of (length rest) ≤ room) (h' : room_of (length rest) ≤ room') where
  turned : {t : Turn} {text : List ℕ} → Came p.state rest room t text → Enough p (length rest) (onward turns p rest room t text) (onward turns p rest room' (turn_of p.state rest room') (added_of p.state rest room'))
  unfolding turn_of added_of
  turned (On r m read fits) =
      let text = text_of (answer_to p.state r) in
      let short : length text ≤ longest_answer = text_short p.state r in
      let f = record_fits rest read in
      let left : length (drop m rest) ≡ length rest - m = length-drop m rest in
      let g : longest_answer + room_of (length rest - m) ≤ room_of (length rest) = one_less (length rest) m f.0 f.1 in
      let e = later (went p (answer_to p.state r).state m text) (drop m rest) (room - length text) (room' - length text) (rw left (omega arith)) (rw left (omega arith)) in
      rw (read, le-leb (length text) room' (omega arith))
      (record { code = e.code; size = let k = rw (left, length-append p.text text) at e.size in omega (arith, g); same = e.same })
  turned (Full r m read full) =
      let f = record_fits rest read in
      absurd (omega (arith, text_short p.state r, one_less (length rest) m f.0 f.1))
  turned (Bad all) = rw (all room') (stopped p (length rest) 7 (inr refl))

enough : (turns : ℕ) → Enoughs turns
unfolding run_from
enough zero p rest room room' h h' = stopped p (length rest) 0 (inl refl)
enough (suc turns) p rest room room' h h' = by (eqb (length rest) 0) (turned turns (enough turns) p rest room room' h h' (came p.state rest room))
  where
    by : (t : Bool) {x x' : Run} → Enough p (length rest) x x' → Enough p (length rest) (cond t (ended p 0) x) (cond t (ended p 0) x')
    by true e = stopped p (length rest) 0 (inl refl)
    by false e = e

module _ (s : State) (trace : List ℕ) (room : ℕ) (h : room_of (length trace) ≤ room) where
  run_enough : Enough (begun s) (length trace) (run_of s trace room) (run_of s trace (room_of (length trace)))
  unfolding run_of
  run_enough = enough (length trace) (begun s) trace room (room_of (length trace)) h (omega arith)

  pub run_ends : ((run_of s trace room).code ≡ 0) ⊎ ((run_of s trace room).code ≡ 7)
  run_ends = run_enough.code

  -- so of one digit
  pub run_code : (run_of s trace room).code < 8
  run_code = ⊎_elim (λ e. omega (arith, e)) (λ e. omega (arith, e)) run_ends

pub no_eight : NoEight
no_eight s trace room h e = omega (arith, run_code s trace room h)

pub answers_fit : AnswersFit
answers_fit s trace room h = omega (arith, (run_enough s trace room h).size)

pub same_run : SameRun
same_run s trace room h = (run_enough s trace room h).same

-- whatever the room, a record that is answered takes a shortest one's bytes of what is left
few : (turns : ℕ) (p : Run) (rest : List ℕ) (room : ℕ) → (run_from turns p rest room).records ≤ p.records + length rest / shortest_record
unfolding run_from
few zero p rest room = omega arith
few (suc turns) p rest room = by (λ (q : Run) (l : List ℕ) (m : ℕ). few turns q l m) (eqb (length rest) 0) (came p.state rest room)
  where
    by : ((q : Run) (l : List ℕ) (m : ℕ) → (run_from turns q l m).records ≤ q.records + length l / shortest_record) → (empty : Bool) {t : Turn} {text : List ℕ} → Came p.state rest room t text
        → (cond empty (ended p 0) (onward turns p rest room t text)).records ≤ p.records + length rest / shortest_record
    by later true c = omega arith
    by later false (On r m read fits) =
        let f = record_fits rest read in
        let left : length (drop m rest) ≡ length rest - m = length-drop m rest in
        omega (arith, later (went p (answer_to p.state r).state m (text_of (answer_to p.state r))) (drop m rest) (room - length (text_of (answer_to p.state r))), left, f)
    by later false (Full r m read full) = omega arith
    by later false (Bad all) = omega arith

pub few_records : FewRecords
unfolding run_of
few_records s trace room = omega (arith, few (length trace) (begun s) trace room)
