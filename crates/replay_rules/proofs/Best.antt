-- No lower rate would do: what a trace of known records takes, record by record, and that any lower rate falls behind it. Assumes nothing.
use Rattle.std.specs.Prelude.{Ok}
use Prim.Native.Nat.{ℕ, zero, suc, ◌+◌, ◌*◌, ◌-◌, ◌/◌, ◌≤◌, ◌<◌}
use native.Mathlib.Nat.{lt_of_mul-lt-mul_left, mul-add, mul_assoc, mul_comm, mul-div-le, mul-le-mul_left, mul_left_comm}
use native.Mathlib.Omega.{arith}
use mathlib.Core.Path.{◌≡◌, refl, ap, subst, sym, ◌∙◌}
use mathlib.Core.Bool.{Bool, true, false}
use mathlib.Core.List.{List, ◌++◌}
use lib.Dec.{leb}
use lib.IntN.ℤ.{pos}
use lib.ListN.{length, length-append}
use lib.Seq.{drop-append_seam}
use borrow.Author.Tests.{le-leb, leb-false, leb-true, lt-leb, ne_eqb}
use Rattle.rules.specs.declared.state.State.{State}
use Rattle.rules.specs.PowerOn.{made_of}
use Rattle.text_rules.specs.declared.record.Record.{Record}
use Rattle.text_rules.specs.Record.{record_of}
use Rattle.text_rules.specs.Sizes.{longest_answer, shortest_answer, shortest_record}
use Rattle.text_rules.proofs.More.{whole_stays}
use Rattle.replay_rules.specs.Alarms.{run_at}
use Rattle.replay_rules.specs.Best.{HungryNeeds, NoLowerRate, found_open, hungry, repeated, responds, started, taking}
use Rattle.replay_rules.specs.Play.{Run, added_of, answer_to, begun, ended, run_from, run_of, text_of, turn_of, went}
use Rattle.replay_rules.proofs.Examples.{opened}
use Rattle.replay_rules.proofs.Plays.{at_end}

-- ---- Known records ----

-- a text that is one record, which a state answers with so many bytes and goes on as another
record Known (s : State) (one : List ℕ) (k : ℕ) (t : State) : Type 0 where
  numbers : Record
  read : record_of one ≡ Ok (numbers, length one)
  some : 0 < length one
  state : (answer_to s numbers).state ≡ t
  text : length (text_of (answer_to s numbers)) ≡ k

-- what a run from p comes to, of n records whose answers take w bytes
record Takes (p : Run) (n w room : ℕ) (q : Run) : Type 0 where
  code : w ≤ room → q.code ≡ 0
  records : w ≤ room → q.records ≡ p.records + n
  text : w ≤ room → length q.text ≡ length p.text + w
  eight : room < w → q.code ≡ 8

module _ (p : Run) {one : List ℕ} {k : ℕ} {t : State} (g : Known p.state one k t) (more : List ℕ) (turns room : ℕ) where
  abbrev next : Run
  next = went p t (length one) (text_of (answer_to p.state g.numbers))

  -- the answer fits, and the run goes on behind it
  on : k ≤ room → run_from (suc turns) p (one ++ more) room ≡ run_from turns next more (room - k)
  unfolding run_from turn_of added_of
  on h =
      rw (ne_eqb (length (one ++ more)) 0 (λ z. omega (arith, z, length-append one more, g.some)), whole_stays one more g.read, le-leb (length (text_of (answer_to p.state g.numbers))) room (omega (arith, g.text)))
      (rw (drop-append_seam one more, g.text, g.state))

  full : room < k → run_from (suc turns) p (one ++ more) room ≡ ended p 8
  unfolding run_from turn_of added_of
  full h =
      rw (ne_eqb (length (one ++ more)) 0 (λ z. omega (arith, z, length-append one more, g.some)), whole_stays one more g.read, lt-leb (length (text_of (answer_to p.state g.numbers))) room (omega (arith, g.text)))

  before : {n w : ℕ} → Takes next n w (room - k) (run_from turns next more (room - k)) → Takes p (n + 1) (k + w) room (run_from (suc turns) p (one ++ more) room)
  before {n} {w} later = by (leb k room) refl
    where
      by : (fits : Bool) → leb k room ≡ fits → Takes p (n + 1) (k + w) room (run_from (suc turns) p (one ++ more) room)
      by true q =
          let h : k ≤ room = leb-true k room q in
          let l = length-append p.text (text_of (answer_to p.state g.numbers)) in
          rw (on h)
          (record {
            code = λ e. later.code (omega (arith, e, h));
            records = λ e. later.records (omega (arith, e, h)) ∙ omega arith;
            text = λ e. later.text (omega (arith, e, h)) ∙ omega (arith, l, g.text);
            eight = λ e. later.eight (omega (arith, e, h));
          })
      by false q =
          let h : room < k = leb-false k room q in
          rw (full h)
          (record { code = λ e. absurd (omega (arith, e, h)); records = λ e. absurd (omega (arith, e, h)); text = λ e. absurd (omega (arith, e, h)); eight = λ e. refl })

-- one that leaves its state as it was, again and again
again : {s : State} {one : List ℕ} → Known s one longest_answer s → (n turns room : ℕ) (p : Run) → p.state ≡ s → n ≤ turns → Takes p n (longest_answer * n) room (run_from turns p (repeated n one) room)
unfolding repeated
again g zero turns room p at h =
    rw (at_end turns p room) (record { code = λ e. refl; records = λ e. omega arith; text = λ e. omega arith; eight = λ e. absurd (omega (arith, e)) })
again g (suc n) zero room p at h = absurd (omega arith)
again {s} {one} g (suc n) (suc turns) room p at h =
    let here : Known p.state one longest_answer s = subst (λ (x : State). Known x one longest_answer s) (sym at) g in
    let k = before p here (repeated n one) turns room (again g n turns (room - longest_answer) _ refl (omega arith)) in
    record {
      code = λ e. k.code (omega (arith, e));
      records = λ e. k.records (omega (arith, e)) ∙ omega arith;
      text = λ e. k.text (omega (arith, e)) ∙ omega arith;
      eight = λ e. k.eight (omega (arith, e));
    }

-- ---- The trace ----

abbrev fresh : State
fresh = (made_of (pos 76)).state

abbrev short_record : ℕ → ℕ → Record
short_record kind c = record { kind = pos kind; a = pos 0; b = pos 0; c = pos c }

abbrev running : State
running = (answer_to fresh (short_record 6 0)).state

abbrev broken : State
broken = (answer_to running (short_record 7 1)).state

known_started : Known fresh started shortest_answer running
unfolding opened started
known_started = record { numbers = short_record 6 0; read = refl; some = omega arith; state = refl; text = refl }

known_open : Known running found_open shortest_answer broken
unfolding opened found_open
known_open = record { numbers = short_record 7 1; read = refl; some = omega arith; state = refl; text = refl }

known_responds : Known broken responds longest_answer broken
unfolding opened responds
known_responds = record { numbers = short_record 5 0; read = refl; some = omega arith; state = refl; text = refl }

repeated_size : (n : ℕ) (one : List ℕ) → length one ≡ shortest_record → length (repeated n one) ≡ shortest_record * n
unfolding repeated
repeated_size zero one e = refl
repeated_size (suc n) one e = length-append one (repeated n one) ∙ omega (arith, e, repeated_size n one e)

hungry_size : (n : ℕ) → length (hungry n) ≡ shortest_record * (n + 2)
unfolding started found_open responds
hungry_size n = omega (arith, repeated_size n responds refl)

takes : (n room : ℕ) → Takes (begun fresh) (n + 1 + 1) (shortest_answer + (shortest_answer + longest_answer * n)) room (run_at (pos 76) (hungry n) room)
unfolding run_of
takes n room =
    let left = shortest_record * (n + 2) - 2 in
    let turns : length (hungry n) ≡ suc (suc left) = omega (arith, hungry_size n) in
    rw turns
    (before (begun fresh) known_started (found_open ++ repeated n responds) (suc left) room
    (before _ known_open (repeated n responds) left (room - shortest_answer)
    (again known_responds n left (room - shortest_answer - shortest_answer) _ refl (omega arith))))

pub hungry_needs : HungryNeeds
hungry_needs n =
    let size = hungry_size n in
    record {
      size = size;
      code = λ room h. (takes n room).code (omega (arith, h));
      records = λ room h. (takes n room).records (omega (arith, h)) ∙ omega (arith, size);
      text = λ room h. (takes n room).text (omega (arith, h)) ∙ omega arith;
      eight = λ room h. (takes n room).eight (omega (arith, h));
    }

-- ---- Rates ----

-- so many responses that a lower rate is behind
falls_behind : (answer each besides : ℕ) → answer * shortest_record < longest_answer * each
    → let n = 38 * answer + each * besides in answer * (shortest_record * (n + 2) / each) + besides < taking n
falls_behind answer each besides h =
    let n = 38 * answer + each * besides in
    let all = shortest_record * (n + 2) in
    let q = all / each in
    -- each * q is no more than all
    let whole : answer * (each * q) ≤ answer * all = mul-le-mul_left answer (mul-div-le all each) in
    let turned : each * (answer * q) ≡ answer * (each * q) = mul_left_comm each answer q in
    let product : answer * all ≡ shortest_record * (answer * n) + 38 * answer =
    mul_left_comm answer shortest_record (n + 2) ∙ ap (λ (x : ℕ). shortest_record * x) (mul-add answer n 2) ∙ omega arith in
    let rate : n * (answer * shortest_record + 1) ≤ n * (longest_answer * each) = mul-le-mul_left n (omega (arith, h)) in
    let lower : n * (answer * shortest_record + 1) ≡ shortest_record * (answer * n) + n =
    mul-add n (answer * shortest_record) 1 ∙ ap (λ (x : ℕ). x + n * 1) (sym (mul_assoc n answer shortest_record) ∙ ap (λ (x : ℕ). x * shortest_record) (mul_comm n answer)) ∙ omega arith in
    let upper : n * (longest_answer * each) ≡ each * (longest_answer * n) = mul_comm n (longest_answer * each) ∙ ap (λ (x : ℕ). x * n) (mul_comm longest_answer each) ∙ mul_assoc each longest_answer n in
    let left : each * (answer * q + besides) ≡ each * (answer * q) + each * besides = mul-add each (answer * q) besides in
    let right : each * taking n ≡ each * (2 * shortest_answer) + each * (longest_answer * n) = mul-add each (2 * shortest_answer) (longest_answer * n) in
    lt_of_mul-lt-mul_left each {m = answer * q + besides} {n = taking n} (omega (arith, whole, turned, product, rate, lower, upper, left, right, h))

pub no_lower_rate : NoLowerRate
no_lower_rate answer each besides h =
    let n = 38 * answer + each * besides in
    let needs = hungry_needs n in
    record {
      trace = hungry n;
      stopped = needs.eight _ (subst (λ (x : ℕ). answer * (x / each) + besides < taking n) (sym needs.size) (falls_behind answer each besides (omega (arith, h))));
    }
