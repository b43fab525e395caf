-- A replay is its events sent one after the other, and from power-on none is answered with code 6. Assumes nothing.
use Rattle.std.specs.Prelude.{Ok}
use Rattle.rules.specs.Codes.{number_of}
use Prim.Native.Nat.{ℕ, zero, suc, ◌+◌, ◌-◌, ◌<◌, ◌≤◌}
use native.Mathlib.Omega.{arith}
use mathlib.Core.Path.{◌≡◌, refl, sym, ◌∙◌}
use mathlib.Core.Bool.{Bool, true, false, cond}
use mathlib.Core.List.{List, [], ◌∷◌, ◌++◌, append_assoc, append-nil}
use lib.Dec.{eqb}
use lib.ListN.{length, drop, length-drop}
use borrow.Author.Tests.{eqb-true, ne_eqb}
use Rattle.rules.specs.declared.event.Numbers.{Numbers}
use Rattle.rules.specs.declared.state.State.{State}
use Rattle.rules.specs.declared.answer.Answer.{Answer}
use Rattle.rules.specs.Step.{after, last_from, step_of}
use Rattle.rules.specs.WellFormed.{well_formed}
use Rattle.rules.proofs.Alarm.{after_one}
use Rattle.rules.proofs.Answers.{well_has}
use Rattle.rules.proofs.WellFormed.{fresh_well_formed, steps_well_formed}
use Rattle.text_rules.specs.declared.record.Record.{Record}
use Rattle.text_rules.specs.Record.{record_of}
use Rattle.text_rules.proofs.Records.{record_fits}
use Rattle.replay_rules.specs.Play.{Turn}
use Rattle.replay_rules.specs.Play.{Run, answer_to, begun, ended, numbers_of, on_turn, run_from, run_of, text_of, went}
use Rattle.replay_rules.specs.Consumed.{AllUsed, ReplayNeverSix, ReplayTold, answers_from, consumed_from, consumed_of, events_of, sixes, texts_of}
use Rattle.replay_rules.proofs.Came.{Came, came, onward}
use Rattle.replay_rules.proofs.Came.Came.{On, Full, Bad}

-- a run under way, and the events that it still consumes; with turns for every byte that is left, code 0 comes only at the end
record Goes (turns : ℕ) (rest : List ℕ) (p : Run) (es : List Numbers) (q : Run) : Type 0 where
  records : q.records ≡ p.records + length es
  state : q.state ≡ after p.state es
  text : q.text ≡ p.text ++ texts_of (answers_from p.state es)
  used : length rest ≤ turns → q.code ≡ 0 → q.used ≡ p.used + length rest

none : {turns : ℕ} {rest : List ℕ} (p : Run) (code : ℕ) → (length rest ≤ turns → code ≡ 0 → length rest ≡ 0) → Goes turns rest p [] (ended p code)
unfolding last_from answers_from texts_of
none p code end =
    record { records = omega arith; state = refl; text = sym (append-nil p.text); used = λ few e. omega (arith, end few e) }

one : {turns : ℕ} {rest : List ℕ} (p : Run) (r : Record) (n : ℕ) {es : List Numbers} {q : Run} → record_of rest ≡ Ok (r, n)
    → Goes turns (drop n rest) (went p (answer_to p.state r).state n (text_of (answer_to p.state r))) es q → Goes (suc turns) rest p (numbers_of r ∷ es) q
unfolding answers_from texts_of
one {rest} p r n {es} read g =
    let a = answer_to p.state r in
    let f = record_fits rest read in
    let l : length (drop n rest) ≡ length rest - n = length-drop n rest in
    record {
      records = g.records ∙ omega arith;
      state = g.state ∙ sym (after_one p.state (numbers_of r) es);
      text = g.text ∙ append_assoc p.text (text_of a) (texts_of (answers_from a.state es));
      used = λ few e. g.used (omega (arith, l, few, f)) e ∙ omega (arith, l, f);
    }

goes : (turns : ℕ) (p : Run) (rest : List ℕ) (room : ℕ) → Goes turns rest p (consumed_from turns p.state rest room) (run_from turns p rest room)
unfolding run_from consumed_from
goes zero p rest room = none p 0 (λ few e. omega arith)
goes (suc turns) p rest room =
    by (λ (q : Run) (l : List ℕ) (m : ℕ). goes turns q l m) (eqb (length rest) 0) refl (came p.state rest room)
  where
    by : ((q : Run) (l : List ℕ) (m : ℕ) → Goes turns l q (consumed_from turns q.state l m) (run_from turns q l m)) → (empty : Bool) → eqb (length rest) 0 ≡ empty → {t : Turn} {text : List ℕ} → Came p.state rest room t text
        → Goes (suc turns) rest p (cond empty [] (on_turn t (λ s n k. events_of (record_of rest) ++ consumed_from turns s (drop n rest) (room - k)) (λ code. []))) (cond empty (ended p 0) (onward turns p rest room t text))
    by later true q c = none p 0 (λ few e. eqb-true (length rest) 0 q)
    by later false q (On r n read fits) = rw read (one p r n read (later _ (drop n rest) (room - length (text_of (answer_to p.state r)))))
    by later false q (Full r n read full) = none p 8 (λ few e. absurd (omega arith))
    by later false q (Bad all) = none p 7 (λ few e. absurd (omega arith))

module _ (s : State) (trace : List ℕ) (room : ℕ) where
  whole : Goes (length trace) trace (begun s) (consumed_of s trace room) (run_of s trace room)
  unfolding run_of consumed_of
  whole = goes (length trace) (begun s) trace room

pub replay_told : ReplayTold
replay_told s trace room =
    let g = whole s trace room in
    record { records = omega (arith, g.records); state = g.state; text = g.text }

pub all_used : AllUsed
all_used s trace room e = omega (arith, (whole s trace room).used (omega arith) e)

-- no answer from a well-formed state has code 6, and each leaves one
no_sixes : (es : List Numbers) (s : State) → well_formed s ≡ true → sixes (answers_from s es) ≡ 0
unfolding answers_from sixes
no_sixes [] s h = refl
no_sixes (e ∷ es) s h =
    let small : number_of (step_of s e).code < 6 = well_has (λ (x : Answer). number_of x.code < 6) s (λ code small. small) e h (λ e is taken. omega arith) in
    rw (ne_eqb (number_of (step_of s e).code) 6 (λ z. omega arith)) (no_sixes es (step_of s e).state (steps_well_formed s e h))

pub replay_never_six : ReplayNeverSix
replay_never_six address h trace room = no_sixes _ _ (fresh_well_formed address h)
