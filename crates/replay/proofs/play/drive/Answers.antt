-- `replay::play::drive`: a round that goes on is one turn of `Mid`, with a record of the trace, since the event that is handed over is a
-- record of no bytes. A record uses 19 bytes or more, so what is left of the trace falls. Assumes nothing.
use Prim.Native.Nat.{ℕ, ◌+◌, ◌≤◌}
use native.Mathlib.Omega.{arith}
use mathlib.Core.Path.{◌≡◌, refl, sym, ap₂, ◌∙◌}
use mathlib.Core.Bool.{true}
use mathlib.Core.List.{List}
use Rattle.rules.specs.declared.answer.Answer.{Answer}
use Rattle.rules.specs.declared.event.Numbers.{Numbers}
use Rattle.rules.specs.declared.state.State.{State}
use Rattle.rules.specs.Event.{check_of}
use Rattle.rules.specs.Step.{checked_of, step_of}
use Rattle.rules.specs.WellFormed.{well_formed}
use Rattle.rules.proofs.WellFormed.{steps_well_formed}
use Rattle.std.specs.Prelude.{Option, Some, None, Ok}
use Rattle.text_rules.specs.Record.{Parsed}
use Rattle.text_rules.specs.declared.answer.Shown.{Shown}
use Rattle.text_rules.specs.declared.record.Record.{Record}
use Rattle.text_rules.specs.Answer.{Put, shown_text}
use Rattle.text_rules.specs.Sizes.{shortest_record}
use Rattle.text_rules.proofs.Put.{rest}
use Rattle.text_rules.proofs.Records.{record_fits}
use Rattle.replay_rules.specs.Play.{Mid, answer_to, next_of, numbers_of, shown_of}
use Rattle.replay_rules.proofs.Plays.{back, from, mid_as, mid_start, mid_step, record_left}
use Rattle.replay_rules.proofs.Turns.{handed_event, handed_some, next_read, not_handed, read_long, read_whole, shown_put, turn_bad, turn_went, well_step}
use Rattle.replay.proofs.play.drive.Goals as goal

pub loop-out-init : goal.loop-out-init
loop-out-init c = (rw c.settled-state.ensures c.requires.s_value, mid_start _ _ _, λ e h. (refl, refl))

pub returns-in_default : goal.returns-in_default
returns-in_default c =
    let a = c.args in
    let part = from c.loop-out.used a.trace.now in
    let next = c.next_record.ensures in
    record {
      mid = λ h. mid_as c.loop-out.invariant.1 c.settled-state.ensures refl c.holding.ensures;
      turned = λ h seven before. turn_bad (next_read a.only part next h ∙ rw (rest c.loop-out.used a.trace.now)) c.in_default.not-Ok refl;
      answer_value = λ e h. absurd (handed_some a.only part next h c.in_default.not-Ok);
    }

pub returns-then-n-eq0-clause-mid : goal.returns-then-n-eq0-clause-mid
returns-then-n-eq0-clause-mid c = λ h.
    absurd (omega (arith, c.if-n-eq0.true, read_long c.args.only (from c.loop-out.used c.args.trace.now) c.next_record.ensures c.in-Ok.is h))

pub returns-then-n-eq0-clause-answer_value : goal.returns-then-n-eq0-clause-answer_value
returns-then-n-eq0-clause-answer_value c = λ e h.
    let a = c.args in
    let stepped = well_step c.loop-out.state c.loop-out.invariant.0 c.numbers_of.ensures c.step_well-a.ensures in
    stepped
    ∙ ap₂ step_of ((c.loop-out.invariant.2 e h).0 ∙ c.settled-state.ensures) (handed_event a.only (from c.loop-out.used a.trace.now) c.next_record.ensures c.in-Ok.is h)

-- a round that goes on, in plain variables: its record is the trace's, and it is one turn of `Mid`
record Round (s₀ now : State) (t x₀ x ys : List ℕ) (n u w k j : ℕ) (only : Option Numbers) (a : Answer) : Type 0 where
  none : only ≡ None
  well : well_formed a.state ≡ true
  mid : Mid s₀ t x₀ (back w x ys) a.state (n + 1) (u + k) (w + j)
  long : shortest_record ≤ k

round : {s₀ now : State} {t x₀ x ys : List ℕ} {n u w k j : ℕ} (only : Option Numbers) {p : Parsed} {r : Record} {q : Numbers} {a : Answer} {b : Shown} {wr : Option ℕ}
    → well_formed now ≡ true → Mid s₀ t x₀ x now n u w
    → p ≡ next_of only (from u t) → p ≡ Ok (r, k) → (k ≡ 0 → ⊥)
    → q ≡ numbers_of r → a ≡ checked_of now (check_of q) → b ≡ shown_of a → Put (shown_text b) (from w x) ys wr → wr ≡ Some j
    → Round s₀ now t x₀ x ys n u w k j only a
round {now} {t} {u} only {r} {a} well m next is some same took shown wrote bytes =
    let no_event = not_handed only (from u t) next is some in
    let read = read_whole only (from u t) next is no_event in
    let stepped : a ≡ answer_to now r = well_step now well same took in
    record {
      none = no_event;
      well = rw stepped (steps_well_formed now (numbers_of r) well);
      mid = mid_step m (record_left u t read) (turn_went read stepped (shown_put a shown wrote) bytes) refl;
      long = (record_fits (from u t) read).0;
    }

pub overflow_add-used : goal.overflow_add-used
overflow_add-used c =
    let o = c.loop-out in
    let g = round c.args.only o.invariant.0 o.invariant.1 c.next_record.ensures c.in-Ok.is c.if-n-eq0.false c.numbers_of.ensures c.step_well-a.ensures c.shown.ensures c.write_quickly.ensures c.in-Some.is in
    omega (arith, g.mid.inside, c.well_formed)

pub loop-out-smaller : goal.loop-out-smaller
loop-out-smaller c =
    let o = c.loop-out in
    let turn = round c.args.only o.invariant.0 o.invariant.1 c.next_record.ensures c.in-Ok.is c.if-n-eq0.false c.numbers_of.ensures c.step_well-a.ensures c.shown.ensures c.write_quickly.ensures c.in-Some.is in
    omega (arith, turn.mid.inside, turn.long)

pub loop-out-preserved : goal.loop-out-preserved
loop-out-preserved c =
    let o = c.loop-out in
    let went = round c.args.only o.invariant.0 o.invariant.1 c.next_record.ensures c.in-Ok.is c.if-n-eq0.false c.numbers_of.ensures c.step_well-a.ensures c.shown.ensures c.write_quickly.ensures c.in-Some.is in
    (went.well, went.mid, λ e h. (let q : Some e ≡ None = sym h ∙ went.none in absurd cc))
