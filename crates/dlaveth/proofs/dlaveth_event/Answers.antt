-- `dlaveth::dlaveth_event`: of another length, no saved state, or the step. Assumes nothing.
use Rattle.std.specs.Prelude.{FitsSigned}
use mathlib.Core.Path.{ap, refl, ◌∙◌}
use lib.IntN.ℤ.{pos}
use mir.Syntax.{w32}
use mir.Facts.{to_z-of_z}
use Rattle.saved_rules.proofs.Faced.{happened, refused, strange}
use Rattle.dlaveth.proofs.dlaveth_event.Goals as goal

pub returns-then-chip-answer : goal.returns-then-chip-answer
returns-then-chip-answer c = refused _ _ _ c.if-chip-answer.true

pub returns-then-not-holds : goal.returns-then-not-holds
returns-then-not-holds c =
    strange _ _ _ c.if-chip-answer.false c.load-s.ensures c.holds.ensures c.if-not-holds.true c.put_answer.ensures refl

pub returns : goal.returns
returns c =
    let s = c.ranges in
    let h : FitsSigned w32 c.from.result = record { sfits = c.from.type_inv } in
    happened _ _ _ c.if-chip-answer.false c.load-s.ensures c.holds.ensures c.if-not-holds.false
    (rw (to_z-of_z s.kind, to_z-of_z s.a, to_z-of_z s.b, to_z-of_z s.c) at c.event-done.ensures)
    c.save.ensures (rw (c.code_number-code.ensures.value) at c.put_answer-2.ensures) (to_z-of_z h ∙ c.from.ensures ∙ ap pos c.code_number-code.ensures.value)
