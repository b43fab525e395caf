-- `replay::replay_made`: refused at once, or what the play and the report ensure. Assumes nothing.
use Rattle.std.specs.Prelude.{FitsSigned}
use mathlib.Core.Path.{ap, sym, ◌∙◌}
use lib.IntN.ℤ.{pos}
use mir.Syntax.{w32}
use mir.Facts.{to_z-of_z}
use Rattle.replay_rules.proofs.Replays.{finished, refused}
use Rattle.replay.proofs.replay_made.Goals as goal

pub returns-then-is_refused : goal.returns-then-is_refused
returns-then-is_refused c =
    let h : FitsSigned w32 c.refused.result = record { sfits = c.refused.type_inv } in
    refused _ _ _ _ _ (sym c.is_refused.ensures ∙ c.if-is_refused.true) (to_z-of_z h ∙ c.refused.ensures.value) c.refused.ensures.report_unchanged

pub returns : goal.returns
returns c =
    let h : FitsSigned w32 c.from.result = record { sfits = c.from.type_inv } in
    finished _ _ _ _ _ (sym c.is_refused.ensures ∙ c.if-is_refused.false) c.play-p.ensures (rw (c.end_number-end.ensures.value) at c.write_report.ensures)
    (to_z-of_z h ∙ c.from.ensures ∙ ap pos c.end_number-end.ensures.value)
