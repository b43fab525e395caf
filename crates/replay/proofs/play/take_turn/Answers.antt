-- `replay::play::take_turn`: the laws of a turn, at what its calls ensure. Assumes nothing.
use mathlib.Core.Path.{refl, sym, ap, ◌∙◌}
use Rattle.rules.specs.Step.{step_of}
use Rattle.replay_rules.proofs.Turns.{shown_put, turn_bad, turn_full, turn_went}
use Rattle.replay.proofs.play.take_turn.Goals as goal

pub returns-in_default : goal.returns-in_default
returns-in_default c = turn_bad c.read_record.ensures c.in_default.not-Ok refl

pub returns-in_default-write_answer : goal.returns-in_default-write_answer
returns-in_default-write_answer c =
    turn_full (sym c.read_record.ensures ∙ c.in-Ok.is) (c.event-a.ensures ∙ ap (step_of c.args.s) c.numbers_of.ensures) (shown_put c.event-a.result c.shown.ensures c.write_answer.ensures) c.in_default-write_answer.is

pub returns : goal.returns
returns c =
    turn_went (sym c.read_record.ensures ∙ c.in-Ok.is) (c.event-a.ensures ∙ ap (step_of c.args.s) c.numbers_of.ensures) (shown_put c.event-a.result c.shown.ensures c.write_answer.ensures) c.in-Some.is
