-- The whole case and the empty trace hold of replay's definition, by computation. Assumes nothing.
use mathlib.Core.Path.{refl}
use Rattle.rules.proofs.Tables.{opened as stepped}
use Rattle.text_rules.specs.Number.{digits_of, number_of, plain_of}
use Rattle.text_rules.specs.Line.{fit_of, line_of}
use Rattle.text_rules.specs.Record.{record_of}
use Rattle.text_rules.specs.Answer.{answer_text, decimal_of, line_text}
use Rattle.replay_rules.specs.Consumed.{consumed_from, consumed_of}
use Rattle.replay_rules.specs.Play.{added_of, run_from, run_of, text_of, turn_of}
use Rattle.replay_rules.specs.Replay.{replay_from, report_of}
use Rattle.replay_rules.specs.Examples.{EmptyTrace, WholeCase, WholeEvents, whole_answers, whole_trace}

-- to unfold this is to unfold all that one turn computes with, and the whole case
unfoldable pub opened : Unit {0}
unfolding stepped digits_of number_of plain_of fit_of line_of record_of answer_text decimal_of line_text added_of text_of turn_of whole_answers whole_trace
opened = tt

pub whole_case : WholeCase
unfolding opened run_from run_of replay_from report_of
whole_case = refl

pub whole_events : WholeEvents
unfolding opened consumed_from consumed_of
whole_events = refl

pub empty_trace : EmptyTrace
unfolding run_from run_of replay_from report_of
empty_trace = refl
