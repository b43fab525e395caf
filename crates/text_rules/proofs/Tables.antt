-- The tables hold of the text's definitions, by computation. Assumes nothing.
use mathlib.Core.Path.{refl}
use Rattle.text_rules.specs.Number.{digits_of, number_of, plain_of}
use Rattle.text_rules.specs.Line.{fit_of, line_of}
use Rattle.text_rules.specs.Record.{record_of}
use Rattle.text_rules.specs.Answer.{answer_text, decimal_of, line_text}
use Rattle.text_rules.specs.RecordCases.{RecordCases, record_rows}
use Rattle.text_rules.specs.AnswerCases.{AnswerCases, EndCases, answers_wanted, answers_written, ends_wanted, ends_written}

pub record_cases : RecordCases
unfolding digits_of number_of plain_of fit_of line_of record_of record_rows
record_cases = refl

pub answer_cases : AnswerCases
unfolding answer_text decimal_of line_text answers_wanted answers_written
answer_cases = refl

pub end_cases : EndCases
unfolding decimal_of line_text ends_wanted ends_written
end_cases = refl
