-- The tables hold of the rules, and the cases of the alarm claims of the history, by computation. Assumes nothing.
use mathlib.Core.Path.{refl}
use Rattle.rules.specs.Commands.{source_of, target_of}
use Rattle.rules.specs.Comparisons.{compared_of}
use Rattle.rules.specs.Conversion.{code_for, converted, converted_of, taken_of}
use Rattle.rules.specs.Read.{read_at_pointer}
use Rattle.rules.specs.Runs.{needed_of}
use Rattle.rules.specs.Status.{status_of, after_status}
use Rattle.rules.specs.Step.{apply_of, end_of, last_from, respond_of, start_of, step_of}
use Rattle.rules.specs.Trial.{answered_at, answered_from, gots, wants}
use Rattle.rules.specs.Values.{code_of, offset_of}
use Rattle.rules.specs.WellFormed.{well_formed}
use Rattle.rules.specs.Write.{standby_compared, stored, written}
use Rattle.rules.specs.Alarm.{history_from, in_arow, latched, latest, clearing_reads_that_showed, spells_opened, stands}
use Rattle.rules.specs.AlarmCases.{CountsMet, FormsMet, PremisesMet, counted, met}
use Rattle.rules.specs.Assured.{uncleared, unread}
use Rattle.rules.specs.Hot.{hot}
use Rattle.rules.specs.BenchCases.{BenchCases, bench_rows}
use Rattle.rules.specs.FieldCases.{FieldCases, answered_with, field_tests}
use Rattle.rules.specs.RuleCases.{RuleCases, rule_rows}

-- to unfold this is to unfold all that a step computes with
unfoldable pub opened : Unit {0}
unfolding source_of target_of compared_of code_for converted converted_of taken_of read_at_pointer needed_of status_of after_status apply_of end_of respond_of start_of step_of last_from code_of offset_of well_formed standby_compared stored written
opened = tt

pub bench_cases : BenchCases
unfolding opened answered_at answered_from gots wants bench_rows
bench_cases = refl

pub rule_cases : RuleCases
unfolding opened answered_at answered_from gots wants rule_rows
rule_cases = refl

pub field_cases : FieldCases
unfolding opened answered_with field_tests
field_cases = refl

pub premises_met : PremisesMet
unfolding opened in_arow latched latest clearing_reads_that_showed spells_opened stands uncleared unread history_from met
premises_met = refl

pub forms_met : FormsMet
forms_met = (refl, refl, refl)

pub counts_met : CountsMet
unfolding opened hot in_arow latched latest clearing_reads_that_showed spells_opened stands uncleared unread history_from counted
counts_met = refl
