-- The whole case, the empty trace and the last lines hold of the program's text, by computation; the last line in every case by the tests
-- that decide it. Assumes nothing.
use mathlib.Core.Path.{refl}
use borrow.Author.Tests.{le-ltb, lt-ltb}
use Rattle.text_rules.specs.Answer.{decimal_of, line_text}
use Rattle.replay_rules.specs.Play.{run_from, run_of}
use Rattle.replay_rules.proofs.Examples.{opened}
use Rattle.console_rules.specs.Console.{console_text, run_on}
use Rattle.console_rules.specs.Examples.{EmptyText, EndsMean, LastLines, PromiseMet, WholeText}

pub whole_text : WholeText
unfolding opened run_from run_of console_text run_on
whole_text = refl

pub empty_text : EmptyText
unfolding run_from run_of console_text run_on
empty_text = refl

pub last_lines : LastLines
unfolding opened run_from run_of console_text run_on
last_lines = (refl, refl)

pub ends_mean : EndsMean
unfolding console_text decimal_of line_text run_on
ends_mean trace =
    record {
      longer = λ h. rw (lt-ltb _ _ h);
      done = λ h e. rw (le-ltb _ _ h, e);
      stopped = λ h e. rw (le-ltb _ _ h, e);
    }

pub promise_met : PromiseMet
promise_met trace before = record { count = refl; bytes = refl }
