-- `console::answers::write_text`: the laws of the text's two ways, at what its calls ensure. Assumes nothing.
use native.Mathlib.Omega.{arith}
use Rattle.console_rules.proofs.Texts.{answered_to, refused}
use Rattle.console.proofs.answers.write_text.Goals as goal

pub returns-then-trace-gt-MOST : goal.returns-then-trace-gt-MOST
returns-then-trace-gt-MOST c =
    rw c.unwrap_or.ensures (refused c.requires (omega (arith, c.if-trace-gt-MOST.true)) c.write_end.ensures)

pub returns : goal.returns
returns c =
    rw c.unwrap_or-2.ensures (answered_to c.requires (omega (arith, c.if-trace-gt-MOST.false)) (rw c.fresh.ensures at c.play-p.ensures) (rw c.end_number.ensures.value at c.write_end-2.ensures))
