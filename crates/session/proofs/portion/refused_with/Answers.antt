-- `session::portion::refused_with`: what a session has taken leaves room for a portion's size in the sum. Assumes nothing.
use native.Mathlib.Omega.{arith}
use mathlib.Core.Path.{sym, ◌∙◌}
use Rattle.session_rules.proofs.Counts.{session_fits}
use Rattle.session.proofs.portion.refused_with.Goals as goal

pub overflow_add-s : goal.overflow_add-s
overflow_add-s c =
    let p = session_fits c.args.s (sym c.is_session.ensures ∙ c.if-not-is_session.false) in
    omega arith

pub overflow_add-s-2 : goal.overflow_add-s-2
overflow_add-s-2 c =
    let p = session_fits c.args.s (sym c.is_session.ensures ∙ c.if-not-is_session.false) in
    omega arith
