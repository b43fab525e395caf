-- `dlaveth::portions::dlaveth_feed`: a wrong length or flag, no session, a refusal, or the portion. Assumes nothing.
use Rattle.std.specs.Prelude.{FitsSigned}
use mathlib.Core.Path.{ap, sym, ◌∙◌}
use lib.IntN.ℤ.{pos}
use mir.Syntax.{w32}
use mir.Facts.{to_z-of_z}
use Rattle.session_rules.specs.Portion.{fed_code}
use Rattle.session_rules.proofs.Codes.{refusal_code, some_code}
use Rattle.session_rules.proofs.Faced.{fed, refused, repelled, strange}
use Rattle.dlaveth.proofs.portions.dlaveth_feed.Goals as goal

pub returns-then-session-report : goal.returns-then-session-report
returns-then-session-report c =
    refused _ _ _ _ _ _ (rw (to_z-of_z c.ranges.end) at c.is_flag.ensures) c.if-session-report.true

pub returns-then-not-holds_session : goal.returns-then-not-holds_session
returns-then-not-holds_session c =
    strange _ _ _ _ _ _ (rw (to_z-of_z c.ranges.end) at c.is_flag.ensures) c.if-session-report.false c.load_session-s.ensures c.holds_session.ensures c.if-not-holds_session.true

pub returns-in-Some : goal.returns-in-Some
returns-in-Some c =
    let h : FitsSigned w32 c.from.result = record { sfits = c.from.type_inv } in
    repelled _ _ _ _ _ _ (rw (to_z-of_z c.ranges.end) at c.is_flag.ensures) c.if-session-report.false c.load_session-s.ensures c.holds_session.ensures c.if-not-holds_session.false
    (ap fed_code c.refused_with.ensures ∙ refusal_code _ _) (λ z. some_code _ (ap fed_code (sym c.in-Some.is) ∙ z)) (to_z-of_z h ∙ c.from.ensures ∙ ap pos (c.number.ensures ∙ ap fed_code (sym c.in-Some.is)))

pub returns : goal.returns
returns c =
    let h : FitsSigned w32 c.from-2.result = record { sfits = c.from-2.type_inv } in
    fed _ _ _ _ _ _ (rw (to_z-of_z c.ranges.end) at c.is_flag.ensures) c.if-session-report.false c.load_session-s.ensures c.holds_session.ensures c.if-not-holds_session.false
    (ap fed_code c.refused_with.ensures ∙ refusal_code _ _) (ap fed_code c.in_default.is) (rw (to_z-of_z c.ranges.end) at c.is_end.ensures) c.feed-f.ensures c.save_session.ensures (rw (c.number-code.ensures) at c.write_report.ensures) c.write_progress.ensures
    (to_z-of_z h ∙ c.from-2.ensures ∙ ap pos c.number-code.ensures)
