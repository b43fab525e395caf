-- `session::portion::feed`: the laws of a portion, at what its calls ensure. Assumes nothing.
use mathlib.Core.Path.{refl, sym, ap, ◌∙◌}
use Rattle.session_rules.specs.Portion.{fed_code}
use Rattle.session_rules.proofs.Codes.{play_code, refusal_code}
use Rattle.session_rules.proofs.Feeds as feeds
use Rattle.session.proofs.portion.feed.Goals as goal

pub returns-in-Some : goal.returns-in-Some
returns-in-Some c = feeds.fed_refused _ _ _ _ _ (ap fed_code c.refused_with.ensures ∙ refusal_code _ _) c.in-Some.is

pub shared_ref_as_front-carried : goal.shared_ref_as_front-carried
shared_ref_as_front-carried c =
    (feeds.s_held c.args.s c.args.portion.now c.args.end c.args.out.now (ap fed_code (sym c.in_default.is ∙ c.refused_with.ensures) ∙ refusal_code _ _)).few

pub moved-requires : goal.moved-requires
moved-requires c =
    let z = feeds.sums c.args.s c.args.portion.now c.args.end c.args.out.now (ap fed_code (sym c.in_default.is ∙ c.refused_with.ensures) ∙ refusal_code _ _) c.play_joined-p.ensures in
    record { records_bound = z.0; used_bound = z.1; written_bound = z.2 }

pub returns-then-waiting-is_end : goal.returns-then-waiting-is_end
returns-then-waiting-is_end c =
    feeds.fed_all c.args.s c.args.portion.now c.args.end c.args.out.now (ap fed_code (sym c.in_default.is ∙ c.refused_with.ensures) ∙ refusal_code _ _) c.play_joined-p.ensures c.window_at-w.ensures c.is_part.ensures
    (rw (c.is_unread.ensures, c.is_end.ensures) at c.if-waiting-is_end.true) (rw (c.is_unread.ensures) at c.stop_if.ensures) (rw (c.is_unread.ensures) at c.moved.ensures)

pub moved-requires-2 : goal.moved-requires-2
moved-requires-2 c =
    let z = feeds.sums c.args.s c.args.portion.now c.args.end c.args.out.now (ap fed_code (sym c.in_default.is ∙ c.refused_with.ensures) ∙ refusal_code _ _) c.play_joined-p.ensures in
    record { records_bound = z.0; used_bound = z.1; written_bound = z.2 }

pub returns : goal.returns
returns c =
    feeds.fed_stop c.args.s c.args.portion.now c.args.end c.args.out.now (ap fed_code (sym c.in_default.is ∙ c.refused_with.ensures) ∙ refusal_code _ _) c.play_joined-p.ensures c.window_at-w.ensures c.is_part.ensures
    (rw (c.is_unread.ensures, c.is_end.ensures) at c.if-waiting-is_end.false) c.min-m.ensures refl (rw (c.is_unread-2.ensures) at c.moved-2.ensures) (ap fed_code c.for_portion.ensures ∙ play_code _)
