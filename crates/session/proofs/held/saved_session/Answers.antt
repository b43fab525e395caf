-- `session::held::saved_session`: the head and the chip, one behind the other. Assumes nothing.
use Rattle.std.proofs.Common.{◌∙◌}
use Rattle.session_rules.proofs.Held.{saves}
use Rattle.session.proofs.held.saved_session.Goals as goal

pub returns : goal.returns
returns c = c.joined.ensures ∙ saves c.args.s _ _ c.head.ensures c.save.ensures
