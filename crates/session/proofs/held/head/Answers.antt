-- `session::held::head`: the marks and the carried bytes, one behind the other. Assumes nothing.
use Rattle.std.proofs.Common.{◌∙◌}
use Rattle.session_rules.proofs.Held.{heads}
use Rattle.session.proofs.held.head.Goals as goal

pub returns : goal.returns
returns c = c.joined.ensures ∙ heads c.args.s _ _ c.min-n.ensures c.marks.ensures
