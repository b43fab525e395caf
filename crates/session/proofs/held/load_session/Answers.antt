-- `session::held::load_session`, field by field. Assumes nothing.
use Rattle.std.proofs.Common.{◌∙◌}
use Rattle.session_rules.proofs.Held.{loaded}
use Rattle.session.proofs.held.load_session.Goals as goal

pub returns : goal.returns
returns c =
    loaded _ c.min-behind.ensures c.load.ensures c.min-place.ensures c.packed.ensures c.word_at.ensures c.word_at-2.ensures c.word_at-3.ensures c.flag.ensures c.flag-2.ensures (c.from.ensures ∙ c.byte_at.ensures)
