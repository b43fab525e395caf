-- `session::session::part_fits`: by what its callees ensure of the part that is kept. Assumes nothing.
use Rattle.session_rules.proofs.Windows.{part_held}
use Rattle.session.proofs.session.part_fits.Goals as goal

pub returns : goal.returns
returns c = part_held _ _ c.args.all.now _ _ _ c.if-count-gt38.false c.min-n.ensures c.packed-kept.ensures c.same.ensures c.is_part.ensures
