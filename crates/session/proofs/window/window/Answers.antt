-- `session::window::window`: no more of the first part is taken than the window holds. Assumes nothing.
use Rattle.session_rules.proofs.Windows.{window_cut}
use Rattle.session.proofs.window.window.Goals as goal

pub returns : goal.returns
returns c = rw c.joined.ensures (window_cut c.min-n.result c.min.result c.args.a.now c.args.b.now c.min-n.ensures c.min.ensures)
