-- `session::window::window_at`: the place is behind the first part. Assumes nothing.
use mathlib.Core.Path.{◌∙◌, ap}
use lib.ListN.{length}
use Rattle.text_rules.proofs.Put.{rest}
use Rattle.session_rules.specs.Portion.{window_of}
use Rattle.session_rules.proofs.Windows.{from_second}
use Rattle.session.proofs.window.window_at.Goals as goal

pub returns : goal.returns
returns c =
    let s = c.args in
    c.window-2.ensures
    ∙ rw (rest (length s.a.now) s.a.now, rest c.min-k.result s.b.now)
    (ap window_of (from_second s.at _ s.a.now s.b.now c.if-at-a.false c.min-k.ensures))
