-- `session::joined::play_joined`: so far it went as a play over both parts goes. A turn that goes on uses a byte or more, so what is left of
-- both falls.
use Prim.Native.Nat.{◌-◌}
use mathlib.Core.List.{◌++◌}
use lib.ListN.{length}
use Rattle.session_rules.proofs.Joins.{Midway}
use Rattle.session.proofs.joined.play_joined.Given as goal

abbrev pub invariant-loop-used : goal.invariant-loop-used
invariant-loop-used l = Midway l.initial.state (l.first ++ l.second) l.initial.out l.out l.state l.records l.used l.written

abbrev pub decreases-loop-used : goal.decreases-loop-used
decreases-loop-used l = length (l.first ++ l.second) - l.used
