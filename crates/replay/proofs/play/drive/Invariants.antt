-- `replay::play::drive`: so far it went as a play goes; with one event alone it has not moved. A record uses 19 bytes or more, so what is
-- left of the trace falls.
use Prim.Native.Nat.{◌-◌}
use mathlib.Core.Path.{◌≡◌}
use mathlib.Core.Bool.{true}
use Rattle.std.specs.Prelude.{Some}
use Rattle.rules.specs.declared.event.Numbers.{Numbers}
use lib.ListN.{length}
use Rattle.rules.specs.WellFormed.{well_formed}
use Rattle.replay_rules.specs.Play.{Mid}
use Rattle.replay.proofs.play.drive.Given as goal

abbrev pub invariant-loop-out : goal.invariant-loop-out
invariant-loop-out l =
    (well_formed l.state ≡ true) × Mid l.initial.state l.trace l.initial.out l.out l.state l.records l.used l.written × ((e : Numbers) → l.only ≡ Some e → (l.state ≡ l.initial.state) × (l.written ≡ 0))

abbrev pub decreases-loop-out : goal.decreases-loop-out
decreases-loop-out l = length l.trace - l.used
