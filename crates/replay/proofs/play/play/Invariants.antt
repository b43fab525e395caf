-- `replay::play::play`: whatever was under way where the loop begins still is; what is left of the trace falls.
use Prim.Native.Nat.{ℕ, ◌-◌}
use mathlib.Core.List.{List}
use mathlib.Core.Path.{◌≡◌}
use Rattle.std.specs.Prelude.{None}
use lib.ListN.{length}
use Rattle.rules.specs.declared.state.State.{State}
use Rattle.replay_rules.specs.Play.{Mid}
use Rattle.replay.proofs.play.play.Given as goal

abbrev pub invariant-loop-p : goal.invariant-loop-p
invariant-loop-p l =
    (s : State) (x₀ : List ℕ) → Mid s l.trace x₀ l.initial.out l.initial.p.state l.initial.p.records l.initial.p.used l.initial.p.written → Mid s l.trace x₀ l.out l.p.state l.p.records l.p.used l.p.written × (l.p.stop ≡ None)

abbrev pub decreases-loop-p : goal.decreases-loop-p
decreases-loop-p l = length l.trace - l.p.used
