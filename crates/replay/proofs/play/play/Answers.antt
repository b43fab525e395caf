-- `replay::play::play`: it begins in a `Mid`, each turn leads from one to the next, and each way out is a law of it. A record uses 19 bytes
-- or more, so what is left of the trace falls. Assumes nothing.
use Prim.Native.Nat.{ℕ, ◌+◌, ◌<◌, ◌≤◌}
use native.Mathlib.Omega.{arith}
use mathlib.Core.Path.{◌≡◌}
use mathlib.Core.List.{List}
use lib.ListN.{length}
use Rattle.rules.specs.declared.state.State.{State}
use Rattle.text_rules.specs.Sizes.{shortest_record}
use Rattle.text_rules.proofs.Put.{front_held, front_length}
use Rattle.std.specs.Prelude.{Ok}
use Rattle.replay_rules.specs.declared.play.Went.{Went}
use Rattle.replay_rules.specs.Play.{Mid, Turn, Turned}
use Rattle.replay_rules.proofs.Plays.{back, from, mid_bad, mid_end, mid_step, mid_stop, turn_long}
use Rattle.replay.proofs.play.play.Goals as goal

pub returns-then-p-trace : goal.returns-then-p-trace
returns-then-p-trace c = mid_end c.begin-d.ensures.mid (omega (arith, c.if-p-trace.true))

pub returns-then-d : goal.returns-then-d
returns-then-d c =
    mid_bad c.begin-d.ensures.mid (omega (arith, c.if-p-trace.false, c.begin-d.ensures.mid.inside)) (c.begin-d.ensures.turned c.if-d.true)

pub slice_bounds-take_turn-count-in-loop-p : goal.slice_bounds-take_turn-count-in-loop-p
slice_bounds-take_turn-count-in-loop-p c = front_held (c.loop-p.invariant _ _ c.begin-d.ensures.mid).0.front

pub slice_bounds-take_turn-start-in-loop-p : goal.slice_bounds-take_turn-start-in-loop-p
slice_bounds-take_turn-start-in-loop-p c = front_held (c.loop-p.invariant _ _ c.begin-d.ensures.mid).0.front

-- a turn that goes on, in plain variables
further : {s now : State} {t x₀ x ys : List ℕ} {n u w : ℕ} {r : Turn} {g : Went} → Mid s t x₀ x now n u w → u < length t → Turned now (from u t) (from w x) ys r → r ≡ Ok g
    → Mid s t x₀ (back w x ys) g.state (n + 1) (u + g.used) (w + g.written) × (shortest_record ≤ g.used)
further m left turned is = (mid_step m left turned is, turn_long m left turned is)

pub overflow_add-p : goal.overflow_add-p
overflow_add-p c =
    let m = (further (c.loop-p.invariant _ _ c.begin-d.ensures.mid).0 c.loop-p-test.true c.take_turn.ensures c.in-Ok.is).0 in
    omega (arith, m.few, m.inside, c.well_formed)

pub overflow_add-p-in-Ok : goal.overflow_add-p-in-Ok
overflow_add-p-in-Ok c =
    let m = (further (c.loop-p.invariant _ _ c.begin-d.ensures.mid).0 c.loop-p-test.true c.take_turn.ensures c.in-Ok.is).0 in
    omega (arith, m.inside, c.well_formed)

pub overflow_add-p-in-Ok-2 : goal.overflow_add-p-in-Ok-2
overflow_add-p-in-Ok-2 c =
    let m = (further (c.loop-p.invariant _ _ c.begin-d.ensures.mid).0 c.loop-p-test.true c.take_turn.ensures c.in-Ok.is).0 in
    omega (arith, front_held m.front, front_length m.front, c.well_formed)

pub loop-p-smaller : goal.loop-p-smaller
loop-p-smaller c =
    let f = further (c.loop-p.invariant _ _ c.begin-d.ensures.mid).0 c.loop-p-test.true c.take_turn.ensures c.in-Ok.is in
    omega (arith, f.0.inside, f.1)

pub loop-p-preserved : goal.loop-p-preserved
loop-p-preserved c = λ s x₀ m. (mid_step (c.loop-p.invariant s x₀ m).0 c.loop-p-test.true c.take_turn.ensures c.in-Ok.is, (c.loop-p.invariant s x₀ m).1)

pub returns-in-Err : goal.returns-in-Err
returns-in-Err c = mid_stop (c.loop-p.invariant _ _ c.begin-d.ensures.mid).0 c.loop-p-test.true c.take_turn.ensures c.in-Err.is

pub returns : goal.returns
returns c =
    let h = c.loop-p.invariant _ _ c.begin-d.ensures.mid in
    rw h.1 (mid_end h.0 c.loop-p-test.false)
