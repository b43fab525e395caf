-- `session::joined::play_joined`: a turn that goes on leads from one `Midway` to the next, and each way out is a law of it. What was used lies
-- within both parts, so no sum is too large. Assumes nothing.
use Prim.Native.Nat.{ℕ, ◌+◌, ◌-◌, ◌<◌, ◌≤◌}
use native.Mathlib.Omega.{arith}
use mathlib.Core.Path.{◌≡◌, ap}
use mathlib.Core.List.{List, ◌++◌}
use lib.ListN.{length, take, length-append, length-drop}
use Rattle.rules.specs.declared.state.State.{State}
use Rattle.replay_rules.specs.declared.play.Played.{Played}
use Rattle.replay_rules.specs.Play.{Ran, run_of}
use Rattle.replay_rules.proofs.Plays.{back, from}
use Rattle.session_rules.specs.declared.session.Window.{Window}
use Rattle.session_rules.specs.Portion.{window_of}
use Rattle.session_rules.proofs.Joins.{Midway, behind, either, midway_last, midway_step, midway_stop, ran_sizes, seen_is}
use Rattle.session.proofs.joined.play_joined.Goals as goal

-- a turn, in plain variables
further : {s now : State} (first second : List ℕ) {x₀ x ys : List ℕ} {n u w : ℕ} {seen : Window} {p : Played} → Midway s (first ++ second) x₀ x now n u w → u < length first
    → seen ≡ window_of (from u first ++ second) → Ran now (take seen.count seen.bytes) (from w x) ys p
    → Midway s (first ++ second) x₀ (back w x ys) p.state (n + p.records) (u + p.used) (w + p.written)
further first second {u} m left shown ran = midway_step m (seen_is first second u (omega arith) shown) ran

pub overflow_add-result : goal.overflow_add-result
overflow_add-result c =
    let m = further c.args.first.now c.args.second.now c.loop-used.invariant c.loop-used-test.true c.window-w.ensures c.play-p.ensures in
    omega (arith, m.few, m.inside, length-append c.args.first.now c.args.second.now, c.well_formed)

pub overflow_add-result-then-is_full-p : goal.overflow_add-result-then-is_full-p
overflow_add-result-then-is_full-p c =
    let m = further c.args.first.now c.args.second.now c.loop-used.invariant c.loop-used-test.true c.window-w.ensures c.play-p.ensures in
    omega (arith, m.inside, length-append c.args.first.now c.args.second.now, c.well_formed)

pub returns-then-is_full-p : goal.returns-then-is_full-p
returns-then-is_full-p c =
    let u = c.loop-used.used in
    let one = c.args.first.now in
    let two = c.args.second.now in
    midway_stop c.loop-used.invariant (seen_is one two u (omega (arith, c.loop-used-test.true)) c.window-w.ensures) c.play-p.ensures
    (omega (arith, c.loop-used-test.true, length-drop u (one ++ two), length-append one two))
    (either _ _ (rw (c.is_full.ensures) at c.if-is_full-p.true))

pub overflow_add-records : goal.overflow_add-records
overflow_add-records c =
    let m = further c.args.first.now c.args.second.now c.loop-used.invariant c.loop-used-test.true c.window-w.ensures c.play-p.ensures in
    omega (arith, m.few, m.inside, length-append c.args.first.now c.args.second.now, c.well_formed)

pub overflow_add-used : goal.overflow_add-used
overflow_add-used c =
    let m = further c.args.first.now c.args.second.now c.loop-used.invariant c.loop-used-test.true c.window-w.ensures c.play-p.ensures in
    omega (arith, m.inside, length-append c.args.first.now c.args.second.now, c.well_formed)

pub loop-used-preserved : goal.loop-used-preserved
loop-used-preserved c = further c.args.first.now c.args.second.now c.loop-used.invariant c.loop-used-test.true c.window-w.ensures c.play-p.ensures

-- the last play, in plain variables
over : {s now : State} (first second : List ℕ) {x₀ x ys : List ℕ} {n u w : ℕ} {p : Played} → Midway s (first ++ second) x₀ x now n u w → length first ≤ u
    → Ran now (from (u - length first) second) (from w x) ys p
    → Ran s (first ++ second) x₀ (back w x ys) (record { stop = p.stop; records = n + p.records; used = u + p.used; written = w + p.written; state = p.state })
over {now} first second {x₀} {u} {w} m past ran = midway_last m ran (ap (λ (l : List ℕ). run_of now l (length x₀ - w)) (behind first second u past))

pub overflow_add-result-2 : goal.overflow_add-result-2
overflow_add-result-2 c =
    let z = ran_sizes (over c.args.first.now c.args.second.now c.loop-used.invariant c.loop-used-test.false c.play-q.ensures) in
    omega (arith, z.0, z.1, length-append c.args.first.now c.args.second.now, c.well_formed)

pub overflow_add-result-3 : goal.overflow_add-result-3
overflow_add-result-3 c =
    let z = ran_sizes (over c.args.first.now c.args.second.now c.loop-used.invariant c.loop-used-test.false c.play-q.ensures) in
    omega (arith, z.1, length-append c.args.first.now c.args.second.now, c.well_formed)

pub returns : goal.returns
returns c = over c.args.first.now c.args.second.now c.loop-used.invariant c.loop-used-test.false c.play-q.ensures
