-- The numbers of what stops a portion tell the cases apart, and every portion's code is one of them. Assumes nothing.
use Prim.Native.Nat.{ℕ, ◌+◌}
use native.Mathlib.Omega.{arith}
use mathlib.Core.Path.{◌≡◌, refl, ap, sym, ◌∙◌}
use mathlib.Core.Bool.{Bool, true, false, cond, not, ◌&&◌}
use mathlib.Core.List.{List, ◌++◌}
use lib.Dec.{eqb, ltb}
use lib.ListN.{length}
use Rattle.std.specs.Prelude.{Option, Some, None}
use Rattle.rules.specs.declared.state.State.{State}
use Rattle.replay_rules.specs.declared.play.Stop.TheVariants.{Record as PlayRecord, Room as PlayRoom}
use Rattle.replay_rules.specs.declared.play.Stop.{Stop as PlayStop}
use Rattle.replay_rules.specs.Play.{begun, end_code, run_of}
use Rattle.replay_rules.proofs.Meant.{stops}
use Rattle.session_rules.specs.declared.session.Session.{Session}
use Rattle.session_rules.specs.declared.session.Stop.{Stop}
use Rattle.session_rules.specs.declared.session.Stop.TheVariants.{TooLong, NoSession, Record as NoRecord, Room, Ended}
use Rattle.session_rules.specs.Session.{carried_of, is_session}
use Rattle.session_rules.specs.Portion.{Feed, stop_for, all_taken, fed_code, feed_of, number_of, refusal, refusal_of, refused_with, settled, stopped_at, waits}

abbrev stop_by : ℕ → Option Stop
stop_by n =
    cond (eqb n 2) (Some TooLong)
    (cond (eqb n 6) (Some NoSession) (cond (eqb n 7) (Some NoRecord) (cond (eqb n 8) (Some Room) (cond (eqb n 9) (Some Ended) None))))

found : (o : Option Stop) → stop_by (fed_code o) ≡ o
found None = refl
found (Some TooLong) = refl
found (Some NoSession) = refl
found (Some NoRecord) = refl
found (Some Room) = refl
found (Some Ended) = refl

pub one_stop : (a b : Option Stop) → fed_code a ≡ fed_code b → a ≡ b
one_stop a b e = sym (found a) ∙ ap stop_by e ∙ found b

-- what refuses is what the numbers say
chosen : (t : Bool) (a b : Option Stop) {m n : ℕ} → fed_code a ≡ m → fed_code b ≡ n → fed_code (cond t a b) ≡ cond t m n
chosen true a b p q = p
chosen false a b p q = q

pub refusal_code : (s : Session) (size : ℕ) → fed_code (refusal_of s size) ≡ refused_with s size
unfolding refusal_of refused_with
refusal_code s size =
    chosen (not (is_session s)) _ _ refl
    (chosen (s.ended && ltb 0 size) _ _ refl (chosen s.stopped _ _ refl (chosen (ltb 16777216 (s.used + s.count + size)) (Some TooLong) None refl refl)))

pub play_code : (o : Option PlayStop) → fed_code (stop_for o) ≡ end_code o
play_code None = refl
play_code (Some PlayRecord) = refl
play_code (Some PlayRoom) = refl

-- a stop is no code 0
pub some_code : (stop : Stop) → number_of stop ≡ 0 → {A : Type 0} → A
some_code TooLong e = absurd (omega (arith, e))
some_code NoSession e = absurd (omega (arith, e))
some_code NoRecord e = absurd (omega (arith, e))
some_code Room e = absurd (omega (arith, e))
some_code Ended e = absurd (omega (arith, e))

abbrev Known : ℕ → Type 0
Known code = (o : Option Stop) × (fed_code o ≡ code)

of_run : (o : Option PlayStop) {code : ℕ} → end_code o ≡ code → Known code
of_run None e = (None, e)
of_run (Some PlayRecord) e = (Some NoRecord, e)
of_run (Some PlayRoom) e = (Some Room, e)

either : (t : Bool) {a b : ℕ} → Known a → Known b → Known (cond t a b)
either true p q = p
either false p q = q

fed : (t : Bool) (a b : Feed) → Known a.code → Known b.code → Known (cond t a b).code
fed true a b p q = p
fed false a b p q = q

refusals : (s : Session) (size : ℕ) → Known (refused_with s size)
unfolding refused_with
refusals s size =
    either (not (is_session s)) (Some NoSession, refl)
    (either (s.ended && ltb 0 size) (Some Ended, refl) (either s.stopped (Some NoRecord, refl) (either (ltb 16777216 (s.used + s.count + size)) (Some TooLong, refl) (None, refl))))

run : (s : State) (bytes : List ℕ) (room : ℕ) → Known (run_of s bytes room).code
unfolding run_of
run s bytes room = let z = stops (length bytes) (begun s) bytes room in of_run z.0 z.1

pub feeds : (s : Session) (portion : List ℕ) (end : Bool) (room : ℕ) → Known (feed_of s portion end room).code
unfolding feed_of
feeds s portion end room =
    let r = run_of s.chip (carried_of s ++ portion) room in
    let ran : Known r.code = run s.chip (carried_of s ++ portion) room in
    fed (eqb (refused_with s (length portion)) 0) (settled s portion end r (waits r (carried_of s ++ portion))) (refusal s (refused_with s (length portion)))
    (fed (waits r (carried_of s ++ portion)) (all_taken s portion end r (cond end 7 0)) (cond (eqb r.code 0) (all_taken s portion end r 0) (stopped_at s r)) (either end (Some NoRecord, refl) (None, refl)) (fed (eqb r.code 0) (all_taken s portion end r 0) (stopped_at s r) (None, refl) ran))
    (refusals s (length portion))
