-- No second answer satisfies what a turn, a play or a replay promises. Assumes nothing.
use native.Mathlib.Omega.{arith}
use Rattle.replay_rules.specs.declared.play.Stop.TheVariants.{Record as NoRecord, Room}
use Rattle.replay_rules.specs.declared.play.Stop.{Stop}
use Rattle.std.specs.Prelude.{Option, Some, None}
use Prim.Native.Nat.{ℕ}
use mathlib.Core.Path.{◌≡◌, refl, sym, ◌∙◌}
use mathlib.Core.List.{List}
use lib.IntN.{ℤ}
use Rattle.rules.specs.declared.state.State.{State}
use Rattle.replay_rules.specs.declared.play.Played.{Played}
use Rattle.replay_rules.specs.Play.{Turn}
use Rattle.replay_rules.specs.Play.{end_code, Ran, Turned}
use Rattle.replay_rules.specs.Replay.{Replayed, Result}

pub one_turn : {s : State} {rest before after after' : List ℕ} {r r' : Turn} → Turned s rest before after r → Turned s rest before after' r' → (r ≡ r') × (after ≡ after')
one_turn p q = (p.said ∙ sym q.said, p.bytes ∙ sym q.bytes)

-- the codes tell the cases apart
one_stop : (a b : Option Stop) → end_code a ≡ end_code b → a ≡ b
one_stop None None e = refl
one_stop None (Some NoRecord) e = absurd (omega (arith, e))
one_stop None (Some Room) e = absurd (omega (arith, e))
one_stop (Some NoRecord) None e = absurd (omega (arith, e))
one_stop (Some Room) None e = absurd (omega (arith, e))
one_stop (Some NoRecord) (Some NoRecord) e = refl
one_stop (Some NoRecord) (Some Room) e = absurd (omega (arith, e))
one_stop (Some Room) (Some NoRecord) e = absurd (omega (arith, e))
one_stop (Some Room) (Some Room) e = refl

pub one_play : {s : State} {trace before after after' : List ℕ} {r r' : Played} → Ran s trace before after r → Ran s trace before after' r' → (r ≡ r') × (after ≡ after')
one_play p q =
    (λ i. record { stop = one_stop _ _ (p.code ∙ sym q.code) i; records = (p.records ∙ sym q.records) i; used = (p.used ∙ sym q.used) i; written = (p.written ∙ sym q.written) i; state = (p.state ∙ sym q.state) i }, p.bytes ∙ sym q.bytes)

pub one_replay : {wanted : Result} {r r' : ℤ} {output output' report report' : List ℕ} → Replayed wanted r output report → Replayed wanted r' output' report' → (r ≡ r') × (output ≡ output') × (report ≡ report')
one_replay p q = (p.code ∙ sym q.code, p.bytes ∙ sym q.bytes, p.told ∙ sym q.told)
