-- Replay's two ways: refused at once, or played to its end. Assumes nothing.
use Prim.Native.Nat.{ℕ}
use mathlib.Core.Path.{◌≡◌, refl, sym, ap, ◌∙◌}
use mathlib.Core.Bool.{Bool, true, false, ◌||◌, not, or-true}
use mathlib.Core.List.{List, ◌++◌}
use lib.Dec.{eqb}
use lib.IntN.{ℤ}
use lib.IntN.ℤ.{pos}
use lib.ListN.{length}
use Rattle.rules.specs.declared.state.State.{State}
use Rattle.replay_rules.specs.declared.play.Played.{Played}
use Rattle.replay_rules.specs.Play.{end_code, Ran}
use Rattle.blocks.specs.Blocks.{word}
use Rattle.replay_rules.specs.Replay.{Replayed, refused_at_once, replay_from, report_of, too_long, written_over}

-- a report that is not refused has 16 bytes
sixteen : (else given : Bool) → (else || not given) ≡ false → given ≡ true
sixteen else true e = refl
sixteen else false e = sym e ∙ or-true else

module _ (made : ℕ) (s : State) (trace output report : List ℕ) where
  pub refused : {r : ℤ} {report' : List ℕ} → refused_at_once made trace output report ≡ true → r ≡ pos 2 → report' ≡ report → Replayed (replay_from made s trace output report) r output report'
  unfolding replay_from
  refused e code same = record { code = rw e code; bytes = rw e; told = rw e same }

  pub finished : {p : Played} {output' report' : List ℕ} {r : ℤ} → refused_at_once made trace output report ≡ false → Ran s trace output output' p
      → report' ≡ written_over (((word (end_code p.stop) ++ word p.records) ++ word p.used) ++ word p.written) report → r ≡ pos (end_code p.stop)
      → Replayed (replay_from made s trace output report) r output' report'
  unfolding replay_from report_of
  finished {p} e ran told code =
      record {
        code = rw e (code ∙ ap pos ran.code);
        bytes = rw e ran.bytes;
        told = told ∙ rw (e, sixteen (not (eqb made 0) || too_long trace || too_long output) (eqb (length report) 16) e, ran.code, ran.records, ran.used, ran.written);
      }
