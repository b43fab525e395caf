-- The cases hold of replay's definition, by computation; the lengths by the tests that refuse. Assumes nothing.
use lib.Dec.{eqb}
use Rattle.rules.specs.declared.answer.Code.TheVariants.{Done}
use Rattle.rules.specs.Codes.{number_of}
use Prim.Native.Nat.{ℕ, ◌≤◌}
use native.Mathlib.Omega.{arith}
use mathlib.Core.Path.{◌≡◌, refl}
use mathlib.Core.Bool.{Bool, true, ◌||◌, not, or-true}
use mathlib.Core.List.{List}
use lib.IntN.{ℤ}
use lib.ListN.{length}
use borrow.Author.Tests.{lt-ltb, le-ltb, ne_eqb, eq-eqb}
use Rattle.rules.specs.PowerOn.{made_of}
use Rattle.replay_rules.specs.Play.{run_from, run_of}
use Rattle.replay_rules.specs.Replay.{played, refused_at_once, replay_from, replay_of, report_of, too_long}
use Rattle.replay_rules.specs.ReplayCases.{Lengths, LengthsRefused, LengthsTaken, ReplayCases, again, alarm, bad_field, cut, done, early, hot, lame, low, mask, no_kind, not_mine, other, replay_rows, start, strange, therm, used, warm}
use Rattle.replay_rules.proofs.Examples.{opened}

pub replay_cases : ReplayCases
unfolding opened run_from run_of replay_from report_of again alarm bad_field cut done early hot lame low mask no_kind not_mine other replay_rows start strange therm used warm
replay_cases = refl

module _ (address : ℤ) (trace output report : List ℕ) where
  abbrev bad : Bool
  bad = not (eqb (number_of (made_of address).code) 0)

  refuses : refused_at_once (number_of (made_of address).code) trace output report ≡ true → replay_of address trace output report ≡ record { code = 2; output = output; report = report }
  unfolding replay_from
  refuses e = rw e refl

  pub lengths : Lengths address trace output report
  lengths =
      record {
        long_trace = λ h. refuses (rw (lt-ltb 16777216 (length trace) h, or-true bad));
        long_output = λ h. refuses (rw (lt-ltb 16777216 (length output) h, or-true (bad || too_long trace)));
        short_report = λ h. refuses (rw (ne_eqb (length report) 16 (λ e. omega arith), or-true (bad || too_long trace || too_long output)));
        long_report = λ h. refuses (rw (ne_eqb (length report) 16 (λ e. omega arith), or-true (bad || too_long trace || too_long output)));
      }

  pub taken : (made_of address).code ≡ Done → length trace ≤ 16777216 → length output ≤ 16777216 → length report ≡ 16 → replay_of address trace output report ≡ played (run_of (made_of address).state trace (length output)) output
  unfolding replay_from
  taken made t o r = simp (made, le-ltb 16777216 (length trace) t, le-ltb 16777216 (length output) o, eq-eqb (length report) 16 r)

pub lengths_refused : LengthsRefused
lengths_refused = lengths

pub lengths_taken : LengthsTaken
lengths_taken = taken
