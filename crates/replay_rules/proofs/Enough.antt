-- The bound, of the entry that C calls: it refuses at once, or is a run. Assumes nothing.
use Rattle.rules.specs.Codes.{number_of}
use Prim.Native.Nat.{ℕ, ◌*◌, ◌/◌, ◌≤◌}
use native.Mathlib.Omega.{arith}
use mathlib.Core.Path.{◌≡◌, refl, ap, sym, ◌∙◌}
use mathlib.Core.Logic.{inl, inr, ⊎_elim}
use mathlib.Core.Bool.{Bool, cond, true, false}
use mathlib.Core.List.{List}
use lib.IntN.{ℤ, nat_abs}
use lib.IntN.ℤ.{pos}
use lib.ListN.{length, replicate, length-replicate}
use Rattle.rules.specs.PowerOn.{made_of}
use Rattle.replay_rules.specs.Best.{hungry}
use Rattle.replay_rules.specs.Enough.{Bound, EachIsBest, EntryBound, EntryTaken, RoomyMeans}
use Rattle.replay_rules.specs.Play.{Run, run_of}
use Rattle.blocks.specs.Blocks.{word_at}
use Rattle.replay_rules.specs.Replay.{Replayed, Result, played, refused_at_once, replay_from, replay_of, report_of, untouched}
use Rattle.replay_rules.specs.Room.{room_of}
use Rattle.replay_rules.proofs.Best.{hungry_needs}
use Rattle.replay_rules.proofs.ReplayCases.{taken}
use Rattle.replay_rules.proofs.Room.{few_records, no_eight, run_ends}
use Rattle.replay_rules.proofs.Words.{word_below}

-- ---- Any room ----

module _ (address : ℤ) (trace output report : List ℕ) where
  abbrev run : Run
  run = run_of (made_of address).state trace (length output)

  -- refused at once, or the run
  abbrev either : Bool → Result
  either refused = cond refused (untouched output report) (played run output)

  bound : (refused : Bool) {r : ℤ} {output' report' : List ℕ} → Replayed (either refused) r output' report' → Bound trace output r report'
  unfolding report_of
  bound true p =
      record {
        never = λ room e. let z : ◌≡◌ {A = ℕ} 2 8 = ap nat_abs (sym p.code ∙ e) in omega (arith, z);
        few = λ not-two. absurd (not-two p.code);
      }
  bound false {report' = report'} p =
      record {
        never = λ room e. no_eight (made_of address).state trace (length output) room (ap nat_abs (sym p.code ∙ e));
        few = λ not-two. let told : word_at report' 4 ≡ word_at (report_of run) 4 = ap (λ (x : List ℕ). word_at x 4) p.told in omega (arith, told, word_below run.records, few_records (made_of address).state trace (length output));
      }

pub entry_bound : EntryBound
unfolding replay_from
entry_bound address trace output report r output' report' p = bound address trace output report (refused_at_once (number_of (made_of address).code) trace output report) p

-- ---- 16 MiB ----

pub roomy_means : RoomyMeans
roomy_means n = record { within = λ h. omega (arith, h); beyond = λ h. omega (arith, h) }

pub entry_taken : EntryTaken
entry_taken address made trace output report short exact sixteen r output' report' p =
    let within : room_of (length trace) ≤ 16777216 = (roomy_means (length trace)).within short in
    let is : (replay_of address trace output report).code ≡ (run_of (made_of address).state trace (length output)).code =
    ap (λ (x : Result). x.code) (taken address trace output report made (omega (arith, short)) (omega (arith, exact, within)) sixteen) in
    ⊎_elim (λ e. inl (p.code ∙ ap pos (is ∙ e))) (λ e. inr (p.code ∙ ap pos (is ∙ e)))
    (run_ends (made_of address).state trace (length output) (omega (arith, exact)))

-- ---- No less ----

-- into so many zeros
into : (n room : ℕ) → length (hungry n) ≤ 16777216 → room ≤ 16777216
    → (replay_of (pos 76) (hungry n) (replicate room 0) (replicate 16 0)).code ≡ (run_of (made_of (pos 76)).state (hungry n) room).code
into n room short fits =
    let size : length (replicate {A = ℕ} room 0) ≡ room = length-replicate {A = ℕ} room 0 in
    ap (λ (x : Result). x.code) (taken (pos 76) (hungry n) (replicate room 0) (replicate 16 0) refl short (omega (arith, size, fits)) refl)
    ∙ ap (λ (k : ℕ). (run_of (made_of (pos 76)).state (hungry n) k).code) size

pub each_is_best : EachIsBest
each_is_best =
    let needs = hungry_needs 18 in
    let size = needs.size in
    let short : length (hungry 18) ≤ 16777216 = omega (arith, size) in
    record {
      less = into 18 (32 * (length (hungry 18) / 19)) short (omega (arith, size)) ∙ needs.eight (32 * (length (hungry 18) / 19)) (omega (arith, size));
      more = into 18 (33 * (length (hungry 18) / 20)) short (omega (arith, size)) ∙ needs.eight (33 * (length (hungry 18) / 20)) (omega (arith, size));
      enough = into 18 (room_of (length (hungry 18))) short (omega (arith, size)) ∙ needs.code (room_of (length (hungry 18))) (omega (arith, size));
    }
