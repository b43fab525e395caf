-- Document 02, item 5, of the entry that C calls: what the promise of `replay` gives with that much room, and with any. Proofs in
-- proofs/Enough.antt. Assumes nothing.
use Rattle.rules.specs.declared.answer.Code.TheVariants.{Done}
use Rattle.std.specs.Prelude.{ℕ, ◌*◌, ◌/◌, ◌≤◌, ◌<◌, ◌≡◌, ◌⊎◌, List, ℤ, length, replicate}
use Rattle.std.proofs.Math.IntN.ℤ.{pos}
use Rattle.rules.specs.PowerOn.{made_of}
use Rattle.text_rules.specs.Sizes.{shortest_record}
use Rattle.replay_rules.specs.Best.{hungry}
use Rattle.blocks.specs.Blocks.{word_at}
use Rattle.replay_rules.specs.Replay.{Replayed, replay_of}
use Rattle.replay_rules.specs.Room.{room_of}

-- whatever keeps that promise, for every address, trace, output and report: "with at least 33 output bytes for each full 19 bytes of trace,
-- code 8 is never given"; with any room what the report tells as records "is at most the trace length divided by 19". Code 2 writes no report
pub record Bound (trace output : List ℕ) (r : ℤ) (report' : List ℕ) : Type 0 where
  pub never : room_of (length trace) ≤ length output → r ≡ pos 8 → ⊥
  pub few : (r ≡ pos 2 → ⊥) → word_at report' 4 ≤ length trace / shortest_record

abbrev pub EntryBound : Type 0
EntryBound =
    (address : ℤ) (trace output report : List ℕ) (r : ℤ) (output' report' : List ℕ)
    → Replayed (replay_of address trace output report) r output' report' → Bound trace output r report'

-- "a trace or output over 16 MiB .. is code 2": the longest trace whose room is no more than that
abbrev pub longest_roomy : ℕ
longest_roomy = 9659618

pub record Roomy (n : ℕ) : Type 0 where
  pub within : n ≤ longest_roomy → room_of n ≤ 16777216
  pub beyond : longest_roomy < n → 16777216 < room_of n

abbrev pub RoomyMeans : Type 0
RoomyMeans = (n : ℕ) → Roomy n

-- so up to there exactly that room is taken, and every trace is answered whole or up to a record that is malformed
abbrev pub EntryTaken : Type 0
EntryTaken =
    (address : ℤ) → (made_of address).code ≡ Done → (trace output report : List ℕ) → length trace ≤ longest_roomy → length output ≡ room_of (length trace) → length report ≡ 16
    → (r : ℤ) (output' report' : List ℕ) → Replayed (replay_of address trace output report) r output' report' → (r ≡ pos 0) ⊎ (r ≡ pos 7)

-- neither 32 for each 19 nor 33 for each 20 would do: the same trace is stopped by 8 with either, and answered with 33 for each 19
pub record Stopped (trace report : List ℕ) : Type 0 where
  pub less : (replay_of (pos 76) trace (replicate (32 * (length trace / 19)) 0) report).code ≡ 8
  pub more : (replay_of (pos 76) trace (replicate (33 * (length trace / 20)) 0) report).code ≡ 8
  pub enough : (replay_of (pos 76) trace (replicate (room_of (length trace)) 0) report).code ≡ 0

abbrev pub EachIsBest : Type 0
EachIsBest = Stopped (hungry 18) (replicate 16 0)
