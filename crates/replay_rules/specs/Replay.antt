-- The report, the refusals, and replay whole. Assumes nothing.
use Rattle.rules.specs.Codes.{number_of}
use Rattle.std.specs.Prelude.{ℕ, ◌≡◌, Bool, cond, ◌||◌, not, List, ◌++◌, eqb, ltb, ℤ, length}
use Rattle.std.proofs.Math.IntN.ℤ.{pos}
use Rattle.blocks.specs.Blocks.{over, word}
use Rattle.rules.specs.declared.state.State.{State}
use Rattle.rules.specs.PowerOn.{made_of}
use Rattle.text_rules.specs.Answer.{put}
use Rattle.replay_rules.specs.Play.{Run, run_of}

-- "code, records answered, trace bytes used, output bytes written, each 4 bytes, low byte first"
unfoldable pub report_of : Run → List ℕ
report_of p = ((word p.code ++ word p.records) ++ word p.used) ++ word (length p.text)

-- a report, where there are 16 bytes for it
abbrev pub written_over : List ℕ → List ℕ → List ℕ
written_over = over 16

-- "over 16 MiB"
abbrev pub too_long : List ℕ → Bool
too_long bytes = ltb 16777216 (length bytes)

-- "A bad address, a trace or output over 16 MiB, or a report not 16 bytes long is code 2"
abbrev pub refused_at_once : ℕ → List ℕ → List ℕ → List ℕ → Bool
refused_at_once code trace output report =
    not (eqb code 0) || too_long trace || too_long output || not (eqb (length report) 16)

-- what is returned, and what both buffers hold at the end
pub record Result : Type 0 where
  pub code : ℕ
  pub output : List ℕ
  pub report : List ℕ

-- code 2 "writes nothing, the report included"
abbrev pub untouched : List ℕ → List ℕ → Result
untouched output report = record { code = 2; output = output; report = report }

abbrev pub played : Run → List ℕ → Result
played p output = record { code = p.code; output = put p.text output; report = report_of p }

-- "It starts from power-on and returns the code": from the code and the state that making one gave
unfoldable pub replay_from : ℕ → State → List ℕ → List ℕ → List ℕ → Result
replay_from code s trace output report =
    cond (refused_at_once code trace output report) (untouched output report) (played (run_of s trace (length output)) output)

-- "Replay takes an address, a trace, an output and a 16-byte report"
abbrev pub replay_of : ℤ → List ℕ → List ℕ → List ℕ → Result
replay_of address trace output report = replay_from (number_of (made_of address).code) (made_of address).state trace output report

-- what a replay promises: the code that it returns, and every byte of both buffers
pub record Replayed (wanted : Result) (r : ℤ) (output report : List ℕ) : Type 0 where
  pub code : r ≡ pos wanted.code
  pub bytes : output ≡ wanted.output
  pub told : report ≡ wanted.report
