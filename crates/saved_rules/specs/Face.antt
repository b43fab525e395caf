-- What a C program's calls leave in every byte that it lends. Assumes nothing.
use Rattle.std.specs.Prelude.{ℕ, ◌≡◌, Bool, cond, ◌&&◌, List, [], ◌∷◌, eqb, ℤ, length, replicate}
use Rattle.std.proofs.Math.IntN.ℤ.{pos}
use Rattle.blocks.specs.Blocks.{over}
use Rattle.rules.specs.declared.answer.Answer.{Answer}
use Rattle.rules.specs.declared.answer.Made.{Made}
use Rattle.rules.specs.declared.event.Numbers.{Numbers}
use Rattle.rules.specs.Codes.{is_done, number_of}
use Rattle.rules.specs.PowerOn.{made_of}
use Rattle.rules.specs.Step.{step_of}
use Rattle.saved_rules.specs.Layout.{flag, is_saved, save_of, state_at}

-- ---- Power on ----

-- the code, and what stands in the chip's bytes
pub record Powered : Type 0 where
  pub code : ℕ
  pub chip : List ℕ

-- a fresh chip; "a bad address is code 2" and leaves zeros, which are no saved state
abbrev pub powered_from : Made → Powered
powered_from made = record { code = number_of made.code; chip = cond (is_done made.code) (save_of made.state) (replicate 128 0) }

-- of another length nothing is written
unfoldable pub power_on_of : ℤ → List ℕ → Powered
power_on_of address chip = cond (eqb (length chip) 128) (powered_from (made_of address)) (record { code = 2; chip = chip })

-- what the call promises
pub record PoweredOn (wanted : Powered) (r : ℤ) (chip : List ℕ) : Type 0 where
  pub code : r ≡ pos wanted.code
  pub bytes : chip ≡ wanted.chip

-- ---- One event ----

pub record Evented : Type 0 where
  pub code : ℕ
  pub chip : List ℕ
  pub answer : List ℕ

-- code, reply, alert, therm, and four bytes that are 0
abbrev pub answer_bytes : ℕ → ℕ → Bool → Bool → List ℕ
answer_bytes code reply alert therm = code ∷ reply ∷ flag alert ∷ flag therm ∷ 0 ∷ 0 ∷ 0 ∷ 0 ∷ []

abbrev pub answer_over : List ℕ → List ℕ → List ℕ
answer_over = over 8

-- the step's answer, and the state after it
abbrev pub stepped : Answer → Evented
stepped a =
    record { code = number_of a.code; chip = save_of a.state; answer = answer_bytes (number_of a.code) a.reply a.alert a.therm }

-- bytes that are no saved state: code 6, both lines 1, the chip untouched
abbrev pub unsaved : List ℕ → Evented
unsaved chip = record { code = 6; chip = chip; answer = 6 ∷ 0 ∷ 1 ∷ 1 ∷ 0 ∷ 0 ∷ 0 ∷ 0 ∷ [] }

abbrev pub event_on : List ℕ → Numbers → Evented
event_on chip e = cond (is_saved chip) (stepped (step_of (state_at chip) e)) (unsaved chip)

-- of another length nothing is written
unfoldable pub event_of : List ℕ → Numbers → List ℕ → Evented
event_of chip e answer =
    cond (eqb (length chip) 128 && eqb (length answer) 8) (event_on chip e) (record { code = 2; chip = chip; answer = answer })

pub record EventDone (wanted : Evented) (r : ℤ) (chip answer : List ℕ) : Type 0 where
  pub code : r ≡ pos wanted.code
  pub bytes : chip ≡ wanted.chip
  pub told : answer ≡ wanted.answer
