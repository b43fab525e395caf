-- What is shown of a saved chip, and of the calls on it. The proofs are in proofs/Saved.antt. Assumes nothing.
use Rattle.std.specs.Prelude.{ℕ, ◌≡◌, cond, false, true, List, [], ◌∷◌, ℤ, length, replicate}
use Rattle.std.proofs.Math.IntN.ℤ.{pos}
use Rattle.rules.specs.declared.answer.Code.TheVariants.{Done, BadField}
use Rattle.rules.specs.Codes.{number_of}
use Rattle.rules.specs.declared.answer.Answer.{Answer}
use Rattle.rules.specs.declared.event.Numbers.{Numbers}
use Rattle.rules.specs.declared.state.State.{State}
use Rattle.rules.specs.Alarm.{Demand, Shows, history_of, state_of}
use Rattle.rules.specs.PowerOn.{made_of}
use Rattle.rules.specs.Step.{after, step_of}
use Rattle.saved_rules.specs.Layout.{is_saved, save_of, state_at}
use Rattle.saved_rules.specs.Face.{EventDone, Evented, Powered, PoweredOn, event_of, power_on_of}

-- what was saved is loaded, whatever the state; it is a saved state, of 128 bytes
pub record Restored (s : State) : Type 0 where
  pub loaded : state_at (save_of s) ≡ s
  pub taken : is_saved (save_of s) ≡ true
  pub size : length (save_of s) ≡ 128

abbrev pub SavedIsLoaded : Type 0
SavedIsLoaded = (s : State) → Restored s

-- and bytes that load are saved as those bytes
abbrev pub LoadedIsSaved : Type 0
LoadedIsSaved = (b : List ℕ) → is_saved b ≡ true → save_of (state_at b) ≡ b

-- power on leaves a saved chip that was just powered on; of an address that no chip has, zeros, which are none; of another length what was
pub record PowerOnGives (address : ℤ) (chip : List ℕ) : Type 0 where
  pub fresh : length chip ≡ 128 → (made_of address).code ≡ Done → power_on_of address chip ≡ record { code = 0; chip = save_of (made_of address).state }
  pub bad : length chip ≡ 128 → (made_of address).code ≡ BadField → power_on_of address chip ≡ record { code = 2; chip = replicate 128 0 }
  pub other : (length chip ≡ 128 → ⊥) → power_on_of address chip ≡ record { code = 2; chip = chip }

abbrev pub PowerOnMeans : Type 0
PowerOnMeans = (address : ℤ) (chip : List ℕ) → PowerOnGives address chip

abbrev pub ZerosAreNone : Type 0
ZerosAreNone = is_saved (replicate 128 0) ≡ false

-- an answer's eight bytes
abbrev pub told : Answer → List ℕ
told a = number_of a.code ∷ a.reply ∷ cond a.alert 1 0 ∷ cond a.therm 1 0 ∷ 0 ∷ 0 ∷ 0 ∷ 0 ∷ []

-- an event on a saved chip is the step on its state, a refused one too
abbrev pub EventIsStep : Type 0
EventIsStep =
    (s : State) (e : Numbers) (answer : List ℕ) → length answer ≡ 8
    → event_of (save_of s) e answer ≡ record { code = number_of (step_of s e).code; chip = save_of (step_of s e).state; answer = told (step_of s e) }

-- a refused event leaves the chip's bytes as they were, whatever they are
abbrev pub RefusedKeepsBytes : Type 0
RefusedKeepsBytes =
    (chip : List ℕ) (e : Numbers) (answer : List ℕ) → ((event_of chip e answer).code ≡ 0 → ⊥) → (event_of chip e answer).chip ≡ chip

-- bytes that are no saved state are code 6, and both lines are 1; of another length of either nothing is written, whatever the bytes
pub record Refuses (chip : List ℕ) (e : Numbers) (answer : List ℕ) : Type 0 where
  pub strange : length chip ≡ 128 → length answer ≡ 8 → is_saved chip ≡ false
      → event_of chip e answer ≡ record { code = 6; chip = chip; answer = 6 ∷ 0 ∷ 1 ∷ 1 ∷ 0 ∷ 0 ∷ 0 ∷ 0 ∷ [] }
  pub other_chip : (length chip ≡ 128 → ⊥) → event_of chip e answer ≡ record { code = 2; chip = chip; answer = answer }
  pub other_answer : (length answer ≡ 8 → ⊥) → event_of chip e answer ≡ record { code = 2; chip = chip; answer = answer }

abbrev pub RefusalsMean : Type 0
RefusalsMean = (chip : List ℕ) (e : Numbers) (answer : List ℕ) → Refuses chip e answer

-- events one after the other on the same bytes: the chip's bytes are those of the state after them
unfoldable pub bytes_after : List ℕ → List Numbers → List ℕ → List ℕ
bytes_after chip [] answer = chip
bytes_after chip (e ∷ es) answer = bytes_after (event_of chip e answer).chip es answer

abbrev pub EventsAreSteps : Type 0
EventsAreSteps =
    (s : State) (es : List Numbers) (answer : List ℕ) → length answer ≡ 8 → bytes_after (save_of s) es answer ≡ save_of (after s es)

-- a chip that C powered on, after any events: its bytes hold the state after them, of which the demand holds; and the next answer is that
-- state's
pub record InBytes (address : ℤ) (es : List Numbers) (bytes answer : List ℕ) : Type 0 where
  pub held : state_at bytes ≡ state_of address es
  pub demand : Demand (state_at bytes) (history_of address es)
  pub shows : Shows (state_at bytes) (history_of address es)
  pub next : (e : Numbers) → (event_of bytes e answer).answer ≡ told (step_of (state_of address es) e)

abbrev pub BytesNoAlarmLost : Type 0
BytesNoAlarmLost =
    (address : ℤ) → (made_of address).code ≡ Done → (chip answer : List ℕ) → length chip ≡ 128 → length answer ≡ 8 → (es : List Numbers)
    → InBytes address es (bytes_after (power_on_of address chip).chip es answer) answer

-- the promises of the two calls ask for what the definitions give, and no second answer meets them
pub record Promised (powered : Powered) (done : Evented) : Type 0 where
  pub power : PoweredOn powered (pos powered.code) powered.chip
  pub event : EventDone done (pos done.code) done.chip done.answer

abbrev pub PromisesMet : Type 0
PromisesMet = (powered : Powered) (done : Evented) → Promised powered done

abbrev pub OnePower : Type 0
OnePower = (wanted : Powered) (r : ℤ) (chip : List ℕ) → PoweredOn wanted r chip → (r ≡ pos wanted.code) × (chip ≡ wanted.chip)

abbrev pub OneEvent : Type 0
OneEvent =
    (wanted : Evented) (r : ℤ) (chip answer : List ℕ) → EventDone wanted r chip answer
    → (r ≡ pos wanted.code) × (chip ≡ wanted.chip) × (answer ≡ wanted.answer)
