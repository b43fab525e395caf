-- From what the parts of a C call give to what the call promises. Assumes nothing.
use Prim.Native.Nat.{ℕ}
use mathlib.Core.Path.{◌≡◌, refl, sym, ◌∙◌}
use mathlib.Core.Bool.{Bool, true, false, not, ◌&&◌, ◌||◌}
use mathlib.Core.List.{List}
use lib.Dec.{eqb}
use lib.IntN.{ℤ}
use lib.IntN.ℤ.{pos}
use lib.ListN.{length}
use borrow.Author.Tests.{eq-eqb}
use Rattle.rules.specs.declared.answer.Answer.{Answer}
use Rattle.rules.specs.declared.answer.Made.{Made}
use Rattle.rules.specs.declared.event.Numbers.{Numbers}
use Rattle.rules.specs.declared.state.State.{State}
use Rattle.rules.specs.Codes.{number_of}
use Rattle.rules.specs.PowerOn.{made_of}
use Rattle.rules.specs.Step.{step_of}
use Rattle.rules.proofs.Lists.{no}
use Rattle.saved_rules.specs.Layout.{is_saved, same_bytes, save_of, saved_over, state_at}
use Rattle.saved_rules.specs.Face.{EventDone, PoweredOn, answer_bytes, answer_over, event_of, power_on_of, powered_from}

pub powered : (address : ℤ) (before : List ℕ) {made : Made} {after : List ℕ} {r : ℤ} → length before ≡ 128 → made ≡ made_of address → after ≡ saved_over (powered_from made).chip before → r ≡ pos (number_of made.code) → PoweredOn (power_on_of address before) r after
unfolding power_on_of
powered address before n m e c =
    rw (eq-eqb (length before) 128 n)
    (record { code = c ∙ rw m; bytes = e ∙ rw (eq-eqb (length before) 128 n, m) })

-- both lengths are right, or one is not
fitting : (p q : Bool) → (not p || not q) ≡ false → (p ≡ true) × (q ≡ true)
fitting true true e = (refl, refl)
fitting true false e = no (sym e)
fitting false q e = no (sym e)

unfit : (p q : Bool) → (not p || not q) ≡ true → (p && q) ≡ false
unfit true true e = no e
unfit true false e = refl
unfit false q e = refl

module _ (chip answer : List ℕ) (e : Numbers) where
  pub refused : (not (eqb (length chip) 128) || not (eqb (length answer) 8)) ≡ true → EventDone (event_of chip e answer) (pos 2) chip answer
  unfolding event_of
  refused h = rw (unfit (eqb (length chip) 128) (eqb (length answer) 8) h) (record { code = refl; bytes = refl; told = refl })

  -- bytes that the state they hold is not saved as
  pub strange : {s : State} {held : Bool} {answer' : List ℕ} {r : ℤ} → (not (eqb (length chip) 128) || not (eqb (length answer) 8)) ≡ false → s ≡ state_at chip → held ≡ same_bytes (save_of s) chip → held ≡ false → answer' ≡ answer_over (answer_bytes 6 0 true true) answer → r ≡ pos 6 → EventDone (event_of chip e answer) r chip answer'
  unfolding event_of is_saved
  strange h s held t told c =
      let fits = fitting (eqb (length chip) 128) (eqb (length answer) 8) h in
      let bad : same_bytes (save_of (state_at chip)) chip ≡ false = rw (s) at (sym held ∙ t) in
      rw (fits.0, fits.1, bad) (record { code = c; bytes = refl; told = told ∙ rw fits.1 })

  pub happened : {s : State} {held : Bool} {a : Answer} {chip' answer' : List ℕ} {r : ℤ} → (not (eqb (length chip) 128) || not (eqb (length answer) 8)) ≡ false → s ≡ state_at chip → held ≡ same_bytes (save_of s) chip → held ≡ true → a ≡ step_of s e → chip' ≡ saved_over (save_of a.state) chip → answer' ≡ answer_over (answer_bytes (number_of a.code) a.reply a.alert a.therm) answer → r ≡ pos (number_of a.code) → EventDone (event_of chip e answer) r chip' answer'
  unfolding event_of is_saved
  happened h s held t a saved told c =
      let fits = fitting (eqb (length chip) 128) (eqb (length answer) 8) h in
      let good : same_bytes (save_of (state_at chip)) chip ≡ true = rw (s) at (sym held ∙ t) in
      rw (fits.0, fits.1, good)
      (record { code = c ∙ rw (a, s); bytes = saved ∙ rw (fits.0, a, s); told = told ∙ rw (fits.1, a, s) })
