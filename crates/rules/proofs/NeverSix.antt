-- From power-on no event is answered with code 6: the state stays well formed, and no other answer has that code. Assumes nothing.
use Prim.Native.Nat.{◌<◌}
use native.Mathlib.Omega.{arith}
use mathlib.Core.Path.{◌≡◌, refl, ap}
use mathlib.Core.Bool.{Bool, true, false, cond}
use mathlib.Core.List.{List, [], ◌∷◌}
use lib.IntN.ℤ.{pos, negsuc}
use Rattle.rules.specs.declared.answer.Answer.{Answer}
use Rattle.rules.specs.declared.answer.Code.TheVariants.{Done, BadField, IllFormed}
use Rattle.rules.specs.declared.event.Numbers.{Numbers}
use Rattle.rules.specs.Codes.{number_of}
use Rattle.rules.specs.PowerOn.{is_address, made_at, made_of, no_state}
use Rattle.rules.specs.Sound.{NeverSix, RefusedAfterCode2}
use Rattle.rules.specs.Step.{after, answer_of, last_from, step_of}
use Rattle.rules.specs.WellFormed.{well_formed}
use Rattle.rules.proofs.Answers.{well_has}
use Rattle.rules.proofs.WellFormed.{fresh_well_formed, steps_well_formed}

pub after_well : (es : List Numbers) (x : Answer) → well_formed x.state ≡ true → well_formed (last_from x es).state ≡ true
unfolding last_from
after_well [] x h = h
after_well (e ∷ es) x h = after_well es (step_of x.state e) (steps_well_formed x.state e h)

pub never_six : NeverSix
never_six address h es e six =
    let s = after (made_of address).state es in
    let small : number_of (step_of s e).code < 6 = well_has (λ (x : Answer). number_of x.code < 6) s (λ code small. small) e (after_well es (answer_of Done 0 (made_of address).state) (fresh_well_formed address h)) (λ e is taken. omega arith) in
    omega (arith, ap number_of six)

pub refused_after_code_2 : RefusedAfterCode2
unfolding step_of well_formed
refused_after_code_2 (pos n) h e = by (is_address n) h
  where
    by : (t : Bool) → (cond t (made_at n) no_state).code ≡ BadField → (step_of (cond t (made_at n) no_state).state e).code ≡ IllFormed
    by true h = absurd (omega (arith, ap number_of h))
    by false h = refl
refused_after_code_2 (negsuc n) h e = refl
