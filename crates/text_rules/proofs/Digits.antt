-- The digits that are gathered are few, so that what they are worth is small: by the room that is left. Assumes nothing.
use Prim.Native.Nat.{ℕ, zero, suc, ◌+◌, ◌*◌, ◌-◌, ◌^◌, ◌≤◌, ◌<◌}
use native.Mathlib.Nat.{pow-suc, pow-le-pow_right, lt_of_lt_of_le, le_refl, zero-add}
use native.Mathlib.Numerals.{add-one}
use native.Mathlib.Omega.{arith}
use mathlib.Core.Path.{◌≡◌}
use mathlib.Core.Bool.{Bool, true, false≢true}
use mathlib.Core.List.{List}
use lib.Dec.{ltb}
use lib.ListN.{get_or}
use borrow.Author.Tests.{ltb-false}
use Rattle.text_rules.proofs.Choice.{choice}
use Rattle.text_rules.specs.declared.number.Digits.{Digits}
use Rattle.text_rules.specs.Number.{is_digit, gather_from, digits_of}

-- a digit is worth at most 9
worth : (b : ℕ) → is_digit b ≡ true → b - 48 ≤ 9
worth b =
    choice At-most (ltb b 48) (λ f e. absurd (false≢true e))
    (λ f. choice At-most (ltb 57 b) (λ g e. absurd (false≢true e)) (λ g e. omega (arith, ltb-false 57 b g)))
  where
    At-most : Bool → Type 0
    At-most t = t ≡ true → b - 48 ≤ 9

-- one digit more
pub grown : (v n b : ℕ) → v < 10 ^ n → is_digit b ≡ true → v * 10 + (b - 48) < 10 ^ suc n
grown v n b h e = let d : b - 48 ≤ 9 = worth b e in rw pow-suc (omega arith)

abbrev Bounded : ℕ → Digits → Type 0
Bounded n d = (d.value < 10 ^ n) × (d.count ≤ n)

bounded : (room v n : ℕ) (s : List ℕ) → v < 10 ^ n → Bounded (room + n) (gather_from room v n s)
bounded zero v n s h = rw zero-add (h, le_refl n)
bounded (suc room) v n s h =
    let more : suc room + n ≡ room + (n + 1) = omega arith in
    choice (Bounded (suc room + n)) (is_digit (get_or s n 0))
    (λ d. rw more (bounded room (v * 10 + (get_or s n 0 - 48)) (n + 1) s (rw add-one (grown v n (get_or s n 0) h d))))
    (λ d. (lt_of_lt_of_le h (pow-le-pow_right (omega arith) (omega arith)), omega arith))

-- at most five digits
pub digits_small : (s : List ℕ) → ((digits_of s).value < 100000) × ((digits_of s).count ≤ 5)
unfolding digits_of
digits_small s = bounded 5 0 0 s (omega arith)
