-- Tests joined by `and`, and what holds of every element of a list: one law for the tests of code 6, one for the tables of commands.
-- Assumes nothing.
use Prim.Native.Nat.{ℕ}
use native.Mathlib.Omega.{arith}
use mathlib.Core.Path.{◌≡◌, refl}
use mathlib.Core.Bool.{Bool, true, false, cond, ◌&&◌, not}
use mathlib.Core.List.{List, [], ◌∷◌, map}
use lib.Dec.{eqb}
use borrow.Author.Tests.{eqb-false, eqb-true}
use Rattle.rules.specs.Channels.{all}
use Rattle.rules.specs.Table.{look_up}
use Rattle.rules.proofs.Choice.{whichever}

pub no : {A : Type 0} → ◌≡◌ {A = Bool} false true → A
no e = absurd (let z : ◌≡◌ {A = ℕ} 0 1 = cc in omega arith)

-- a conjunction taken apart and put together
pub left : (a b : Bool) → a && b ≡ true → a ≡ true
left true b h = refl
left false b h = h

pub right : (a b : Bool) → a && b ≡ true → b ≡ true
right true b h = h
right false b h = no h

pub both : (a b : Bool) → a ≡ true → b ≡ true → a && b ≡ true
both true b p q = q
both false b p q = p

pub not-true : (b : Bool) → not b ≡ true → b ≡ false
not-true true e = no e
not-true false e = refl

-- what holds of each element
abbrev pub Each : {A : Type 0} → (A → Type 0) → List A → Type 0
Each P [] = Unit {0}
Each P (x ∷ xs) = P x × Each P xs

module _ {A : Type 0} (f : A → Bool) where
  abbrev Holds : A → Type 0
  Holds x = f x ≡ true

  pub each_true : (xs : List A) → all (map f xs) ≡ true → Each Holds xs
  each_true [] h = tt
  each_true (x ∷ xs) h = (left (f x) (all (map f xs)) h, each_true xs (right (f x) (all (map f xs)) h))

  pub all_true : (xs : List A) → ((x : A) → f x ≡ true) → all (map f xs) ≡ true
  all_true [] h = refl
  all_true (x ∷ xs) h = both (f x) (all (map f xs)) (h x) (all_true xs h)

-- true of every row and of the rest, so true of what a command names
pub looked : {A : Type 0} (P : A → Type 0) (n : ℕ) (rows : List (ℕ × A)) (other : A) → Each (λ (row : ℕ × A). P row.1) rows → P other → P (look_up n rows other)
looked P n [] other h o = o
looked P n (row ∷ rows) other h o =
    whichever P (eqb n row.0) row.1 (look_up n rows other) h.0 (looked P n rows other h.1 o)

-- the same, each row with its key, and the rest with that it is none of them
pub looked_at : {A : Type 0} (P : A → Type 0) (n : ℕ) (rows : List (ℕ × A)) (other : A) → Each (λ (row : ℕ × A). n ≡ row.0 → P row.1) rows → (Each (λ (row : ℕ × A). n ≡ row.0 → ⊥) rows → P other) → P (look_up n rows other)
looked_at P n [] other h o = o tt
looked_at P n (row ∷ rows) other h o =
    by (eqb n row.0) refl (λ (none : n ≡ row.0 → ⊥). looked_at P n rows other h.1 (λ rest. o (none, rest)))
  where
    by : (t : Bool) → eqb n row.0 ≡ t → ((n ≡ row.0 → ⊥) → P (look_up n rows other)) → P (cond t row.1 (look_up n rows other))
    by true q later = h.0 (eqb-true n row.0 q)
    by false q later = later (eqb-false n row.0 q)
