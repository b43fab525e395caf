-- Bytes compared one by one. Assumes nothing.
use Prim.Native.Nat.{ℕ, ◌+◌, ◌<◌}
use native.Mathlib.Numerals.{add-one}
use mathlib.Core.Path.{◌≡◌, refl, ap}
use mathlib.Core.Bool.{Bool, true, false, cond, ◌&&◌}
use mathlib.Core.List.{List, [], ◌∷◌}
use lib.Dec.{eqb}
use lib.ListN.{length, get_or, drop}
use lib.Seq.{drop-cons}
use borrow.Author.Tests.{eq-eqb, eqb-true}
use Rattle.rules.proofs.Lists.{left, no, right}
use Rattle.saved_rules.specs.Layout.{same_bytes}

split : (p q : Bool) → (p && q) ≡ cond p q false
split true q = refl
split false q = refl

-- one byte more of both
pub further : (all : Bool) (xs ys : List ℕ) (i : ℕ) → i < length xs → i < length ys
    → cond all (same_bytes (drop i xs) (drop i ys)) false ≡ cond (all && eqb (get_or xs i 0) (get_or ys i 0)) (same_bytes (drop (i + 1) xs) (drop (i + 1) ys)) false
unfolding same_bytes
further true xs ys i p q = rw (add-one i, drop-cons xs i 0 p, drop-cons ys i 0 q) (split (eqb (get_or xs i 0) (get_or ys i 0)) _)
further false xs ys i p q = refl

-- bytes that are found the same are the same
pub are_same : (xs ys : List ℕ) → same_bytes xs ys ≡ true → xs ≡ ys
unfolding same_bytes
are_same [] [] e = refl
are_same [] (y ∷ ys) e = no e
are_same (x ∷ xs) [] e = no e
are_same (x ∷ xs) (y ∷ ys) e =
    rw (eqb-true x y (left (eqb x y) (same_bytes xs ys) e), are_same xs ys (right (eqb x y) (same_bytes xs ys) e))

pub same_self : (xs : List ℕ) → same_bytes xs xs ≡ true
unfolding same_bytes
same_self [] = refl
same_self (x ∷ xs) = rw (eq-eqb x x refl, same_self xs)

-- bytes of two lengths are not the same
other : (xs ys : List ℕ) (t : Bool) → (length xs ≡ length ys → ⊥) → same_bytes xs ys ≡ t → same_bytes xs ys ≡ false
other xs ys true ne e = absurd (ne (ap length (are_same xs ys e)))
other xs ys false ne e = e

pub other_length : (xs ys : List ℕ) → (length xs ≡ length ys → ⊥) → same_bytes xs ys ≡ false
other_length xs ys ne = other xs ys (same_bytes xs ys) ne refl
