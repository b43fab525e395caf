-- Digits and a line's end are read as what the digits are worth. By the digits. Assumes nothing.
use Prim.Native.Nat.{ℕ, zero, suc, ◌+◌, ◌*◌, ◌-◌, ◌≤◌, ◌<◌}
use native.Mathlib.Nat.{add-zero, zero-add}
use native.Mathlib.Omega.{arith}
use mathlib.Core.Path.{◌≡◌, refl, sym, ◌∙◌}
use mathlib.Core.Bool.{Bool, true, false}
use mathlib.Core.List.{List, [], ◌∷◌, ◌++◌}
use lib.Dec.{leb}
use lib.ListN.{length, get_or, drop, length-append}
use lib.Seq.{get_or-drop, drop-drop, get_or-append_seam}
use borrow.Author.Tests.{lt-leb, ne_eqb}
use Rattle.std.specs.Prelude.{Ok}
use Rattle.text_rules.specs.Number.{is_digit, gather_from, digits_of, bad_zero, signed_as, plain_of}

abbrev pub AllDigits : List ℕ → Type 0
AllDigits [] = Unit
AllDigits (d ∷ ds) = (is_digit d ≡ true) × AllDigits ds

-- what digits are worth, behind a number
abbrev pub worth : ℕ → List ℕ → ℕ
worth v [] = v
worth v (d ∷ ds) = worth (v * 10 + (d - 48)) ds

-- the byte at a place is the first from there on
pub here : (s : List ℕ) (n : ℕ) → get_or s n 0 ≡ get_or (drop n s) 0 0
here s n = sym (rw add-zero at (get_or-drop n s 0 0))

-- the digits stand from place n on, and byte 10 behind them
gathered : (ds rest s : List ℕ) (room v n : ℕ) → AllDigits ds → length ds ≤ room → drop n s ≡ ds ++ (10 ∷ rest)
    → gather_from room v n s ≡ record { value = worth v ds; count = n + length ds }
gathered [] rest s zero v n all h e = rw add-zero
gathered [] rest s (suc room) v n all h e =
    let b : get_or s n 0 ≡ 10 = here s n ∙ rw e in
    rw (b, add-zero)
gathered (d ∷ ds) rest s zero v n all h e = absurd (omega arith)
gathered (d ∷ ds) rest s (suc room) v n all h e =
    let b : get_or s n 0 ≡ d = here s n ∙ rw e in
    let f : drop (n + 1) s ≡ ds ++ (10 ∷ rest) = sym (drop-drop 1 n s) ∙ rw e in
    let more : n + 1 + length ds ≡ n + suc (length ds) = omega arith in
    rw (b, all.0, gathered ds rest s room (v * 10 + (d - 48)) (n + 1) all.1 (omega arith) f, more)

-- a number behind its sign: digits, byte 10, and what comes behind
pub plain_reads : (minus : Bool) (ds rest : List ℕ) → AllDigits ds → 1 ≤ length ds → length ds ≤ 5
    → bad_zero minus (ds ++ (10 ∷ rest)) (length ds) ≡ false
    → plain_of minus (ds ++ (10 ∷ rest)) ≡ Ok (signed_as minus (worth 0 ds), length ds + 1)
unfolding plain_of digits_of
plain_reads minus ds rest all some few good =
    let s = ds ++ (10 ∷ rest) in
    let k : length ds < length s = rw length-append (omega arith) in
    let none : length ds ≡ 0 → ⊥ = λ z. omega arith in
    let before : leb (length s) (length ds) ≡ false = lt-leb (length s) (length ds) k in
    rw (gathered ds rest s 5 0 0 all few refl, zero-add (length ds), good, before, ne_eqb (length ds) 0 none, get_or-append_seam ds 10 rest 0)
