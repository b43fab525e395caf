-- What is known of a line that was read: its length lies between bounds and its number is small. By the definitions' tests.
-- Assumes nothing.
use Prim.Native.Nat.{ℕ, suc, ◌+◌, ◌-◌, ◌≤◌, ◌<◌}
use native.Mathlib.Omega.{arith}
use mathlib.Core.Path.{◌≡◌, refl}
use mathlib.Core.Bool.{Bool, true, false, cond}
use mathlib.Core.List.{List, [], ◌∷◌}
use lib.Dec.{eqb, leb}
use lib.ListN.{length, get_or, drop, length-drop, get_or-eq_default}
use lib.IntN.{ℤ}
use lib.Signed.{mag}
use borrow.Author.Tests.{leb-false, leb-true, eqb-true, eqb-false}
use Rattle.std.specs.Prelude.{Ok, Err}
use Rattle.text_rules.specs.Number.{Line}
use Rattle.text_rules.specs.declared.line.Fit.{Fit}
use Rattle.text_rules.specs.declared.line.Fit.TheVariants.{Yes, Begun, No}
use Rattle.text_rules.specs.Number.{digits_of, bad_zero, plain_of, longer, number_of}
use Rattle.text_rules.specs.Line.{fit_of, behind_name, line_of}
use Rattle.text_rules.proofs.Choice.{choice}
use Rattle.text_rules.proofs.Digits.{digits_small}
use Rattle.text_rules.proofs.Signed.{mag_signed}

-- past the end a byte reads as 0
pub inside : (s : List ℕ) (i : ℕ) {b : ℕ} → get_or s i 0 ≡ suc b → i < length s
inside s i {b} e = by (leb (length s) i) refl
  where
    by : (t : Bool) → leb (length s) i ≡ t → i < length s
    by true f = absurd (let z : get_or s i 0 ≡ 0 = get_or-eq_default s 0 (leb-true _ _ f) in omega arith)
    by false f = leb-false _ _ f

abbrev pub Between : ℕ → ℕ → Line → Type 0
Between low high (Ok (v, n)) = (low ≤ n) × (n ≤ high) × (mag v < 100000)
Between low high (Err e) = Unit

pub plain_between : (minus : Bool) (s : List ℕ) → Between 2 (length s) (plain_of minus s)
unfolding plain_of
plain_between minus s =
    let n = (digits_of s).count in
    choice (Between 2 (length s)) (bad_zero minus s n) (λ z. tt)
    (λ z. choice (Between 2 (length s)) (leb (length s) n) (λ e. tt)
    (λ e. choice (Between 2 (length s)) (eqb n 0) (λ f. tt)
    (λ f. choice (Between 2 (length s)) (eqb (get_or s n 0) 10)
    (λ g. (omega (arith, eqb-false n 0 f), omega (arith, leb-false (length s) n e), mag_signed minus (digits_of s).value (digits_small s).0))
    (λ g. tt))))

-- behind k bytes of s
behind : (k low : ℕ) (s : List ℕ) (l : Line) → k ≤ length s → Between low (length (drop k s)) l → Between (k + low) (length s) (longer k l)
behind k low s (Ok (v, n)) i h = let e : length (drop k s) ≡ length s - k = length-drop k s in (omega arith, omega arith, h.2)
behind k low s (Err e) i h = tt

more : (low k high : ℕ) (l : Line) → Between (k + low) high l → Between low high l
more low k high (Ok (v, n)) h = (omega arith, h.1, h.2)
more low k high (Err e) h = tt

pub number_between : (s : List ℕ) → Between 2 (length s) (number_of s)
unfolding number_of
number_between s =
    choice (Between 2 (length s)) (eqb (get_or s 0 0) 45)
    (λ e. more 2 1 (length s) (longer 1 (plain_of true (drop 1 s))) (behind 1 2 s (plain_of true (drop 1 s)) (inside s 0 (eqb-true (get_or s 0 0) 45 e)) (plain_between true (drop 1 s))))
    (λ e. plain_between false s)

pub fit_inside : (xs s : List ℕ) → fit_of xs s ≡ Yes → length xs ≤ length s
unfolding fit_of
fit_inside [] s e = omega arith
fit_inside (x ∷ xs) [] e = absurd (let z : ◌≡◌ {A = ℕ} 0 1 = cc in omega arith)
fit_inside (x ∷ xs) (y ∷ ys) e = by (eqb x y) e (fit_inside xs ys)
  where
    by : (t : Bool) → cond t (fit_of xs ys) No ≡ Yes → (fit_of xs ys ≡ Yes → length xs ≤ length ys) → suc (length xs) ≤ suc (length ys)
    by true e ih = omega (arith, ih e)
    by false e ih = absurd (let z : ◌≡◌ {A = ℕ} 0 1 = cc in omega arith)

pub line_between : (name s : List ℕ) → Between (length name + 2) (length s) (line_of name s)
unfolding line_of
line_between name s = by (fit_of name s) refl
  where
    by : (f : Fit) → fit_of name s ≡ f → Between (length name + 2) (length s) (behind_name f (longer (length name) (number_of (drop (length name) s))))
    by Yes e =
        let k = length name in
        behind k 2 s (number_of (drop k s)) (fit_inside name s e) (number_between (drop k s))
    by Begun e = tt
    by No e = tt

-- a line that was read, and one that was read from a place on
pub read_between : (name s : List ℕ) {v : ℤ} {n : ℕ} → line_of name s ≡ Ok (v, n) → (length name + 2 ≤ n) × (n ≤ length s) × (mag v < 100000)
read_between name s e = rw e at (line_between name s)

pub read_from : (name s : List ℕ) (at : ℕ) {v : ℤ} {n : ℕ} → at ≤ length s → line_of name (drop at s) ≡ Ok (v, n) → (length name + 2 ≤ n) × (at + n ≤ length s) × (mag v < 100000)
read_from name s at {v} {n} i e =
    let b : (length name + 2 ≤ n) × (n ≤ length (drop at s)) × (mag v < 100000) = read_between name (drop at s) e in
    (b.0, omega (arith, length-drop at s), b.2)

-- what was read lies within its part
within : {high : ℕ} {l : Line} {v : ℤ} {n : ℕ} → ◌≡◌ {A = Line} (Ok (v, n)) l → Between 2 high l → n ≤ high
within e b = (rw (← e) at b).1

pub plain_within : (minus : Bool) (s : List ℕ) {v : ℤ} {n : ℕ} → ◌≡◌ {A = Line} (Ok (v, n)) (plain_of minus s) → n ≤ length s
plain_within minus s e = within e (plain_between minus s)

pub number_within : (s : List ℕ) {v : ℤ} {n : ℕ} → ◌≡◌ {A = Line} (Ok (v, n)) (number_of s) → n ≤ length s
number_within s e = within e (number_between s)

pub line_within : (name s : List ℕ) {v : ℤ} {n : ℕ} → ◌≡◌ {A = Line} (Ok (v, n)) (line_of name s) → n ≤ length s
line_within name s e = (rw (← e) at (line_between name s)).1
