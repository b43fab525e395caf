-- What the digits make of a number, with no sign in front and with a minus; a number of its line; and a line of its record. Assumes nothing.
use Prim.Native.Nat.{ℕ, ◌+◌, ◌-◌, ◌≤◌}
use native.Mathlib.Omega.{arith}
use mathlib.Core.Path.{◌≡◌, refl}
use mathlib.Core.Bool.{Bool, true, false, cond}
use mathlib.Core.List.{List, [], ◌∷◌}
use lib.Dec.{eqb, leb}
use lib.IntN.{ℤ, neg_ℤ}
use lib.IntN.ℤ.{pos}
use lib.ListN.{length, get_or, take, drop}
use borrow.Author.Tests.{eqb-true, eq-eqb, ne_eqb}
use mir.Syntax.{w32}
use mir.Val.{to_z, of_z}
use borrow.Author.Rules.{part_to_end}
use Rattle.std.specs.Prelude.{Ok, Err}
use Rattle.text_rules.specs.declared.record.Unread.TheVariants.{Part, Malformed}
use Rattle.text_rules.specs.declared.line.Fit.{Fit}
use Rattle.text_rules.specs.declared.line.Fit.TheVariants.{Yes, Begun, No}
use Rattle.text_rules.specs.Names.{kind_name}
use Rattle.text_rules.specs.Number.{Line, digits_of, longer, plain_of, number_of}
use Rattle.text_rules.specs.Line.{fit_of, behind_name, line_of}
use Rattle.text_rules.proofs.Begins.{parts}
use Rattle.text_rules.proofs.Lines.{read_from}
use Rattle.text_rules.proofs.Signed.{kept}

-- a digit is no sign
pub unsigned_number : (s : List ℕ) {z : ℤ} {n : ℕ} → plain_of false s ≡ Ok (z, n) → number_of s ≡ Ok (z, n)
unfolding number_of plain_of digits_of
unsigned_number s {z} {n} e = by (eqb (get_or s 0 0) 45) refl
  where
    none : (t : Bool) → ◌≡◌ {A = Line} (cond t (Err Part) (Err Malformed)) (Ok (z, n)) → number_of s ≡ Ok (z, n)
    none true f = absurd (let y : ◌≡◌ {A = ℕ} 0 1 = cc in omega arith)
    none false f = absurd (let y : ◌≡◌ {A = ℕ} 0 1 = cc in omega arith)

    by : (t : Bool) → eqb (get_or s 0 0) 45 ≡ t → number_of s ≡ Ok (z, n)
    by true f = none (leb (length s) 0) (rw (eqb-true (get_or s 0 0) 45 f) at e)
    by false f = rw f e

negated_plain : (s : List ℕ) {v n : ℕ} → (get_or s 0 0 ≡ 48 → ⊥) → plain_of false s ≡ Ok (pos v, n) → plain_of true s ≡ Ok (neg_ℤ (pos v), n)
unfolding plain_of
negated_plain s {v} {n} h e =
    let z = ne_eqb (get_or s 0 0) 48 h in
    rw z (by (leb (length s) (digits_of s).count) (eqb (digits_of s).count 0) (eqb (get_or s (digits_of s).count 0) 10) (rw z at e))
  where
    closed : Bool → Bool → Bool → ℤ → Line
    closed l c t z = cond l (Err Part) (cond c (Err Malformed) (cond t (Ok (z, (digits_of s).count + 1)) (Err Malformed)))

    by : (l c t : Bool) → closed l c t (pos (digits_of s).value) ≡ Ok (pos v, n) → closed l c t (neg_ℤ (pos (digits_of s).value)) ≡ Ok (neg_ℤ (pos v), n)
    by true c t e = absurd (let y : ◌≡◌ {A = ℕ} 0 1 = cc in omega arith)
    by false true t e = absurd (let y : ◌≡◌ {A = ℕ} 0 1 = cc in omega arith)
    by false false false e = absurd (let y : ◌≡◌ {A = ℕ} 0 1 = cc in omega arith)
    by false false true e = let p = parts e in rw (p.0, p.1)

pub signed_number : (s : List ℕ) {v n : ℕ} → get_or s 0 0 ≡ 45 → (get_or s 1 0 ≡ 48 → ⊥) → plain_of false (drop 1 s) ≡ Ok (pos v, n) → number_of s ≡ Ok (neg_ℤ (pos v), 1 + n)
unfolding number_of
signed_number (x ∷ s) sign first e = rw (sign, negated_plain s first e)
signed_number [] sign first e = absurd (omega arith)

-- a name of one letter and its equals sign
pub letter_line : (s : List ℕ) (letter : ℕ) {z : ℤ} {n : ℕ} → 2 ≤ length s → get_or s 0 0 ≡ letter → get_or s 1 0 ≡ 61 → number_of (drop 2 s) ≡ Ok (z, n) → line_of (letter ∷ 61 ∷ []) s ≡ Ok (z, 2 + n)
unfolding line_of fit_of
letter_line [] letter h first second e = absurd (omega arith)
letter_line (x ∷ []) letter h first second e = absurd (omega arith)
letter_line (x ∷ y ∷ s) letter h first second e = rw (first, second, eq-eqb letter letter refl, e)

-- three letters more in front of a name
longer_name : (f : Fit) (l : Line) {v : ℤ} {m : ℕ} → behind_name f (longer 2 l) ≡ Ok (v, m) → behind_name f (longer 5 l) ≡ Ok (v, 3 + m)
longer_name Yes (Ok (x, n)) {v} {m} e =
    let p = parts e in
    let size : 5 + n ≡ 3 + m = omega (arith, p.1) in
    rw (p.0, size)
longer_name Yes (Err x) e = absurd (let z : ◌≡◌ {A = ℕ} 0 1 = cc in omega arith)
longer_name Begun l e = absurd (let z : ◌≡◌ {A = ℕ} 0 1 = cc in omega arith)
longer_name No l e = absurd (let z : ◌≡◌ {A = ℕ} 0 1 = cc in omega arith)

-- "kind" is "kin" and d
pub kind_line : (s : List ℕ) {v : ℤ} {m : ℕ} → 3 ≤ length s → get_or s 0 0 ≡ 107 → get_or s 1 0 ≡ 105 → get_or s 2 0 ≡ 110
    → line_of (100 ∷ 61 ∷ []) (drop 3 s) ≡ Ok (v, m) → line_of kind_name s ≡ Ok (v, 3 + m)
unfolding line_of fit_of
kind_line [] h x y z e = absurd (omega arith)
kind_line (a ∷ []) h x y z e = absurd (omega arith)
kind_line (a ∷ b ∷ []) h x y z e = absurd (omega arith)
kind_line (a ∷ b ∷ c ∷ s) h x y z e = rw (x, y, z) (longer_name (fit_of (100 ∷ 61 ∷ []) s) (number_of (drop 2 s)) e)

-- a line read from a place on, whose number is kept as it is
pub record Here (name s : List ℕ) (at : ℕ) (v : ℤ) (n : ℕ) : Type 0 where
  pub is : line_of name (drop at s) ≡ Ok (v, n)
  pub room : at + n ≤ length s
  pub same : to_z w32 (of_z w32 v) ≡ v

pub here : (name s : List ℕ) (at : ℕ) {v : ℤ} {n : ℕ} → at ≤ length s → line_of name (take (length s - at) (drop at s)) ≡ Ok (v, n) → Here name s at v n
here name s at {v} {n} h e =
    let l : line_of name (drop at s) ≡ Ok (v, n) = rw (part_to_end s at) at e in
    let b = read_from name s at h l in
    record { is = l; room = b.1; same = kept v b.2 }
