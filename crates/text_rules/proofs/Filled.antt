-- A line that is short of bytes gets them: a number, then a line. Assumes nothing.
use Prim.Native.Nat.{ℕ, zero, suc, ◌+◌, ◌*◌, ◌-◌, ◌≤◌}
use native.Mathlib.Numerals.{add-one}
use native.Mathlib.Omega.{arith}
use mathlib.Core.Path.{◌≡◌, refl, sym, ap, ◌∙◌}
use mathlib.Core.Logic.{⊎_elim}
use mathlib.Core.Bool.{Bool, true, false, cond}
use mathlib.Core.List.{List, [], ◌∷◌, ◌++◌, append_assoc}
use lib.Dec.{eqb, leb}
use lib.IntN.{ℤ}
use lib.IntN.ℤ.{pos}
use lib.ListN.{length, get_or, drop, length-append, length-drop, drop_of_length-le}
use lib.Seq.{drop-cons, drop-append-le, drop-append_seam}
use borrow.Author.Tests.{leb-true, leb-false, eqb-true, eq-eqb}
use Rattle.text_rules.specs.declared.record.Unread.TheVariants.{Part, Malformed}
use Rattle.std.specs.Prelude.{Ok, Err}
use Rattle.text_rules.specs.declared.number.Digits.{Digits}
use Rattle.text_rules.specs.Number.{Line}
use Rattle.text_rules.specs.declared.line.Fit.{Fit}
use Rattle.text_rules.specs.declared.line.Fit.TheVariants.{Yes, Begun, No}
use Rattle.text_rules.specs.Number.{is_digit, gather_from, digits_of, bad_zero, signed_as, plain_of, longer, number_of}
use Rattle.text_rules.specs.Line.{fit_of, behind_name, line_of}
use Rattle.text_rules.proofs.Choice.{choice}
use Rattle.text_rules.proofs.Digits.{digits_small}
use Rattle.text_rules.proofs.Lines.{fit_inside}
use Rattle.text_rules.proofs.More.{line_firm}
use Rattle.text_rules.proofs.Begins.{digit_inside}
use Rattle.text_rules.proofs.Plain.{AllDigits, worth, plain_reads}

-- bytes that make a reader read all of what it is given
pub record Filled (reads : List ℕ → Line) (s : List ℕ) : Type 0 where
  pub more : List ℕ
  pub value : ℤ
  pub is : reads (s ++ more) ≡ Ok (value, length (s ++ more))

-- where all is gathered, all are digits
all_digits : (room v n : ℕ) (s : List ℕ) → length s ≤ (gather_from room v n s).count → AllDigits (drop n s)
all_digits zero v n s h = rw (drop_of_length-le s {i = n} h) tt
all_digits (suc room) v n s h =
    choice (λ (d : Digits). length s ≤ d.count → AllDigits (drop n s)) (is_digit (get_or s n 0))
    (λ e h. by e (all_digits room (v * 10 + (get_or s n 0 - 48)) (n + 1) s h) (leb (length s) n) refl) (λ e h. none h) h
  where
    none : length s ≤ n → AllDigits (drop n s)
    none h = rw (drop_of_length-le s {i = n} h) tt

    by : is_digit (get_or s n 0) ≡ true → AllDigits (drop (n + 1) s) → (t : Bool) → leb (length s) n ≡ t → AllDigits (drop n s)
    by e all true f = none (leb-true (length s) n f)
    by e all false f = rw (drop-cons s n 0 (leb-false (length s) n f)) (e, rw add-one at all)

digits_all : (s : List ℕ) → length s ≤ (digits_of s).count → AllDigits s
unfolding digits_of
digits_all s h = all_digits 5 0 0 s h

-- what is known of a number that is short
record Open (minus : Bool) (s : List ℕ) : Type 0 where
  good : bad_zero minus s (digits_of s).count ≡ false
  all : length s ≤ (digits_of s).count

plain_open : (minus : Bool) (s : List ℕ) → plain_of minus s ≡ Err Part → Open minus s
unfolding plain_of
plain_open minus s =
    let c = (digits_of s).count in
    choice P (bad_zero minus s c) (λ a e. absurd (let y : ◌≡◌ {A = ℕ} 0 1 = cc in omega arith))
    (λ a. choice P (leb (length s) c) (λ b e. record { good = a; all = leb-true (length s) c b })
    (λ b. choice P (eqb c 0) (λ d e. absurd (let y : ◌≡◌ {A = ℕ} 0 1 = cc in omega arith))
    (λ d. choice P (eqb (get_or s c 0) 10) (λ f e. absurd (let y : ◌≡◌ {A = ℕ} 0 1 = cc in omega arith))
    (λ f e. absurd (let y : ◌≡◌ {A = ℕ} 0 1 = cc in omega arith)))))
  where
    P : Line → Type 0
    P l = l ≡ Err Part → Open minus s

few : (room v n : ℕ) (s : List ℕ) → n ≤ length s → (gather_from room v n s).count ≤ length s
few zero v n s h = h
few (suc room) v n s h =
    choice (λ (d : Digits). d.count ≤ length s) (is_digit (get_or s n 0))
    (λ e. few room (v * 10 + (get_or s n 0 - 48)) (n + 1) s (omega (arith, digit_inside s n e))) (λ e. h)

digits_few : (s : List ℕ) → (digits_of s).count ≤ length s
unfolding digits_of
digits_few s = few 5 0 0 s (omega arith)

one : (minus : Bool) → plain_of minus (49 ∷ 10 ∷ []) ≡ Ok (signed_as minus 1, 2)
unfolding plain_of digits_of
one minus = refl

-- with no digit yet, 1 does for either sign; else the line's end
plain_filled : (minus : Bool) (s : List ℕ) → plain_of minus s ≡ Err Part → Filled (plain_of minus) s
plain_filled minus [] e = record { more = 49 ∷ 10 ∷ []; value = signed_as minus 1; is = one minus }
plain_filled minus (x ∷ s) e =
    let o = plain_open minus (x ∷ s) e in
    let c : (digits_of (x ∷ s)).count ≡ length (x ∷ s) = omega (arith, digits_few (x ∷ s), o.all) in
    let all = digits_all (x ∷ s) o.all in
    let short : length (x ∷ s) ≤ 5 = omega (arith, (digits_small (x ∷ s)).1) in
    let size : length (x ∷ s) + 1 ≡ length ((x ∷ s) ++ (10 ∷ [])) = sym (length-append (x ∷ s) (10 ∷ [])) in
    let v = signed_as minus (worth 0 (x ∷ s)) in
    record {
      more = 10 ∷ [];
      value = v;
      is = plain_reads minus (x ∷ s) [] all (omega arith) short (rw c at o.good) ∙ ap (λ (k : ℕ). Ok (v, k)) size;
    }

longer_short : (k : ℕ) (l : Line) → longer k l ≡ Err Part → l ≡ Err Part
longer_short k (Ok (v, n)) e = absurd (let y : ◌≡◌ {A = ℕ} 0 1 = cc in omega arith)
longer_short k (Err Part) e = refl
longer_short k (Err Malformed) e = absurd (let y : ◌≡◌ {A = ℕ} 0 1 = cc in omega arith)

nought : number_of (48 ∷ 10 ∷ []) ≡ Ok (pos 0, 2)
unfolding number_of plain_of digits_of
nought = refl

number_filled : (s : List ℕ) → number_of s ≡ Err Part → Filled number_of s
unfolding number_of
number_filled [] e = record { more = 48 ∷ 10 ∷ []; value = pos 0; is = nought }
number_filled (x ∷ s) e = by (eqb x 45) refl e
  where
    by : (t : Bool) → eqb x 45 ≡ t → cond t (longer 1 (plain_of true s)) (plain_of false (x ∷ s)) ≡ Err Part → Filled number_of (x ∷ s)
    by true m e =
        let f = plain_filled true s (longer_short 1 (plain_of true s) e) in
        record { more = f.more; value = f.value; is = rw (m, f.is) (ap (λ (k : ℕ). Ok (f.value, k)) (omega arith)) }
    by false m e =
        let f = plain_filled false (x ∷ s) e in
        record { more = f.more; value = f.value; is = rw m f.is }

fit_stays : (xs s t : List ℕ) → fit_of xs s ≡ Yes → fit_of xs (s ++ t) ≡ Yes
unfolding fit_of
fit_stays [] s t e = refl
fit_stays (x ∷ xs) [] t e = absurd (let y : ◌≡◌ {A = ℕ} 0 1 = cc in omega arith)
fit_stays (x ∷ xs) (y ∷ ys) t e = by (eqb x y) e (fit_stays xs ys t)
  where
    by : (u : Bool) → cond u (fit_of xs ys) No ≡ Yes → (fit_of xs ys ≡ Yes → fit_of xs (ys ++ t) ≡ Yes) → cond u (fit_of xs (ys ++ t)) No ≡ Yes
    by true e ih = ih e
    by false e ih = e

pub fit_front : (xs t : List ℕ) → fit_of xs (xs ++ t) ≡ Yes
unfolding fit_of
fit_front [] t = refl
fit_front (x ∷ xs) t = rw (eq-eqb x x refl) (fit_front xs t)

-- what has begun is a name's beginning
fit_begun : (xs s : List ℕ) → fit_of xs s ≡ Begun → s ++ drop (length s) xs ≡ xs
unfolding fit_of
fit_begun [] s e = absurd (let y : ◌≡◌ {A = ℕ} 0 1 = cc in omega arith)
fit_begun (x ∷ xs) [] e = refl
fit_begun (x ∷ xs) (y ∷ ys) e = by (eqb x y) refl e (fit_begun xs ys)
  where
    by : (u : Bool) → eqb x y ≡ u → cond u (fit_of xs ys) No ≡ Begun → (fit_of xs ys ≡ Begun → ys ++ drop (length ys) xs ≡ xs)
        → y ∷ (ys ++ drop (length ys) xs) ≡ x ∷ xs
    by true f e ih = rw (ih e) (ap (λ (b : ℕ). b ∷ xs) (sym (eqb-true x y f)))
    by false f e ih = absurd (let y : ◌≡◌ {A = ℕ} 0 1 = cc in omega arith)

pub line_filled : (name s : List ℕ) → line_of name s ≡ Err Part → Filled (line_of name) s
unfolding line_of
line_filled name s e = by (fit_of name s) refl e
  where
    k : ℕ
    k = length name

    by : (f : Fit) → fit_of name s ≡ f → behind_name f (longer k (number_of (drop k s))) ≡ Err Part → Filled (line_of name) s
    by Yes f e =
        let i : k ≤ length s = fit_inside name s f in
        let r = number_filled (drop k s) (longer_short k (number_of (drop k s)) e) in
        let size : k + length (drop k s ++ r.more) ≡ length (s ++ r.more) = simp (length-append, length-drop) (omega arith) in
        record {
          more = r.more;
          value = r.value;
          is = rw (fit_stays name s r.more f, drop-append-le k s r.more i, r.is) (ap (λ (k : ℕ). Ok (r.value, k)) size);
        }
    by Begun f e =
        let whole : s ++ (drop (length s) name ++ (48 ∷ 10 ∷ [])) ≡ name ++ (48 ∷ 10 ∷ []) =
        sym (append_assoc s (drop (length s) name) (48 ∷ 10 ∷ [])) ∙ rw (fit_begun name s f) in
        record {
          more = drop (length s) name ++ (48 ∷ 10 ∷ []);
          value = pos 0;
          is = rw (whole, fit_front name (48 ∷ 10 ∷ []), drop-append_seam name (48 ∷ 10 ∷ []), nought, length-append);
        }
    by No f e = absurd (let y : ◌≡◌ {A = ℕ} 0 1 = cc in omega arith)

-- and what comes behind it changes nothing
pub filled_stays : (name s : List ℕ) (f : Filled (line_of name) s) (t : List ℕ)
    → line_of name ((s ++ f.more) ++ t) ≡ Ok (f.value, length (s ++ f.more))
filled_stays name s f t =
    ⊎_elim (λ p. absurd (let q = f.is in let y : ◌≡◌ {A = ℕ} 0 1 = cc in omega arith)) (λ q. q ∙ f.is) (line_firm name (s ++ f.more) t)
