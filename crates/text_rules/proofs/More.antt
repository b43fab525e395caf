-- More bytes change nothing that was decided: what was read stays read, a refusal stays. From the digits up. Assumes nothing.
use Prim.Native.Nat.{ℕ, zero, suc, ◌+◌, ◌*◌, ◌-◌, ◌≤◌, ◌<◌}
use native.Mathlib.Nat.{le_refl, lt_of_le_of_lt}
use native.Mathlib.Omega.{arith}
use mathlib.Core.Path.{◌≡◌, refl, ap, ◌∙◌}
use mathlib.Core.Logic.{◌⊎◌, inl, inr, ⊎_elim}
use mathlib.Core.Bool.{Bool, true, false, cond, ◌&&◌, ◌||◌}
use mathlib.Core.List.{List, [], ◌∷◌, ◌++◌}
use lib.Dec.{eqb, leb, ltb}
use lib.IntN.{ℤ}
use lib.ListN.{length, get_or, drop, length-append, get_or-append}
use lib.Seq.{drop-append-le}
use borrow.Author.Tests.{leb-false, lt-leb, eqb-true, ltb-true, lt-ltb}
use Rattle.text_rules.specs.declared.record.Unread.TheVariants.{Part, Malformed}
use Rattle.std.specs.Prelude.{Ok, Err}
use Rattle.text_rules.specs.declared.number.Digits.{Digits}
use Rattle.text_rules.specs.Number.{Line}
use Rattle.text_rules.specs.declared.line.Fit.{Fit}
use Rattle.text_rules.specs.declared.line.Fit.TheVariants.{Yes, Begun, No}
use Rattle.text_rules.specs.declared.record.Record.{Record}
use Rattle.text_rules.specs.Record.{Parsed}
use Rattle.text_rules.specs.Number.{is_digit, gather_from, digits_of, bad_zero, plain_of, longer, number_of}
use Rattle.text_rules.specs.Names.{kind_name, a_name, b_name, c_name}
use Rattle.text_rules.specs.Line.{fit_of, behind_name, line_of}
use Rattle.text_rules.specs.Record.{next, record_of}
use Rattle.text_rules.proofs.Choice.{choice}
use Rattle.text_rules.proofs.Lines.{inside, fit_inside, read_between, read_from}

-- undecided, or the same with more bytes
abbrev pub Firm : {A : Type 0} → A → A → A → Type 0
Firm undecided x y = (x ≡ undecided) ⊎ (y ≡ x)

firm_cond : {A : Type 0} {o x y x' y' : A} (u : Bool) → Firm o x y → Firm o x' y' → Firm o (cond u x x') (cond u y y')
firm_cond true p q = p
firm_cond false p q = q

-- no digits are lost
least : (room v n : ℕ) (s : List ℕ) → n ≤ (gather_from room v n s).count
least zero v n s = le_refl n
least (suc room) v n s =
    choice (λ (d : Digits). n ≤ d.count) (is_digit (get_or s n 0)) (λ e. omega (arith, least room (v * 10 + (get_or s n 0 - 48)) (n + 1) s)) (λ e. le_refl n)

-- a digit lies inside
digit_inside : (s : List ℕ) (n : ℕ) → is_digit (get_or s n 0) ≡ true → n < length s
digit_inside s n e = by (get_or s n 0) refl e
  where
    by : (b : ℕ) → get_or s n 0 ≡ b → is_digit b ≡ true → n < length s
    by zero f e = absurd (let z : ◌≡◌ {A = ℕ} 0 1 = cc in omega arith)
    by (suc b) f e = inside s n f

taken : {A : Type 0} (P : A → Type 0) (u : Bool) {x y : A} (z : A) → P (cond u x z) → (P x → y ≡ x) → cond u y z ≡ cond u x z
taken P true z p f = f p
taken P false z p f = refl

module _ (s t : List ℕ) where
  grows : (room v n : ℕ) → (gather_from room v n s).count ≤ (gather_from room v n (s ++ t)).count
  grows zero v n = le_refl n
  grows (suc room) v n =
      choice (λ (d : Digits). d.count ≤ (gather_from (suc room) v n (s ++ t)).count) (is_digit (get_or s n 0))
      (λ e. rw (get_or-append s t 0 n (digit_inside s n e), e) (grows room (v * 10 + (get_or s n 0 - 48)) (n + 1)))
      (λ e. least (suc room) v n (s ++ t))

  same : (room v n : ℕ) → (gather_from room v n s).count < length s → gather_from room v n (s ++ t) ≡ gather_from room v n s
  same zero v n h = refl
  same (suc room) v n h =
      let i : n < length s = lt_of_le_of_lt (least (suc room) v n s) h in
      rw (get_or-append s t 0 n i)
      (taken (λ (d : Digits). d.count < length s) (is_digit (get_or s n 0)) (record { value = v; count = n }) h (same room (v * 10 + (get_or s n 0 - 48)) (n + 1)))

  bad_stays : (minus : Bool) (n m : ℕ) → n ≤ m → bad_zero minus s n ≡ true → bad_zero minus (s ++ t) m ≡ true
  bad_stays minus n m h f = by (eqb (get_or s 0 0) 48) refl f
    where
      later : (minus : Bool) → minus || ltb 1 n ≡ true → minus || ltb 1 m ≡ true
      later true f = refl
      later false f = lt-ltb 1 m (omega (arith, ltb-true 1 n f))

      by : (u : Bool) → eqb (get_or s 0 0) 48 ≡ u → u && (minus || ltb 1 n) ≡ true → bad_zero minus (s ++ t) m ≡ true
      by true e f = rw (get_or-append s t 0 0 (inside s 0 (eqb-true (get_or s 0 0) 48 e)), e) (later minus f)
      by false e f = absurd (let z : ◌≡◌ {A = ℕ} 0 1 = cc in omega arith)

  digits_grow : (digits_of s).count ≤ (digits_of (s ++ t)).count
  unfolding digits_of
  digits_grow = grows 5 0 0

  digits_same : (digits_of s).count < length s → digits_of (s ++ t) ≡ digits_of s
  unfolding digits_of
  digits_same = same 5 0 0

  pub plain_firm : (minus : Bool) → Firm (Err Part) (plain_of minus s) (plain_of minus (s ++ t))
  unfolding plain_of
  plain_firm minus = by (bad_zero minus s n) (leb (length s) n) refl refl
    where
      n : ℕ
      n = (digits_of s).count

      by : (b l : Bool) → bad_zero minus s n ≡ b → leb (length s) n ≡ l → Firm (Err Part) (plain_of minus s) (plain_of minus (s ++ t))
      by true l e f = inr (rw (e, bad_stays minus n (digits_of (s ++ t)).count digits_grow e))
      by false true e f = inl (rw (e, f))
      by false false e f =
          let i : n < length s = leb-false (length s) n f in
          let j : n < length (s ++ t) = rw length-append (omega arith) in
          inr (rw (digits_same i, get_or-append s t 0 0 (omega arith), get_or-append s t 0 n i, e, f, lt-leb (length (s ++ t)) n j))

longer_firm : (k : ℕ) {x y : Line} → Firm (Err Part) x y → Firm (Err Part) (longer k x) (longer k y)
longer_firm k = ⊎_elim (λ e. inl (ap (longer k) e)) (λ e. inr (ap (longer k) e))

pub number_firm : (s t : List ℕ) → Firm (Err Part) (number_of s) (number_of (s ++ t))
unfolding number_of plain_of digits_of
number_firm [] t = inl refl
number_firm (x ∷ s) t = firm_cond (eqb x 45) (longer_firm 1 (plain_firm s t true)) (plain_firm (x ∷ s) t false)

fit_firm : (xs s t : List ℕ) → Firm Begun (fit_of xs s) (fit_of xs (s ++ t))
unfolding fit_of
fit_firm [] s t = inr refl
fit_firm (x ∷ xs) [] t = inl refl
fit_firm (x ∷ xs) (y ∷ ys) t = firm_cond (eqb x y) (fit_firm xs ys t) (inr refl)

pub line_firm : (name s t : List ℕ) → Firm (Err Part) (line_of name s) (line_of name (s ++ t))
unfolding line_of
line_firm name s t = by (fit_of name s) refl (fit_firm name s t)
  where
    by : (f : Fit) → fit_of name s ≡ f → Firm Begun (fit_of name s) (fit_of name (s ++ t)) → Firm (Err Part) (behind_name f (longer (length name) (number_of (drop (length name) s)))) (behind_name (fit_of name (s ++ t)) (longer (length name) (number_of (drop (length name) (s ++ t)))))
    by Yes e =
        ⊎_elim (λ b. absurd (let z : ◌≡◌ {A = ℕ} 0 1 = cc in omega arith))
        (λ q. rw (q, e, drop-append-le (length name) s t (fit_inside name s e)) (longer_firm (length name) (number_firm (drop (length name) s) t)))
    by Begun e = λ h. inl refl
    by No e = ⊎_elim (λ b. absurd (let z : ◌≡◌ {A = ℕ} 0 1 = cc in omega arith)) (λ q. inr (rw (q, e)))

-- from a place on
line_from : (name s t : List ℕ) (at : ℕ) → at ≤ length s → Firm (Err Part) (line_of name (drop at s)) (line_of name (drop at (s ++ t)))
line_from name s t at i = rw (drop-append-le at s t i) (line_firm name (drop at s) t)

next_firm : (l l' : Line) {f g : ℤ → ℕ → Parsed} → Firm (Err Part) l l' → ((v : ℤ) (n : ℕ) → l ≡ Ok (v, n) → Firm (Err Part) (f v n) (g v n)) → Firm (Err Part) (next l f) (next l' g)
next_firm l l' {f} {g} p h = ⊎_elim (λ e. inl (rw e)) (λ e. rw e (by l h)) p
  where
    by : (l : Line) → ((v : ℤ) (n : ℕ) → l ≡ Ok (v, n) → Firm (Err Part) (f v n) (g v n)) → Firm (Err Part) (next l f) (next l g)
    by (Ok (v, n)) h = h v n refl
    by (Err Part) h = inl refl
    by (Err Malformed) h = inr refl

pub record_firm : (s t : List ℕ) → Firm (Err Part) (record_of s) (record_of (s ++ t))
unfolding record_of
record_firm s t =
    next_firm (line_of kind_name s) (line_of kind_name (s ++ t)) (line_firm kind_name s t)
    (λ kind n e. let x = read_between kind_name s e in
    next_firm (line_of a_name (drop n s)) (line_of a_name (drop n (s ++ t))) (line_from a_name s t n x.1)
    (λ a m f. let y = read_from a_name s n x.1 f in
    next_firm (line_of b_name (drop (n + m) s)) (line_of b_name (drop (n + m) (s ++ t))) (line_from b_name s t (n + m) y.1)
    (λ b k g. let z = read_from b_name s (n + m) y.1 g in
    next_firm (line_of c_name (drop (n + m + k) s)) (line_of c_name (drop (n + m + k) (s ++ t))) (line_from c_name s t (n + m + k) z.1) (λ c j h. inr refl))))

pub whole_stays : (s t : List ℕ) {r : Record} {n : ℕ} → record_of s ≡ Ok (r, n) → record_of (s ++ t) ≡ Ok (r, n)
whole_stays s t e = ⊎_elim (λ p. absurd (let z : ◌≡◌ {A = ℕ} 0 1 = cc in omega arith)) (λ q. q ∙ e) (record_firm s t)

pub refusal_stays : (s t : List ℕ) → record_of s ≡ Err Malformed → record_of (s ++ t) ≡ Err Malformed
refusal_stays s t e = ⊎_elim (λ p. absurd (let z : ◌≡◌ {A = ℕ} 0 1 = cc in omega arith)) (λ q. q ∙ e) (record_firm s t)
