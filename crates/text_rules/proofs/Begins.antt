-- What is read as a number was written so: the digits are gathered as they are written, and there are as many. Assumes nothing.
use Prim.Native.Nat.{ℕ, zero, suc, ◌+◌, ◌*◌, ◌-◌, ◌/◌, ◌%◌, ◌^◌, ◌≤◌, ◌<◌}
use native.Mathlib.Nat.{pow-suc, pow-le-pow_right}
use native.Mathlib.Numerals.{add-one}
use native.Mathlib.Omega.{arith}
use mathlib.Core.Path.{◌≡◌, refl, sym, ap, ◌∙◌}
use mathlib.Core.Logic.{◌⊎◌, inl, inr, ⊎_elim}
use mathlib.Core.Bool.{Bool, true, false, false≢true, ◌&&◌, ◌||◌}
use mathlib.Core.List.{List, ◌∷◌, ◌++◌}
use lib.Dec.{eqb, leb, ltb}
use lib.IntN.{ℤ, neg_ℤ, nat_abs}
use lib.IntN.ℤ.{pos}
use lib.ListN.{length, get_or, take, drop}
use lib.Seq.{take-suc, split_at, drop-cons, drop-drop}
use borrow.Author.Tests.{lt-ltb, le-ltb, ltb-false, leb-false, eqb-true, eqb-false}
use Rattle.text_rules.specs.declared.record.Unread.{Unread}
use Rattle.std.specs.Prelude.{Ok, Err}
use Rattle.text_rules.specs.declared.number.Digits.{Digits}
use Rattle.text_rules.specs.Number.{Line}
use Rattle.text_rules.specs.Number.{is_digit, gather_from, digits_of, bad_zero, signed_as, plain_of, longer, number_of}
use Rattle.text_rules.proofs.Choice.{choice}
use Rattle.text_rules.proofs.Digits.{grown, digits_small}
use Rattle.text_rules.proofs.Lines.{inside}
use Rattle.text_rules.proofs.Written.{digits_length}
use Rattle.text_rules.specs.Written.{Began, ReadWasWritten, digit_count, last_digits, written_natural, written_number}

digit_range : (b : ℕ) → is_digit b ≡ true → (48 ≤ b) × (b ≤ 57)
digit_range b =
    choice P (ltb b 48) (λ f e. absurd (false≢true e))
    (λ f. choice P (ltb 57 b) (λ g e. absurd (false≢true e)) (λ g e. (ltb-false b 48 f, ltb-false 57 b g)))
  where
    P : Bool → Type 0
    P t = t ≡ true → (48 ≤ b) × (b ≤ 57)

-- a digit lies inside: past the end a byte reads as 0
pub digit_inside : (s : List ℕ) (n : ℕ) → is_digit (get_or s n 0) ≡ true → n < length s
digit_inside s n e = by (get_or s n 0) refl (digit_range (get_or s n 0) e).0
  where
    by : (b : ℕ) → get_or s n 0 ≡ b → 48 ≤ b → n < length s
    by zero f g = absurd (omega arith)
    by (suc b) f g = inside s n f

module _ (s : List ℕ) where
  -- what was gathered is as it is written
  abbrev So : Digits → Type 0
  So d = take d.count s ≡ last_digits d.count d.value

  one_more : (v n : ℕ) → is_digit (get_or s n 0) ≡ true → take n s ≡ last_digits n v → take (n + 1) s ≡ last_digits (n + 1) (v * 10 + (get_or s n 0 - 48))
  one_more v n f e =
      let b = get_or s n 0 in
      let r : (48 ≤ get_or s n 0) × (get_or s n 0 ≤ 57) = digit_range b f in
      let q : (v * 10 + (get_or s n 0 - 48)) / 10 ≡ v = omega (arith, r.0, r.1) in
      let d : 48 + (v * 10 + (get_or s n 0 - 48)) % 10 ≡ get_or s n 0 = omega (arith, r.0, r.1) in
      rw (add-one, take-suc s n 0 (digit_inside s n f), q, d, e)

  so_far : (room v n : ℕ) → take n s ≡ last_digits n v → So (gather_from room v n s)
  so_far zero v n e = e
  so_far (suc room) v n e =
      choice So (is_digit (get_or s n 0)) (λ f. so_far room (v * 10 + (get_or s n 0 - 48)) (n + 1) (one_more v n f e)) (λ f. e)

  -- and is under the power of ten of as many digits
  under : (room v n : ℕ) → v < 10 ^ n → (gather_from room v n s).value < 10 ^ (gather_from room v n s).count
  under zero v n h = h
  under (suc room) v n h =
      choice (λ (d : Digits). d.value < 10 ^ d.count) (is_digit (get_or s n 0))
      (λ f. under room (v * 10 + (get_or s n 0 - 48)) (n + 1) (rw add-one (grown v n (get_or s n 0) h f))) (λ f. h)

  -- and not under that of one fewer, behind a first digit that is not 0
  over : (room v n : ℕ) → 10 ^ n ≤ 10 * v → 10 ^ (gather_from room v n s).count ≤ 10 * (gather_from room v n s).value
  over zero v n h = h
  over (suc room) v n h =
      choice (λ (d : Digits). 10 ^ d.count ≤ 10 * d.value) (is_digit (get_or s n 0))
      (λ f. over room (v * 10 + (get_or s n 0 - 48)) (n + 1) (rw (add-one, pow-suc) (omega arith))) (λ f. h)

  digits_so : So (digits_of s)
  unfolding digits_of
  digits_so = so_far 5 0 0 refl

  digits_under : (digits_of s).value < 10 ^ (digits_of s).count
  unfolding digits_of
  digits_under = under 5 0 0 (omega arith)

  digits_over : (get_or s 0 0 ≡ 48 → ⊥) → 1 ≤ (digits_of s).count → 10 ^ (digits_of s).count ≤ 10 * (digits_of s).value
  unfolding digits_of
  digits_over ne =
      choice (λ (d : Digits). 1 ≤ d.count → 10 ^ d.count ≤ 10 * d.value) (is_digit (get_or s 0 0))
      (λ f i. let r : 48 ≤ get_or s 0 0 = (digit_range (get_or s 0 0) f).0 in over 4 (0 * 10 + (get_or s 0 0 - 48)) (0 + 1) (omega (arith, ne)))
      (λ f i. absurd (omega arith))

-- so there are as many as are written
counted : (k v : ℕ) → 1 ≤ k → k ≤ 5 → v < 10 ^ k → (k ≡ 1) ⊎ (10 ^ k ≤ 10 * v) → digit_count v ≡ k
unfolding digit_count
counted zero v h g u o = absurd (omega arith)
counted (suc zero) v h g u o = rw (lt-ltb v 10 u)
counted (suc (suc zero)) v h g u o =
    let l : 10 ≤ v = ⊎_elim (λ e. absurd (omega arith)) (λ m. omega arith) o in
    rw (le-ltb v 10 l, lt-ltb v 100 u)
counted (suc (suc (suc zero))) v h g u o =
    let l : 100 ≤ v = ⊎_elim (λ e. absurd (omega arith)) (λ m. omega arith) o in
    rw (le-ltb v 10 (omega arith), le-ltb v 100 l, lt-ltb v 1000 u)
counted (suc (suc (suc (suc zero)))) v h g u o =
    let l : 1000 ≤ v = ⊎_elim (λ e. absurd (omega arith)) (λ m. omega arith) o in
    rw (le-ltb v 10 (omega arith), le-ltb v 100 (omega arith), le-ltb v 1000 l, lt-ltb v 10000 u)
counted (suc (suc (suc (suc (suc zero))))) v h g u o =
    let l : 10000 ≤ v = ⊎_elim (λ e. absurd (omega arith)) (λ m. omega arith) o in
    rw (le-ltb v 10 (omega arith), le-ltb v 100 (omega arith), le-ltb v 1000 (omega arith), le-ltb v 10000 l)
counted (suc (suc (suc (suc (suc (suc k)))))) v h g u o = absurd (omega arith)

-- the same line has the same number and length
pub parts : {y z : ℤ} {m n : ℕ} → ◌≡◌ {A = Line} (Ok (y, m)) (Ok (z, n)) → (y ≡ z) × (m ≡ n)
parts {y} {z} {m} {n} e = let p : ◌≡◌ {A = ℤ × ℕ} (y, m) (z, n) = cc in (ap (λ (q : ℤ × ℕ). q.0) p, ap (λ (q : ℤ × ℕ). q.1) p)

-- a number that was read behind its sign
record Plain (minus : Bool) (s : List ℕ) (z : ℤ) (n : ℕ) : Type 0 where
  good : bad_zero minus s (digits_of s).count ≡ false
  held : (digits_of s).count < length s
  some : 1 ≤ (digits_of s).count
  ended : get_or s (digits_of s).count 0 ≡ 10
  value : z ≡ signed_as minus (digits_of s).value
  size : n ≡ (digits_of s).count + 1

never : {P : Type 0} {e : Unread} {z : ℤ} {n : ℕ} → ◌≡◌ {A = Line} (Err e) (Ok (z, n)) → P
never e = absurd (let y : ◌≡◌ {A = ℕ} 0 1 = cc in omega arith)

plain_was : (minus : Bool) (s : List ℕ) (z : ℤ) (n : ℕ) → plain_of minus s ≡ Ok (z, n) → Plain minus s z n
unfolding plain_of
plain_was minus s z n =
    let c = (digits_of s).count in
    choice P (bad_zero minus s c) (λ a e. never e)
    (λ a. choice P (leb (length s) c) (λ b e. absurd (let y : ◌≡◌ {A = ℕ} 0 1 = cc in omega arith))
    (λ b. choice P (eqb c 0) (λ d e. never e)
    (λ d. choice P (eqb (get_or s c 0) 10)
    (λ f e. record {
      good = a;
      held = leb-false (length s) c b;
      some = omega (arith, eqb-false c 0 d);
      ended = eqb-true (get_or s c 0) 10 f;
      value = sym (parts e).0;
      size = sym (parts e).1;
    })
    (λ f e. never e))))
  where
    P : Line → Type 0
    P l = l ≡ Ok (z, n) → Plain minus s z n

or-false : (m t : Bool) → m || t ≡ false → (m ≡ false) × (t ≡ false)
or-false true t e = absurd (false≢true (sym e))
or-false false t e = (refl, e)

module _ {minus : Bool} {s : List ℕ} {z : ℤ} {n : ℕ} (p : Plain minus s z n) where
  -- its first digit is 0 only where it is the one digit of 0 itself
  lowest : ((minus ≡ false) × ((digits_of s).count ≡ 1)) ⊎ (10 ^ (digits_of s).count ≤ 10 * (digits_of s).value)
  lowest = by (eqb (get_or s 0 0) 48) refl p.good
    where
      by : (t : Bool) → eqb (get_or s 0 0) 48 ≡ t → t && (minus || ltb 1 (digits_of s).count) ≡ false
          → ((minus ≡ false) × ((digits_of s).count ≡ 1)) ⊎ (10 ^ (digits_of s).count ≤ 10 * (digits_of s).value)
      by true e g =
          let o = or-false minus (ltb 1 (digits_of s).count) g in
          let l : (digits_of s).count ≤ 1 = ltb-false 1 (digits_of s).count o.1 in
          inl (o.0, omega (arith, p.some))
      by false e g = inr (digits_over s (eqb-false (get_or s 0 0) 48 e) p.some)

  as_many : digit_count (digits_of s).value ≡ (digits_of s).count
  as_many =
      counted (digits_of s).count (digits_of s).value p.some (digits_small s).1 (digits_under s)
      (⊎_elim (λ l. inl l.1) (λ l. inr l) lowest)

  not_minus_zero : minus ≡ true → 1 ≤ (digits_of s).value
  not_minus_zero e =
      ⊎_elim (λ l. absurd (false≢true (sym l.0 ∙ e)))
      (λ l. let i : 10 ^ 0 ≤ 10 ^ (digits_of s).count = pow-le-pow_right {n = 10} (omega arith) {i = 0} {j = (digits_of s).count} (omega arith) in
      omega arith)
      lowest

  natural_begins : s ≡ written_natural (digits_of s).value ++ (10 ∷ drop n s)
  unfolding written_natural
  natural_begins =
      let d : drop n s ≡ drop (suc (digits_of s).count) s = rw (p.size, add-one) in
      let w : take (digits_of s).count s ≡ last_digits (digits_of s).count (digits_of s).value = digits_so s in
      split_at s (digits_of s).count 0 p.held ∙ rw (p.ended, w, as_many, d)

  natural_size : n ≡ length (written_natural (digits_of s).value) + 1
  unfolding written_natural
  natural_size = p.size ∙ rw (as_many, digits_length (digits_of s).count (digits_of s).value)

-- what was read behind k bytes
pub without : (k : ℕ) (l : Line) {z : ℤ} {n : ℕ} → longer k l ≡ Ok (z, n) → (m : ℕ) × (l ≡ Ok (z, m)) × (n ≡ k + m)
without k (Ok (v, m)) e = (m, ap (λ (v : ℤ). Ok (v, m)) (parts e).0, sym (parts e).1)
without k (Err x) e = never e

negative : (v : ℕ) → 1 ≤ v → written_number (neg_ℤ (pos v)) ≡ 45 ∷ written_natural v
negative zero h = absurd (omega arith)
negative (suc v) h = refl

size_of : (v : ℕ) → nat_abs (neg_ℤ (pos v)) ≡ v
size_of zero = refl
size_of (suc v) = refl

pub read_was_written : ReadWasWritten
unfolding number_of
read_was_written s z n =
    choice (λ (l : Line). l ≡ Ok (z, n) → Began s z n) (eqb (get_or s 0 0) 45) minus
    (λ t e. let p : Plain false s z n = plain_was false s z n e in
    record {
      small = rw p.value (omega (arith, (digits_small s).0));
      begins = rw p.value (natural_begins p);
      count = rw p.value (natural_size p);
    })
  where
    signed : get_or s 0 0 ≡ 45 → (m : ℕ) → plain_of true (drop 1 s) ≡ Ok (z, m) → n ≡ 1 + m → Began s z n
    signed b m e f =
        let p : Plain true (drop 1 s) z m = plain_was true (drop 1 s) z m e in
        let v = (digits_of (drop 1 s)).value in
        let w : written_number z ≡ 45 ∷ written_natural v = rw p.value (negative v (not_minus_zero p refl)) in
        let d : drop m (drop 1 s) ≡ drop n s = drop-drop m 1 s ∙ ap (λ (k : ℕ). drop k s) (sym f) in
        record {
          small = rw (p.value, size_of) (omega (arith, (digits_small (drop 1 s)).0));
          begins = drop-cons s 0 0 (inside s 0 b) ∙ rw (b, w) (ap (λ (l : List ℕ). 45 ∷ l) (natural_begins p ∙ rw d));
          count = rw w (omega (arith, natural_size p));
        }

    minus : eqb (get_or s 0 0) 45 ≡ true → longer 1 (plain_of true (drop 1 s)) ≡ Ok (z, n) → Began s z n
    minus t e = let r = without 1 (plain_of true (drop 1 s)) e in signed (eqb-true (get_or s 0 0) 45 t) r.0 r.1 r.2
