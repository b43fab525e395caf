-- What is written as a number is read as that number, and what is read as a number was written so. By the digits. Assumes nothing.
use Prim.Native.Nat.{ℕ, zero, suc, ◌+◌, ◌*◌, ◌-◌, ◌/◌, ◌%◌, ◌^◌, ◌≤◌, ◌<◌}
use native.Mathlib.Nat.{pow-suc}
use native.Mathlib.Numerals.{add-one}
use native.Mathlib.Omega.{arith}
use mathlib.Core.Path.{◌≡◌, refl, ◌∙◌}
use mathlib.Core.Logic.{◌⊎◌, inl, inr}
use mathlib.Core.Bool.{Bool, true, false, false≢true, ◌&&◌}
use mathlib.Core.List.{List, [], ◌∷◌, ◌++◌}
use lib.Dec.{eqb, ltb}
use lib.IntN.ℤ.{pos, negsuc}
use lib.ListN.{length, get_or, length-append, get_or-append}
use borrow.Author.Tests.{le-ltb, ltb-true, ltb-false, ne_eqb}
use Rattle.std.specs.Prelude.{Ok}
use Rattle.text_rules.specs.Number.{is_digit, bad_zero, signed_as, plain_of, number_of}
use Rattle.text_rules.proofs.Choice.{choice}
use Rattle.text_rules.specs.Written.{WrittenIsRead, digit_count, last_digits, written_natural}
use Rattle.text_rules.proofs.Plain.{AllDigits, worth, plain_reads}

digit_is : (b : ℕ) → 48 ≤ b → b ≤ 57 → is_digit b ≡ true
digit_is b h g = rw (le-ltb b 48 h, le-ltb 57 b g)

digit_least : (b : ℕ) → is_digit b ≡ true → 48 ≤ b
digit_least b = choice (λ (t : Bool). t ≡ true → 48 ≤ b) (ltb b 48) (λ f e. absurd (false≢true e)) (λ f e. ltb-false b 48 f)

all_snoc : (ds : List ℕ) (d : ℕ) → AllDigits ds → is_digit d ≡ true → AllDigits (ds ++ (d ∷ []))
all_snoc [] d all e = (e, tt)
all_snoc (x ∷ ds) d all e = (all.0, all_snoc ds d all.1 e)

worth_snoc : (v : ℕ) (ds : List ℕ) (d : ℕ) → worth v (ds ++ (d ∷ [])) ≡ worth v ds * 10 + (d - 48)
worth_snoc v [] d = refl
worth_snoc v (x ∷ ds) d = worth_snoc (v * 10 + (x - 48)) ds d

digits_all : (k n : ℕ) → AllDigits (last_digits k n)
digits_all zero n = tt
digits_all (suc k) n = all_snoc (last_digits k (n / 10)) (48 + n % 10) (digits_all k (n / 10)) (digit_is (48 + n % 10) (omega arith) (omega arith))

pub digits_length : (k n : ℕ) → length (last_digits k n) ≡ k
digits_length zero n = refl
digits_length (suc k) n = length-append (last_digits k (n / 10)) ((48 + n % 10) ∷ []) ∙ rw (digits_length k (n / 10)) (add-one k)

digits_worth : (k n : ℕ) → n < 10 ^ k → worth 0 (last_digits k n) ≡ n
digits_worth zero n h = omega arith
digits_worth (suc k) n h =
    let g : n < 10 ^ k * 10 = rw pow-suc at h in
    worth_snoc 0 (last_digits k (n / 10)) (48 + n % 10) ∙ rw (digits_worth k (n / 10) (omega arith)) (omega arith)

-- the first digit is not 0
lead : (k n : ℕ) → 10 ^ k ≤ n → n < 10 ^ suc k → 48 < get_or (last_digits (suc k) n) 0 0
lead zero n h g = omega arith
lead (suc k) n h g =
    let h' : 10 ^ k * 10 ≤ n = rw pow-suc at h in
    let g' : n < 10 ^ suc k * 10 = rw (pow-suc 10 (suc k)) at g in
    let some : 0 < length (last_digits (suc k) (n / 10)) = rw (digits_length (suc k) (n / 10)) (omega arith) in
    rw (get_or-append (last_digits (suc k) (n / 10)) ((48 + n % 10) ∷ []) 0 0 some) (lead k (n / 10) (omega arith) (omega arith))

-- a number of j + 1 digits, the first of which is not 0 but in 0 itself
record Sized (n k : ℕ) : Type 0 where
  j : ℕ
  is : k ≡ suc j
  few : j ≤ 4
  under : n < 10 ^ suc j
  over : (j ≡ 0) ⊎ (10 ^ j ≤ n)

sized : (n : ℕ) → n ≤ 99999 → Sized n (digit_count n)
unfolding digit_count
sized n h =
    choice (Sized n) (ltb n 10) (λ e. of 0 (omega arith) (ltb-true n 10 e) (inl refl))
    (λ e. choice (Sized n) (ltb n 100) (λ f. of 1 (omega arith) (ltb-true n 100 f) (inr (ltb-false n 10 e)))
    (λ f. choice (Sized n) (ltb n 1000) (λ g. of 2 (omega arith) (ltb-true n 1000 g) (inr (ltb-false n 100 f)))
    (λ g. choice (Sized n) (ltb n 10000) (λ i. of 3 (omega arith) (ltb-true n 10000 i) (inr (ltb-false n 1000 g)))
    (λ i. of 4 (omega arith) (omega arith) (inr (ltb-false n 10000 i))))))
  where
    of : (j : ℕ) → j ≤ 4 → n < 10 ^ suc j → (j ≡ 0) ⊎ (10 ^ j ≤ n) → Sized n (suc j)
    of j few under over = record { j = j; is = refl; few = few; under = under; over = over }

and-false : (t : Bool) → t && false ≡ false
and-false true = refl
and-false false = refl

module _ (n : ℕ) (rest : List ℕ) (h : n ≤ 99999) where
  first_good : (minus : Bool) → (minus ≡ true → 1 ≤ n) → bad_zero minus (written_natural n ++ (10 ∷ rest)) (length (written_natural n)) ≡ false
  unfolding written_natural
  first_good minus some = rw (z.is, digits_length (suc z.j) n) (by minus some z.over)
    where
      z : Sized n (digit_count n)
      z = sized n h

      not_zero : (minus : Bool) → 10 ^ z.j ≤ n → bad_zero minus (last_digits (suc z.j) n ++ (10 ∷ rest)) (suc z.j) ≡ false
      not_zero minus g =
          let i : 0 < length (last_digits (suc z.j) n) = rw (digits_length (suc z.j) n) (omega arith) in
          let b : 48 < get_or (last_digits (suc z.j) n) 0 0 = lead z.j n g z.under in
          rw (get_or-append (last_digits (suc z.j) n) (10 ∷ rest) 0 0 i, ne_eqb (get_or (last_digits (suc z.j) n) 0 0) 48 (λ e. omega arith))

      by : (minus : Bool) → (minus ≡ true → 1 ≤ n) → (z.j ≡ 0) ⊎ (10 ^ z.j ≤ n)
          → bad_zero minus (last_digits (suc z.j) n ++ (10 ∷ rest)) (suc z.j) ≡ false
      by minus some (inr g) = not_zero minus g
      by true some (inl e) = not_zero true (rw e (some refl))
      by false some (inl e) = rw e (and-false (eqb (48 + n % 10) 48))

  natural_read : (minus : Bool) → (minus ≡ true → 1 ≤ n)
      → plain_of minus (written_natural n ++ (10 ∷ rest)) ≡ Ok (signed_as minus n, length (written_natural n) + 1)
  unfolding written_natural
  natural_read minus some =
      let z : Sized n (digit_count n) = sized n h in
      let l : length (last_digits (digit_count n) n) ≡ suc z.j = digits_length (digit_count n) n ∙ z.is in
      let w : worth 0 (last_digits (digit_count n) n) ≡ n = digits_worth (digit_count n) n (rw z.is z.under) in
      let few : length (last_digits (digit_count n) n) ≤ 5 = omega (arith, z.few) in
      plain_reads minus (last_digits (digit_count n) n) rest (digits_all (digit_count n) n) (omega arith) few (first_good minus some) ∙ rw w

  -- it begins with a digit, which is no sign
  natural_first : 48 ≤ get_or (written_natural n ++ (10 ∷ rest)) 0 0
  unfolding written_natural
  natural_first = by (last_digits (digit_count n) n) (digits_all (digit_count n) n) (rw (digits_length (digit_count n) n, z.is) (omega arith))
    where
      z : Sized n (digit_count n)
      z = sized n h

      by : (ds : List ℕ) → AllDigits ds → 0 < length ds → 48 ≤ get_or (ds ++ (10 ∷ rest)) 0 0
      by [] all i = absurd (omega arith)
      by (d ∷ ds) all i = digit_least d all.0

pub written_is_read : WrittenIsRead
unfolding number_of
written_is_read (pos n) rest h =
    let f : 48 ≤ get_or (written_natural n ++ (10 ∷ rest)) 0 0 = natural_first n rest h in
    rw (ne_eqb (get_or (written_natural n ++ (10 ∷ rest)) 0 0) 45 (λ e. omega arith)) (natural_read n rest h false (λ e. absurd (false≢true e)))
written_is_read (negsuc n) rest h =
    let more : 1 + (length (written_natural (suc n)) + 1) ≡ suc (length (written_natural (suc n))) + 1 = omega arith in
    rw (natural_read (suc n) rest h true (λ e. omega arith), more)
