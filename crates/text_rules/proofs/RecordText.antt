-- What is written as a record is read as that record, and what is read as a record was written so. By the lines. Assumes nothing.
use Prim.Native.Nat.{ℕ, ◌+◌, ◌≤◌}
use native.Mathlib.Omega.{arith}
use mathlib.Core.Path.{◌≡◌, refl, sym, ap, ◌∙◌, subst}
use mathlib.Core.Bool.{Bool, true, false, cond}
use mathlib.Core.List.{List, [], ◌∷◌, ◌++◌, append_assoc}
use lib.Dec.{eqb}
use lib.IntN.{ℤ, nat_abs}
use lib.ListN.{length, drop, length-append}
use lib.Seq.{drop-append_seam, drop-drop}
use borrow.Author.Tests.{eqb-true}
use Rattle.std.specs.Prelude.{Ok, Err}
use Rattle.text_rules.specs.Number.{Line}
use Rattle.text_rules.specs.declared.line.Fit.{Fit}
use Rattle.text_rules.specs.declared.line.Fit.TheVariants.{Yes, Begun, No}
use Rattle.text_rules.specs.declared.record.Record.{Record}
use Rattle.text_rules.specs.Record.{Parsed}
use Rattle.text_rules.specs.Names.{kind_name, a_name, b_name, c_name}
use Rattle.text_rules.specs.Number.{longer, number_of}
use Rattle.text_rules.specs.Line.{fit_of, behind_name, line_of}
use Rattle.text_rules.specs.Record.{next}
use Rattle.text_rules.specs.Written.{written_number}
use Rattle.text_rules.specs.RecordText.{BeganRecord, ReadRecordWasWritten, WrittenRecordIsRead, line_written, record_text}
use Rattle.text_rules.proofs.Begins.{read_was_written, without}
use Rattle.text_rules.proofs.Completed.{chain, second, third, fourth, record_first}
use Rattle.text_rules.proofs.Filled.{fit_front}
use Rattle.text_rules.proofs.Written.{written_is_read}

line_read : (name : List ℕ) (z : ℤ) (rest : List ℕ) → nat_abs z ≤ 99999
    → line_of name (line_written name z ++ rest) ≡ Ok (z, length (line_written name z))
unfolding line_of line_written
line_read name z rest h =
    let t = written_number z ++ (10 ∷ rest) in
    let whole : (name ++ (written_number z ++ (10 ∷ []))) ++ rest ≡ name ++ (written_number z ++ (10 ∷ rest)) = simp append_assoc in
    let size : length name + (length (written_number z) + 1) ≡ length (name ++ (written_number z ++ (10 ∷ []))) = simp length-append in
    rw (whole, fit_front name t, drop-append_seam name t, written_is_read z rest h) (ap (λ (k : ℕ). Ok (z, k)) size)

-- a line read, and what follows is read from its end on
chain_read : (name : List ℕ) (later : ℤ → ℕ → List ℕ → Parsed) (z : ℤ) (rest : List ℕ) → nat_abs z ≤ 99999
    → chain name later (line_written name z ++ rest) ≡ later z (length (line_written name z)) rest
chain_read name later z rest h = rw (line_read name z rest h, drop-append_seam (line_written name z) rest)

pub written_record_is_read : WrittenRecordIsRead
unfolding record_text
written_record_is_read r rest few =
    let K = line_written kind_name r.kind in
    let A = line_written a_name r.a in
    let B = line_written b_name r.b in
    let C = line_written c_name r.c in
    let whole : (K ++ (A ++ (B ++ C))) ++ rest ≡ K ++ (A ++ (B ++ (C ++ rest))) = simp append_assoc in
    let size : length K + length A + length B + length C ≡ length (K ++ (A ++ (B ++ C))) = simp length-append (omega arith) in
    rw whole
    (record_first (K ++ (A ++ (B ++ (C ++ rest))))
    ∙ chain_read kind_name second r.kind (A ++ (B ++ (C ++ rest))) few.kind
    ∙ chain_read a_name (λ a m. third r.kind a (length K + m)) r.a (B ++ (C ++ rest)) few.a
    ∙ chain_read b_name (λ b k. fourth r.kind r.a b (length K + length A + k)) r.b (C ++ rest) few.b
    ∙ chain_read c_name (λ c j u. Ok (record { kind = r.kind; a = r.a; b = r.b; c = c }, length K + length A + length B + j)) r.c rest
    few.c
    ∙ ap (λ (k : ℕ). Ok (r, k)) size)

fit_yes : (xs s : List ℕ) → fit_of xs s ≡ Yes → s ≡ xs ++ drop (length xs) s
unfolding fit_of
fit_yes [] s e = refl
fit_yes (x ∷ xs) [] e = absurd (let y : ◌≡◌ {A = ℕ} 0 1 = cc in omega arith)
fit_yes (x ∷ xs) (y ∷ ys) e = by (eqb x y) refl e (fit_yes xs ys)
  where
    by : (u : Bool) → eqb x y ≡ u → cond u (fit_of xs ys) No ≡ Yes → (fit_of xs ys ≡ Yes → ys ≡ xs ++ drop (length xs) ys)
        → y ∷ ys ≡ x ∷ (xs ++ drop (length xs) ys)
    by true f e ih = ap (λ (b : ℕ). b ∷ ys) (sym (eqb-true x y f)) ∙ ap (λ (l : List ℕ). x ∷ l) (ih e)
    by false f e ih = absurd (let y : ◌≡◌ {A = ℕ} 0 1 = cc in omega arith)

-- a line that was read begins as it is written
record BeganLine (name s : List ℕ) (z : ℤ) (n : ℕ) : Type 0 where
  small : nat_abs z ≤ 99999
  begins : s ≡ line_written name z ++ drop n s
  count : n ≡ length (line_written name z)

line_was : (name s : List ℕ) (z : ℤ) (n : ℕ) → line_of name s ≡ Ok (z, n) → BeganLine name s z n
unfolding line_of line_written
line_was name s z n e = by (fit_of name s) refl e
  where
    k : ℕ
    k = length name

    named : fit_of name s ≡ Yes → (m : ℕ) → number_of (drop k s) ≡ Ok (z, m) → n ≡ k + m → BeganLine name s z n
    named f m e g =
        let w = read_was_written (drop k s) z m e in
        let d : drop m (drop k s) ≡ drop n s = drop-drop m k s ∙ ap (λ (i : ℕ). drop i s) (sym g) in
        let whole : name ++ (written_number z ++ (10 ∷ drop n s)) ≡ (name ++ (written_number z ++ (10 ∷ []))) ++ drop n s = simp append_assoc in
        record {
          small = w.small;
          begins = fit_yes name s f ∙ ap (λ (l : List ℕ). name ++ l) (w.begins ∙ rw d) ∙ whole;
          count = simp length-append (omega (arith, w.count));
        }

    by : (f : Fit) → fit_of name s ≡ f → behind_name f (longer k (number_of (drop k s))) ≡ Ok (z, n) → BeganLine name s z n
    by Yes f e = let r = without k (number_of (drop k s)) e in named f r.0 r.1 r.2
    by Begun f e = absurd (let y : ◌≡◌ {A = ℕ} 0 1 = cc in omega arith)
    by No f e = absurd (let y : ◌≡◌ {A = ℕ} 0 1 = cc in omega arith)

-- a line of a record that was read, and the rest of it
record Chained (name : List ℕ) (later : ℤ → ℕ → List ℕ → Parsed) (s : List ℕ) (r : Record) (n : ℕ) : Type 0 where
  value : ℤ
  size : ℕ
  line : BeganLine name s value size
  on : later value size (drop size s) ≡ Ok (r, n)

chained : (name : List ℕ) (later : ℤ → ℕ → List ℕ → Parsed) (s : List ℕ) {r : Record} {n : ℕ}
    → chain name later s ≡ Ok (r, n) → Chained name later s r n
chained name later s {r} {n} e = by (line_of name s) refl e
  where
    by : (l : Line) → line_of name s ≡ l → next l (λ v m. later v m (drop m s)) ≡ Ok (r, n) → Chained name later s r n
    by (Ok (v, m)) f e = record { value = v; size = m; line = line_was name s v m f; on = e }
    by (Err x) f e = absurd (let y : ◌≡◌ {A = ℕ} 0 1 = cc in omega arith)

joined : (s : List ℕ) (kind a b c : ℤ) (n m k j : ℕ) → BeganLine kind_name s kind n → BeganLine a_name (drop n s) a m
    → BeganLine b_name (drop m (drop n s)) b k → BeganLine c_name (drop k (drop m (drop n s))) c j
    → BeganRecord s (record { kind = kind; a = a; b = b; c = c }) (n + m + k + j)
unfolding record_text
joined s kind a b c n m k j x y z w =
    let K = line_written kind_name kind in
    let A = line_written a_name a in
    let B = line_written b_name b in
    let C = line_written c_name c in
    let rest : drop j (drop k (drop m (drop n s))) ≡ drop (n + m + k + j) s = simp drop-drop in
    let u = drop (n + m + k + j) s in
    let whole : K ++ (A ++ (B ++ (C ++ u))) ≡ (K ++ (A ++ (B ++ C))) ++ u = simp append_assoc in
    record {
      few = record { kind = x.small; a = y.small; b = z.small; c = w.small };
      begins =
          x.begins
          ∙ ap (λ (l : List ℕ). K ++ l)
          (y.begins ∙ ap (λ (l : List ℕ). A ++ l) (z.begins ∙ ap (λ (l : List ℕ). B ++ l) (w.begins ∙ ap (λ (l : List ℕ). C ++ l) rest)))
          ∙ whole;
      count = simp length-append (omega (arith, x.count, y.count, z.count, w.count));
    }

-- the same, of a record that was read
abbrev Of : List ℕ → Parsed → Type 0
Of s (Ok (r, n)) = BeganRecord s r n
Of s (Err e) = Unit

module _ (s : List ℕ) {r : Record} {n : ℕ} where
  fourth_was : (kind a b : ℤ) (i m k : ℕ) → BeganLine kind_name s kind i → BeganLine a_name (drop i s) a m → BeganLine b_name (drop m (drop i s)) b k
      → fourth kind a b (i + m + k) (drop k (drop m (drop i s))) ≡ Ok (r, n) → BeganRecord s r n
  fourth_was kind a b i m k x y z e =
      let C = chained c_name (λ c j u. Ok (record { kind = kind; a = a; b = b; c = c }, i + m + k + j)) (drop k (drop m (drop i s))) e in
      let w = joined s kind a b C.value i m k C.size x y z C.line in
      subst (Of s) {x = Ok (record { kind = kind; a = a; b = b; c = C.value }, i + m + k + C.size)} C.on w

  third_was : (kind a : ℤ) (i m : ℕ) → BeganLine kind_name s kind i → BeganLine a_name (drop i s) a m
      → third kind a (i + m) (drop m (drop i s)) ≡ Ok (r, n) → BeganRecord s r n
  third_was kind a i m x y e =
      let B = chained b_name (λ b k. fourth kind a b (i + m + k)) (drop m (drop i s)) e in
      fourth_was kind a B.value i m B.size x y B.line B.on

  second_was : (kind : ℤ) (i : ℕ) → BeganLine kind_name s kind i → second kind i (drop i s) ≡ Ok (r, n) → BeganRecord s r n
  second_was kind i x e =
      let A = chained a_name (λ a m. third kind a (i + m)) (drop i s) e in
      third_was kind A.value i A.size x A.line A.on

pub read_record_was_written : ReadRecordWasWritten
read_record_was_written s r n e =
    let K = chained kind_name second s (sym (record_first s) ∙ e) in
    second_was s K.value K.size K.line K.on
