-- A part of a record is completed: its last line gets the bytes that it is short of, and the lines that are missing follow. By the lines.
-- Assumes nothing.
use Prim.Native.Nat.{ℕ, ◌+◌}
use native.Mathlib.Omega.{arith}
use mathlib.Core.Path.{◌≡◌, refl, sym, ◌∙◌}
use mathlib.Core.Logic.{⊎_elim}
use mathlib.Core.List.{List, [], ◌++◌, append_assoc}
use lib.IntN.{ℤ}
use lib.ListN.{length, drop}
use lib.Seq.{drop-append-le, drop-append_seam, drop-drop}
use Rattle.text_rules.specs.declared.record.Unread.{Unread}
use Rattle.text_rules.specs.declared.record.Unread.TheVariants.{Part, Malformed}
use Rattle.std.specs.Prelude.{Ok, Err}
use Rattle.text_rules.specs.Number.{Line}
use Rattle.text_rules.specs.Record.{Parsed}
use Rattle.text_rules.specs.Names.{kind_name, a_name, b_name, c_name}
use Rattle.text_rules.specs.Line.{fit_of, line_of}
use Rattle.text_rules.specs.Record.{next, record_of}
use Rattle.text_rules.proofs.Lines.{read_between}
use Rattle.text_rules.proofs.More.{line_firm, refusal_stays, whole_stays}
use Rattle.text_rules.specs.Completed.{Completed, NoRecordIsSeven, PartIsCompleted, RefusalStays, WholeStays}
use Rattle.text_rules.proofs.Filled.{line_filled, filled_stays}

abbrev IsWhole : Parsed → Type 0
IsWhole (Ok (r, n)) = Unit
IsWhole (Err e) = ⊥

-- bytes that make a reader find a whole record behind s
record Made (reads : List ℕ → Parsed) (s : List ℕ) : Type 0 where
  more : List ℕ
  is : IsWhole (reads (s ++ more))

abbrev Fills : (List ℕ → Parsed) → Type 0
Fills reads = (s : List ℕ) → reads s ≡ Err Part → Made reads s

-- a line, and what is read behind it
abbrev pub chain : List ℕ → (ℤ → ℕ → List ℕ → Parsed) → List ℕ → Parsed
chain name later s = next (line_of name s) (λ v n. later v n (drop n s))

chain_fills : (name : List ℕ) (later : ℤ → ℕ → List ℕ → Parsed) → ((v : ℤ) (n : ℕ) → Fills (later v n))
    → ((v : ℤ) (n : ℕ) → Made (later v n) []) → Fills (chain name later)
chain_fills name later fills start s e = by (line_of name s) refl e
  where
    by : (l : Line) → line_of name s ≡ l → next l (λ v n. later v n (drop n s)) ≡ Err Part → Made (chain name later) s
    by (Ok (v, n)) f e =
        let m = fills v n (drop n s) e in
        let b = read_between name s f in
        let stays : line_of name (s ++ m.more) ≡ Ok (v, n) =
        ⊎_elim (λ p. absurd (let y : ◌≡◌ {A = ℕ} 0 1 = cc in omega arith)) (λ q. q ∙ f) (line_firm name s m.more) in
        record { more = m.more; is = rw (stays, drop-append-le n s m.more b.1) m.is }
    by (Err Part) f e =
        let g = line_filled name s f in
        let m = start g.value (length (s ++ g.more)) in
        record {
          more = g.more ++ m.more;
          is = rw (← append_assoc s g.more m.more, filled_stays name s g m.more, drop-append_seam (s ++ g.more) m.more) m.is;
        }
    by (Err Malformed) f e = absurd (let y : ◌≡◌ {A = ℕ} 0 1 = cc in omega arith)

-- the four lines, each from where the one before it ended
abbrev pub fourth : ℤ → ℤ → ℤ → ℕ → List ℕ → Parsed
fourth kind a b n = chain c_name (λ c j rest. Ok (record { kind = kind; a = a; b = b; c = c }, n + j))

abbrev pub third : ℤ → ℤ → ℕ → List ℕ → Parsed
third kind a n = chain b_name (λ b k. fourth kind a b (n + k))

abbrev pub second : ℤ → ℕ → List ℕ → Parsed
second kind n = chain a_name (λ a m. third kind a (n + m))

abbrev pub first : List ℕ → Parsed
first = chain kind_name (λ kind n. second kind n)

pub record_first : (s : List ℕ) → record_of s ≡ first s
unfolding record_of
record_first s = simp drop-drop

fourth_fills : (kind a b : ℤ) (n : ℕ) → Fills (fourth kind a b n)
fourth_fills kind a b n =
    chain_fills c_name (λ c j rest. Ok (record { kind = kind; a = a; b = b; c = c }, n + j))
    (λ c j s e. absurd (let y : ◌≡◌ {A = ℕ} 0 1 = cc in omega arith)) (λ c j. record { more = []; is = tt })

third_fills : (kind a : ℤ) (n : ℕ) → Fills (third kind a n)
unfolding line_of fit_of
third_fills kind a n =
    chain_fills b_name (λ b k. fourth kind a b (n + k)) (λ b k. fourth_fills kind a b (n + k)) (λ b k. fourth_fills kind a b (n + k) [] refl)

second_fills : (kind : ℤ) (n : ℕ) → Fills (second kind n)
unfolding line_of fit_of
second_fills kind n =
    chain_fills a_name (λ a m. third kind a (n + m)) (λ a m. third_fills kind a (n + m)) (λ a m. third_fills kind a (n + m) [] refl)

first_fills : Fills first
unfolding line_of fit_of
first_fills = chain_fills kind_name (λ kind n. second kind n) second_fills (λ kind n. second_fills kind n [] refl)

pub part_is_completed : PartIsCompleted
part_is_completed s e =
    let m = first_fills s (sym (record_first s) ∙ e) in
    by m.more (first (s ++ m.more)) (record_first (s ++ m.more)) m.is
  where
    by : (t : List ℕ) (p : Parsed) → record_of (s ++ t) ≡ p → IsWhole p → Completed s
    by t (Ok (r, n)) f w = record { more = t; numbers = r; size = n; is = f }
    by t (Err e) f w = absurd w

pub whole_stays_whole : WholeStays
whole_stays_whole s more r n e = whole_stays s more e

pub refusal_stays_one : RefusalStays
refusal_stays_one s more e = refusal_stays s more e

pub no_record_is_seven : NoRecordIsSeven
no_record_is_seven Part = refl
no_record_is_seven Malformed = refl
