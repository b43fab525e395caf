-- Document 01, Traces and their replay, "A record is four lines, in this order, each ended by byte 10: kind, a, b, c, each a name, an equals
-- sign and a number": how a record is written, byte by byte and without the reader, and two claims. What is written so is read as that
-- record, whatever comes behind it; and what is read as a record was written so. Proved in proofs/RecordText.antt. Assumes nothing.
use Rattle.std.specs.Prelude.{ℕ, ◌≤◌, ◌≡◌, List, [], ◌∷◌, ◌++◌, ℤ, nat_abs, length, drop, Ok}
use Rattle.text_rules.specs.declared.record.Record.{Record}
use Rattle.text_rules.specs.Record.{record_of}
use Rattle.text_rules.specs.Written.{written_number}

unfoldable pub line_written : List ℕ → ℤ → List ℕ
line_written name z = name ++ (written_number z ++ (10 ∷ []))

unfoldable pub record_text : Record → List ℕ
record_text r =
    line_written (107 ∷ 105 ∷ 110 ∷ 100 ∷ 61 ∷ []) r.kind ++  -- kind=
    (line_written (97 ∷ 61 ∷ []) r.a ++  -- a=
    (line_written (98 ∷ 61 ∷ []) r.b ++  -- b=
    line_written (99 ∷ 61 ∷ []) r.c))  -- c=

-- each number has five digits at most
pub record FiveDigits (r : Record) : Type 0 where
  pub kind : nat_abs r.kind ≤ 99999
  pub a : nat_abs r.a ≤ 99999
  pub b : nat_abs r.b ≤ 99999
  pub c : nat_abs r.c ≤ 99999

abbrev pub WrittenRecordIsRead : Type 0
WrittenRecordIsRead = (r : Record) (rest : List ℕ) → FiveDigits r → record_of (record_text r ++ rest) ≡ Ok (r, length (record_text r))

-- the text begins with the record as it is written, and what was read of it is as long
pub record BeganRecord (s : List ℕ) (r : Record) (n : ℕ) : Type 0 where
  pub few : FiveDigits r
  pub begins : s ≡ record_text r ++ drop n s
  pub count : n ≡ length (record_text r)

abbrev pub ReadRecordWasWritten : Type 0
ReadRecordWasWritten = (s : List ℕ) (r : Record) (n : ℕ) → record_of s ≡ Ok (r, n) → BeganRecord s r n
