-- How long a record is and how long an answer, and what a record's reader needs of it: its own bytes, and no more. Document 02, "a partial
-- record of bounded length", "at least 33 output bytes for each full 19 bytes of trace". Proved in proofs/Bounded.antt. Assumes nothing.
use Rattle.std.specs.Prelude.{ℕ, ◌≤◌, ◌<◌, ◌≡◌, Bool, true, List, [], ◌∷◌, ◌++◌, length, take, Ok, Err}
use Rattle.text_rules.specs.declared.record.Unread.TheVariants.{Part}
use Rattle.std.proofs.Math.IntN.ℤ.{negsuc, pos}
use Rattle.text_rules.specs.declared.record.Record.{Record}
use Rattle.text_rules.specs.Answer.{answer_text}
use Rattle.text_rules.specs.Record.{record_of}
use Rattle.text_rules.specs.Sizes.{longest_answer, longest_record, shortest_answer, shortest_record}

-- a record has 19 bytes at least and 39 at most, and is the same record where nothing comes behind it
pub record Bounded (s : List ℕ) (r : Record) (n : ℕ) : Type 0 where
  pub least : shortest_record ≤ n
  pub most : n ≤ longest_record
  pub own : record_of (take n s) ≡ Ok (r, n)

abbrev pub RecordIsBounded : Type 0
RecordIsBounded = (s : List ℕ) (r : Record) (n : ℕ) → record_of s ≡ Ok (r, n) → Bounded s r n

-- a part of a record has 38 at most, and ends inside every record that it becomes
abbrev pub PartIsBounded : Type 0
PartIsBounded = (s : List ℕ) → record_of s ≡ Err Part → length s ≤ 38

abbrev pub PartEndsInside : Type 0
PartEndsInside =
    (s more : List ℕ) (r : Record) (n : ℕ) → record_of s ≡ Err Part → record_of (s ++ more) ≡ Ok (r, n) → length s < n

-- so as many bytes decide
abbrev pub WindowDecides : Type 0
WindowDecides = (s : List ℕ) → record_of (take longest_record s) ≡ record_of s

-- an answer, with a code of one digit as every step's is, has 31 bytes at least and 33 at most
pub record Between (text : List ℕ) : Type 0 where
  pub least : shortest_answer ≤ length text
  pub most : length text ≤ longest_answer

abbrev pub AnswerIsBounded : Type 0
AnswerIsBounded = (code reply : ℕ) (alert therm : Bool) → code < 10 → Between (answer_text code reply alert therm)

-- no other bounds would do: "kind=0", "a=0", "b=0", "c=0", and the same four with -99999, each ended by byte 10
unfoldable pub shortest : List ℕ
shortest =
    107 ∷ 105 ∷ 110 ∷ 100 ∷ 61 ∷ 48 ∷ 10 ∷ 97 ∷ 61 ∷ 48 ∷ 10 ∷ 98 ∷ 61 ∷ 48 ∷ 10 ∷ 99 ∷ 61 ∷ 48 ∷ 10 ∷ []

unfoldable pub longest : List ℕ
longest =
    107 ∷ 105 ∷ 110 ∷ 100 ∷ 61 ∷ 45 ∷ 57 ∷ 57 ∷ 57 ∷ 57 ∷ 57 ∷ 10 ∷ 97 ∷ 61 ∷ 45 ∷ 57 ∷ 57 ∷ 57 ∷ 57 ∷ 57 ∷ 10 ∷ 98 ∷ 61 ∷ 45 ∷ 57 ∷ 57 ∷ 57 ∷ 57 ∷ 57 ∷ 10 ∷ 99 ∷ 61 ∷ 45 ∷ 57 ∷ 57 ∷ 57 ∷ 57 ∷ 57 ∷ 10 ∷ []

pub record Tight : Type 0 where
  pub least : record_of shortest ≡ Ok (record { kind = pos 0; a = pos 0; b = pos 0; c = pos 0 }, shortest_record)
  pub whole : record_of longest ≡ Ok (record { kind = negsuc 99998; a = negsuc 99998; b = negsuc 99998; c = negsuc 99998 }, longest_record)
  pub part : record_of (take 38 longest) ≡ Err Part
  pub short : length (answer_text 0 9 true true) ≡ shortest_answer
  pub long : length (answer_text 0 100 true true) ≡ longest_answer

abbrev pub BoundsAreMet : Type 0
BoundsAreMet = Tight
