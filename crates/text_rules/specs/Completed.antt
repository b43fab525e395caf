-- Document 01, Traces and their replay: what the reader takes for a part of a record is one. More bytes make a record of it, and change
-- nothing else that was read: a record stays that record, and what is none stays none. Where a trace ends there, both have one number. Proved in
-- proofs/Completed.antt. Assumes nothing.
use Rattle.std.specs.Prelude.{ℕ, ◌≡◌, List, ◌++◌, Ok, Err}
use Rattle.text_rules.specs.declared.record.Unread.{Unread}
use Rattle.text_rules.specs.declared.record.Unread.TheVariants.{Part, Malformed}
use Rattle.text_rules.specs.declared.record.Record.{Record}
use Rattle.text_rules.specs.Record.{parsed_code, record_of}

-- bytes, and the record of four numbers and its length that they make behind s
pub record Completed (s : List ℕ) : Type 0 where
  pub more : List ℕ
  pub numbers : Record
  pub size : ℕ
  pub is : record_of (s ++ more) ≡ Ok (numbers, size)

abbrev pub PartIsCompleted : Type 0
PartIsCompleted = (s : List ℕ) → record_of s ≡ Err Part → Completed s

abbrev pub WholeStays : Type 0
WholeStays = (s more : List ℕ) (r : Record) (n : ℕ) → record_of s ≡ Ok (r, n) → record_of (s ++ more) ≡ Ok (r, n)

abbrev pub RefusalStays : Type 0
RefusalStays = (s more : List ℕ) → record_of s ≡ Err Malformed → record_of (s ++ more) ≡ Err Malformed

-- "Where the rest of a trace yields no record, replay stops there with code 7": whether more bytes could make it one or not
abbrev pub NoRecordIsSeven : Type 0
NoRecordIsSeven = (e : Unread) → parsed_code (Err e) ≡ 7
