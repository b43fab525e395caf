-- "A record is four lines, in this order"; "its reader sees only the rest from there". Assumes nothing.
use Rattle.std.specs.Prelude.{ℕ, ◌+◌, List, ℤ, drop, Result, Ok, Err}
use Rattle.text_rules.specs.declared.record.Record.{Record}
use Rattle.text_rules.specs.declared.record.Unread.{Unread}
use Rattle.text_rules.specs.declared.record.Unread.TheVariants.{Part, Malformed}
use Rattle.text_rules.specs.Number.{Line}
use Rattle.text_rules.specs.Names.{kind_name, a_name, b_name, c_name}
use Rattle.text_rules.specs.Line.{line_of}

-- a record's four numbers and its length; or why it was not read
abbrev pub Parsed : Type 0
Parsed = Result (Record × ℕ) Unread

-- what comes after a line that was read
abbrev pub next : Line → (ℤ → ℕ → Parsed) → Parsed
next (Ok (v, n)) then = then v n
next (Err e) then = Err e

-- the event's four numbers and the record's length; or more bytes could make one of it; or never
unfoldable pub record_of : List ℕ → Parsed
record_of s =
    next (line_of kind_name s) (λ kind n. next (line_of a_name (drop n s)) (λ a m. next (line_of b_name (drop (n + m) s)) (λ b k. next (line_of c_name (drop (n + m + k) s)) (λ c j. Ok (record { kind = kind; a = a; b = b; c = c }, n + m + k + j)))))

-- document 01's number for each case: "Where the rest of a trace yields no record, replay stops there with code 7"
abbrev pub parsed_code : Parsed → ℕ
parsed_code (Ok (r, n)) = 0
parsed_code (Err Part) = 7
parsed_code (Err Malformed) = 7
