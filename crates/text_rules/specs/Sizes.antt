-- Document 02, item 5, "at least 33 output bytes for each full 19 bytes of trace": what these two are, and the other end of each. No other
-- rule has the 19 or the 33. That no record and no answer passes them and that each is met: Bounded.antt. Assumes nothing.
use Rattle.std.specs.Prelude.{ℕ}

-- a record: from one digit in each of its four lines to five behind a minus
abbrev pub shortest_record : ℕ
shortest_record = 19

abbrev pub longest_record : ℕ
longest_record = 39

-- an answer: from a reply of one digit to one of three; its code has one
abbrev pub shortest_answer : ℕ
shortest_answer = 31

abbrev pub longest_answer : ℕ
longest_answer = 33
