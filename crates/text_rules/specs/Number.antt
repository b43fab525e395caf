-- "Numbers are decimal, 1 to 5 digits, with a leading minus where negative; no plus, no leading zero, no -0." What is read of a number
-- and of the byte 10 that ends its line. Past the end a byte reads as 0, which is no digit. Assumes nothing.
use Rattle.std.specs.Prelude.{ℕ, zero, suc, ◌+◌, ◌*◌, ◌-◌, Bool, cond, true, false, ◌&&◌, ◌||◌, List, eqb, leb, ltb, ℤ, neg_ℤ, length, get_or, drop, Result, Ok, Err}
use Rattle.std.proofs.Math.IntN.ℤ.{pos}
use Rattle.text_rules.specs.declared.number.Digits.{Digits}
use Rattle.text_rules.specs.declared.record.Unread.{Unread}
use Rattle.text_rules.specs.declared.record.Unread.TheVariants.{Part, Malformed}

abbrev pub is_digit : ℕ → Bool
is_digit b = cond (ltb b 48) false (cond (ltb 57 b) false true)

-- onto v, the digits of s from place n on, no more than room of them
abbrev pub gather_from : ℕ → ℕ → ℕ → List ℕ → Digits
gather_from zero v n s = record { value = v; count = n }
gather_from (suc room) v n s =
    cond (is_digit (get_or s n 0)) (gather_from room (v * 10 + (get_or s n 0 - 48)) (n + 1) s) (record { value = v; count = n })

-- "1 to 5 digits"
unfoldable pub digits_of : List ℕ → Digits
digits_of s = gather_from 5 0 0 s

-- the first digit is 0 where the number has no right to it: "no leading zero, no -0"
abbrev pub bad_zero : Bool → List ℕ → ℕ → Bool
bad_zero minus s count = eqb (get_or s 0 0) 48 && (minus || ltb 1 count)

abbrev pub signed_as : Bool → ℕ → ℤ
signed_as minus v = cond minus (neg_ℤ (pos v)) (pos v)

-- a number and how many bytes it and its line's end take; or why it was not read
abbrev pub Line : Type 0
Line = Result (ℤ × ℕ) Unread

-- a number behind its sign, and its line's end: read, or more bytes could make it so, or never
abbrev pub ended_of : Bool → List ℕ → ℕ → ℕ → Line
ended_of minus s v n =
    cond (bad_zero minus s n) (Err Malformed)
    (cond (leb (length s) n) (Err Part)
    (cond (eqb n 0) (Err Malformed) (cond (eqb (get_or s n 0) 10) (Ok (signed_as minus v, n + 1)) (Err Malformed))))

unfoldable pub plain_of : Bool → List ℕ → Line
plain_of minus s = ended_of minus s (digits_of s).value (digits_of s).count

-- what was read, with k bytes in front
abbrev pub longer : ℕ → Line → Line
longer k (Ok (v, n)) = Ok (v, k + n)
longer k (Err e) = Err e

-- "with a leading minus where negative"
unfoldable pub number_of : List ℕ → Line
number_of s = cond (eqb (get_or s 0 0) 45) (longer 1 (plain_of true (drop 1 s))) (plain_of false s)
