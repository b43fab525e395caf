-- Document 01, Traces and their replay, "A record is four lines": what the record reader's definition makes of texts that are given byte by byte.
-- No name, sign, digit or line end of them is taken from the definitions of the text, so that an error made both there and in its code
-- is refused here. Proved in proofs/Tables.antt. Assumes nothing.
use Rattle.std.specs.Prelude.{ℕ, ◌≡◌, List, [], ◌∷◌, ◌++◌, map, ℤ, Ok, Err}
use Rattle.std.proofs.Math.IntN.ℤ.{pos, negsuc}
use Rattle.text_rules.specs.declared.record.Unread.TheVariants.{Part, Malformed}
use Rattle.text_rules.specs.Record.{Parsed, record_of}

pub record Row : Type 0 where
  pub text : List ℕ
  pub wanted : Parsed

abbrev row : List ℕ → Parsed → Row
row text wanted = record { text = text; wanted = wanted }

abbrev whole : ℤ → ℤ → ℤ → ℤ → ℕ → Parsed
whole kind a b c n = Ok (record { kind = kind; a = a; b = b; c = c }, n)

abbrev part : Parsed
part = Err Part

abbrev malformed : Parsed
malformed = Err Malformed

-- the lines of a good record: kind=6, a=0, b=0, c=0
abbrev kind_line : List ℕ
kind_line = 107 ∷ 105 ∷ 110 ∷ 100 ∷ 61 ∷ 54 ∷ 10 ∷ []

abbrev a_line : List ℕ
a_line = 97 ∷ 61 ∷ 48 ∷ 10 ∷ []

abbrev b_line : List ℕ
b_line = 98 ∷ 61 ∷ 48 ∷ 10 ∷ []

abbrev c_line : List ℕ
c_line = 99 ∷ 61 ∷ 48 ∷ 10 ∷ []

-- each text with what is wanted of it; the comment shows the lines that are not good ones
unfoldable pub record_rows : List Row
record_rows =
    -- whole: with negative numbers, one digit each, five digits each and every digit; what stands behind a record changes nothing
    -- kind=7\na=-5\nb=-32768\n
    row ((107 ∷ 105 ∷ 110 ∷ 100 ∷ 61 ∷ 55 ∷ 10 ∷ []) ++ (97 ∷ 61 ∷ 45 ∷ 53 ∷ 10 ∷ []) ++
    (98 ∷ 61 ∷ 45 ∷ 51 ∷ 50 ∷ 55 ∷ 54 ∷ 56 ∷ 10 ∷ []) ++ c_line) (whole (pos 7) (negsuc 4) (negsuc 32767) (pos 0) 25) ∷
    row (kind_line ++ a_line ++ b_line ++ c_line) (whole (pos 6) (pos 0) (pos 0) (pos 0) 19) ∷
    -- kind=99999\na=-99999\nb=10\nc=-10\n
    row ((107 ∷ 105 ∷ 110 ∷ 100 ∷ 61 ∷ 57 ∷ 57 ∷ 57 ∷ 57 ∷ 57 ∷ 10 ∷ []) ++ (97 ∷ 61 ∷ 45 ∷ 57 ∷ 57 ∷ 57 ∷ 57 ∷ 57 ∷ 10 ∷ []) ++
    (98 ∷ 61 ∷ 49 ∷ 48 ∷ 10 ∷ []) ++ (99 ∷ 61 ∷ 45 ∷ 49 ∷ 48 ∷ 10 ∷ [])) (whole (pos 99999) (negsuc 99998) (pos 10) (negsuc 9) 31) ∷
    -- kind=12345\na=-6789\nb=100\nc=-1\n
    row ((107 ∷ 105 ∷ 110 ∷ 100 ∷ 61 ∷ 49 ∷ 50 ∷ 51 ∷ 52 ∷ 53 ∷ 10 ∷ []) ++ (97 ∷ 61 ∷ 45 ∷ 54 ∷ 55 ∷ 56 ∷ 57 ∷ 10 ∷ []) ++
    (98 ∷ 61 ∷ 49 ∷ 48 ∷ 48 ∷ 10 ∷ []) ++ (99 ∷ 61 ∷ 45 ∷ 49 ∷ 10 ∷ [])) (whole (pos 12345) (negsuc 6788) (pos 100) (negsuc 0) 30) ∷
    row (kind_line ++ a_line ++ b_line ++ c_line ++
    (107 ∷ 105 ∷ 110 ∷ 100 ∷ 61 ∷ 45 ∷ 48 ∷ 10 ∷ [])) (whole (pos 6) (pos 0) (pos 0) (pos 0) 19) ∷  -- kind=-0\n
    row (kind_line ++ a_line ++ b_line ++ c_line ++ (13 ∷ [])) (whole (pos 6) (pos 0) (pos 0) (pos 0) 19) ∷  -- \r
    -- "no -0", "no leading zero"
    row ((107 ∷ 105 ∷ 110 ∷ 100 ∷ 61 ∷ 45 ∷ 48 ∷ 10 ∷ []) ++ a_line ++ b_line ++ c_line) malformed ∷  -- kind=-0\n
    row ((107 ∷ 105 ∷ 110 ∷ 100 ∷ 61 ∷ 48 ∷ 49 ∷ 10 ∷ []) ++ a_line ++ b_line ++ c_line) malformed ∷  -- kind=01\n
    row ((107 ∷ 105 ∷ 110 ∷ 100 ∷ 61 ∷ 45 ∷ 48 ∷ 49 ∷ 10 ∷ []) ++ a_line ++ b_line ++ c_line) malformed ∷  -- kind=-01\n
    row ((107 ∷ 105 ∷ 110 ∷ 100 ∷ 61 ∷ 48 ∷ 48 ∷ 10 ∷ []) ++ a_line ++ b_line ++ c_line) malformed ∷  -- kind=00\n
    row ((107 ∷ 105 ∷ 110 ∷ 100 ∷ 61 ∷ 45 ∷ 48 ∷ 48 ∷ 10 ∷ []) ++ a_line ++ b_line ++ c_line) malformed ∷  -- kind=-00\n
    row (kind_line ++ (97 ∷ 61 ∷ 45 ∷ 48 ∷ 10 ∷ []) ++ b_line ++ c_line) malformed ∷  -- a=-0\n
    row (kind_line ++ a_line ++ (98 ∷ 61 ∷ 48 ∷ 48 ∷ 10 ∷ []) ++ c_line) malformed ∷  -- b=00\n
    row (kind_line ++ a_line ++ b_line ++ (99 ∷ 61 ∷ 45 ∷ 48 ∷ 10 ∷ [])) malformed ∷  -- c=-0\n
    -- "1 to 5 digits"
    row ((107 ∷ 105 ∷ 110 ∷ 100 ∷ 61 ∷ 49 ∷ 48 ∷ 48 ∷ 48 ∷ 48 ∷ 48 ∷ 10 ∷ []) ++ a_line ++ b_line ++ c_line) malformed ∷  -- kind=100000\n
    row ((107 ∷ 105 ∷ 110 ∷ 100 ∷ 61 ∷ 45 ∷ 49 ∷ 48 ∷ 48 ∷ 48 ∷ 48 ∷ 48 ∷ 10 ∷ []) ++ a_line ++ b_line ++ c_line) malformed ∷  -- kind=-100000\n
    row ((107 ∷ 105 ∷ 110 ∷ 100 ∷ 61 ∷ 45 ∷ 10 ∷ []) ++ a_line ++ b_line ++ c_line) malformed ∷  -- kind=-\n
    row ((107 ∷ 105 ∷ 110 ∷ 100 ∷ 61 ∷ 10 ∷ []) ++ a_line ++ b_line ++ c_line) malformed ∷  -- kind=\n
    row (kind_line ++ (97 ∷ 61 ∷ 45 ∷ 10 ∷ []) ++ b_line ++ c_line) malformed ∷  -- a=-\n
    row (kind_line ++ a_line ++ (98 ∷ 61 ∷ 10 ∷ []) ++ c_line) malformed ∷  -- b=\n
    row (kind_line ++ a_line ++ b_line ++ (99 ∷ 61 ∷ 48 ∷ 48 ∷ 48 ∷ 48 ∷ 48 ∷ 49 ∷ 10 ∷ [])) malformed ∷  -- c=000001\n
    -- "no plus", "with no spaces", one minus, and no byte beside the ten digits, from both sides
    row ((107 ∷ 105 ∷ 110 ∷ 100 ∷ 61 ∷ 43 ∷ 54 ∷ 10 ∷ []) ++ a_line ++ b_line ++ c_line) malformed ∷  -- kind=+6\n
    row ((107 ∷ 105 ∷ 110 ∷ 100 ∷ 61 ∷ 32 ∷ 54 ∷ 10 ∷ []) ++ a_line ++ b_line ++ c_line) malformed ∷  -- kind=\x206\n
    row ((107 ∷ 105 ∷ 110 ∷ 100 ∷ 61 ∷ 54 ∷ 32 ∷ 10 ∷ []) ++ a_line ++ b_line ++ c_line) malformed ∷  -- kind=6\x20\n
    row ((32 ∷ 107 ∷ 105 ∷ 110 ∷ 100 ∷ 61 ∷ 54 ∷ 10 ∷ []) ++ a_line ++ b_line ++ c_line) malformed ∷  -- \x20kind=6\n
    row ((107 ∷ 105 ∷ 110 ∷ 100 ∷ 32 ∷ 61 ∷ 54 ∷ 10 ∷ []) ++ a_line ++ b_line ++ c_line) malformed ∷  -- kind\x20=6\n
    row ((107 ∷ 105 ∷ 110 ∷ 100 ∷ 61 ∷ 45 ∷ 45 ∷ 54 ∷ 10 ∷ []) ++ a_line ++ b_line ++ c_line) malformed ∷  -- kind=--6\n
    row ((107 ∷ 105 ∷ 110 ∷ 100 ∷ 61 ∷ 54 ∷ 45 ∷ 10 ∷ []) ++ a_line ++ b_line ++ c_line) malformed ∷  -- kind=6-\n
    row ((107 ∷ 105 ∷ 110 ∷ 100 ∷ 61 ∷ 49 ∷ 47 ∷ 10 ∷ []) ++ a_line ++ b_line ++ c_line) malformed ∷  -- kind=1/\n
    row ((107 ∷ 105 ∷ 110 ∷ 100 ∷ 61 ∷ 49 ∷ 58 ∷ 10 ∷ []) ++ a_line ++ b_line ++ c_line) malformed ∷  -- kind=1:\n
    row ((107 ∷ 105 ∷ 110 ∷ 100 ∷ 61 ∷ 47 ∷ 10 ∷ []) ++ a_line ++ b_line ++ c_line) malformed ∷  -- kind=/\n
    row ((107 ∷ 105 ∷ 110 ∷ 100 ∷ 61 ∷ 58 ∷ 10 ∷ []) ++ a_line ++ b_line ++ c_line) malformed ∷  -- kind=:\n
    row ((107 ∷ 105 ∷ 110 ∷ 100 ∷ 61 ∷ 102 ∷ 10 ∷ []) ++ a_line ++ b_line ++ c_line) malformed ∷  -- kind=f\n
    row (kind_line ++ (97 ∷ 61 ∷ 43 ∷ 48 ∷ 10 ∷ []) ++ b_line ++ c_line) malformed ∷  -- a=+0\n
    row (kind_line ++ a_line ++ b_line ++ (99 ∷ 61 ∷ 32 ∷ 48 ∷ 10 ∷ [])) malformed ∷  -- c=\x200\n
    -- "each ended by byte 10"
    row ((107 ∷ 105 ∷ 110 ∷ 100 ∷ 61 ∷ 54 ∷ 13 ∷ 10 ∷ []) ++ a_line ++ b_line ++ c_line) malformed ∷  -- kind=6\r\n
    row ((107 ∷ 105 ∷ 110 ∷ 100 ∷ 61 ∷ 54 ∷ 13 ∷ []) ++ a_line ++ b_line ++ c_line) malformed ∷  -- kind=6\r
    row ((107 ∷ 105 ∷ 110 ∷ 100 ∷ 61 ∷ 54 ∷ 10 ∷ 10 ∷ []) ++ a_line ++ b_line ++ c_line) malformed ∷  -- kind=6\n\n
    row (kind_line ++ a_line ++ b_line ++ (99 ∷ 61 ∷ 48 ∷ 13 ∷ 10 ∷ [])) malformed ∷  -- c=0\r\n
    row (kind_line ++ a_line ++ b_line ++ (99 ∷ 61 ∷ 48 ∷ 32 ∷ [])) malformed ∷  -- c=0\x20
    -- "a name, an equals sign and a number"
    row ((75 ∷ 105 ∷ 110 ∷ 100 ∷ 61 ∷ 54 ∷ 10 ∷ []) ++ a_line ++ b_line ++ c_line) malformed ∷  -- Kind=6\n
    row ((75 ∷ 73 ∷ 78 ∷ 68 ∷ 61 ∷ 54 ∷ 10 ∷ []) ++ a_line ++ b_line ++ c_line) malformed ∷  -- KIND=6\n
    row ((107 ∷ 105 ∷ 109 ∷ 100 ∷ 61 ∷ 54 ∷ 10 ∷ []) ++ a_line ++ b_line ++ c_line) malformed ∷  -- kimd=6\n
    row ((107 ∷ 105 ∷ 110 ∷ 100 ∷ 54 ∷ 10 ∷ []) ++ a_line ++ b_line ++ c_line) malformed ∷  -- kind6\n
    row ((107 ∷ 105 ∷ 110 ∷ 100 ∷ 58 ∷ 54 ∷ 10 ∷ []) ++ a_line ++ b_line ++ c_line) malformed ∷  -- kind:6\n
    row ((107 ∷ 105 ∷ 110 ∷ 100 ∷ 97 ∷ 61 ∷ 54 ∷ 10 ∷ []) ++ a_line ++ b_line ++ c_line) malformed ∷  -- kinda=6\n
    row ((54 ∷ 10 ∷ []) ++ a_line ++ b_line ++ c_line) malformed ∷  -- 6\n
    row ((10 ∷ []) ++ a_line ++ b_line ++ c_line) malformed ∷  -- \n
    row (kind_line ++ (65 ∷ 61 ∷ 48 ∷ 10 ∷ []) ++ b_line ++ c_line) malformed ∷  -- A=0\n
    row (kind_line ++ a_line ++ (66 ∷ 61 ∷ 48 ∷ 10 ∷ []) ++ c_line) malformed ∷  -- B=0\n
    row (kind_line ++ a_line ++ b_line ++ (67 ∷ 61 ∷ 48 ∷ 10 ∷ [])) malformed ∷  -- C=0\n
    row (kind_line ++ a_line ++ b_line ++ (100 ∷ 61 ∷ 48 ∷ 10 ∷ [])) malformed ∷  -- d=0\n
    -- "four lines, in this order": one missing, two in another order, one twice
    row (a_line ++ b_line ++ c_line) malformed ∷
    row (kind_line ++ b_line ++ c_line) malformed ∷
    row (kind_line ++ a_line ++ c_line) malformed ∷
    row (kind_line ++ a_line ++ b_line ++ kind_line) malformed ∷
    row (a_line ++ kind_line ++ b_line ++ c_line) malformed ∷
    row (kind_line ++ b_line ++ a_line ++ c_line) malformed ∷
    row (kind_line ++ a_line ++ c_line ++ b_line) malformed ∷
    row (kind_line ++ kind_line ++ a_line ++ b_line ++ c_line) malformed ∷
    -- a part, which more bytes could complete: nothing, a name cut, no number yet, a sign alone, no byte 10 at the end, a line to come
    row [] part ∷
    row (107 ∷ []) part ∷  -- k
    row (107 ∷ 105 ∷ 110 ∷ 100 ∷ []) part ∷  -- kind
    row (107 ∷ 105 ∷ 110 ∷ 100 ∷ 61 ∷ []) part ∷  -- kind=
    row (107 ∷ 105 ∷ 110 ∷ 100 ∷ 61 ∷ 45 ∷ []) part ∷  -- kind=-
    row (107 ∷ 105 ∷ 110 ∷ 100 ∷ 61 ∷ 48 ∷ []) part ∷  -- kind=0
    row (107 ∷ 105 ∷ 110 ∷ 100 ∷ 61 ∷ 57 ∷ 57 ∷ 57 ∷ 57 ∷ 57 ∷ []) part ∷  -- kind=99999
    row (107 ∷ 105 ∷ 110 ∷ 100 ∷ 61 ∷ 45 ∷ 57 ∷ 57 ∷ 57 ∷ 57 ∷ 57 ∷ []) part ∷  -- kind=-99999
    row kind_line part ∷
    row (kind_line ++ (97 ∷ [])) part ∷  -- a
    row (kind_line ++ (97 ∷ 61 ∷ [])) part ∷  -- a=
    row (kind_line ++ a_line) part ∷
    row (kind_line ++ a_line ++ (98 ∷ 61 ∷ 45 ∷ [])) part ∷  -- b=-
    row (kind_line ++ a_line ++ b_line) part ∷
    row (kind_line ++ a_line ++ b_line ++ (99 ∷ [])) part ∷  -- c
    row (kind_line ++ a_line ++ b_line ++ (99 ∷ 61 ∷ [])) part ∷  -- c=
    row (kind_line ++ a_line ++ b_line ++ (99 ∷ 61 ∷ 48 ∷ [])) part ∷  -- c=0
    -- cut as well, but nothing completes it
    row (120 ∷ []) malformed ∷  -- x
    row (107 ∷ 105 ∷ 110 ∷ 100 ∷ 115 ∷ []) malformed ∷  -- kinds
    row (107 ∷ 105 ∷ 110 ∷ 100 ∷ 61 ∷ 120 ∷ []) malformed ∷  -- kind=x
    row (107 ∷ 105 ∷ 110 ∷ 100 ∷ 61 ∷ 43 ∷ []) malformed ∷  -- kind=+
    row (107 ∷ 105 ∷ 110 ∷ 100 ∷ 61 ∷ 48 ∷ 48 ∷ []) malformed ∷  -- kind=00
    row (107 ∷ 105 ∷ 110 ∷ 100 ∷ 61 ∷ 45 ∷ 48 ∷ []) malformed ∷  -- kind=-0
    row (107 ∷ 105 ∷ 110 ∷ 100 ∷ 61 ∷ 49 ∷ 48 ∷ 48 ∷ 48 ∷ 48 ∷ 48 ∷ []) malformed ∷  -- kind=100000
    row (107 ∷ 105 ∷ 110 ∷ 100 ∷ 61 ∷ 54 ∷ 13 ∷ []) malformed ∷  -- kind=6\r
    row (kind_line ++ (98 ∷ [])) malformed ∷ []  -- b

abbrev pub RecordCases : Type 0
RecordCases = map (λ r. record_of r.text) record_rows ≡ map (λ r. r.wanted) record_rows
