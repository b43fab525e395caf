-- Document 01, Traces and their replay, "An answer is four lines: code, reply, alert, therm; 1 means the line is high": the definition's text
-- of answers, and of the line that ends a run, byte by byte. No name or digit is taken from the definitions of the text.
-- Proved in proofs/Tables.antt. Assumes nothing.
use Rattle.std.specs.Prelude.{ℕ, ◌≡◌, true, false, List, [], ◌∷◌}
use Rattle.text_rules.specs.Names.{end_name}
use Rattle.text_rules.specs.Answer.{answer_text, line_text}

-- codes and replies of one, two and three digits; the lines at every level
unfoldable pub answers_written : List (List ℕ)
answers_written =
    answer_text 0 0 true true ∷
    answer_text 0 18 false false ∷
    answer_text 3 255 false true ∷
    answer_text 10 0 true false ∷
    answer_text 0 9 false false ∷
    answer_text 0 99 true true ∷
    answer_text 0 100 false true ∷
    answer_text 255 76 true false ∷
    answer_text 11 153 false false ∷ []

unfoldable pub answers_wanted : List (List ℕ)
answers_wanted =
    (99 ∷ 111 ∷ 100 ∷ 101 ∷ 61 ∷ 48 ∷ 10 ∷  -- code=0
    114 ∷ 101 ∷ 112 ∷ 108 ∷ 121 ∷ 61 ∷ 48 ∷ 10 ∷  -- reply=0
    97 ∷ 108 ∷ 101 ∷ 114 ∷ 116 ∷ 61 ∷ 49 ∷ 10 ∷  -- alert=1
    116 ∷ 104 ∷ 101 ∷ 114 ∷ 109 ∷ 61 ∷ 49 ∷ 10 ∷ []) ∷  -- therm=1
    (99 ∷ 111 ∷ 100 ∷ 101 ∷ 61 ∷ 48 ∷ 10 ∷  -- code=0
    114 ∷ 101 ∷ 112 ∷ 108 ∷ 121 ∷ 61 ∷ 49 ∷ 56 ∷ 10 ∷  -- reply=18
    97 ∷ 108 ∷ 101 ∷ 114 ∷ 116 ∷ 61 ∷ 48 ∷ 10 ∷  -- alert=0
    116 ∷ 104 ∷ 101 ∷ 114 ∷ 109 ∷ 61 ∷ 48 ∷ 10 ∷ []) ∷  -- therm=0
    (99 ∷ 111 ∷ 100 ∷ 101 ∷ 61 ∷ 51 ∷ 10 ∷  -- code=3
    114 ∷ 101 ∷ 112 ∷ 108 ∷ 121 ∷ 61 ∷ 50 ∷ 53 ∷ 53 ∷ 10 ∷  -- reply=255
    97 ∷ 108 ∷ 101 ∷ 114 ∷ 116 ∷ 61 ∷ 48 ∷ 10 ∷  -- alert=0
    116 ∷ 104 ∷ 101 ∷ 114 ∷ 109 ∷ 61 ∷ 49 ∷ 10 ∷ []) ∷  -- therm=1
    (99 ∷ 111 ∷ 100 ∷ 101 ∷ 61 ∷ 49 ∷ 48 ∷ 10 ∷  -- code=10
    114 ∷ 101 ∷ 112 ∷ 108 ∷ 121 ∷ 61 ∷ 48 ∷ 10 ∷  -- reply=0
    97 ∷ 108 ∷ 101 ∷ 114 ∷ 116 ∷ 61 ∷ 49 ∷ 10 ∷  -- alert=1
    116 ∷ 104 ∷ 101 ∷ 114 ∷ 109 ∷ 61 ∷ 48 ∷ 10 ∷ []) ∷  -- therm=0
    (99 ∷ 111 ∷ 100 ∷ 101 ∷ 61 ∷ 48 ∷ 10 ∷  -- code=0
    114 ∷ 101 ∷ 112 ∷ 108 ∷ 121 ∷ 61 ∷ 57 ∷ 10 ∷  -- reply=9
    97 ∷ 108 ∷ 101 ∷ 114 ∷ 116 ∷ 61 ∷ 48 ∷ 10 ∷  -- alert=0
    116 ∷ 104 ∷ 101 ∷ 114 ∷ 109 ∷ 61 ∷ 48 ∷ 10 ∷ []) ∷  -- therm=0
    (99 ∷ 111 ∷ 100 ∷ 101 ∷ 61 ∷ 48 ∷ 10 ∷  -- code=0
    114 ∷ 101 ∷ 112 ∷ 108 ∷ 121 ∷ 61 ∷ 57 ∷ 57 ∷ 10 ∷  -- reply=99
    97 ∷ 108 ∷ 101 ∷ 114 ∷ 116 ∷ 61 ∷ 49 ∷ 10 ∷  -- alert=1
    116 ∷ 104 ∷ 101 ∷ 114 ∷ 109 ∷ 61 ∷ 49 ∷ 10 ∷ []) ∷  -- therm=1
    (99 ∷ 111 ∷ 100 ∷ 101 ∷ 61 ∷ 48 ∷ 10 ∷  -- code=0
    114 ∷ 101 ∷ 112 ∷ 108 ∷ 121 ∷ 61 ∷ 49 ∷ 48 ∷ 48 ∷ 10 ∷  -- reply=100
    97 ∷ 108 ∷ 101 ∷ 114 ∷ 116 ∷ 61 ∷ 48 ∷ 10 ∷  -- alert=0
    116 ∷ 104 ∷ 101 ∷ 114 ∷ 109 ∷ 61 ∷ 49 ∷ 10 ∷ []) ∷  -- therm=1
    (99 ∷ 111 ∷ 100 ∷ 101 ∷ 61 ∷ 50 ∷ 53 ∷ 53 ∷ 10 ∷  -- code=255
    114 ∷ 101 ∷ 112 ∷ 108 ∷ 121 ∷ 61 ∷ 55 ∷ 54 ∷ 10 ∷  -- reply=76
    97 ∷ 108 ∷ 101 ∷ 114 ∷ 116 ∷ 61 ∷ 49 ∷ 10 ∷  -- alert=1
    116 ∷ 104 ∷ 101 ∷ 114 ∷ 109 ∷ 61 ∷ 48 ∷ 10 ∷ []) ∷  -- therm=0
    (99 ∷ 111 ∷ 100 ∷ 101 ∷ 61 ∷ 49 ∷ 49 ∷ 10 ∷  -- code=11
    114 ∷ 101 ∷ 112 ∷ 108 ∷ 121 ∷ 61 ∷ 49 ∷ 53 ∷ 51 ∷ 10 ∷  -- reply=153
    97 ∷ 108 ∷ 101 ∷ 114 ∷ 116 ∷ 61 ∷ 48 ∷ 10 ∷  -- alert=0
    116 ∷ 104 ∷ 101 ∷ 114 ∷ 109 ∷ 61 ∷ 48 ∷ 10 ∷ []) ∷ []  -- therm=0

abbrev pub AnswerCases : Type 0
AnswerCases = answers_written ≡ answers_wanted

-- "one more line, end= and the code"
unfoldable pub ends_written : List (List ℕ)
ends_written = line_text end_name 0 ∷ line_text end_name 2 ∷ line_text end_name 7 ∷ line_text end_name 8 ∷ line_text end_name 10 ∷ []

unfoldable pub ends_wanted : List (List ℕ)
ends_wanted =
    (101 ∷ 110 ∷ 100 ∷ 61 ∷ 48 ∷ 10 ∷ []) ∷  -- end=0
    (101 ∷ 110 ∷ 100 ∷ 61 ∷ 50 ∷ 10 ∷ []) ∷  -- end=2
    (101 ∷ 110 ∷ 100 ∷ 61 ∷ 55 ∷ 10 ∷ []) ∷  -- end=7
    (101 ∷ 110 ∷ 100 ∷ 61 ∷ 56 ∷ 10 ∷ []) ∷  -- end=8
    (101 ∷ 110 ∷ 100 ∷ 61 ∷ 49 ∷ 48 ∷ 10 ∷ []) ∷ []  -- end=10

abbrev pub EndCases : Type 0
EndCases = ends_written ≡ ends_wanted
