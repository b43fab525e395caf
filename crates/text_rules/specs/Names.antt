-- The names of a record's and an answer's lines, each with its equals sign, in their order. Assumes nothing.
use Rattle.std.specs.Prelude.{ℕ, List, [], ◌∷◌}

-- "kind=", "a=", "b=", "c="
abbrev pub kind_name : List ℕ
kind_name = 107 ∷ 105 ∷ 110 ∷ 100 ∷ 61 ∷ []

abbrev pub a_name : List ℕ
a_name = 97 ∷ 61 ∷ []

abbrev pub b_name : List ℕ
b_name = 98 ∷ 61 ∷ []

abbrev pub c_name : List ℕ
c_name = 99 ∷ 61 ∷ []

-- "code=", "reply=", "alert=", "therm="
abbrev pub code_name : List ℕ
code_name = 99 ∷ 111 ∷ 100 ∷ 101 ∷ 61 ∷ []

abbrev pub reply_name : List ℕ
reply_name = 114 ∷ 101 ∷ 112 ∷ 108 ∷ 121 ∷ 61 ∷ []

abbrev pub alert_name : List ℕ
alert_name = 97 ∷ 108 ∷ 101 ∷ 114 ∷ 116 ∷ 61 ∷ []

abbrev pub therm_name : List ℕ
therm_name = 116 ∷ 104 ∷ 101 ∷ 114 ∷ 109 ∷ 61 ∷ []

-- "end="
abbrev pub end_name : List ℕ
end_name = 101 ∷ 110 ∷ 100 ∷ 61 ∷ []
