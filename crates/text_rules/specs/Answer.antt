-- "An answer is four lines: code, reply, alert, therm; 1 means the line is high." Assumes nothing.
use Rattle.std.specs.Prelude.{ℕ, ◌+◌, ◌/◌, ◌%◌, ◌≤◌, Bool, true, false, cond, List, [], ◌∷◌, ◌++◌, ltb, leb, length, drop, Option, Some, None, ◌≡◌}
use Rattle.text_rules.specs.declared.answer.Shown.{Shown}
use Rattle.text_rules.specs.Names.{code_name, reply_name, alert_name, therm_name}

abbrev pub digit : ℕ → ℕ
digit d = 48 + d

-- a number of at most three digits, in decimal
unfoldable pub decimal_of : ℕ → List ℕ
decimal_of n =
    cond (ltb n 10) (digit n ∷ [])
    (cond (ltb n 100) (digit (n / 10) ∷ digit (n % 10) ∷ []) (digit (n / 100) ∷ digit (n / 10 % 10) ∷ digit (n % 10) ∷ []))

unfoldable pub line_text : List ℕ → ℕ → List ℕ
line_text name n = name ++ (decimal_of n ++ (10 ∷ []))

abbrev pub level : Bool → ℕ
level false = 0
level true = 1

unfoldable pub answer_text : ℕ → ℕ → Bool → Bool → List ℕ
answer_text code reply alert therm =
    ((line_text code_name code ++ line_text reply_name reply) ++ line_text alert_name (level alert)) ++ line_text therm_name (level therm)

abbrev pub shown_text : Shown → List ℕ
shown_text a = answer_text a.code a.reply a.alert a.therm

-- a text at the front of what is lent, the rest as it was
abbrev pub put : List ℕ → List ℕ → List ℕ
put text before = text ++ drop (length text) before

-- the same, and how long the text is; where it does not fit, there is none and nothing is written
abbrev pub wrote_of : List ℕ → List ℕ → Option ℕ
wrote_of text before = cond (leb (length text) (length before)) (Some (length text)) None

abbrev pub put_of : List ℕ → List ℕ → List ℕ
put_of text before = cond (leb (length text) (length before)) (put text before) before

-- document 01's number for each case: 8, "the answer doesn't fit in what is left of the output"
abbrev pub wrote_code : Option ℕ → ℕ
wrote_code (Some n) = 0
wrote_code None = 8

-- what a writer promises
pub record Put (text before after : List ℕ) (r : Option ℕ) : Type 0 where
  pub said : r ≡ wrote_of text before
  pub bytes : after ≡ put_of text before

-- a text of n bytes at the front, with all behind it as it was: what a part of an answer promises, once there is room
pub record Front (text before after : List ℕ) (n : ℕ) : Type 0 where
  pub room : length text ≤ length before
  pub count : n ≡ length text
  pub bytes : after ≡ put text before
