-- How long a number, a line and an answer are: by the tests of `decimal_of`. Assumes nothing.
use Prim.Native.Nat.{ℕ, ◌+◌, ◌≤◌, ◌<◌, ◌/◌, ◌%◌}
use native.Mathlib.Omega.{arith}
use mathlib.Core.Bool.{Bool, true, false, cond}
use lib.Dec.{ltb}
use mathlib.Core.Path.{◌≡◌, sym, ap, ◌∙◌}
use mathlib.Core.List.{List, [], ◌∷◌, ◌++◌, append_assoc}
use borrow.Author.Tests.{lt-ltb, le-ltb}
use lib.ListN.{length, length-append}
use Rattle.text_rules.specs.Names.{code_name, reply_name, alert_name, therm_name}
use Rattle.text_rules.specs.Answer.{digit, decimal_of, level, line_text, answer_text}
use Rattle.text_rules.specs.Sizes.{longest_answer, shortest_answer}

pub decimal_one : (n : ℕ) → n < 10 → decimal_of n ≡ digit n ∷ []
unfolding decimal_of
decimal_one n h = rw (lt-ltb n 10 h)

pub decimal_two : (n : ℕ) → 10 ≤ n → n < 100 → decimal_of n ≡ digit (n / 10) ∷ digit (n % 10) ∷ []
unfolding decimal_of
decimal_two n g h = rw (le-ltb n 10 g, lt-ltb n 100 h)

pub decimal_three : (n : ℕ) → 100 ≤ n → decimal_of n ≡ digit (n / 100) ∷ digit (n / 10 % 10) ∷ digit (n % 10) ∷ []
unfolding decimal_of
decimal_three n h = rw (le-ltb n 10 (omega arith), le-ltb n 100 h)

pub few_digits : (n : ℕ) → length (decimal_of n) ≤ 3
unfolding decimal_of
few_digits n = by (ltb n 10) (ltb n 100)
  where
    by : (t u : Bool) → length (cond t (digit n ∷ []) (cond u (digit (n / 10) ∷ digit (n % 10) ∷ []) (digit (n / 100) ∷ digit (n / 10 % 10) ∷ digit (n % 10) ∷ []))) ≤ 3
    by true u = omega arith
    by false true = omega arith
    by false false = omega arith

pub some_digits : (n : ℕ) → 1 ≤ length (decimal_of n)
unfolding decimal_of
some_digits n = by (ltb n 10) (ltb n 100)
  where
    by : (t u : Bool) → 1 ≤ length (cond t (digit n ∷ []) (cond u (digit (n / 10) ∷ digit (n % 10) ∷ []) (digit (n / 100) ∷ digit (n / 10 % 10) ∷ digit (n % 10) ∷ [])))
    by true u = omega arith
    by false true = omega arith
    by false false = omega arith

pub line_length : (name : List ℕ) (n : ℕ) → length (line_text name n) ≡ length name + length (decimal_of n) + 1
unfolding line_text
line_length name n = simp length-append (omega arith)

-- as it is written: the name, the digits, the end
pub line_parts : (name : List ℕ) (n : ℕ) → line_text name n ≡ (name ++ decimal_of n) ++ (10 ∷ [])
unfolding line_text
line_parts name n = sym (append_assoc name (decimal_of n) (10 ∷ []))

level_length : (name : List ℕ) (high : Bool) → length (line_text name (level high)) ≡ length name + 2
unfolding decimal_of
level_length name true = line_length name 1 ∙ omega arith
level_length name false = line_length name 0 ∙ omega arith

pub answer_lines : (code reply : ℕ) (alert therm : Bool) → length (answer_text code reply alert therm) ≡ length (line_text code_name code) + length (line_text reply_name reply) + length (line_text alert_name (level alert)) + length (line_text therm_name (level therm))
unfolding answer_text
answer_lines code reply alert therm = simp length-append

pub answer_length : (code reply : ℕ) (alert therm : Bool) → length (answer_text code reply alert therm) ≡ 29 + length (decimal_of code) + length (decimal_of reply)
answer_length code reply alert therm = answer_lines code reply alert therm ∙ rw (line_length code_name code, line_length reply_name reply, level_length alert_name alert, level_length therm_name therm) (omega arith)

-- at most so long: with a code of one digit, and with a refusal, which replies 0
pub answer_short : (code reply : ℕ) (alert therm : Bool) → code < 10 → length (answer_text code reply alert therm) ≤ longest_answer
answer_short code reply alert therm h =
    omega (arith, answer_length code reply alert therm, ap length (decimal_one code h), few_digits reply)

pub refusal_short : (code : ℕ) (alert therm : Bool) → code < 100 → length (answer_text code 0 alert therm) ≤ longest_answer
refusal_short code alert therm h = omega (arith, answer_length code 0 alert therm, ap length (decimal_one 0 (omega arith)), few_digits code)

-- and at least so long
pub answer_long : (code reply : ℕ) (alert therm : Bool) → shortest_answer ≤ length (answer_text code reply alert therm)
answer_long code reply alert therm =
    omega (arith, answer_length code reply alert therm, some_digits code, some_digits reply)
