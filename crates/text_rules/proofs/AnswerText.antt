-- An answer's numbers are written as a record's are: by the number of digits. Assumes nothing.
use Prim.Native.Nat.{ℕ, ◌/◌, ◌%◌, ◌≤◌, ◌<◌}
use native.Mathlib.Omega.{arith}
use mathlib.Core.Path.{◌≡◌, refl}
use mathlib.Core.Bool.{Bool, true, false}
use mathlib.Core.List.{List}
use lib.Dec.{ltb}
use lib.IntN.ℤ.{pos}
use borrow.Author.Tests.{ltb-true, ltb-false, lt-ltb}
use Rattle.text_rules.specs.Names.{code_name, reply_name, alert_name, therm_name, end_name}
use Rattle.text_rules.specs.Answer.{answer_text, decimal_of, level, line_text}
use Rattle.text_rules.proofs.Size.{decimal_one, decimal_two, decimal_three}
use Rattle.text_rules.specs.Written.{digit_count, written_natural}
use Rattle.text_rules.specs.RecordText.{line_written}
use Rattle.text_rules.specs.AnswerText.{AnswerIsWritten, EndIsWritten, shown}

decimal_written : (n : ℕ) → n ≤ 255 → decimal_of n ≡ written_natural n
unfolding written_natural digit_count
decimal_written n h = by (ltb n 10) refl (ltb n 100) refl
  where
    by : (t : Bool) → ltb n 10 ≡ t → (u : Bool) → ltb n 100 ≡ u → decimal_of n ≡ written_natural n
    by true e u f =
        let l : n < 10 = ltb-true n 10 e in
        let d : n % 10 ≡ n = omega arith in
        rw (decimal_one n l, e, d)
    by false e true f =
        let d : n / 10 % 10 ≡ n / 10 = omega (arith, ltb-true n 100 f) in
        rw (decimal_two n (ltb-false n 10 e) (ltb-true n 100 f), e, f, d)
    by false e false f =
        let d : n / 10 / 10 % 10 ≡ n / 100 = omega arith in
        rw (decimal_three n (ltb-false n 100 f), e, f, lt-ltb n 1000 (omega arith), d)

line_written_lem : (name : List ℕ) (n : ℕ) → n ≤ 255 → line_text name n ≡ line_written name (pos n)
unfolding line_text line_written
line_written_lem name n h = rw (decimal_written n h)

level_written : (name : List ℕ) (high : Bool) → line_text name (level high) ≡ line_written name (shown high)
level_written name true = line_written_lem name 1 (omega arith)
level_written name false = line_written_lem name 0 (omega arith)

pub answer_is_written : AnswerIsWritten
unfolding answer_text
answer_is_written code reply alert therm h g =
    rw (line_written_lem code_name code h, line_written_lem reply_name reply g, level_written alert_name alert, level_written therm_name therm)

pub end_is_written : EndIsWritten
end_is_written code h = line_written_lem end_name code h
