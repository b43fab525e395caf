-- Document 01, Traces and their replay, "An answer is four lines: code, reply, alert, therm; 1 means the line is high", and "one more line,
-- end= and the code": every answer's text and every last line are written as a record's lines are, with names given byte by byte.
-- Proved in proofs/AnswerText.antt. Assumes nothing.
use Rattle.std.specs.Prelude.{ℕ, ◌≤◌, ◌≡◌, Bool, true, false, [], ◌∷◌, ◌++◌, ℤ}
use Rattle.std.proofs.Math.IntN.ℤ.{pos}
use Rattle.text_rules.specs.Names.{end_name}
use Rattle.text_rules.specs.Answer.{answer_text, line_text}
use Rattle.text_rules.specs.RecordText.{line_written}

abbrev pub shown : Bool → ℤ
shown true = pos 1
shown false = pos 0

abbrev pub AnswerIsWritten : Type 0
AnswerIsWritten =
    (code reply : ℕ) (alert therm : Bool) → code ≤ 255 → reply ≤ 255 → answer_text code reply alert therm ≡
    ((line_written (99 ∷ 111 ∷ 100 ∷ 101 ∷ 61 ∷ []) (pos code) ++  -- code=
    line_written (114 ∷ 101 ∷ 112 ∷ 108 ∷ 121 ∷ 61 ∷ []) (pos reply)) ++  -- reply=
    line_written (97 ∷ 108 ∷ 101 ∷ 114 ∷ 116 ∷ 61 ∷ []) (shown alert)) ++  -- alert=
    line_written (116 ∷ 104 ∷ 101 ∷ 114 ∷ 109 ∷ 61 ∷ []) (shown therm)  -- therm=

abbrev pub EndIsWritten : Type 0
EndIsWritten = (code : ℕ) → code ≤ 255 → line_text end_name code ≡ line_written (101 ∷ 110 ∷ 100 ∷ 61 ∷ []) (pos code)  -- end=
