-- What a C program's two calls on a session leave in every byte that it lends. Assumes nothing.
use Rattle.rules.specs.Codes.{is_done, number_of}
use Rattle.std.specs.Prelude.{ℕ, ◌≡◌, Bool, cond, false, true, ◌&&◌, List, ◌++◌, eqb, ℤ, length, replicate}
use Rattle.std.proofs.Math.IntN.ℤ.{negsuc, pos}
use Rattle.text_rules.specs.Answer.{put}
use Rattle.blocks.specs.Blocks.{over, word}
use Rattle.session_rules.specs.declared.session.Opened.{Opened}
use Rattle.session_rules.specs.Session.{opened_of}
use Rattle.session_rules.specs.Portion.{Feed, feed_of, refused_with, report_after}
use Rattle.session_rules.specs.Bytes.{bytes_of, held_in, is_held}

-- ---- Open ----

pub record Opening : Type 0 where
  pub code : ℕ
  pub session : List ℕ

-- a bad address is code 2 and leaves zeros, which are no session
abbrev pub opening_from : Opened → Opening
opening_from o = record { code = number_of o.code; session = cond (is_done o.code) (bytes_of o.session) (replicate 256 0) }

-- of another length nothing is written
unfoldable pub open_of : ℤ → List ℕ → Opening
open_of address session = cond (eqb (length session) 256) (opening_from (opened_of address)) (record { code = 2; session = session })

pub record OpenDone (wanted : Opening) (r : ℤ) (session : List ℕ) : Type 0 where
  pub code : r ≡ pos wanted.code
  pub bytes : session ≡ wanted.session

-- ---- Feed ----

pub record Feeding : Type 0 where
  pub code : ℕ
  pub session : List ℕ
  pub output : List ℕ
  pub report : List ℕ
  pub progress : List ℕ

-- whether the portion is the end, and whether that is said by 0 or 1
abbrev pub is_end : ℤ → Bool
is_end (pos n) = eqb n 1
is_end (negsuc n) = false

abbrev pub is_flag : ℤ → Bool
is_flag (pos n) = cond (eqb n 0) true (eqb n 1)
is_flag (negsuc n) = false

-- bytes taken and bytes written by this call
abbrev pub progress_of : Feed → List ℕ
progress_of f = word f.taken ++ word (length f.text)

abbrev pub progress_over : List ℕ → List ℕ → List ℕ
progress_over = over 8

-- a refusal writes nothing in any buffer
abbrev pub nothing : ℕ → List ℕ → List ℕ → List ℕ → List ℕ → Feeding
nothing code session output report progress =
    record { code = code; session = session; output = output; report = report; progress = progress }

abbrev pub fed_into : Feed → List ℕ → Feeding
fed_into f output =
    record { code = f.code; session = bytes_of f.session; output = put f.text output; report = report_after f; progress = progress_of f }

-- "a wrong length, or `end` neither 0 nor 1, is 2; bytes that are no session are 6; then 9, the repeated 7, the total's 2"
unfoldable pub feed_into : List ℕ → List ℕ → ℤ → List ℕ → List ℕ → List ℕ → Feeding
feed_into session portion end output report progress =
    let s = held_in session in
    cond (eqb (length session) 256 && eqb (length report) 16 && eqb (length progress) 8 && is_flag end)
    (cond (is_held session)
    (cond (eqb (refused_with s (length portion)) 0) (fed_into (feed_of s portion (is_end end) (length output)) output)
    (nothing (refused_with s (length portion)) session output report progress))
    (nothing 6 session output report progress))
    (nothing 2 session output report progress)

pub record FeedDone (wanted : Feeding) (r : ℤ) (session output report progress : List ℕ) : Type 0 where
  pub code : r ≡ pos wanted.code
  pub bytes : session ≡ wanted.session
  pub answers : output ≡ wanted.output
  pub told : report ≡ wanted.report
  pub moved : progress ≡ wanted.progress
