-- A session in 256 bytes: the layout's number first, the chip's 128 bytes last, and 0 where a byte has no meaning. Assumes nothing.
use Rattle.std.specs.Prelude.{ℕ, ◌%◌, Bool, List, [], ◌∷◌, ◌++◌, drop, get_or, replicate}
use Rattle.saved_rules.specs.Layout.{flag, is_set, same_bytes, save_of, state_at}
use Rattle.blocks.specs.Blocks.{over, word, word_at}
use Rattle.session_rules.specs.declared.session.Session.{Session}
use Rattle.session_rules.specs.Session.{carried_of, padded}

-- the layout's number, the two marks, how many bytes are carried, and the counts
abbrev pub marks_of : Session → List ℕ
marks_of s =
    (1 ∷ flag s.ended ∷ flag s.stopped ∷ s.count % 256 ∷ []) ++ word s.records ++ word s.used ++ word s.written

-- behind them the carried bytes, and zeros
unfoldable pub head_of : Session → List ℕ
head_of s = marks_of s ++ padded (carried_of s) ++ replicate 74 0

unfoldable pub bytes_of : Session → List ℕ
bytes_of s = head_of s ++ save_of s.chip

-- any other length is left as it is
abbrev pub bytes_over : List ℕ → List ℕ → List ℕ
bytes_over = over 256

unfoldable pub held_in : List ℕ → Session
held_in b =
    record {
      chip = state_at (drop 128 b);
      records = word_at b 4;
      used = word_at b 8;
      written = word_at b 12;
      ended = is_set (get_or b 1 0);
      stopped = is_set (get_or b 2 0);
      count = get_or b 3 0;
      carried = padded (drop 16 b);
    }

-- bytes hold a session if they are what that session is saved as
unfoldable pub is_held : List ℕ → Bool
is_held b = same_bytes (bytes_of (held_in b)) b
