-- A session and the calls on it, byte by byte: nothing of these lists is taken from a definition. Proved in proofs/SessionCases.antt.
-- Assumes nothing.
use Rattle.std.specs.Prelude.{ℕ, ◌-◌, ◌≡◌, List, [], ◌∷◌, ◌++◌, map, ℤ, length, replicate}
use Rattle.std.proofs.Math.IntN.ℤ.{negsuc, pos}
use Rattle.session_rules.specs.Face.{Feeding, Opening, feed_into, open_of}

-- what is not 0 of a chip that was just powered on at 76, and at 77; of one in which a conversion runs; of one with a run count of 5;
-- of one in the chip's earlier layout, of number 1
unfoldable pub fresh : List ℕ
fresh = 2 ∷ 76 ∷ 0 ∷ 0 ∷ 0 ∷ 0 ∷ 0 ∷ 8 ∷ 85 ∷ 0 ∷ 85 ∷ 0 ∷ 0 ∷ 0 ∷ 0 ∷ 0 ∷ 85 ∷ 85 ∷ 10 ∷ 1 ∷ []

unfoldable pub other : List ℕ
other = 2 ∷ 77 ∷ 0 ∷ 0 ∷ 0 ∷ 0 ∷ 0 ∷ 8 ∷ 85 ∷ 0 ∷ 85 ∷ 0 ∷ 0 ∷ 0 ∷ 0 ∷ 0 ∷ 85 ∷ 85 ∷ 10 ∷ 1 ∷ []

unfoldable pub busy : List ℕ
busy = 2 ∷ 76 ∷ 0 ∷ 1 ∷ 0 ∷ 0 ∷ 0 ∷ 8 ∷ 85 ∷ 0 ∷ 85 ∷ 0 ∷ 0 ∷ 0 ∷ 0 ∷ 0 ∷ 85 ∷ 85 ∷ 10 ∷ 1 ∷ []

unfoldable pub runs : List ℕ
runs = 2 ∷ 76 ∷ 0 ∷ 0 ∷ 5 ∷ 0 ∷ 0 ∷ 8 ∷ 85 ∷ 0 ∷ 85 ∷ 0 ∷ 0 ∷ 0 ∷ 0 ∷ 0 ∷ 85 ∷ 85 ∷ 10 ∷ 1 ∷ []

unfoldable pub earlier : List ℕ
earlier = 1 ∷ 76 ∷ 0 ∷ 0 ∷ 0 ∷ 0 ∷ 0 ∷ 8 ∷ 85 ∷ 0 ∷ 85 ∷ 0 ∷ 0 ∷ 0 ∷ 0 ∷ 0 ∷ 85 ∷ 85 ∷ 10 ∷ 1 ∷ []

-- so many bytes, with zeros behind those that are given
abbrev filled : ℕ → List ℕ → List ℕ
filled n bytes = bytes ++ replicate (n - length bytes) 0

-- layout, marks and count; records, bytes used and bytes written; what is carried; the chip
abbrev session : List ℕ → List ℕ → List ℕ → List ℕ → List ℕ
session marks counts carried chip = marks ++ counts ++ filled 112 carried ++ filled 128 chip

-- "kind=6", "a=0", "b=0", "c=": with "0" and byte 10 behind it, a conversion starts
unfoldable pub begun : List ℕ
begun = 107 ∷ 105 ∷ 110 ∷ 100 ∷ 61 ∷ 54 ∷ 10 ∷ 97 ∷ 61 ∷ 48 ∷ 10 ∷ 98 ∷ 61 ∷ 48 ∷ 10 ∷ 99 ∷ 61 ∷ []

-- the longest partial record: "kind=-99999", "a=-99999", "b=-99999", "c=-99999", without its last byte 10
unfoldable pub longest : List ℕ
longest = 107 ∷ 105 ∷ 110 ∷ 100 ∷ 61 ∷ 45 ∷ 57 ∷ 57 ∷ 57 ∷ 57 ∷ 57 ∷ 10 ∷ 97 ∷ 61 ∷ 45 ∷ 57 ∷ 57 ∷ 57 ∷ 57 ∷ 57 ∷ 10 ∷ 98 ∷ 61 ∷ 45 ∷ 57 ∷ 57 ∷ 57 ∷ 57 ∷ 57 ∷ 10 ∷ 99 ∷ 61 ∷ 45 ∷ 57 ∷ 57 ∷ 57 ∷ 57 ∷ 57 ∷ []

-- "code=0", "reply=0", "alert=1", "therm=1"
unfoldable pub started : List ℕ
started = 99 ∷ 111 ∷ 100 ∷ 101 ∷ 61 ∷ 48 ∷ 10 ∷ 114 ∷ 101 ∷ 112 ∷ 108 ∷ 121 ∷ 61 ∷ 48 ∷ 10 ∷ 97 ∷ 108 ∷ 101 ∷ 114 ∷ 116 ∷ 61 ∷ 49 ∷ 10 ∷ 116 ∷ 104 ∷ 101 ∷ 114 ∷ 109 ∷ 61 ∷ 49 ∷ 10 ∷ []

-- ---- Open ----

unfoldable pub openings : List Opening
openings =
    open_of (pos 76) (replicate 256 5) ∷ open_of (pos 77) (replicate 256 5) ∷ open_of (pos 75) (replicate 256 5) ∷ open_of (pos 78) (replicate 256 5) ∷ open_of (negsuc 75) (replicate 256 5) ∷
    open_of (pos 76) (replicate 255 5) ∷ open_of (pos 76) (replicate 257 5) ∷ open_of (pos 75) [] ∷ []

unfoldable pub openings_wanted : List Opening
openings_wanted =
    record { code = 0; session = (session (1 ∷ 0 ∷ 0 ∷ 0 ∷ []) (0 ∷ 0 ∷ 0 ∷ 0 ∷ 0 ∷ 0 ∷ 0 ∷ 0 ∷ 0 ∷ 0 ∷ 0 ∷ 0 ∷ []) [] fresh) } ∷ record { code = 0; session = (session (1 ∷ 0 ∷ 0 ∷ 0 ∷ []) (0 ∷ 0 ∷ 0 ∷ 0 ∷ 0 ∷ 0 ∷ 0 ∷ 0 ∷ 0 ∷ 0 ∷ 0 ∷ 0 ∷ []) [] other) } ∷ record { code = 2; session = replicate 256 0 } ∷ record { code = 2; session = replicate 256 0 } ∷
    record { code = 2; session = replicate 256 0 } ∷ record { code = 2; session = replicate 255 5 } ∷ record { code = 2; session = replicate 257 5 } ∷ record { code = 2; session = [] } ∷ []

abbrev pub OpenCases : Type 0
OpenCases = openings ≡ openings_wanted

-- ---- Feed ----

pub record Row : Type 0 where
  pub session : List ℕ
  pub portion : List ℕ
  pub end : ℤ
  pub output : List ℕ
  pub report : List ℕ
  pub progress : List ℕ
  pub wanted : Feeding

-- session, portion, end, output; code, session, output, report and progress after the call, of 16 and 8 bytes that were 9
abbrev row : List ℕ → List ℕ → ℤ → List ℕ → ℕ → List ℕ → List ℕ → List ℕ → List ℕ → Row
row s portion end output code after written report progress =
    record { session = s; portion = portion; end = end; output = output; report = replicate 16 9; progress = replicate 8 9; wanted = record { code = code; session = after; output = written; report = report; progress = progress } }

-- a refusal: nothing is written
abbrev same : List ℕ → List ℕ → ℤ → List ℕ → ℕ → Row
same s portion end output code = row s portion end output code s output (replicate 16 9) (replicate 8 9)

unfoldable pub feed_rows : List Row
feed_rows =
    -- 17 bytes of a record, with no room: taken and carried
    row (session (1 ∷ 0 ∷ 0 ∷ 0 ∷ []) (0 ∷ 0 ∷ 0 ∷ 0 ∷ 0 ∷ 0 ∷ 0 ∷ 0 ∷ 0 ∷ 0 ∷ 0 ∷ 0 ∷ []) [] fresh) begun (pos 0) []
    0 (session (1 ∷ 0 ∷ 0 ∷ 17 ∷ []) (0 ∷ 0 ∷ 0 ∷ 0 ∷ 0 ∷ 0 ∷ 0 ∷ 0 ∷ 0 ∷ 0 ∷ 0 ∷ 0 ∷ []) begun fresh) [] (0 ∷ 0 ∷ 0 ∷ 0 ∷ 0 ∷ 0 ∷ 0 ∷ 0 ∷ 0 ∷ 0 ∷ 0 ∷ 0 ∷ 0 ∷ 0 ∷ 0 ∷ 0 ∷ []) (17 ∷ 0 ∷ 0 ∷ 0 ∷ 0 ∷ 0 ∷ 0 ∷ 0 ∷ []) ∷
    -- its last 2, as the end, into 32 bytes: answered, the end counts, and a byte of the output stays
    row (session (1 ∷ 0 ∷ 0 ∷ 17 ∷ []) (0 ∷ 0 ∷ 0 ∷ 0 ∷ 0 ∷ 0 ∷ 0 ∷ 0 ∷ 0 ∷ 0 ∷ 0 ∷ 0 ∷ []) begun fresh) (48 ∷ 10 ∷ []) (pos 1) (replicate 32 7)
    0 (session (1 ∷ 1 ∷ 0 ∷ 0 ∷ []) (1 ∷ 0 ∷ 0 ∷ 0 ∷ 19 ∷ 0 ∷ 0 ∷ 0 ∷ 31 ∷ 0 ∷ 0 ∷ 0 ∷ []) [] busy) (started ++ (7 ∷ [])) (0 ∷ 0 ∷ 0 ∷ 0 ∷ 1 ∷ 0 ∷ 0 ∷ 0 ∷ 19 ∷ 0 ∷ 0 ∷ 0 ∷ 31 ∷ 0 ∷ 0 ∷ 0 ∷ []) (2 ∷ 0 ∷ 0 ∷ 0 ∷ 31 ∷ 0 ∷ 0 ∷ 0 ∷ []) ∷
    -- the same into 30 bytes: code 8, nothing is taken or lost, and the end does not count
    row (session (1 ∷ 0 ∷ 0 ∷ 17 ∷ []) (0 ∷ 0 ∷ 0 ∷ 0 ∷ 0 ∷ 0 ∷ 0 ∷ 0 ∷ 0 ∷ 0 ∷ 0 ∷ 0 ∷ []) begun fresh) (48 ∷ 10 ∷ []) (pos 1) (replicate 30 7)
    8 (session (1 ∷ 0 ∷ 0 ∷ 17 ∷ []) (0 ∷ 0 ∷ 0 ∷ 0 ∷ 0 ∷ 0 ∷ 0 ∷ 0 ∷ 0 ∷ 0 ∷ 0 ∷ 0 ∷ []) begun fresh) (replicate 30 7) (8 ∷ 0 ∷ 0 ∷ 0 ∷ 0 ∷ 0 ∷ 0 ∷ 0 ∷ 0 ∷ 0 ∷ 0 ∷ 0 ∷ 0 ∷ 0 ∷ 0 ∷ 0 ∷ []) (0 ∷ 0 ∷ 0 ∷ 0 ∷ 0 ∷ 0 ∷ 0 ∷ 0 ∷ []) ∷
    -- a byte that no record has, as the end: code 7 at once, the carried bytes stay, and the end does not count
    row (session (1 ∷ 0 ∷ 0 ∷ 17 ∷ []) (0 ∷ 0 ∷ 0 ∷ 0 ∷ 0 ∷ 0 ∷ 0 ∷ 0 ∷ 0 ∷ 0 ∷ 0 ∷ 0 ∷ []) begun fresh) (120 ∷ []) (pos 1) (replicate 32 7)
    7 (session (1 ∷ 0 ∷ 1 ∷ 17 ∷ []) (0 ∷ 0 ∷ 0 ∷ 0 ∷ 0 ∷ 0 ∷ 0 ∷ 0 ∷ 0 ∷ 0 ∷ 0 ∷ 0 ∷ []) begun fresh) (replicate 32 7) (7 ∷ 0 ∷ 0 ∷ 0 ∷ 0 ∷ 0 ∷ 0 ∷ 0 ∷ 0 ∷ 0 ∷ 0 ∷ 0 ∷ 0 ∷ 0 ∷ 0 ∷ 0 ∷ []) (0 ∷ 0 ∷ 0 ∷ 0 ∷ 0 ∷ 0 ∷ 0 ∷ 0 ∷ []) ∷
    -- behind a whole record: the record is answered, and what is taken ends there
    row (session (1 ∷ 0 ∷ 0 ∷ 0 ∷ []) (0 ∷ 0 ∷ 0 ∷ 0 ∷ 0 ∷ 0 ∷ 0 ∷ 0 ∷ 0 ∷ 0 ∷ 0 ∷ 0 ∷ []) [] fresh) (begun ++ (48 ∷ 10 ∷ 120 ∷ [])) (pos 1) (replicate 31 7)
    7 (session (1 ∷ 0 ∷ 1 ∷ 0 ∷ []) (1 ∷ 0 ∷ 0 ∷ 0 ∷ 19 ∷ 0 ∷ 0 ∷ 0 ∷ 31 ∷ 0 ∷ 0 ∷ 0 ∷ []) [] busy) started (7 ∷ 0 ∷ 0 ∷ 0 ∷ 1 ∷ 0 ∷ 0 ∷ 0 ∷ 19 ∷ 0 ∷ 0 ∷ 0 ∷ 31 ∷ 0 ∷ 0 ∷ 0 ∷ []) (19 ∷ 0 ∷ 0 ∷ 0 ∷ 31 ∷ 0 ∷ 0 ∷ 0 ∷ []) ∷
    -- two records into 61 bytes: the first is answered, the second waits
    row (session (1 ∷ 0 ∷ 0 ∷ 0 ∷ []) (0 ∷ 0 ∷ 0 ∷ 0 ∷ 0 ∷ 0 ∷ 0 ∷ 0 ∷ 0 ∷ 0 ∷ 0 ∷ 0 ∷ []) [] fresh) (begun ++ (48 ∷ 10 ∷ []) ++ begun ++ (48 ∷ 10 ∷ [])) (pos 1) (replicate 61 7)
    8 (session (1 ∷ 0 ∷ 0 ∷ 0 ∷ []) (1 ∷ 0 ∷ 0 ∷ 0 ∷ 19 ∷ 0 ∷ 0 ∷ 0 ∷ 31 ∷ 0 ∷ 0 ∷ 0 ∷ []) [] busy) (started ++ replicate 30 7) (8 ∷ 0 ∷ 0 ∷ 0 ∷ 1 ∷ 0 ∷ 0 ∷ 0 ∷ 19 ∷ 0 ∷ 0 ∷ 0 ∷ 31 ∷ 0 ∷ 0 ∷ 0 ∷ []) (19 ∷ 0 ∷ 0 ∷ 0 ∷ 31 ∷ 0 ∷ 0 ∷ 0 ∷ []) ∷
    -- a partial record at the end: taken, code 7, and the end counts
    row (session (1 ∷ 0 ∷ 0 ∷ 0 ∷ []) (0 ∷ 0 ∷ 0 ∷ 0 ∷ 0 ∷ 0 ∷ 0 ∷ 0 ∷ 0 ∷ 0 ∷ 0 ∷ 0 ∷ []) [] fresh) (107 ∷ 105 ∷ 110 ∷ 100 ∷ 61 ∷ 49 ∷ []) (pos 1) []
    7 (session (1 ∷ 1 ∷ 1 ∷ 6 ∷ []) (0 ∷ 0 ∷ 0 ∷ 0 ∷ 0 ∷ 0 ∷ 0 ∷ 0 ∷ 0 ∷ 0 ∷ 0 ∷ 0 ∷ []) (107 ∷ 105 ∷ 110 ∷ 100 ∷ 61 ∷ 49 ∷ []) fresh) [] (7 ∷ 0 ∷ 0 ∷ 0 ∷ 0 ∷ 0 ∷ 0 ∷ 0 ∷ 0 ∷ 0 ∷ 0 ∷ 0 ∷ 0 ∷ 0 ∷ 0 ∷ 0 ∷ []) (6 ∷ 0 ∷ 0 ∷ 0 ∷ 0 ∷ 0 ∷ 0 ∷ 0 ∷ []) ∷
    -- afterwards nothing is 7 again, and something is 9; after a record that was bad at once everything is 7
    same (session (1 ∷ 1 ∷ 1 ∷ 6 ∷ []) (0 ∷ 0 ∷ 0 ∷ 0 ∷ 0 ∷ 0 ∷ 0 ∷ 0 ∷ 0 ∷ 0 ∷ 0 ∷ 0 ∷ []) (107 ∷ 105 ∷ 110 ∷ 100 ∷ 61 ∷ 49 ∷ []) fresh) [] (pos 0) [] 7 ∷
    same (session (1 ∷ 1 ∷ 1 ∷ 6 ∷ []) (0 ∷ 0 ∷ 0 ∷ 0 ∷ 0 ∷ 0 ∷ 0 ∷ 0 ∷ 0 ∷ 0 ∷ 0 ∷ 0 ∷ []) (107 ∷ 105 ∷ 110 ∷ 100 ∷ 61 ∷ 49 ∷ []) fresh) (50 ∷ []) (pos 1) [] 9 ∷
    same (session (1 ∷ 0 ∷ 1 ∷ 17 ∷ []) (0 ∷ 0 ∷ 0 ∷ 0 ∷ 0 ∷ 0 ∷ 0 ∷ 0 ∷ 0 ∷ 0 ∷ 0 ∷ 0 ∷ []) begun fresh) (48 ∷ 10 ∷ []) (pos 0) (replicate 32 7) 7 ∷
    same (session (1 ∷ 0 ∷ 1 ∷ 17 ∷ []) (0 ∷ 0 ∷ 0 ∷ 0 ∷ 0 ∷ 0 ∷ 0 ∷ 0 ∷ 0 ∷ 0 ∷ 0 ∷ 0 ∷ []) begun fresh) [] (pos 1) (replicate 32 7) 7 ∷
    -- after a good end nothing changes nothing, and something is 9
    row (session (1 ∷ 1 ∷ 0 ∷ 0 ∷ []) (1 ∷ 0 ∷ 0 ∷ 0 ∷ 19 ∷ 0 ∷ 0 ∷ 0 ∷ 31 ∷ 0 ∷ 0 ∷ 0 ∷ []) [] busy) [] (pos 0) (replicate 3 7)
    0 (session (1 ∷ 1 ∷ 0 ∷ 0 ∷ []) (1 ∷ 0 ∷ 0 ∷ 0 ∷ 19 ∷ 0 ∷ 0 ∷ 0 ∷ 31 ∷ 0 ∷ 0 ∷ 0 ∷ []) [] busy) (replicate 3 7) (0 ∷ 0 ∷ 0 ∷ 0 ∷ 1 ∷ 0 ∷ 0 ∷ 0 ∷ 19 ∷ 0 ∷ 0 ∷ 0 ∷ 31 ∷ 0 ∷ 0 ∷ 0 ∷ []) (0 ∷ 0 ∷ 0 ∷ 0 ∷ 0 ∷ 0 ∷ 0 ∷ 0 ∷ []) ∷
    same (session (1 ∷ 1 ∷ 0 ∷ 0 ∷ []) (1 ∷ 0 ∷ 0 ∷ 0 ∷ 19 ∷ 0 ∷ 0 ∷ 0 ∷ 31 ∷ 0 ∷ 0 ∷ 0 ∷ []) [] busy) (107 ∷ []) (pos 0) (replicate 32 7) 9 ∷
    -- 400000 records: a byte of trace more than 39 for each, or fewer than 19; a byte of answers fewer than 31 for each, or more than 33
    same (session (1 ∷ 0 ∷ 0 ∷ 0 ∷ []) (128 ∷ 26 ∷ 6 ∷ 0 ∷ 129 ∷ 9 ∷ 238 ∷ 0 ∷ 128 ∷ 53 ∷ 189 ∷ 0 ∷ []) [] fresh) [] (pos 0) [] 6 ∷
    same (session (1 ∷ 0 ∷ 0 ∷ 0 ∷ []) (128 ∷ 26 ∷ 6 ∷ 0 ∷ 127 ∷ 247 ∷ 115 ∷ 0 ∷ 128 ∷ 53 ∷ 189 ∷ 0 ∷ []) [] fresh) [] (pos 0) [] 6 ∷
    same (session (1 ∷ 0 ∷ 0 ∷ 0 ∷ []) (128 ∷ 26 ∷ 6 ∷ 0 ∷ 128 ∷ 9 ∷ 238 ∷ 0 ∷ 127 ∷ 53 ∷ 189 ∷ 0 ∷ []) [] fresh) [] (pos 0) [] 6 ∷
    same (session (1 ∷ 0 ∷ 0 ∷ 0 ∷ []) (128 ∷ 26 ∷ 6 ∷ 0 ∷ 128 ∷ 9 ∷ 238 ∷ 0 ∷ 129 ∷ 106 ∷ 201 ∷ 0 ∷ []) [] fresh) [] (pos 0) [] 6 ∷
    -- the total: of 16777210 bytes used, 4 carried and 3 offered it is one too many; of 2 it is not
    same (session (1 ∷ 0 ∷ 0 ∷ 4 ∷ []) (32 ∷ 161 ∷ 7 ∷ 0 ∷ 250 ∷ 255 ∷ 255 ∷ 0 ∷ 0 ∷ 36 ∷ 244 ∷ 0 ∷ []) (107 ∷ 105 ∷ 110 ∷ 100 ∷ []) fresh) (61 ∷ 54 ∷ 10 ∷ []) (pos 0) (replicate 32 7) 2 ∷
    row (session (1 ∷ 0 ∷ 0 ∷ 4 ∷ []) (32 ∷ 161 ∷ 7 ∷ 0 ∷ 250 ∷ 255 ∷ 255 ∷ 0 ∷ 0 ∷ 36 ∷ 244 ∷ 0 ∷ []) (107 ∷ 105 ∷ 110 ∷ 100 ∷ []) fresh) (61 ∷ 54 ∷ []) (pos 0) (replicate 32 7)
    0 (session (1 ∷ 0 ∷ 0 ∷ 6 ∷ []) (32 ∷ 161 ∷ 7 ∷ 0 ∷ 250 ∷ 255 ∷ 255 ∷ 0 ∷ 0 ∷ 36 ∷ 244 ∷ 0 ∷ []) (107 ∷ 105 ∷ 110 ∷ 100 ∷ 61 ∷ 54 ∷ []) fresh) (replicate 32 7) (0 ∷ 0 ∷ 0 ∷ 0 ∷ 32 ∷ 161 ∷ 7 ∷ 0 ∷ 250 ∷ 255 ∷ 255 ∷ 0 ∷ 0 ∷ 36 ∷ 244 ∷ 0 ∷ []) (2 ∷ 0 ∷ 0 ∷ 0 ∷ 0 ∷ 0 ∷ 0 ∷ 0 ∷ []) ∷
    -- no session: zeros; another layout; a mark of 2
    same (replicate 256 0) (107 ∷ []) (pos 0) (replicate 32 7) 6 ∷
    same (session (2 ∷ 0 ∷ 0 ∷ 0 ∷ []) (0 ∷ 0 ∷ 0 ∷ 0 ∷ 0 ∷ 0 ∷ 0 ∷ 0 ∷ 0 ∷ 0 ∷ 0 ∷ 0 ∷ []) [] fresh) (107 ∷ []) (pos 0) (replicate 32 7) 6 ∷
    same (session (1 ∷ 2 ∷ 0 ∷ 0 ∷ []) (0 ∷ 0 ∷ 0 ∷ 0 ∷ 0 ∷ 0 ∷ 0 ∷ 0 ∷ 0 ∷ 0 ∷ 0 ∷ 0 ∷ []) [] fresh) (107 ∷ []) (pos 0) (replicate 32 7) 6 ∷
    same (session (1 ∷ 0 ∷ 2 ∷ 0 ∷ []) (0 ∷ 0 ∷ 0 ∷ 0 ∷ 0 ∷ 0 ∷ 0 ∷ 0 ∷ 0 ∷ 0 ∷ 0 ∷ 0 ∷ []) [] fresh) (107 ∷ []) (pos 0) (replicate 32 7) 6 ∷
    -- 38 bytes are carried; an empty portion, which is not the end, changes nothing
    row (session (1 ∷ 0 ∷ 0 ∷ 38 ∷ []) (0 ∷ 0 ∷ 0 ∷ 0 ∷ 0 ∷ 0 ∷ 0 ∷ 0 ∷ 0 ∷ 0 ∷ 0 ∷ 0 ∷ []) longest fresh) [] (pos 0) (replicate 3 7)
    0 (session (1 ∷ 0 ∷ 0 ∷ 38 ∷ []) (0 ∷ 0 ∷ 0 ∷ 0 ∷ 0 ∷ 0 ∷ 0 ∷ 0 ∷ 0 ∷ 0 ∷ 0 ∷ 0 ∷ []) longest fresh) (replicate 3 7) (0 ∷ 0 ∷ 0 ∷ 0 ∷ 0 ∷ 0 ∷ 0 ∷ 0 ∷ 0 ∷ 0 ∷ 0 ∷ 0 ∷ 0 ∷ 0 ∷ 0 ∷ 0 ∷ []) (0 ∷ 0 ∷ 0 ∷ 0 ∷ 0 ∷ 0 ∷ 0 ∷ 0 ∷ []) ∷
    -- counts of which one is over 16 MiB
    row (session (1 ∷ 0 ∷ 0 ∷ 0 ∷ []) (192 ∷ 39 ∷ 9 ∷ 0 ∷ 0 ∷ 36 ∷ 244 ∷ 0 ∷ 64 ∷ 208 ∷ 27 ∷ 1 ∷ []) [] fresh) [] (pos 0) []
    0 (session (1 ∷ 0 ∷ 0 ∷ 0 ∷ []) (192 ∷ 39 ∷ 9 ∷ 0 ∷ 0 ∷ 36 ∷ 244 ∷ 0 ∷ 64 ∷ 208 ∷ 27 ∷ 1 ∷ []) [] fresh) [] (0 ∷ 0 ∷ 0 ∷ 0 ∷ 192 ∷ 39 ∷ 9 ∷ 0 ∷ 0 ∷ 36 ∷ 244 ∷ 0 ∷ 64 ∷ 208 ∷ 27 ∷ 1 ∷ []) (0 ∷ 0 ∷ 0 ∷ 0 ∷ 0 ∷ 0 ∷ 0 ∷ 0 ∷ []) ∷
    -- stopped comes before the total, and the end before both
    same (session (1 ∷ 0 ∷ 1 ∷ 4 ∷ []) (32 ∷ 161 ∷ 7 ∷ 0 ∷ 250 ∷ 255 ∷ 255 ∷ 0 ∷ 0 ∷ 36 ∷ 244 ∷ 0 ∷ []) (107 ∷ 105 ∷ 110 ∷ 100 ∷ []) fresh) (61 ∷ 54 ∷ 10 ∷ []) (pos 0) (replicate 32 7) 7 ∷
    same (session (1 ∷ 1 ∷ 1 ∷ 4 ∷ []) (32 ∷ 161 ∷ 7 ∷ 0 ∷ 250 ∷ 255 ∷ 255 ∷ 0 ∷ 0 ∷ 36 ∷ 244 ∷ 0 ∷ []) (107 ∷ 105 ∷ 110 ∷ 100 ∷ []) fresh) (61 ∷ 54 ∷ 10 ∷ []) (pos 0) (replicate 32 7) 9 ∷
    -- a count of 39; "kind=-0" carried, or a whole record; a byte behind what is carried; a byte without a meaning
    same (session (1 ∷ 0 ∷ 0 ∷ 39 ∷ []) (0 ∷ 0 ∷ 0 ∷ 0 ∷ 0 ∷ 0 ∷ 0 ∷ 0 ∷ 0 ∷ 0 ∷ 0 ∷ 0 ∷ []) longest fresh) (107 ∷ []) (pos 0) (replicate 32 7) 6 ∷
    same (session (1 ∷ 0 ∷ 0 ∷ 7 ∷ []) (0 ∷ 0 ∷ 0 ∷ 0 ∷ 0 ∷ 0 ∷ 0 ∷ 0 ∷ 0 ∷ 0 ∷ 0 ∷ 0 ∷ []) (107 ∷ 105 ∷ 110 ∷ 100 ∷ 61 ∷ 45 ∷ 48 ∷ []) fresh) (107 ∷ []) (pos 0) (replicate 32 7) 6 ∷
    same (session (1 ∷ 0 ∷ 0 ∷ 19 ∷ []) (0 ∷ 0 ∷ 0 ∷ 0 ∷ 0 ∷ 0 ∷ 0 ∷ 0 ∷ 0 ∷ 0 ∷ 0 ∷ 0 ∷ []) (begun ++ (48 ∷ 10 ∷ [])) fresh) (107 ∷ []) (pos 0) (replicate 32 7) 6 ∷
    same (session (1 ∷ 0 ∷ 0 ∷ 0 ∷ []) (0 ∷ 0 ∷ 0 ∷ 0 ∷ 0 ∷ 0 ∷ 0 ∷ 0 ∷ 0 ∷ 0 ∷ 0 ∷ 0 ∷ []) (0 ∷ 0 ∷ 0 ∷ 0 ∷ 0 ∷ 0 ∷ 0 ∷ 0 ∷ 0 ∷ 0 ∷ 0 ∷ 0 ∷ 0 ∷ 0 ∷ 0 ∷ 0 ∷ 0 ∷ 0 ∷ 0 ∷ 0 ∷ 0 ∷ 0 ∷ 0 ∷ 0 ∷ 0 ∷ 0 ∷ 0 ∷ 0 ∷ 0 ∷ 0 ∷ 0 ∷ 0 ∷ 0 ∷ 0 ∷ 0 ∷ 0 ∷ 0 ∷ 1 ∷ []) fresh) (107 ∷ []) (pos 0) (replicate 32 7) 6 ∷
    same (session (1 ∷ 0 ∷ 0 ∷ 0 ∷ []) (0 ∷ 0 ∷ 0 ∷ 0 ∷ 0 ∷ 0 ∷ 0 ∷ 0 ∷ 0 ∷ 0 ∷ 0 ∷ 0 ∷ []) (replicate 111 0 ++ (1 ∷ [])) fresh) (107 ∷ []) (pos 0) (replicate 32 7) 6 ∷
    -- counts that do not fit: a record of 18 bytes, of 40; an answer of 30, of 34; a total over 16 MiB
    same (session (1 ∷ 0 ∷ 0 ∷ 0 ∷ []) (1 ∷ 0 ∷ 0 ∷ 0 ∷ 18 ∷ 0 ∷ 0 ∷ 0 ∷ 31 ∷ 0 ∷ 0 ∷ 0 ∷ []) [] fresh) (107 ∷ []) (pos 0) (replicate 32 7) 6 ∷
    same (session (1 ∷ 0 ∷ 0 ∷ 0 ∷ []) (1 ∷ 0 ∷ 0 ∷ 0 ∷ 40 ∷ 0 ∷ 0 ∷ 0 ∷ 31 ∷ 0 ∷ 0 ∷ 0 ∷ []) [] fresh) (107 ∷ []) (pos 0) (replicate 32 7) 6 ∷
    same (session (1 ∷ 0 ∷ 0 ∷ 0 ∷ []) (1 ∷ 0 ∷ 0 ∷ 0 ∷ 19 ∷ 0 ∷ 0 ∷ 0 ∷ 30 ∷ 0 ∷ 0 ∷ 0 ∷ []) [] fresh) (107 ∷ []) (pos 0) (replicate 32 7) 6 ∷
    same (session (1 ∷ 0 ∷ 0 ∷ 0 ∷ []) (1 ∷ 0 ∷ 0 ∷ 0 ∷ 19 ∷ 0 ∷ 0 ∷ 0 ∷ 34 ∷ 0 ∷ 0 ∷ 0 ∷ []) [] fresh) (107 ∷ []) (pos 0) (replicate 32 7) 6 ∷
    same (session (1 ∷ 0 ∷ 0 ∷ 7 ∷ []) (32 ∷ 161 ∷ 7 ∷ 0 ∷ 250 ∷ 255 ∷ 255 ∷ 0 ∷ 0 ∷ 36 ∷ 244 ∷ 0 ∷ []) (107 ∷ 105 ∷ 110 ∷ 100 ∷ 61 ∷ 49 ∷ 50 ∷ []) fresh) (107 ∷ []) (pos 0) (replicate 32 7) 6 ∷
    -- the end declared, not stopped and something carried; stopped and nothing carried; a chip that code 6 refuses, or that is none
    same (session (1 ∷ 1 ∷ 0 ∷ 6 ∷ []) (0 ∷ 0 ∷ 0 ∷ 0 ∷ 0 ∷ 0 ∷ 0 ∷ 0 ∷ 0 ∷ 0 ∷ 0 ∷ 0 ∷ []) (107 ∷ 105 ∷ 110 ∷ 100 ∷ 61 ∷ 49 ∷ []) fresh) (107 ∷ []) (pos 0) (replicate 32 7) 6 ∷
    same (session (1 ∷ 1 ∷ 1 ∷ 0 ∷ []) (0 ∷ 0 ∷ 0 ∷ 0 ∷ 0 ∷ 0 ∷ 0 ∷ 0 ∷ 0 ∷ 0 ∷ 0 ∷ 0 ∷ []) [] fresh) (107 ∷ []) (pos 0) (replicate 32 7) 6 ∷
    same (session (1 ∷ 0 ∷ 0 ∷ 0 ∷ []) (0 ∷ 0 ∷ 0 ∷ 0 ∷ 0 ∷ 0 ∷ 0 ∷ 0 ∷ 0 ∷ 0 ∷ 0 ∷ 0 ∷ []) [] runs) (107 ∷ []) (pos 0) (replicate 32 7) 6 ∷
    same (session (1 ∷ 0 ∷ 0 ∷ 0 ∷ []) (0 ∷ 0 ∷ 0 ∷ 0 ∷ 0 ∷ 0 ∷ 0 ∷ 0 ∷ 0 ∷ 0 ∷ 0 ∷ 0 ∷ []) [] earlier) (107 ∷ []) (pos 0) (replicate 32 7) 6 ∷
    same (session (1 ∷ 0 ∷ 0 ∷ 0 ∷ []) (0 ∷ 0 ∷ 0 ∷ 0 ∷ 0 ∷ 0 ∷ 0 ∷ 0 ∷ 0 ∷ 0 ∷ 0 ∷ 0 ∷ []) [] (2 ∷ [])) (107 ∷ []) (pos 0) (replicate 32 7) 6 ∷
    -- another length of any; an end that is neither 0 nor 1
    record { session = replicate 255 0; portion = (107 ∷ []); end = pos 0; output = replicate 32 7; report = replicate 16 9; progress = replicate 8 9; wanted = record { code = 2; session = replicate 255 0; output = replicate 32 7; report = replicate 16 9; progress = replicate 8 9 } } ∷
    record { session = ((session (1 ∷ 0 ∷ 0 ∷ 0 ∷ []) (0 ∷ 0 ∷ 0 ∷ 0 ∷ 0 ∷ 0 ∷ 0 ∷ 0 ∷ 0 ∷ 0 ∷ 0 ∷ 0 ∷ []) [] fresh) ++ (0 ∷ [])); portion = (107 ∷ []); end = pos 0; output = replicate 32 7; report = replicate 16 9; progress = replicate 8 9; wanted = record { code = 2; session = ((session (1 ∷ 0 ∷ 0 ∷ 0 ∷ []) (0 ∷ 0 ∷ 0 ∷ 0 ∷ 0 ∷ 0 ∷ 0 ∷ 0 ∷ 0 ∷ 0 ∷ 0 ∷ 0 ∷ []) [] fresh) ++ (0 ∷ [])); output = replicate 32 7; report = replicate 16 9; progress = replicate 8 9 } } ∷
    record { session = []; portion = (107 ∷ []); end = pos 0; output = replicate 32 7; report = replicate 16 9; progress = replicate 8 9; wanted = record { code = 2; session = []; output = replicate 32 7; report = replicate 16 9; progress = replicate 8 9 } } ∷
    record { session = (session (1 ∷ 0 ∷ 0 ∷ 0 ∷ []) (0 ∷ 0 ∷ 0 ∷ 0 ∷ 0 ∷ 0 ∷ 0 ∷ 0 ∷ 0 ∷ 0 ∷ 0 ∷ 0 ∷ []) [] fresh); portion = (107 ∷ []); end = pos 0; output = replicate 32 7; report = replicate 15 9; progress = replicate 8 9; wanted = record { code = 2; session = (session (1 ∷ 0 ∷ 0 ∷ 0 ∷ []) (0 ∷ 0 ∷ 0 ∷ 0 ∷ 0 ∷ 0 ∷ 0 ∷ 0 ∷ 0 ∷ 0 ∷ 0 ∷ 0 ∷ []) [] fresh); output = replicate 32 7; report = replicate 15 9; progress = replicate 8 9 } } ∷
    record { session = (session (1 ∷ 0 ∷ 0 ∷ 0 ∷ []) (0 ∷ 0 ∷ 0 ∷ 0 ∷ 0 ∷ 0 ∷ 0 ∷ 0 ∷ 0 ∷ 0 ∷ 0 ∷ 0 ∷ []) [] fresh); portion = (107 ∷ []); end = pos 0; output = replicate 32 7; report = replicate 17 9; progress = replicate 8 9; wanted = record { code = 2; session = (session (1 ∷ 0 ∷ 0 ∷ 0 ∷ []) (0 ∷ 0 ∷ 0 ∷ 0 ∷ 0 ∷ 0 ∷ 0 ∷ 0 ∷ 0 ∷ 0 ∷ 0 ∷ 0 ∷ []) [] fresh); output = replicate 32 7; report = replicate 17 9; progress = replicate 8 9 } } ∷
    record { session = (session (1 ∷ 0 ∷ 0 ∷ 0 ∷ []) (0 ∷ 0 ∷ 0 ∷ 0 ∷ 0 ∷ 0 ∷ 0 ∷ 0 ∷ 0 ∷ 0 ∷ 0 ∷ 0 ∷ []) [] fresh); portion = (107 ∷ []); end = pos 0; output = replicate 32 7; report = replicate 16 9; progress = replicate 7 9; wanted = record { code = 2; session = (session (1 ∷ 0 ∷ 0 ∷ 0 ∷ []) (0 ∷ 0 ∷ 0 ∷ 0 ∷ 0 ∷ 0 ∷ 0 ∷ 0 ∷ 0 ∷ 0 ∷ 0 ∷ 0 ∷ []) [] fresh); output = replicate 32 7; report = replicate 16 9; progress = replicate 7 9 } } ∷
    record { session = (session (1 ∷ 0 ∷ 0 ∷ 0 ∷ []) (0 ∷ 0 ∷ 0 ∷ 0 ∷ 0 ∷ 0 ∷ 0 ∷ 0 ∷ 0 ∷ 0 ∷ 0 ∷ 0 ∷ []) [] fresh); portion = (107 ∷ []); end = pos 0; output = replicate 32 7; report = replicate 16 9; progress = replicate 9 9; wanted = record { code = 2; session = (session (1 ∷ 0 ∷ 0 ∷ 0 ∷ []) (0 ∷ 0 ∷ 0 ∷ 0 ∷ 0 ∷ 0 ∷ 0 ∷ 0 ∷ 0 ∷ 0 ∷ 0 ∷ 0 ∷ []) [] fresh); output = replicate 32 7; report = replicate 16 9; progress = replicate 9 9 } } ∷
    record { session = (session (1 ∷ 0 ∷ 0 ∷ 0 ∷ []) (0 ∷ 0 ∷ 0 ∷ 0 ∷ 0 ∷ 0 ∷ 0 ∷ 0 ∷ 0 ∷ 0 ∷ 0 ∷ 0 ∷ []) [] fresh); portion = (107 ∷ []); end = pos 2; output = replicate 32 7; report = replicate 16 9; progress = replicate 8 9; wanted = record { code = 2; session = (session (1 ∷ 0 ∷ 0 ∷ 0 ∷ []) (0 ∷ 0 ∷ 0 ∷ 0 ∷ 0 ∷ 0 ∷ 0 ∷ 0 ∷ 0 ∷ 0 ∷ 0 ∷ 0 ∷ []) [] fresh); output = replicate 32 7; report = replicate 16 9; progress = replicate 8 9 } } ∷
    record { session = (session (1 ∷ 0 ∷ 0 ∷ 0 ∷ []) (0 ∷ 0 ∷ 0 ∷ 0 ∷ 0 ∷ 0 ∷ 0 ∷ 0 ∷ 0 ∷ 0 ∷ 0 ∷ 0 ∷ []) [] fresh); portion = (107 ∷ []); end = negsuc 0; output = replicate 32 7; report = replicate 16 9; progress = replicate 8 9; wanted = record { code = 2; session = (session (1 ∷ 0 ∷ 0 ∷ 0 ∷ []) (0 ∷ 0 ∷ 0 ∷ 0 ∷ 0 ∷ 0 ∷ 0 ∷ 0 ∷ 0 ∷ 0 ∷ 0 ∷ 0 ∷ []) [] fresh); output = replicate 32 7; report = replicate 16 9; progress = replicate 8 9 } } ∷
    []

abbrev pub FeedCases : Type 0
FeedCases =
    map (λ (r : Row). feed_into r.session r.portion r.end r.output r.report r.progress) feed_rows ≡ map (λ (r : Row). r.wanted) feed_rows
