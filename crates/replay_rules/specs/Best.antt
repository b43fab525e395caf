-- Document 02, item 5: no lower rate would do. A trace of the shortest records, answered with the longest answers, and every lower rate is
-- too low for it. Proofs in proofs/Best.antt. Assumes nothing.
use Rattle.std.specs.Prelude.{ℕ, zero, suc, ◌+◌, ◌*◌, ◌/◌, ◌≤◌, ◌<◌, ◌≡◌, List, [], ◌∷◌, ◌++◌, length}
use Rattle.std.proofs.Math.IntN.ℤ.{pos}
use Rattle.text_rules.specs.Sizes.{longest_answer, shortest_answer, shortest_record}
use Rattle.replay_rules.specs.Alarms.{run_at}

-- three records as short as there are
unfoldable pub started : List ℕ
started =
    107 ∷ 105 ∷ 110 ∷ 100 ∷ 61 ∷ 54 ∷ 10 ∷  -- kind=6
    97 ∷ 61 ∷ 48 ∷ 10 ∷  -- a=0
    98 ∷ 61 ∷ 48 ∷ 10 ∷  -- b=0
    99 ∷ 61 ∷ 48 ∷ 10 ∷ []  -- c=0

unfoldable pub found_open : List ℕ
found_open =
    107 ∷ 105 ∷ 110 ∷ 100 ∷ 61 ∷ 55 ∷ 10 ∷  -- kind=7
    97 ∷ 61 ∷ 48 ∷ 10 ∷  -- a=0
    98 ∷ 61 ∷ 48 ∷ 10 ∷  -- b=0
    99 ∷ 61 ∷ 49 ∷ 10 ∷ []  -- c=1

unfoldable pub responds : List ℕ
responds =
    107 ∷ 105 ∷ 110 ∷ 100 ∷ 61 ∷ 53 ∷ 10 ∷  -- kind=5
    97 ∷ 61 ∷ 48 ∷ 10 ∷  -- a=0
    98 ∷ 61 ∷ 48 ∷ 10 ∷  -- b=0
    99 ∷ 61 ∷ 48 ∷ 10 ∷ []  -- c=0

unfoldable pub repeated : ℕ → List ℕ → List ℕ
repeated zero text = []
repeated (suc n) text = text ++ repeated n text

-- a conversion that finds the diode open: its flag keeps the latch set, so that each of so many alert responses is answered with three
-- digits, 2 * 76 + 1
abbrev pub hungry : ℕ → List ℕ
hungry n = started ++ (found_open ++ repeated n responds)

-- two short answers and so many of the longest, which is what it takes: as many records as the trace's length allows, or code 8
abbrev pub taking : ℕ → ℕ
taking n = 2 * shortest_answer + longest_answer * n

pub record Needs (n : ℕ) : Type 0 where
  pub size : length (hungry n) ≡ shortest_record * (n + 2)
  pub code : (room : ℕ) → taking n ≤ room → (run_at (pos 76) (hungry n) room).code ≡ 0
  pub records : (room : ℕ) → taking n ≤ room → (run_at (pos 76) (hungry n) room).records ≡ length (hungry n) / shortest_record
  pub text : (room : ℕ) → taking n ≤ room → length (run_at (pos 76) (hungry n) room).text ≡ taking n
  pub eight : (room : ℕ) → room < taking n → (run_at (pos 76) (hungry n) room).code ≡ 8

abbrev pub HungryNeeds : Type 0
HungryNeeds = (n : ℕ) → Needs n

-- a trace that is stopped by 8 with the room that is said for its length
pub record TooSmall (room : ℕ → ℕ) : Type 0 where
  pub trace : List ℕ
  pub stopped : (run_at (pos 76) trace (room (length trace))).code ≡ 8

-- so many bytes of output for each so many of trace: any rate below 33 for each 19 is too low, whatever is added to it once
abbrev pub NoLowerRate : Type 0
NoLowerRate = (answer each besides : ℕ) → answer * shortest_record < longest_answer * each → TooSmall (λ n. answer * (n / each) + besides)
