-- A text put at the front of what is lent, in other words: where it fits, by one byte too, all of it and the rest as it was; where it does not,
-- nothing. The proofs are in proofs/PutCases.antt. Assumes nothing.
use Rattle.std.specs.Prelude.{ℕ, ◌<◌, ◌≡◌, List, ◌++◌, length, Some, None}
use Rattle.text_rules.specs.Answer.{Put}

pub record Placed (text : List ℕ) : Type 0 where
  pub fits : (over rest : List ℕ) → length over ≡ length text → Put text (over ++ rest) (text ++ rest) (Some (length text))
  pub full : (before : List ℕ) → length before < length text → Put text before before None

abbrev pub PutMeans : Type 0
PutMeans = (text : List ℕ) → Placed text
