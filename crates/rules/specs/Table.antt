-- A table: what it has at a number. Assumes nothing.
use Rattle.std.specs.Prelude.{ℕ, cond, List, [], ◌∷◌, eqb}

-- what the table has at n, and other where it has nothing
abbrev pub look_up : {A : Type 0} → ℕ → List (ℕ × A) → A → A
look_up n [] other = other
look_up n (row ∷ rows) other = cond (eqb n row.0) row.1 (look_up n rows other)
