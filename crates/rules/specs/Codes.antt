-- Answer codes: the number of each, and the words of document 01's table. Assumes nothing.
use Rattle.std.specs.Prelude.{ℕ, Bool, eqb}
use Rattle.rules.specs.declared.answer.Code.{Code}
use Rattle.rules.specs.declared.answer.Code.TheVariants.{Done, BadKind, BadField, Unheard, NoStart, NoEnd, IllFormed}

abbrev pub number_of : Code → ℕ
-- "done"
number_of Done = 0
-- "kind outside 0..7"
number_of BadKind = 1
-- "a field out of its range, or an unused field not 0; also a bad address .."
number_of BadField = 2
-- "not acknowledged"
number_of Unheard = 3
-- "kind 6 in standby, or while a conversion runs"
number_of NoStart = 4
-- "kind 7 while no conversion runs"
number_of NoEnd = 5
-- "state not well formed"
number_of IllFormed = 6

-- "With code 0"
abbrev pub is_done : Code → Bool
is_done code = eqb (number_of code) 0
