-- "each a name, an equals sign and a number with no spaces", "each ended by byte 10". Assumes nothing.
use Rattle.std.specs.Prelude.{ℕ, cond, List, [], ◌∷◌, eqb, length, drop, Err}
use Rattle.text_rules.specs.declared.record.Unread.TheVariants.{Part, Malformed}
use Rattle.text_rules.specs.declared.line.Fit.{Fit}
use Rattle.text_rules.specs.declared.line.Fit.TheVariants.{Yes, Begun, No}
use Rattle.text_rules.specs.Number.{Line, longer, number_of}

-- s begins with the name; or it is a part of the name's beginning; or neither
unfoldable pub fit_of : List ℕ → List ℕ → Fit
fit_of [] s = Yes
fit_of (x ∷ xs) [] = Begun
fit_of (x ∷ xs) (y ∷ ys) = cond (eqb x y) (fit_of xs ys) No

-- l, where the name stands in front of it
abbrev pub behind_name : Fit → Line → Line
behind_name Yes l = l
behind_name Begun l = Err Part
behind_name No l = Err Malformed

unfoldable pub line_of : List ℕ → List ℕ → Line
line_of name s = behind_name (fit_of name s) (longer (length name) (number_of (drop (length name) s)))
