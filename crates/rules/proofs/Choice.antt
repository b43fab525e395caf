-- A choice by a test. Assumes nothing.
use mathlib.Core.Bool.{Bool, true, false, cond}

-- what both of its sides have, a choice has
pub whichever : {A : Type 0} (P : A → Type 0) (t : Bool) (x y : A) → P x → P y → P (cond t x y)
whichever P true x y p q = p
whichever P false x y p q = q
