-- `saved::save::same`: a byte more decides as far as it goes, and at the end nothing is left to decide. Assumes nothing.
use Prim.Native.Nat.{ℕ, ◌≤◌}
use native.Mathlib.Omega.{arith}
use mathlib.Core.Path.{◌≡◌, sym, ◌∙◌}
use mathlib.Core.Bool.{Bool, true, false, cond}
use mathlib.Core.List.{List}
use lib.ListN.{length, drop, drop_of_length-le}
use Rattle.saved_rules.specs.Layout.{same_bytes}
use Rattle.saved_rules.proofs.Same.{further, other_length}
use Rattle.saved.proofs.save.same.Goals as goal

ended : (all : Bool) (xs ys : List ℕ) (i : ℕ) → length xs ≤ i → length ys ≤ i → same_bytes xs ys ≡ cond all (same_bytes (drop i xs) (drop i ys)) false → all ≡ same_bytes xs ys
unfolding same_bytes
ended true xs ys i p q e = sym (rw (drop_of_length-le xs p, drop_of_length-le ys q) at e)
ended false xs ys i p q e = sym e

pub returns-then-a-b : goal.returns-then-a-b
returns-then-a-b c = sym (other_length _ _ c.if-a-b.true)

pub loop-i-preserved : goal.loop-i-preserved
loop-i-preserved c =
    let l = c.loop-i in
    ((omega arith, l.invariant.0.1), l.invariant.1 ∙ further l.all _ _ l.i (omega arith) (omega arith))

pub returns : goal.returns
returns c = let l = c.loop-i in ended l.all _ _ l.i (omega arith) (omega arith) l.invariant.1
