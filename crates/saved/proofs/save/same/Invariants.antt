-- `saved::save::same`: where all bytes so far are the same, the rest decides.
use Prim.Native.Nat.{◌≤◌}
use mathlib.Core.Path.{◌≡◌}
use mathlib.Core.Bool.{false, cond}
use lib.ListN.{length, drop}
use Rattle.saved_rules.specs.Layout.{same_bytes}
use Rattle.saved.proofs.save.same.Given as goal

abbrev pub invariant-loop-i : goal.invariant-loop-i
invariant-loop-i l = ((l.i ≤ length l.a) × (length l.a ≡ length l.b)) × (same_bytes l.a l.b ≡ cond l.all (same_bytes (drop l.i l.a) (drop l.i l.b)) false)
