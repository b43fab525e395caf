-- No second answer satisfies what is promised of a trace. Assumes nothing.
use Prim.Native.Nat.{ℕ}
use mathlib.Core.Path.{◌≡◌, sym, ◌∙◌}
use mathlib.Core.List.{List}
use Rattle.console_rules.specs.Console.{Written}

pub one_text : {trace before after after' : List ℕ} {r r' : ℕ} → Written trace before after r → Written trace before after' r' → (r ≡ r') × (after ≡ after')
one_text p q = (p.count ∙ sym q.count, p.bytes ∙ sym q.bytes)
