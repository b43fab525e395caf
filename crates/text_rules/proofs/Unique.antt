-- No second answer satisfies a writer's promise. Assumes nothing.
use Prim.Native.Nat.{ℕ}
use mathlib.Core.Path.{◌≡◌, sym, ◌∙◌}
use mathlib.Core.List.{List}
use Rattle.std.specs.Prelude.{Option}
use Rattle.text_rules.specs.Answer.{Put}

pub one_put : {text before after after' : List ℕ} {r r' : Option ℕ} → Put text before after r → Put text before after' r' → (r ≡ r') × (after ≡ after')
one_put p q = (p.said ∙ sym q.said, p.bytes ∙ sym q.bytes)
