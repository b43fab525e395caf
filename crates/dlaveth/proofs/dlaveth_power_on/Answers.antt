-- `dlaveth::dlaveth_power_on`: of another length, or what its callees ensure. Assumes nothing.
use Rattle.std.specs.Prelude.{FitsSigned}
use mathlib.Core.Path.{ap, refl, ◌∙◌}
use lib.IntN.ℤ.{pos}
use borrow.Author.Tests.{ne_eqb}
use mir.Syntax.{w32}
use mir.Facts.{to_z-of_z}
use Rattle.saved_rules.specs.Face.{power_on_of}
use Rattle.saved_rules.proofs.Faced.{powered}
use Rattle.dlaveth.proofs.dlaveth_power_on.Goals as goal

pub returns-then-chip-ne128 : goal.returns-then-chip-ne128
unfolding power_on_of
returns-then-chip-ne128 c = rw (ne_eqb _ _ c.if-chip-ne128.true) (record { code = refl; bytes = refl })

pub returns : goal.returns
returns c =
    let h : FitsSigned w32 c.from.result = record { sfits = c.from.type_inv } in
    powered _ _ c.if-chip-ne128.false (rw (to_z-of_z c.ranges.address) at c.fresh-made.ensures) c.place.ensures
    (to_z-of_z h ∙ c.from.ensures ∙ ap pos c.code_number.ensures.value)
