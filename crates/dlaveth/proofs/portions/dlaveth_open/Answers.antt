-- `dlaveth::portions::dlaveth_open`: of another length, or what its callees ensure. Assumes nothing.
use Rattle.std.specs.Prelude.{FitsSigned}
use mathlib.Core.Path.{ap, refl, ◌∙◌}
use lib.IntN.ℤ.{pos}
use borrow.Author.Tests.{ne_eqb}
use mir.Syntax.{w32}
use mir.Facts.{to_z-of_z}
use Rattle.session_rules.specs.Face.{open_of}
use Rattle.session_rules.proofs.Faced.{opened}
use Rattle.dlaveth.proofs.portions.dlaveth_open.Goals as goal

pub returns-then-session-ne256 : goal.returns-then-session-ne256
unfolding open_of
returns-then-session-ne256 c = rw (ne_eqb _ _ c.if-session-ne256.true) (record { code = refl; bytes = refl })

pub returns : goal.returns
returns c =
    let h : FitsSigned w32 c.from.result = record { sfits = c.from.type_inv } in
    opened _ _ c.if-session-ne256.false (rw (to_z-of_z c.ranges.address) at c.open-opened.ensures) c.place_session.ensures
    (to_z-of_z h ∙ c.from.ensures ∙ ap pos c.code_number.ensures.value)
