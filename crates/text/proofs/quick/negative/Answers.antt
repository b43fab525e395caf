-- A minus sign, a first digit that is not 0, and the digits behind it.
use Rattle.std.proofs.Common.{◌∙◌, true, arith}
use borrow.Author.Rules.{part_to_end}
use Rattle.text_rules.proofs.Signed.{kept, mag_signed, negated}
use Rattle.text.proofs.Read.{signed_number}
use Rattle.text.proofs.quick.negative.Goals as goal

pub returns : goal.returns
returns c =
    let s = c.args.s.now in
    let v = c.in_ok-value.value in
    let r = c.in_ok-value.ensures in
    let e = rw (part_to_end s 1) at r.0 in
    (signed_number s c.if-s-ne45.false c.if-s-eq48.false e ∙ rw (negated v r.1, kept _ (mag_signed true v r.1)), omega arith)
