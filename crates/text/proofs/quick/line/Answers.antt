-- Two bytes side by side are those of the name, and a number stands behind them.
use Rattle.std.proofs.Common.{◌≡◌, get_or, arith}
use borrow.Author.Rules.{part_to_end}
use Rattle.text_rules.proofs.Lines.{read_between}
use Rattle.text_rules.proofs.Signed.{kept}
use Rattle.text.proofs.Read.{letter_line}
use Rattle.text.proofs.quick.line.Goals as goal

pub returns : goal.returns
returns c =
    let s = c.args.s.now in
    let first : get_or s 0 0 ≡ c.args.letter = omega (arith, c.type_inv.s 0, c.type_inv.s 1) in
    let second : get_or s 1 0 ≡ 61 = omega (arith, c.type_inv.s 0, c.type_inv.s 1) in
    let r = c.in_ok-value.ensures in
    let e = rw (part_to_end s 2) at r.0 in
    let l = letter_line s c.args.letter (omega arith) first second e in
    (rw (kept _ (read_between _ s l).2) l, omega arith)
