-- The name, then the digits, then the byte 10, each behind what stands.
use Rattle.std.proofs.Common.{arith}
use Rattle.text_rules.proofs.Put.{front_room, front_then}
use Rattle.text_rules.proofs.Size.{line_length, line_parts}
use Rattle.text.proofs.answer.put_line.Goals as goal

pub put_text-i-requires : goal.put_text-i-requires
put_text-i-requires c = omega (arith, line_length c.args.name.now c.args.n, c.requires)

pub put_decimal-requires : goal.put_decimal-requires
put_decimal-requires c =
    let f = c.put_text-i.ensures in
    front_room f (omega (arith, line_length c.args.name.now c.args.n, c.requires, f.count))

pub put_text-requires : goal.put_text-requires
put_text-requires c =
    let f = c.put_text-i.ensures in
    let d = c.put_decimal.ensures in
    front_room (front_then f d) (omega (arith, line_length c.args.name.now c.args.n, c.requires, f.count, d.count))

pub returns : goal.returns
returns c = rw (line_parts c.args.name.now c.args.n) (front_then (front_then c.put_text-i.ensures c.put_decimal.ensures) c.put_text.ensures)
