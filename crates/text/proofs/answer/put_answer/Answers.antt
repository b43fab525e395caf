-- Each line stands behind those before it, and an answer is as long as its lines.
use Rattle.std.proofs.Common.{arith}
use Rattle.text_rules.specs.Answer.{answer_text}
use Rattle.text_rules.proofs.Put.{front_room, front_then}
use Rattle.text_rules.proofs.Size.{answer_lines}
use Rattle.text.proofs.answer.put_answer.Goals as goal

pub put_line-n-requires : goal.put_line-n-requires
put_line-n-requires c = let a = c.args.a in omega (arith, answer_lines a.code a.reply a.alert a.therm, c.requires)

pub put_line-requires : goal.put_line-requires
put_line-requires c =
    let a = c.args.a in
    let f = c.put_line-n.ensures in
    front_room f (omega (arith, answer_lines a.code a.reply a.alert a.therm, c.requires, f.count))

pub put_line-requires-2 : goal.put_line-requires-2
put_line-requires-2 c =
    let a = c.args.a in
    let f = c.put_line-n.ensures in
    let g = c.put_line.ensures in
    front_room (front_then f g) (omega (arith, answer_lines a.code a.reply a.alert a.therm, c.requires, f.count, g.count))

pub put_line-requires-3 : goal.put_line-requires-3
put_line-requires-3 c =
    let a = c.args.a in
    let f = c.put_line-n.ensures in
    let g = c.put_line.ensures in
    let h = c.put_line-2.ensures in
    front_room (front_then (front_then f g) h) (omega (arith, answer_lines a.code a.reply a.alert a.therm, c.requires, f.count, g.count, h.count))

pub returns : goal.returns
unfolding answer_text
returns c = front_then (front_then (front_then c.put_line-n.ensures c.put_line.ensures) c.put_line-2.ensures) c.put_line-3.ensures
