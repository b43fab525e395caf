-- Each part stands behind those before it, and together they are the answer's four lines.
use Rattle.std.proofs.Common.{ℕ, Bool, ◌≡◌, [], ◌∷◌, ◌++◌, arith}
use Rattle.std.proofs.lemmas.List.{append_assoc}
use Rattle.text_rules.specs.Names.{code_name, reply_name, alert_name, therm_name}
use Rattle.text_rules.specs.Answer.{answer_text, decimal_of, level, line_text}
use Rattle.text_rules.proofs.Put.{front_room, front_then}
use Rattle.text_rules.proofs.Size.{few_digits}
use Rattle.text.proofs.answer.put_quickly.Goals as goal

parts : (code reply : ℕ) (alert therm : Bool) → answer_text code reply alert therm ≡ ((line_text code_name code ++ reply_name) ++ decimal_of reply) ++ (((10 ∷ []) ++ line_text alert_name (level alert)) ++ line_text therm_name (level therm))
unfolding answer_text line_text
parts code reply alert therm = simp append_assoc

pub put_decimal-requires : goal.put_decimal-requires
put_decimal-requires c =
    let h = c.put_head-n.ensures in
    front_room h.front (omega (arith, few_digits c.args.a.reply, c.requires.in_bounds, h.value))

pub put_tail-requires : goal.put_tail-requires
put_tail-requires c =
    let h = c.put_head-n.ensures in
    let d = c.put_decimal.ensures in
    front_room (front_then h.front d) (omega (arith, few_digits c.args.a.reply, c.requires.in_bounds, h.value, d.count))

pub returns : goal.returns
returns c =
    rw (parts c.args.a.code c.args.a.reply c.args.a.alert c.args.a.therm) (front_then (front_then c.put_head-n.ensures.front c.put_decimal.ensures) c.put_tail.ensures)
