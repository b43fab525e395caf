-- Each turn gathers one digit more, with room for it.
use Rattle.std.proofs.Common.{◌≡◌, get_or, ℕ, suc, ◌+◌, ◌-◌, ◌*◌, ◌<◌, ◌≤◌, true, List, refl, ◌∙◌, arith, add-one}
use borrow.Author.Tests.{le-ltb}
use Rattle.text_rules.specs.Number.{is_digit, gather_from, digits_of}
use Rattle.text_rules.proofs.Digits.{grown}
use Rattle.text.proofs.number.gather.Goals as goal

digit : (b : ℕ) → 48 ≤ b → b ≤ 57 → is_digit b ≡ true
digit b h g = rw (le-ltb b 48 h, le-ltb 57 b g)

turn : (s : List ℕ) (v n b : ℕ) → n < 5 → b ≡ get_or s n 0 → is_digit b ≡ true → gather_from (5 - n) v n s ≡ gather_from (5 - (n + 1)) (v * 10 + (b - 48)) (n + 1) s
turn s v n b h read e = let left : 5 - n ≡ suc (5 - (n + 1)) = omega arith in rw (left, ← read, e)

pub loop-count-init : goal.loop-count-init
unfolding digits_of
loop-count-init c = (omega arith, refl)

pub loop-count-preserved : goal.loop-count-preserved
loop-count-preserved c =
    let l = c.loop-count in
    let b = c.byte_at-b in
    let range = rw c.if-not-is_ascii_digit.false at c.is_ascii_digit.ensures.cases in
    let d : is_digit b.result ≡ true = digit b.result (omega arith) (omega arith) in
    (rw add-one (grown l.value l.count b.result l.invariant.0 d), l.invariant.1 ∙ turn _ l.value l.count b.result (omega arith) b.ensures d)
