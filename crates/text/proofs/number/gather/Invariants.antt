-- What is left to gather, onto what was, gives the same as the whole.
use Rattle.std.proofs.Common.{◌-◌, ◌≡◌, ◌^◌, ◌<◌}
use Rattle.text_rules.specs.Number.{gather_from, digits_of}
use Rattle.text.proofs.number.gather.Given as goal

abbrev pub invariant-loop-count : goal.invariant-loop-count
invariant-loop-count l = (l.value < 10 ^ l.count) × (digits_of l.s ≡ gather_from (5 - l.count) l.value l.count l.s)
