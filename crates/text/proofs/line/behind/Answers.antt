use lib.ListN.{drop_of_length-le}
use Rattle.text_rules.specs.Number.{digits_of, plain_of, number_of}
use Rattle.text.proofs.line.behind.Goals as goal

-- nothing stands there yet
pub returns-then-s-k : goal.returns-then-s-k
unfolding number_of plain_of digits_of
returns-then-s-k c = rw (drop_of_length-le c.args.s.now c.if-s-k.true)
