-- `blocks::joined`: both copies are whole. Assumes nothing.
use native.Mathlib.Omega.{arith}
use Rattle.blocks.proofs.Parts.{joins, length_zeros}
use Rattle.blocks.proofs.joined.Goals as goal

pub returns : goal.returns
returns g c = joins g.row.N c.min-n.result c.min-k.result c.args.a.now c.args.b.now c.copy_from_slice.new.self c.copy_from_slice-2.new.self (omega (arith, c.min-n.ensures, length_zeros g.row.N)) (omega (arith, c.min-k.ensures, length_zeros g.row.N)) c.copy_from_slice.ensures.after c.copy_from_slice-2.ensures.after
