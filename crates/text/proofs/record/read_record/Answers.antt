-- Each of the four lines is read from where the one before it ended, lies in the part, and has a number that is kept as it is.
use Rattle.std.proofs.Common.{◌+◌, sym, arith}
use Rattle.text_rules.specs.Names.{kind_name, a_name, b_name, c_name}
use Rattle.text_rules.specs.Record.{record_of}
use Rattle.text_rules.proofs.Signed.{kept}
use Rattle.text_rules.proofs.Lines.{read_between}
use Rattle.text.proofs.Read.{here}
use Rattle.text.proofs.record.read_record.Goals as goal

pub overflow_add-result : goal.overflow_add-result
overflow_add-result c =
    let s = c.args.s.now in
    let x = read_between kind_name s (sym c.in_ok-kind.ensures) in
    let y = here a_name s c.in_ok-kind.n x.1 (sym c.in_ok-a.ensures) in
    let z = here b_name s (c.in_ok-kind.n + c.in_ok-a.m) y.room (sym c.in_ok-b.ensures) in
    let w = here c_name s (c.in_ok-kind.n + c.in_ok-a.m + c.in_ok-b.m) z.room (sym c.in_ok-c.ensures) in
    omega (arith, w.room, c.well_formed)

pub returns : goal.returns
unfolding record_of
returns c =
    let s = c.args.s.now in
    let x = read_between kind_name s (sym c.in_ok-kind.ensures) in
    let y = here a_name s c.in_ok-kind.n x.1 (sym c.in_ok-a.ensures) in
    let z = here b_name s (c.in_ok-kind.n + c.in_ok-a.m) y.room (sym c.in_ok-b.ensures) in
    let w = here c_name s (c.in_ok-kind.n + c.in_ok-a.m + c.in_ok-b.m) z.room (sym c.in_ok-c.ensures) in
    rw (← c.in_ok-kind.ensures, y.is, z.is, w.is, kept c.in_ok-kind.kind x.2, y.same, z.same, w.same)
