-- The counts of a session: which do not fit, and how large those that fit can be. Assumes nothing.
use Prim.Native.Nat.{◌+◌, ◌*◌, ◌≤◌}
use mathlib.Core.Path.{◌≡◌}
use mathlib.Core.Bool.{Bool, true, ◌&&◌}
use lib.Dec.{leb}
use borrow.Author.Tests.{leb-true}
use Rattle.rules.specs.WellFormed.{well_formed}
use Rattle.rules.proofs.Lists.{left, right}
use Rattle.text_rules.specs.Sizes.{longest_answer, longest_record, shortest_answer, shortest_record}
use Rattle.session_rules.specs.declared.session.Session.{Session}
use Rattle.session_rules.specs.Session.{carried_fits, counts_fit, end_fits, is_session}

-- what fits, but for the total
abbrev before : Session → Bool
before s =
    leb (shortest_record * s.records) s.used && leb s.used (longest_record * s.records)
    && (leb (shortest_answer * s.records) s.written && leb s.written (longest_answer * s.records))

-- what a session has taken and carries is no more than a trace may have
pub session_fits : (s : Session) → is_session s ≡ true → s.used + s.count ≤ 16777216
unfolding is_session
session_fits s e =
    leb-true (s.used + s.count) 16777216
    (right (before s) (leb (s.used + s.count) 16777216)
    (right (well_formed s.chip) (counts_fit s)
    (left (well_formed s.chip && counts_fit s) (carried_fits s)
    (left (well_formed s.chip && counts_fit s && carried_fits s) (end_fits s) e))))
