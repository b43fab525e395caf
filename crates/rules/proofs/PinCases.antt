-- The table of pin 6 holds of the rules, by computation. Assumes nothing.
use mathlib.Core.Path.{refl}
use Rattle.rules.specs.PinCases.{PinCases, pin_rows}
use Rattle.rules.specs.Trial.{answered_at, answered_from, gots, wants}
use Rattle.rules.proofs.Tables.{opened}

pub pin_cases : PinCases
unfolding opened answered_at answered_from gots wants pin_rows
pin_cases = refl
