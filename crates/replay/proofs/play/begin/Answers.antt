-- `replay::play::begin`: a play that has not begun. Assumes nothing.
use mathlib.Core.Path.{refl}
use Rattle.replay_rules.proofs.Plays.{mid_as, mid_start}
use Rattle.replay.proofs.play.begin.Goals as goal

pub returns-clause-mid : goal.returns-clause-mid
returns-clause-mid c = mid_as (mid_start _ _ _) refl refl c.holding.ensures
