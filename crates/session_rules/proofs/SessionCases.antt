-- The cases hold of a session's bytes and of the calls on them, by computation. Assumes nothing.
use mathlib.Core.Path.{refl}
use Rattle.rules.proofs.Tables.{opened}
use Rattle.saved_rules.specs.Layout.{front_of, same_bytes, save_of, state_at}
use Rattle.replay_rules.specs.Play.{run_from, run_of}
use Rattle.replay_rules.proofs.Examples as examples
use Rattle.session_rules.specs.Session.{is_session, opened_of, partial}
use Rattle.session_rules.specs.Portion.{feed_of, refused_with, report_after}
use Rattle.session_rules.specs.Bytes.{bytes_of, head_of, held_in, is_held}
use Rattle.session_rules.specs.Face.{feed_into, open_of}
use Rattle.session_rules.specs.SessionCases.{FeedCases, OpenCases, begun, busy, earlier, feed_rows, fresh, longest, openings, openings_wanted, other, runs, started}

pub open_cases : OpenCases
unfolding opened bytes_of front_of fresh head_of open_of opened_of openings openings_wanted other save_of
open_cases = refl

pub feed_cases : FeedCases
unfolding examples.opened begun busy bytes_of earlier feed_into feed_of feed_rows front_of fresh head_of held_in is_held is_session longest partial refused_with report_after run_from run_of runs same_bytes save_of started state_at
feed_cases = refl
