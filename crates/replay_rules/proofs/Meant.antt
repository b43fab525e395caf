-- What a turn, a run's first turn, a report's numbers and the promises mean. Assumes nothing.
use Rattle.std.specs.Prelude.{Option, Some, None, Ok, Err}
use Prim.Native.Nat.{ℕ, zero, suc, ◌-◌, ◌<◌}
use native.Mathlib.Omega.{arith}
use mathlib.Core.Path.{◌≡◌, refl}
use mathlib.Core.List.{List, [], ◌∷◌}
use lib.ListN.{length, drop}
use lib.Dec.{eqb}
use mathlib.Core.Bool.{Bool, true, false, cond}
use borrow.Author.Tests.{eq-eqb, le-leb, lt-leb, ne_eqb}
use Rattle.rules.specs.declared.state.State.{State}
use Rattle.text_rules.specs.declared.record.Unread.{Unread}
use Rattle.text_rules.specs.declared.record.Unread.TheVariants.{Part, Malformed}
use Rattle.text_rules.specs.Record.{parsed_code}
use Rattle.replay_rules.specs.declared.play.Stop.{Stop}
use Rattle.replay_rules.specs.Meant.{AnyCodeRefused, NumbersMean, OverMeans, PromisesMet, ReportsMean, RoomMeans, RunsBegin, ShownMeans, TurnsMean, WordsMean}
use Rattle.replay_rules.specs.Play.{Run, Turn, added_of, begun, end_code, ended, on_turn, run_from, run_of, stop_code, turn_code, turn_from, turn_of, went}
use Rattle.replay_rules.specs.Replay.{replay_from, report_of}
use Rattle.replay_rules.proofs.Words.{word_back}

pub turns_mean : TurnsMean
unfolding turn_of
turns_mean s rest room =
    record {
      on = λ r n e fits. rw (e, le-leb _ _ fits);
      full = λ r n e over. rw (e, lt-leb _ _ over);
      part = λ e. rw e;
      bad = λ e. rw e;
    }

begins : (s : State) (room : ℕ) (trace : List ℕ) (stop : Stop) → 0 < length trace → turn_of s trace room ≡ Err stop → run_of s trace room ≡ record { code = stop_code stop; records = 0; used = 0; text = []; state = s }
unfolding run_from run_of
begins s room [] stop h e = absurd (omega arith)
begins s room (x ∷ xs) stop h e = rw (e, ne_eqb (suc (length xs)) 0 (λ z. omega arith))

pub runs_begin : RunsBegin
unfolding run_from run_of
runs_begin s room = record { empty = refl; stopped = begins s room }

pub words_mean : WordsMean
words_mean = (refl, refl, refl)

pub reports_mean : ReportsMean
unfolding report_of
reports_mean p =
    record {
      code = λ h. word_back p.code h;
      records = λ h. word_back p.records h;
      used = λ h. word_back p.used h;
      written = λ h. word_back (length p.text) h;
    }

pub room_means : RoomMeans
room_means full over h = omega (arith, h)

pub any_code_refused : AnyCodeRefused
unfolding replay_from
any_code_refused code s trace output report n = rw (ne_eqb code 0 n)

pub over_means : OverMeans
over_means size bytes before =
    record { fits = λ e. rw (eq-eqb (length before) size e); other = λ n. rw (ne_eqb (length before) size n) }

pub shown_means : ShownMeans
shown_means = (λ code reply alert therm. refl, λ a. refl)

-- a record that is not read stops its turn with the number of what stands there
not_read : (s : State) (room : ℕ) (e : Unread) → turn_code (turn_from s room (Err e)) ≡ parsed_code (Err e)
not_read s room Part = refl
not_read s room Malformed = refl

pub numbers_mean : NumbersMean
unfolding turn_of
numbers_mean =
    record {
      whole = λ r n. refl;
      part = refl;
      malformed = refl;
      written = λ n. refl;
      full = refl;
      went = λ s n k. refl;
      unread = refl;
      lacking = λ s rest room e h. rw h (not_read s room e);
      stopped = refl;
      ended = refl;
      stop = λ stop. refl;
    }

-- what stops a run is one of the two, or nothing
pub stops : (turns : ℕ) (p : Run) (rest : List ℕ) (room : ℕ) → (stop : Option Stop) × (end_code stop ≡ (run_from turns p rest room).code)
unfolding run_from
stops zero p rest room = (None, refl)
stops (suc turns) p rest room = by (λ s n k. stops turns (went p s n (added_of p.state rest room)) (drop n rest) (room - k)) (eqb (length rest) 0) (turn_of p.state rest room)
  where
    by : ((s : State) (n k : ℕ) → (stop : Option Stop) × (end_code stop ≡ (run_from turns (went p s n (added_of p.state rest room)) (drop n rest) (room - k)).code)) → (b : Bool) (t : Turn) → (stop : Option Stop) × (end_code stop ≡ (cond b (ended p 0) (on_turn t (λ s n k. run_from turns (went p s n (added_of p.state rest room)) (drop n rest) (room - k)) (λ code. ended p code))).code)
    by more true t = (None, refl)
    by more false (Ok g) = more g.state g.used g.written
    by more false (Err stop) = (Some stop, refl)

pub promises_met : PromisesMet
unfolding run_of
promises_met s rest before wanted =
    record {
      turned = record { said = refl; bytes = refl };
      ran = (
        (stops (length rest) (begun s) rest (length before)).0,
        λ p e. rw (← e) (record { code = (stops (length rest) (begun s) rest (length before)).1; records = refl; used = refl; written = refl; state = refl; bytes = refl }),
      );
      replayed = record { code = refl; bytes = refl; told = refl };
    }
