-- The program's text: its two ways, refused or answered; and, by replay's laws of room, that code 8 is not given and the text
-- always fits. Assumes nothing.
use Rattle.std.specs.Prelude.{Option}
use Prim.Native.Nat.{ℕ, ◌+◌, ◌≤◌, ◌<◌}
use native.Mathlib.Omega.{arith}
use mathlib.Core.Path.{◌≡◌, refl, sym, ap, ◌∙◌}
use mathlib.Core.Bool.{Bool, true, false}
use mathlib.Core.List.{List, ◌++◌}
use lib.Dec.{ltb}
use lib.ListN.{length, length-append}
use borrow.Author.Tests.{lt-ltb, le-ltb, ltb-true, ltb-false}
use Rattle.text_rules.specs.Answer.{Front, Put}
use Rattle.text_rules.specs.Names.{end_name}
use Rattle.text_rules.proofs.Put.{front_room, front_then, put_fits}
use Rattle.text_rules.proofs.Size.{decimal_one, line_length}
use Rattle.replay_rules.specs.declared.play.Played.{Played}
use Rattle.replay_rules.specs.Play.{Ran, end_code, run_of}
use Rattle.replay_rules.specs.Replay.{replay_from}
use Rattle.replay_rules.specs.Room.{room_of}
use Rattle.replay_rules.proofs.Plays.{back, from}
use Rattle.replay_rules.proofs.Room.{answers_fit, no_eight, run_code, same_run}
use Rattle.console_rules.specs.Console.{DoesTheSame, NeverEight, TextFits, Written, answered, console_text, count_of, end_line, longest, most, run_on, start}

end_length : (code : ℕ) → code < 10 → length (end_line code) ≡ 6
end_length code h = omega (arith, line_length end_name code, ap length (decimal_one code h))

-- the two ways
too_long : (trace : List ℕ) → most < length trace → console_text trace ≡ end_line 2
unfolding console_text
too_long trace h = rw (lt-ltb most (length trace) h)

whole : (trace : List ℕ) → length trace ≤ most → console_text trace ≡ answered (run_on trace)
unfolding console_text
whole trace h = rw (le-ltb most (length trace) h)

pub refused : {trace before after : List ℕ} {w : Option ℕ} → longest ≤ length before → most < length trace → Put (end_line 2) before after w → Written trace before after (count_of w)
refused {trace} {before} {after} {w} room h p =
    let f = put_fits p (omega (arith, end_length 2 (omega arith))) in
    let e = too_long trace h in
    record { count = rw (e, f.0); bytes = rw e f.1.bytes }

module _ {trace before x : List ℕ} {p : Played} (room : longest ≤ length before) (short : length trace ≤ most) (ran : Ran start trace before x p) where
  enough : room_of (length trace) ≤ length before
  enough = omega arith

  small : end_code p.stop < 8
  small = rw ran.code (run_code start trace (length before) enough)

  fits : length (run_of start trace (length before)).text + 6 ≤ length before
  fits = omega (arith, answers_fit start trace (length before) enough)

  front : Front (run_of start trace (length before)).text before x p.written
  front = record { room = omega (arith, fits); count = ran.written; bytes = ran.bytes }

  same : run_on trace ≡ run_of start trace (length before)
  unfolding run_on
  same = sym (same_run start trace (length before) enough)

  pub answered_to : {ys : List ℕ} {w : Option ℕ} → Put (end_line (end_code p.stop)) (from p.written x) ys w → Written trace before (back p.written x ys) (p.written + count_of w)
  answered_to {ys} {w} put =
      let k = end_length (end_code p.stop) (omega (arith, small)) in
      let f = put_fits put (front_room front (omega (arith, fits, ran.written, k))) in
      let all = front_then front f.1 in
      let e : console_text trace ≡ (run_of start trace (length before)).text ++ end_line (end_code p.stop) = whole trace short ∙ rw (same, ran.code) in
      record { count = rw (e, f.0) all.count; bytes = rw e all.bytes }

pub does_the_same : DoesTheSame
unfolding replay_from run_on
does_the_same trace output report taken room = rw (taken, same_run start trace (length output) room)

pub never_eight : NeverEight
unfolding run_on
never_eight trace = no_eight start trace (room_of (length trace)) (omega arith)

-- how long the text can be
answers_room : (trace : List ℕ) → length trace ≤ most → length (answered (run_on trace)) ≤ longest
unfolding run_on
answers_room trace h =
    let run = run_of start trace (room_of (length trace)) in
    let code : run.code < 8 = run_code start trace (room_of (length trace)) (omega arith) in
    omega (arith, length-append run.text (end_line run.code), answers_fit start trace (room_of (length trace)) (omega arith), end_length run.code (omega arith))

pub text_fits : TextFits
text_fits trace = by (ltb most (length trace)) refl
  where
    by : (t : Bool) → ltb most (length trace) ≡ t → length (console_text trace) ≤ longest
    by true e = rw (too_long trace (ltb-true most (length trace) e), end_length 2 (omega arith)) (omega arith)
    by false e = let h : length trace ≤ most = ltb-false most (length trace) e in rw (whole trace h) (answers_room trace h)
