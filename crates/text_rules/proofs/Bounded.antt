-- How long a record is: by how it is written, for what was read was written so; and an answer, by its lines. Assumes nothing.
use Prim.Native.Nat.{ℕ, zero, suc, ◌+◌, ◌/◌, ◌≤◌, ◌<◌}
use native.Mathlib.Omega.{arith}
use mathlib.Core.Path.{◌≡◌, refl, sym, ap, ◌∙◌}
use mathlib.Core.Bool.{Bool, true, false, cond}
use mathlib.Core.List.{List, [], ◌∷◌, ◌++◌, append-nil}
use lib.Dec.{ltb}
use lib.IntN.{ℤ}
use lib.IntN.ℤ.{pos, negsuc}
use lib.ListN.{length, take, drop, length-append, length-take, take-append-drop}
use borrow.Author.Tests.{ltb-false, ltb-true}
use lib.Seq.{take_all, take-append-le, take-append_seam}
use Rattle.text_rules.specs.declared.record.Unread.TheVariants.{Part, Malformed}
use Rattle.std.specs.Prelude.{Ok, Err}
use Rattle.text_rules.specs.declared.record.Record.{Record}
use Rattle.text_rules.specs.Record.{Parsed}
use Rattle.text_rules.specs.Answer.{answer_text, decimal_of, line_text}
use Rattle.text_rules.specs.Number.{digits_of, number_of, plain_of}
use Rattle.text_rules.specs.Line.{fit_of, line_of}
use Rattle.text_rules.specs.Record.{record_of}
use Rattle.text_rules.specs.Bounded.{AnswerIsBounded, BoundsAreMet, PartEndsInside, PartIsBounded, RecordIsBounded, WindowDecides, longest, shortest}
use Rattle.text_rules.specs.RecordText.{line_written, record_text}
use Rattle.text_rules.specs.Sizes.{longest_record}
use Rattle.text_rules.specs.Written.{digit_count, last_digits, written_natural, written_number}
use Rattle.text_rules.proofs.Completed.{part_is_completed}
use Rattle.text_rules.proofs.More.{refusal_stays, whole_stays}
use Rattle.text_rules.proofs.RecordText.{read_record_was_written, written_record_is_read}
use Rattle.text_rules.proofs.Records.{record_fits}
use Rattle.text_rules.proofs.Size.{answer_long, answer_short}

digits_length : (k n : ℕ) → length (last_digits k n) ≡ k
digits_length zero n = refl
digits_length (suc k) n = length-append (last_digits k (n / 10)) _ ∙ (let h : length (last_digits k (n / 10)) ≡ k = digits_length k (n / 10) in omega arith)

few_count : (n : ℕ) → digit_count n ≤ 5
unfolding digit_count
few_count n = by (ltb n 10) (ltb n 100) (ltb n 1000) (ltb n 10000)
  where
    by : (t u v w : Bool) → cond t 1 (cond u 2 (cond v 3 (cond w 4 5))) ≤ 5
    by true u v w = omega arith
    by false true v w = omega arith
    by false false true w = omega arith
    by false false false true = omega arith
    by false false false false = omega arith

natural_short : (n : ℕ) → length (written_natural n) ≤ 5
unfolding written_natural
natural_short n = omega (arith, digits_length (digit_count n) n, few_count n)

number_short : (z : ℤ) → length (written_number z) ≤ 6
number_short (pos n) = omega (arith, natural_short n)
number_short (negsuc n) = omega (arith, natural_short (suc n))

line_short : (name : List ℕ) (z : ℤ) → length (line_written name z) ≤ length name + 7
unfolding line_written
line_short name z = simp length-append (omega (arith, number_short z))

text_short : (r : Record) → length (record_text r) ≤ longest_record
unfolding record_text
text_short r = simp length-append (omega (arith, line_short (107 ∷ 105 ∷ 110 ∷ 100 ∷ 61 ∷ []) r.kind, line_short (97 ∷ 61 ∷ []) r.a, line_short (98 ∷ 61 ∷ []) r.b, line_short (99 ∷ 61 ∷ []) r.c))

pub record_is_bounded : RecordIsBounded
record_is_bounded s r n e =
    let w = read_record_was_written s r n e in
    let front : take n s ≡ record_text r = ap (take n) w.begins ∙ ap (λ (k : ℕ). take k (record_text r ++ drop n s)) w.count ∙ take-append_seam (record_text r) (drop n s) in
    record {
      least = (record_fits s e).0;
      most = omega (arith, w.count, text_short r);
      own = ap record_of (front ∙ sym (append-nil (record_text r))) ∙ written_record_is_read r [] w.few ∙ ap (λ (k : ℕ). Ok (r, k)) (sym w.count);
    }

pub part_ends_inside : PartEndsInside
part_ends_inside s more r n p e = by (ltb (length s) n) refl
  where
    inside : n ≤ length s → ⊥
    inside h =
        let own = (record_is_bounded (s ++ more) r n e).own in
        let own' : record_of (take n s) ≡ Ok (r, n) = rw (take-append-le n s more h) at own in
        let whole : record_of s ≡ Ok (r, n) = ap record_of (sym (take-append-drop n s)) ∙ whole_stays (take n s) (drop n s) own' in
        let y : ◌≡◌ {A = ℕ} 0 1 = cc in omega arith

    by : (t : Bool) → ltb (length s) n ≡ t → length s < n
    by true q = ltb-true (length s) n q
    by false q = absurd (inside (ltb-false (length s) n q))

pub part_is_bounded : PartIsBounded
part_is_bounded s e =
    let c = part_is_completed s e in
    omega (arith, part_ends_inside s c.more c.numbers c.size e c.is, (record_is_bounded (s ++ c.more) c.numbers c.size c.is).most)

pub window_decides : WindowDecides
window_decides s = by (record_of (take longest_record s)) refl
  where
    by : (p : Parsed) → record_of (take longest_record s) ≡ p → record_of (take longest_record s) ≡ record_of s
    by (Ok (r, n)) e = e ∙ sym (whole_stays (take longest_record s) (drop longest_record s) e) ∙ ap record_of (take-append-drop longest_record s)
    by (Err Part) e =
        let h : length (take longest_record s) ≤ 38 = part_is_bounded (take longest_record s) e in
        ap record_of (take_all longest_record s (omega (arith, length-take longest_record s, h)))
    by (Err Malformed) e = e ∙ sym (refusal_stays (take longest_record s) (drop longest_record s) e) ∙ ap record_of (take-append-drop longest_record s)

pub answer_is_bounded : AnswerIsBounded
answer_is_bounded code reply alert therm h =
    record { least = answer_long code reply alert therm; most = answer_short code reply alert therm h }

pub bounds_are_met : BoundsAreMet
unfolding record_of line_of fit_of number_of plain_of digits_of longest shortest answer_text line_text decimal_of
bounds_are_met = record { least = refl; whole = refl; part = refl; short = refl; long = refl }
