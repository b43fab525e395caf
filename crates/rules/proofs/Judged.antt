-- Code 6 exactly, the order of codes, the lines of an answer, a flag that is read; and what code 2 leaves. Assumes nothing.
use Prim.Native.Nat.{ℕ}
use native.Mathlib.Omega.{arith}
use mathlib.Core.Path.{◌≡◌, refl, ap, ◌∙◌}
use mathlib.Core.Bool.{Bool, true, false, cond, not, ◌&&◌, ◌||◌, and-false, and-true, or-false}
use lib.IntN.ℤ.{pos, negsuc}
use borrow.Author.Tests.{eq-eqb, eqb-true, le-leb, leb-true}
use Rattle.rules.specs.declared.answer.Answer.{Answer}
use Rattle.rules.specs.declared.answer.Code.TheVariants.{BadField}
use Rattle.rules.specs.declared.register.Channel.{Channel}
use Rattle.rules.specs.declared.register.Channel.TheVariants.{Local, Remote}
use Rattle.rules.specs.declared.register.Register.{Register}
use Rattle.rules.specs.declared.state.ChannelState.{ChannelState}
use Rattle.rules.specs.declared.state.Given.{Given}
use Rattle.rules.specs.declared.state.State.{State}
use Rattle.rules.specs.Alarm.{finding_of, view_of}
use Rattle.rules.specs.Codes.{number_of}
use Rattle.rules.specs.Event.{check_of}
use Rattle.rules.specs.History.{Facts, entry_of}
use Rattle.rules.specs.Judged.{CheckedNumbers, ChecksFirst, LinesRead, Regular, ResponseClears, ShownMeans, SixExactly, StatusReadClears}
use Rattle.rules.specs.Lines.{pin_line, therm_line}
use Rattle.rules.specs.PowerOn.{all_zero, is_address, made_at, new_channel, new_rest, no_state}
use Rattle.rules.specs.Rows.{trim_of}
use Rattle.rules.specs.Sound.{Zeros, ZerosAfterCode2}
use Rattle.rules.specs.State.{channel_at, stored_of}
use Rattle.rules.specs.Status.{flag_at, flag_for, mark_at, shown_of}
use Rattle.rules.specs.Status.Fault.{Above, Below, Open}
use Rattle.rules.specs.Step.{apply_of, respond_of, step_of}
use Rattle.rules.proofs.Answers.{answer_has}
use Rattle.rules.proofs.Kept.{status_only}
use Rattle.rules.proofs.Lists.{no}
use Rattle.rules.proofs.Meant.{any_means}
use Rattle.rules.proofs.Rows.{channels_back, stored_back}
use Rattle.rules.proofs.Steps.{by_finding, steps}
use Rattle.rules.proofs.WellFormed.{Fit, Well, unwell, well}

neither : (p q : Bool) → not (p || q) ≡ true → (p ≡ false) × (q ≡ false)
neither true q e = no e
neither false true e = no e
neither false false e = (refl, refl)

regular : (s : State) → Well s → Regular s
regular s w =
    let d = neither (channel_at s Local).diode.found (channel_at s Local).diode.flag (w.channels_fit Local).diode in
    record {
      address = w.address;
      runs = leb-true _ _ w.runs;
      bits = λ r. eqb-true (trim_of r (stored_of s r)) (stored_of s r) (w.registers_kept r);
      local = leb-true _ _ (w.channels_fit Local).value;
      remote = leb-true _ _ (w.channels_fit Remote).value;
      found = d.0;
      flag = d.1;
    }

fits : (s : State) → Regular s → (ch : Channel) → Fit ch (channel_at s ch)
fits s g Local = record { value = le-leb (channel_at s Local).value 255 g.local; diode = rw (g.found, g.flag) }
fits s g Remote = record { value = le-leb (channel_at s Remote).value 1023 g.remote; diode = refl }

judged : (s : State) → Regular s → Well s
judged s g =
    record {
      address = g.address;
      runs = le-leb s.runs 4 g.runs;
      registers_kept = λ r. eq-eqb (trim_of r (stored_of s r)) (stored_of s r) (g.bits r);
      channels_fit = fits s g;
    }

pub six_exactly : SixExactly
six_exactly s = (λ w. regular s (well s w), λ g. unwell s (judged s g))

pub checks_first : ChecksFirst
unfolding step_of
checks_first s w n code e = rw (w, e)

pub checked_numbers : CheckedNumbers
unfolding step_of
checked_numbers = (λ e. refl, λ code. refl, λ s w n code e. rw (w, e))

pub lines_read : LinesRead
lines_read s n =
    (answer_has (λ (x : Answer). x.alert ≡ pin_line x.state) s (λ code. refl) n (λ e is taken. refl), answer_has (λ (x : Answer). x.therm ≡ therm_line x.state) s (λ code. refl) n (λ e is taken. refl))

pub shown_means : ShownMeans
shown_means m =
    record { cleared = λ h. rw h (and-false m.flag); kept = λ h. rw h (and-true m.flag); verdict = refl }

pub status_read_clears : StatusReadClears
unfolding step_of
status_read_clears s w n reads f =
    let k = check_of n in
    let x = entry_of (view_of s) k 0 in
    let m = mark_at s f in
    let other = ap (λ (y : Facts). y.reset) (status_only (view_of s) k reads) in
    rw w
    ((steps s (well s w) k 0 other).mark f.channel f.fault
    ∙ ap (λ (b : Bool). cond b (shown_of m) (by_finding (finding_of f x) m)) reads)

pub response_clears : ResponseClears
unfolding step_of apply_of respond_of
response_clears s w low =
    rw (w, low)
    (ap (λ (b : Bool). s.latch && b)
    (any_means.1 (flag_at s)
    ∙ ap (λ (b : Bool). flag_at s (flag_for Local Above) || (flag_at s (flag_for Local Below) || (flag_at s (flag_for Remote Above) || (flag_at s (flag_for Remote Below) || b)))) (or-false (flag_at s (flag_for Remote Open)))))

-- ---- What code 2 leaves ----

zeros : Zeros all_zero
zeros =
    record {
      address = refl;
      rest = refl;
      registers = λ r. ap (λ (f : Register → ℕ). f r) (stored_back given new_rest (λ q. 0) (λ x. new_channel));
      channels = λ ch. ap (λ (c : Channel → ChannelState). c ch) (channels_back given new_rest (λ q. 0) (λ x. new_channel));
    }
  where
    given : Given
    given = record { address = 0 }

pub zeros_after_code_2 : ZerosAfterCode2
zeros_after_code_2 (pos n) h = by (is_address n) h
  where
    by : (t : Bool) → (cond t (made_at n) no_state).code ≡ BadField → Zeros (cond t (made_at n) no_state).state
    by true h = absurd (omega (arith, ap number_of h))
    by false h = zeros
zeros_after_code_2 (negsuc n) h = zeros
