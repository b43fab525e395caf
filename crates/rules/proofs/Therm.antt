-- THERM, THERM2 and busy follow the history. Assumes nothing.
use mathlib.Core.Path.{◌≡◌, refl, sym, subst, ap, ◌∙◌}
use mathlib.Core.Bool.{Bool, true, not}
use Rattle.rules.specs.declared.answer.Answer.{Answer}
use Rattle.rules.specs.declared.answer.Code.TheVariants.{Done}
use Rattle.rules.specs.declared.event.Numbers.{Numbers}
use Rattle.rules.specs.declared.register.Channel.{Channel}
use Rattle.rules.specs.declared.state.State.{State}
use Rattle.rules.specs.Alarm.{history_of, state_of}
use Rattle.rules.specs.Bits.{bit}
use Rattle.rules.specs.Channels.{any_channel, traits}
use Rattle.rules.specs.Comparisons.Comparator.{Therm, Therm2}
use Rattle.rules.specs.Event.{check_of}
use Rattle.rules.specs.History.{History, View, did_of, with_event}
use Rattle.rules.specs.Hot.{hot}
use Rattle.rules.specs.Lines.{therm_line}
use Rattle.rules.specs.PowerOn.{made_of}
use Rattle.rules.specs.Step.{answer_of, step_of}
use Rattle.rules.specs.Therm.{ThermFollows, ThermShown}
use Rattle.rules.specs.WellFormed.{well_formed}
use Rattle.rules.proofs.Alarm.{Agrees, agrees, one_more}
use Rattle.rules.proofs.Answers.{answer_has}
use Rattle.rules.proofs.Kept.{status_done}
use Rattle.rules.proofs.NeverSix.{after_well}
use Rattle.rules.proofs.Status.{busy_bit, therm_bit_lem}
use Rattle.rules.proofs.WellFormed.{fresh_well_formed}

-- an answer's line is its state's
answer_therm : (s : State) (n : Numbers) → (step_of s n).therm ≡ therm_line (step_of s n).state
answer_therm s n =
    answer_has (λ (x : Answer). x.therm ≡ therm_line x.state) s (λ code. refl) n (λ e is taken. refl)

line : (s : State) (h : History) → Agrees s h → therm_line s ≡ not (any_channel (λ ch. hot Therm ch h))
line s h g = ap (λ (p : Channel → Bool). not (any_channel p)) (λ i ch. g.hots ch Therm i)

shown : (s : State) (h : History) → well_formed s ≡ true → Agrees s h → ThermShown s h
shown s h w g =
    record {
      flags = λ ch. g.hots ch Therm;
      marks = λ ch. g.hots ch Therm2;
      line = λ e. answer_therm s e ∙ line (step_of s e).state (with_event s.address h e (step_of s e).reply) (one_more s h w g e);
      reads = λ e read.
          let is = subst (λ (v : View). (did_of v (check_of e)).status_read ≡ true) (sym g.seen) read in
          let reply = (status_done s w e is).1 in
          (ap (bit 7) reply ∙ busy_bit s ∙ ap (λ (v : View). v.running) g.seen, λ ch. ap (bit (traits ch).therm_bit) reply ∙ therm_bit_lem s ch ∙ g.hots ch Therm);
    }

pub therm_follows : ThermFollows
therm_follows address made es =
    shown (state_of address es) (history_of address es) (after_well es (answer_of Done 0 (made_of address).state) (fresh_well_formed address made)) (agrees address made es)
