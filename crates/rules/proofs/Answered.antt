-- The code and the reply of every event, and what a read finds. Assumes nothing.
use Prim.Native.Nat.{ℕ, ◌+◌, ◌*◌, ◌≤◌}
use native.Mathlib.Omega.{arith}
use mathlib.Core.Path.{◌≡◌, refl, sym, ap, ◌∙◌}
use mathlib.Core.Bool.{Bool, true, false, cond, ◌&&◌, ◌||◌, not, and_assoc}
use lib.Dec.{eqb}
use borrow.Author.Tests.{eqb-true, leb-true}
use Rattle.rules.specs.declared.answer.Code.{Code}
use Rattle.rules.specs.declared.answer.Code.TheVariants as codes
use Rattle.rules.specs.declared.answer.Code.TheVariants.{Unheard, NoStart, NoEnd}
use Rattle.rules.specs.declared.answer.Done.{Done}
use Rattle.rules.specs.declared.event.Event.{Event}
use Rattle.rules.specs.declared.event.Event.TheVariants.{Reset, Send, Write, Read, Receive, Respond, Start, End}
use Rattle.rules.specs.declared.register.Channel.{Channel}
use Rattle.rules.specs.declared.register.Channel.TheVariants.{Local, Remote}
use Rattle.rules.specs.declared.register.Register.{Register}
use Rattle.rules.specs.declared.register.Source.{Source}
use Rattle.rules.specs.declared.register.Source.TheVariants.{Stored as From, Value, ValueFine, Status, Maker, Revision, Hole}
use Rattle.rules.specs.declared.state.ChannelState.{ChannelState}
use Rattle.rules.specs.declared.state.State.{State}
use Rattle.rules.specs.Alarm.{view_of}
use Rattle.rules.specs.Answered.{CodesGiven, ReadsFind, RepliesGiven, code_by, read_addresses, reply_by}
use Rattle.rules.specs.Channels.{scale_of}
use Rattle.rules.specs.Commands.{read_table, source_of}
use Rattle.rules.specs.Configuration.{chooses_therm2, masked, standby}
use Rattle.rules.specs.Lines.{alert_low}
use Rattle.rules.specs.PowerOn.{is_address}
use Rattle.rules.specs.Read.{read_at_pointer, reading_of, reply_of}
use Rattle.rules.specs.State.{Rest, channel_at, given_of, stored_of, with_busy, with_pointer}
use Rattle.rules.specs.Status.{status_of}
use Rattle.rules.specs.Step.{apply_of, done, end_of, refused, respond_of, responded, response_of, silent, start_of, step_of}
use Rattle.rules.specs.Values.{high_byte_of, low_byte_of}
use Rattle.rules.proofs.Answers.{done_of}
use Rattle.rules.proofs.Commands.{named}
use Rattle.rules.proofs.Lists.{no}
use Rattle.rules.proofs.Rows.{channels_back, each_is_read, stored_back}
use Rattle.rules.proofs.WellFormed.{Well, well}

-- ---- Codes and replies ----

module _ (s : State) (d : Done) (code : Code) where
  code_of : (t : Bool) → (cond t (done d) (refused code s)).code ≡ cond t codes.Done code
  code_of true = refl
  code_of false = refl

  reply_of_lem : (t : Bool) → (cond t (done d) (refused code s)).reply ≡ cond t d.reply 0
  reply_of_lem true = refl
  reply_of_lem false = refl

either : (t : Bool) (n : ℕ) → cond t n n ≡ n
either true n = refl
either false n = refl

low_is : (s : State) → alert_low s ≡ (s.latch && (not (masked s.config) && not (chooses_therm2 s.config)))
low_is s = and_assoc s.latch (not (masked s.config)) (not (chooses_therm2 s.config))

apply_code : (s : State) (e : Event) → (apply_of s e).code ≡ code_by (view_of s) s.latch e
unfolding apply_of respond_of start_of end_of
apply_code s Reset = refl
apply_code s (Send a n) = code_of s (done_of s (Send a n)) Unheard (eqb a s.address)
apply_code s (Write a n b) = code_of s (done_of s (Write a n b)) Unheard (eqb a s.address)
apply_code s (Read a n) = code_of s (done_of s (Read a n)) Unheard (eqb a s.address)
apply_code s (Receive a) = code_of s (done_of s (Receive a)) Unheard (eqb a s.address)
apply_code s Respond = code_of s (record { reply = response_of s.address; state = responded s }) Unheard (alert_low s) ∙ ap (λ (t : Bool). cond t codes.Done Unheard) (low_is s)
apply_code s Start = by (standby s.config || s.busy)
  where
    by : (t : Bool) → (cond t (refused NoStart s) (done (silent (with_busy s true)))).code ≡ cond t NoStart codes.Done
    by true = refl
    by false = refl
apply_code s (End t) = code_of s (done_of s (End t)) NoEnd s.busy

pub codes_given : CodesGiven
unfolding step_of
codes_given s w n e is = rw (w, is) (apply_code s e)

-- an address of a chip has seven bits
seven : (a : ℕ) → is_address a ≡ true → response_of a ≡ 2 * a + 1
seven a h = by (eqb a 76) refl (eqb a 77) refl h
  where
    by : (x : Bool) → eqb a 76 ≡ x → (y : Bool) → eqb a 77 ≡ y → x || y ≡ true → response_of a ≡ 2 * a + 1
    by true p y q e = let z : a ≡ 76 = eqb-true a 76 p in rw z
    by false p true q e = let z : a ≡ 77 = eqb-true a 77 q in rw z
    by false p false q e = no e

apply_reply : (s : State) → Well s → (e : Event) → (apply_of s e).reply ≡ reply_by s e
unfolding apply_of respond_of start_of end_of read_at_pointer status_of
apply_reply s w Reset = refl
apply_reply s w (Send a n) = reply_of_lem s (done_of s (Send a n)) Unheard (eqb a s.address) ∙ either (eqb a s.address) 0
apply_reply s w (Write a n b) = reply_of_lem s (done_of s (Write a n b)) Unheard (eqb a s.address) ∙ either (eqb a s.address) 0
apply_reply s w (Read a n) = reply_of_lem s (read_at_pointer (with_pointer s n)) Unheard (eqb a s.address) ∙ ap (λ (b : ℕ). cond (eqb a s.address) b 0) (same (source_of n))
  where
    rest_at : ℕ → Rest
    rest_at p = record { pointer = p; busy = s.busy; runs = s.runs; latch = s.latch }

    same : (q : Source) → reply_of (reading_of (with_pointer s n) q) ≡ reply_of (reading_of s q)
    same (From r) = ap (λ (f : Register → ℕ). f r) (stored_back (given_of s) (rest_at n) (stored_of s) (channel_at s))
    same (Value ch) = ap (λ (c : Channel → ChannelState). high_byte_of (scale_of ch) (c ch).value) (channels_back (given_of s) (rest_at n) (stored_of s) (channel_at s))
    same (ValueFine ch) = ap (λ (c : Channel → ChannelState). low_byte_of (scale_of ch) (c ch).value) (channels_back (given_of s) (rest_at n) (stored_of s) (channel_at s))
    same Status = refl
    same Maker = refl
    same Revision = refl
    same Hole = refl
apply_reply s w (Receive a) = reply_of_lem s (read_at_pointer s) Unheard (eqb a s.address)
apply_reply s w Respond =
    reply_of_lem s (record { reply = response_of s.address; state = responded s }) Unheard (alert_low s)
    ∙ ap (λ (t : Bool). cond t (response_of s.address) 0) (low_is s) ∙ ap (λ (b : ℕ). cond (s.latch && (not (masked s.config) && not (chooses_therm2 s.config))) b 0) (seven s.address w.address)
apply_reply s w Start = by (standby s.config || s.busy)
  where
    by : (t : Bool) → (cond t (refused NoStart s) (done (silent (with_busy s true)))).reply ≡ 0
    by true = refl
    by false = refl
apply_reply s w (End t) = reply_of_lem s (done_of s (End t)) NoEnd s.busy ∙ either s.busy 0

pub replies_given : RepliesGiven
unfolding step_of
replies_given s w n e is = rw (w, is) (apply_reply s (well s w) e)

-- ---- What a read finds ----

abbrev is_found : Source → Bool
is_found (From r) = true
is_found (Value ch) = true
is_found (ValueFine ch) = true
is_found Status = true
is_found Maker = true
is_found Revision = true
is_found Hole = false

hole_reads : (s : State) (q : Source) → is_found q ≡ false → reply_of (reading_of s q) ≡ 0
hole_reads s (From r) e = no (sym e)
hole_reads s (Value ch) e = no (sym e)
hole_reads s (ValueFine ch) e = no (sym e)
hole_reads s Status e = no (sym e)
hole_reads s Maker e = no (sym e)
hole_reads s Revision e = no (sym e)
hole_reads s Hole e = refl

pub reads_find : ReadsFind
unfolding source_of
reads_find s w =
    let v = well s w in
    let small : s.localvalue ≤ 255 = leb-true s.localvalue 255 (v.channels_fit Local).value in
    let wide : s.remotevalue ≤ 1023 = leb-true s.remotevalue 1023 (v.channels_fit Remote).value in
    record {
      registers = λ r. ap (λ (q : Source). reply_of (reading_of s q)) (each_is_read r);
      local = omega arith;
      remote = omega arith;
      quarters = omega arith;
      status = refl;
      maker = refl;
      revision = refl;
      holes = λ n out. hole_reads s (source_of n) (named is_found read_addresses read_table Hole refl refl refl n ∙ out);
    }
