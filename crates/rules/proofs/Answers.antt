-- What an event is answered, in one form for all eight: it is done, or refused with a code. What holds of both holds of every
-- answer. Assumes nothing.
use Prim.Native.Nat.{ℕ, ◌<◌}
use native.Mathlib.Omega.{arith}
use mathlib.Core.Path.{◌≡◌, refl, sym, subst}
use mathlib.Core.Bool.{Bool, true, false, cond, ◌&&◌, ◌||◌, not}
use lib.Dec.{eqb}
use lib.IntN.{ℤ}
use lib.IntN.ℤ.{pos, negsuc}
use Rattle.std.specs.Prelude.{Ok, Err}
use Rattle.rules.specs.declared.answer.Answer.{Answer}
use Rattle.rules.specs.declared.answer.Code.{Code}
use Rattle.rules.specs.declared.answer.Code.TheVariants.{BadKind, Unheard, NoStart, NoEnd, IllFormed}
use Rattle.rules.specs.declared.answer.Done.{Done}
use Rattle.rules.specs.declared.event.Event.{Event}
use Rattle.rules.specs.declared.event.Event.TheVariants.{Reset, Send, Write, Read, Receive, Respond, Start, End}
use Rattle.rules.specs.declared.event.Numbers.{Numbers}
use Rattle.rules.specs.declared.state.State.{State}
use Rattle.rules.specs.Codes.{number_of}
use Rattle.rules.specs.Configuration.{standby}
use Rattle.rules.specs.Conversion.{converted}
use Rattle.rules.specs.Event.{Checked, byte_of, check_of, good_if, is_bus_address, is_byte, is_local_sample, is_mark, is_remote_sample, kind_from, kinds, samples_of, unused}
use Rattle.rules.specs.Lines.{alert_low}
use Rattle.rules.specs.PowerOn.{power_on}
use Rattle.rules.specs.Read.{read_at_pointer}
use Rattle.rules.specs.State.{given_of, with_busy, with_pointer}
use Rattle.rules.specs.Step.{apply_of, checked_of, done, end_of, refused, responded, respond_of, response_of, silent, start_of, step_of}
use Rattle.rules.specs.WellFormed.{well_formed}
use Rattle.rules.specs.Write.{written}
use Rattle.rules.proofs.Choice.{whichever}
use Rattle.rules.proofs.Lists.{Each, looked}

-- what a form does where it is acknowledged
abbrev pub done_of : State → Event → Done
done_of s Reset = silent (power_on (given_of s))
done_of s (Send a n) = silent (with_pointer s n)
done_of s (Write a n b) = silent (written s n b)
done_of s (Read a n) = read_at_pointer (with_pointer s n)
done_of s (Receive a) = read_at_pointer s
done_of s Respond = record { reply = response_of s.address; state = responded s }
done_of s Start = silent (with_busy s true)
done_of s (End t) = silent (converted s t)

-- whether it is, and otherwise the code
abbrev pub takes : State → Event → Bool
takes s Reset = true
takes s (Send a n) = eqb a s.address
takes s (Write a n b) = eqb a s.address
takes s (Read a n) = eqb a s.address
takes s (Receive a) = eqb a s.address
takes s Respond = alert_low s
takes s Start = not (standby s.config || s.busy)
takes s (End t) = s.busy

abbrev code_of : Event → Code
code_of Reset = Unheard
code_of (Send a n) = Unheard
code_of (Write a n b) = Unheard
code_of (Read a n) = Unheard
code_of (Receive a) = Unheard
code_of Respond = Unheard
code_of Start = NoStart
code_of (End t) = NoEnd

pub came : (s : State) (e : Event) → apply_of s e ≡ cond (takes s e) (done (done_of s e)) (refused (code_of e) s)
unfolding apply_of respond_of start_of end_of
came s Reset = refl
came s (Send a n) = refl
came s (Write a n b) = refl
came s (Read a n) = refl
came s (Receive a) = refl
came s Respond = refl
came s Start = by (standby s.config || s.busy)
  where
    by : (t : Bool) → cond t (refused NoStart s) (done (silent (with_busy s true))) ≡ cond (not t) (done (silent (with_busy s true))) (refused NoStart s)
    by true = refl
    by false = refl
came s (End t) = refl

code_small : (e : Event) → number_of (code_of e) < 6
code_small Reset = omega arith
code_small (Send a n) = omega arith
code_small (Write a n b) = omega arith
code_small (Read a n) = omega arith
code_small (Receive a) = omega arith
code_small Respond = omega arith
code_small Start = omega arith
code_small (End t) = omega arith

-- a check gives code 1 or 2
abbrev Small : Checked → Type 0
Small (Ok e) = Unit {0}
Small (Err code) = number_of code < 6

good_small : (t : Bool) (e : Event) → Small (good_if t e)
good_small true e = tt
good_small false e = omega arith

check_small : (e : Numbers) → Small (check_of e)
check_small e = by e.kind
  where
    one : Small (Err BadKind)
    one = omega arith

    each : (a b c : ℤ) → Each (λ (row : ℕ × Checked). Small row.1) (kinds a b c)
    each a b c = (
      good_small (unused a && unused b && unused c) Reset,
      (
        good_small (is_bus_address a && is_byte b && unused c) (Send (byte_of a) (byte_of b)),
        (
          good_small (is_bus_address a && is_byte b && is_byte c) (Write (byte_of a) (byte_of b) (byte_of c)),
          (
            good_small (is_bus_address a && is_byte b && unused c) (Read (byte_of a) (byte_of b)),
            (
              good_small (is_bus_address a && unused b && unused c) (Receive (byte_of a)),
              (
                good_small (unused a && unused b && unused c) Respond,
                (
                  good_small (unused a && unused b && unused c) Start,
                  (
                    good_small (is_local_sample a && is_remote_sample b && is_mark c) (End (samples_of a b c)),
                    tt,
                  ),
                ),
              ),
            ),
          ),
        ),
      ),
    )

    by : (kind : ℤ) → Small (kind_from kind e.a e.b e.c)
    by (pos k) = looked Small k (kinds e.a e.b e.c) (Err BadKind) (each e.a e.b e.c) one
    by (negsuc k) = one

-- of every answer: what holds of a refusal, and of each form where it is done
module _ (P : Answer → Type 0) (s : State) where
  checked_has : ((code : Code) → number_of code < 6 → P (refused code s)) → (k : Checked) → Small k → ((e : Event) → k ≡ Ok e → takes s e ≡ true → P (done (done_of s e))) → P (checked_of s k)
  checked_has refusal (Ok e) small h = subst P (sym (came s e)) (by (takes s e) refl)
    where
      by : (t : Bool) → takes s e ≡ t → P (cond t (done (done_of s e)) (refused (code_of e) s))
      by true taken = h e refl taken
      by false left = refusal (code_of e) (code_small e)
  checked_has refusal (Err code) small h = refusal code small

  -- from a well-formed state no refusal is code 6
  pub well_has : ((code : Code) → number_of code < 6 → P (refused code s)) → (n : Numbers) → well_formed s ≡ true → ((e : Event) → check_of n ≡ Ok e → takes s e ≡ true → P (done (done_of s e))) → P (step_of s n)
  unfolding step_of
  well_has refusal n w h = rw w (checked_has refusal (check_of n) (check_small n) h)

  pub answer_has : ((code : Code) → P (refused code s)) → (n : Numbers) → ((e : Event) → check_of n ≡ Ok e → takes s e ≡ true → P (done (done_of s e))) → P (step_of s n)
  unfolding step_of
  answer_has refusal n h =
      whichever P (well_formed s) (checked_of s (check_of n)) (refused IllFormed s) (checked_has (λ code small. refusal code) (check_of n) (check_small n) h) (refusal IllFormed)
