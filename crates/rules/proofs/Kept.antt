-- What one event leaves and what it leaves alone; and of the two events that the history treats apart, a reset and a status read, what
-- they are answered. Assumes nothing.
use Prim.Native.Nat.{ℕ}
use mathlib.Core.Path.{◌≡◌, refl, sym, ap, ◌∙◌}
use mathlib.Core.Bool.{Bool, true, false, cond, ◌&&◌}
use lib.Dec.{eqb}
use Rattle.std.specs.Prelude.{Ok, Err}
use Rattle.rules.specs.declared.answer.Answer.{Answer}
use Rattle.rules.specs.declared.answer.Code.TheVariants.{Done, Unheard, IllFormed}
use Rattle.rules.specs.declared.event.Event.TheVariants.{Reset, Send, Write, Read, Receive, Respond, Start, End}
use Rattle.rules.specs.declared.event.Numbers.{Numbers}
use Rattle.rules.specs.declared.register.Source.{Source}
use Rattle.rules.specs.declared.register.Source.TheVariants.{Stored as From, Value, ValueFine, Status, Maker, Revision, Hole}
use Rattle.rules.specs.declared.state.State.{State}
use Rattle.rules.specs.Alarm.{view_of}
use Rattle.rules.specs.Codes.{is_done}
use Rattle.rules.specs.Commands.{source_of}
use Rattle.rules.specs.Event.{Checked, check_of}
use Rattle.rules.specs.History.{seen_after, did_of, View, measured_view, pointed, read_facts, written_view}
use Rattle.rules.specs.Kept.{GivenKept, IllFormedRefused, RefusedKept, ViewKept}
use Rattle.rules.specs.PowerOn.{power_on}
use Rattle.rules.specs.Read.{read_at_pointer, reading_of, reply_of}
use Rattle.rules.specs.State.{given_of, with_pointer}
use Rattle.rules.specs.Status.{status_of}
use Rattle.rules.specs.Step.{apply_of, checked_of, done, refused, step_of}
use Rattle.rules.specs.WellFormed.{well_formed}
use Rattle.rules.proofs.Answers.{answer_has}
use Rattle.rules.proofs.Choice.{whichever}
use Rattle.rules.proofs.Commands.{is_status, status_named}
use Rattle.rules.proofs.Lists.{left, no, right}
use Rattle.rules.proofs.Steps.{power_view, steps}
use Rattle.rules.proofs.WellFormed.{Well, well}

-- ---- A reset ----

-- only a power-on is one
reset_done : (s : State) (k : Checked) → (did_of (view_of s) k).reset ≡ true → (checked_of s k).state ≡ power_on (given_of s)
unfolding apply_of
reset_done s (Ok Reset) e = refl
reset_done s (Ok (Send a n)) e = no e
reset_done s (Ok (Write a n b)) e = no e
reset_done s (Ok (Read a n)) e = no e
reset_done s (Ok (Receive a)) e = no e
reset_done s (Ok Respond) e = no e
reset_done s (Ok Start) e = no e
reset_done s (Ok (End t)) e = no e
reset_done s (Err code) e = no e

pub reset_state : (s : State) → well_formed s ≡ true → (n : Numbers) → (did_of (view_of s) (check_of n)).reset ≡ true → (step_of s n).state ≡ power_on (given_of s)
unfolding step_of
reset_state s w n e = rw w (reset_done s (check_of n) e)

-- ---- A status read ----

-- it does nothing else
pub status_only : (v : View) (k : Checked) → (did_of v k).status_read ≡ true → did_of v k ≡ read_facts true
status_only v (Ok Reset) e = no e
status_only v (Ok (Send a n)) e = no e
status_only v (Ok (Write a n b)) e = no e
status_only v (Ok (Read a n)) e = ap read_facts e
status_only v (Ok (Receive a)) e = ap read_facts e
status_only v (Ok Respond) e = no e
status_only v (Ok Start) e = no e
status_only v (Ok (End t)) e = no e
status_only v (Err code) e = no e

-- and replies the status byte
at_status : (s : State) (q : Source) → is_status q ≡ true → reply_of (reading_of s q) ≡ status_of s
at_status s (From r) e = no e
at_status s (Value ch) e = no e
at_status s (ValueFine ch) e = no e
at_status s Status e = refl
at_status s Maker e = no e
at_status s Revision e = no e
at_status s Hole e = no e

abbrev Read-done : State → Answer → Type 0
Read-done s x = (x.code ≡ Done) × (x.reply ≡ status_of s)

read_done : (s t : State) (a : ℕ) → eqb a s.address && eqb t.pointer 0x02 ≡ true → Read-done t (cond (eqb a s.address) (done (read_at_pointer t)) (refused Unheard s))
unfolding read_at_pointer
read_done s t a e =
    let own = left (eqb a s.address) (eqb t.pointer 0x02) e in
    let two = right (eqb a s.address) (eqb t.pointer 0x02) e in
    rw own (refl, at_status t (source_of t.pointer) (status_named t.pointer ∙ two))

checked_read : (s : State) (k : Checked) → (did_of (view_of s) k).status_read ≡ true → Read-done s (checked_of s k)
unfolding apply_of status_of
checked_read s (Ok Reset) e = no e
checked_read s (Ok (Send a n)) e = no e
checked_read s (Ok (Write a n b)) e = no e
checked_read s (Ok (Read a n)) e = read_done s (with_pointer s n) a e
checked_read s (Ok (Receive a)) e = read_done s s a e
checked_read s (Ok Respond) e = no e
checked_read s (Ok Start) e = no e
checked_read s (Ok (End t)) e = no e
checked_read s (Err code) e = no e

pub status_done : (s : State) → well_formed s ≡ true → (n : Numbers) → (did_of (view_of s) (check_of n)).status_read ≡ true → Read-done s (step_of s n)
unfolding step_of
status_done s w n e = rw w (checked_read s (check_of n) e)

-- ---- The claims ----

seen_at : (s : State) → Well s → (k : Checked) → view_of (checked_of s k).state ≡ seen_after (view_of s) k
unfolding apply_of
seen_at s w (Ok Reset) = power_view (given_of s)
seen_at s w (Ok (Send a n)) = (steps s w (Ok (Send a n)) 0 refl).seen
seen_at s w (Ok (Write a n b)) = (steps s w (Ok (Write a n b)) 0 refl).seen
seen_at s w (Ok (Read a n)) = (steps s w (Ok (Read a n)) 0 refl).seen
seen_at s w (Ok (Receive a)) = (steps s w (Ok (Receive a)) 0 refl).seen
seen_at s w (Ok Respond) = (steps s w (Ok Respond) 0 refl).seen
seen_at s w (Ok Start) = (steps s w (Ok Start) 0 refl).seen
seen_at s w (Ok (End t)) = (steps s w (Ok (End t)) 0 refl).seen
seen_at s w (Err code) = (steps s w (Err code) 0 refl).seen

pub view_kept : ViewKept
unfolding step_of
view_kept s e w = rw w (seen_at s (well s w) (check_of e))

pub ill_formed_refused : IllFormedRefused
unfolding step_of
ill_formed_refused s e w = rw w

pub refused_kept : RefusedKept
refused_kept s n =
    answer_has (λ (x : Answer). is_done x.code ≡ false → (x.state ≡ s) × (x.reply ≡ 0)) s (λ code h. (refl, refl)) n (λ e is taken h. no (sym h))

-- no event changes what is seen of the address
address_seen : (v : View) (k : Checked) → (seen_after v k).address ≡ v.address
address_seen v (Ok Reset) = refl
address_seen v (Ok (Send a n)) = whichever (λ (x : View). x.address ≡ v.address) (eqb a v.address) (pointed v n) v refl refl
address_seen v (Ok (Write a n b)) = whichever (λ (x : View). x.address ≡ v.address) (eqb a v.address) (written_view v n b) v refl refl
address_seen v (Ok (Read a n)) = whichever (λ (x : View). x.address ≡ v.address) (eqb a v.address) (pointed v n) v refl refl
address_seen v (Ok (Receive a)) = refl
address_seen v (Ok Respond) = refl
address_seen v (Ok Start) = refl
address_seen v (Ok (End t)) = whichever (λ (x : View). x.address ≡ v.address) v.running (measured_view v t) v refl refl
address_seen v (Err code) = refl

pub given_kept : GivenKept
unfolding step_of
given_kept s e = by (well_formed s) refl
  where
    by : (t : Bool) → well_formed s ≡ t → given_of (cond t (checked_of s (check_of e)) (refused IllFormed s)).state ≡ given_of s
    by true w = ap (λ (a : ℕ). record { address = a }) (ap (λ (v : View). v.address) (seen_at s (well s w) (check_of e)) ∙ address_seen (view_of s) (check_of e))
    by false w = refl
