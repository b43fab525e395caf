-- What one turn came to: an answer that fits, one that does not, or no record. Whatever is shown of a turn is shown of these
-- three. Assumes nothing.
use Rattle.std.specs.Prelude.{Ok, Err}
use Prim.Native.Nat.{ℕ, ◌-◌, ◌≤◌, ◌<◌}
use mathlib.Core.Path.{◌≡◌, refl, sym, subst, ◌∙◌}
use mathlib.Core.Bool.{Bool, true, false, cond}
use mathlib.Core.List.{List, []}
use lib.Dec.{leb}
use lib.ListN.{length, drop}
use borrow.Author.Tests.{leb-false, leb-true}
use Rattle.rules.specs.declared.state.State.{State}
use Rattle.text_rules.specs.declared.record.Record.{Record}
use Rattle.text_rules.specs.declared.record.Unread.TheVariants.{Part, Malformed}
use Rattle.text_rules.specs.Record.{Parsed, record_of}
use Rattle.replay_rules.specs.declared.play.Stop.TheVariants.{Record as NoRecord, Room}
use Rattle.replay_rules.specs.Play.{Run, Turn, Turned, added_from, added_of, answer_to, ended, going, on_turn, run_from, text_of, turn_from, turn_of, went}

-- a turn with the text that it added; without a record it is stopped whatever the room
pub data Came (s : State) (rest : List ℕ) (room : ℕ) : Turn → List ℕ → Type 0 where
  On : (r : Record) (n : ℕ) → record_of rest ≡ Ok (r, n) → length (text_of (answer_to s r)) ≤ room → Came s rest room (going (answer_to s r).state n (length (text_of (answer_to s r)))) (text_of (answer_to s r))
  Full : (r : Record) (n : ℕ) → record_of rest ≡ Ok (r, n) → room < length (text_of (answer_to s r)) → Came s rest room (Err Room) []
  Bad : ((any : ℕ) → turn_of s rest any ≡ Err NoRecord) → Came s rest room (Err NoRecord) []

pub came : (s : State) (rest : List ℕ) (room : ℕ) → Came s rest room (turn_of s rest room) (added_of s rest room)
unfolding turn_of added_of
came s rest room = by (record_of rest) refl
  where
    by : (p : Parsed) → record_of rest ≡ p → Came s rest room (turn_from s room p) (added_from s room p)
    by (Ok (r, n)) read = fit (leb (length (text_of (answer_to s r))) room) refl
      where
        fit : (b : Bool) → leb (length (text_of (answer_to s r))) room ≡ b → Came s rest room (cond b (going (answer_to s r).state n (length (text_of (answer_to s r)))) (Err Room)) (cond b (text_of (answer_to s r)) [])
        fit true q = On r n read (leb-true _ _ q)
        fit false q = Full r n read (leb-false _ _ q)
    by (Err Part) read = Bad (λ any. rw read)
    by (Err Malformed) read = Bad (λ any. rw read)

-- the same of a turn that keeps its promise
pub came_so : {s : State} {rest before after : List ℕ} {r t : Turn} → Turned s rest before after r → r ≡ t → Came s rest (length before) t (added_of s rest (length before))
came_so {s} {rest} {before} turn e =
    subst (λ (t : Turn). Came s rest (length before) t (added_of s rest (length before))) (sym turn.said ∙ e) (came s rest (length before))

-- how a run goes on from a turn
abbrev pub onward : ℕ → Run → List ℕ → ℕ → Turn → List ℕ → Run
onward turns p rest room t text =
    on_turn t (λ s n k. run_from turns (went p s n text) (drop n rest) (room - k)) (λ code. ended p code)
