-- One record's turn, from what its three calls give: the record read, the step, the answer written; and which record is next, the trace's
-- or one that is handed over. Assumes nothing.
use Rattle.std.specs.Prelude.{Option, Some, None, Ok, Err}
use Prim.Native.Nat.{ℕ, ◌≤◌}
use mathlib.Core.Path.{◌≡◌, refl, sym, ap, subst, ◌∙◌}
use mathlib.Core.Bool.{true}
use mathlib.Core.List.{List, []}
use lib.ListN.{length}
use borrow.Author.Tests.{le-leb, lt-leb}
use Rattle.rules.specs.declared.event.Numbers.{Numbers}
use Rattle.rules.specs.declared.state.State.{State}
use Rattle.rules.specs.declared.answer.Answer.{Answer}
use Rattle.rules.specs.Event.{check_of}
use Rattle.rules.specs.Step.{checked_of, step_of}
use Rattle.rules.specs.WellFormed.{well_formed}
use Rattle.text_rules.specs.declared.record.Record.{Record}
use Rattle.text_rules.specs.declared.record.Unread.TheVariants.{Part, Malformed}
use Rattle.text_rules.specs.Record.{Parsed, record_of}
use Rattle.text_rules.specs.declared.answer.Shown.{Shown}
use Rattle.text_rules.specs.Answer.{Put, shown_text}
use Rattle.text_rules.specs.Sizes.{shortest_record}
use Rattle.text_rules.proofs.Put.{put_front, put_none}
use Rattle.text_rules.proofs.Records.{record_fits}
use Rattle.replay_rules.specs.declared.play.Stop.TheVariants.{Record as NoRecord, Room}
use Rattle.replay_rules.specs.Play.{Turned, added_from, added_of, answer_to, going, next_of, numbers_of, record_for, shown_of, text_of, turn_from, turn_of}

-- no record: neither of the parse answer's other two cases holds one
abbrev pub Unread : Parsed → Type 0
Unread p = (x : Record × ℕ) → p ≡ Ok x → ⊥

-- no record: the parse answer's other two cases
none : (s : State) (room : ℕ) (p : Parsed) → Unread p → (Err NoRecord ≡ turn_from s room p) × (added_from s room p ≡ [])
none s room (Ok (r, n)) h = absurd (h (r, n) refl)
none s room (Err Part) h = (refl, refl)
none s room (Err Malformed) h = (refl, refl)

-- what is written of an answer is its text
pub shown_put : (a : Answer) {b : Shown} {before after : List ℕ} {w : Option ℕ} → b ≡ shown_of a → Put (shown_text b) before after w → Put (text_of a) before after w
unfolding text_of
shown_put a {before = before} {after = after} {w = w} e put = subst (λ (x : Shown). Put (shown_text x) before after w) e put

module _ {s : State} {rest before after : List ℕ} where
  pub turn_bad : {p : Parsed} → p ≡ record_of rest → Unread p → after ≡ before → Turned s rest before after (Err NoRecord)
  unfolding turn_of added_of
  turn_bad {p} e h same =
      record { said = rw (← e) (none s (length before) p h).0; bytes = rw (← e, (none s (length before) p h).1) same }

  module _ {r : Record} {n : ℕ} {a : Answer} (read : record_of rest ≡ Ok (r, n)) (stepped : a ≡ answer_to s r) {w : Option ℕ} (wrote : Put (text_of a) before after w) where
    pub turn_went : {k : ℕ} → w ≡ Some k → Turned s rest before after (going a.state n k)
    unfolding turn_of added_of
    turn_went {k} e =
        let f = put_front wrote e in
        record { said = rw (read, ← stepped, le-leb _ _ f.room) (ap (going a.state n) f.count); bytes = rw (read, ← stepped, le-leb _ _ f.room) f.bytes }

    pub turn_full : w ≡ None → Turned s rest before after (Err Room)
    unfolding turn_of added_of
    turn_full e =
        let f = put_none wrote e in
        record { said = rw (read, ← stepped, lt-leb _ _ f.0); bytes = rw (read, ← stepped, lt-leb _ _ f.0) f.1 }

-- on a well-formed state a step is what the check gives
pub well_step : (s : State) {e e' : Numbers} {a : Answer} → well_formed s ≡ true → e' ≡ e → a ≡ checked_of s (check_of e') → a ≡ step_of s e
unfolding step_of
well_step s h same took = took ∙ rw (h, same)

-- the next record: of no bytes where it was handed over, otherwise the trace's
module _ (only : Option Numbers) (part : List ℕ) {p : Parsed} (next : p ≡ next_of only part) where
  pub next_read : only ≡ None → p ≡ record_of part
  next_read h = next ∙ rw h

  handed : {e : Numbers} → only ≡ Some e → p ≡ Ok (record_for e, 0)
  handed h = next ∙ rw h

  pub handed_some : {e : Numbers} → only ≡ Some e → Unread p → ⊥
  handed_some {e} h k = k (record_for e, 0) (handed h)

  module _ {r : Record} {n : ℕ} (is : p ≡ Ok (r, n)) where
    pub handed_event : {e : Numbers} → only ≡ Some e → numbers_of r ≡ e
    handed_event {e} h =
        let q : ◌≡◌ {A = Parsed} (Ok (r, n)) (Ok (record_for e, 0)) = sym is ∙ handed h in
        let pair : ◌≡◌ {A = Record × ℕ} (r, n) (record_for e, 0) = cc in
        ap (λ (x : Record × ℕ). numbers_of x.0) pair

    handed_short : {e : Numbers} → only ≡ Some e → n ≡ 0
    handed_short {e} h = let q : ◌≡◌ {A = Parsed} (Ok (r, n)) (Ok (record_for e, 0)) = sym is ∙ handed h in
        let pair : ◌≡◌ {A = Record × ℕ} (r, n) (record_for e, 0) = cc in
        ap (λ (x : Record × ℕ). x.1) pair

    pub read_whole : only ≡ None → record_of part ≡ Ok (r, n)
    read_whole h = sym (next_read h) ∙ is

    pub read_long : only ≡ None → shortest_record ≤ n
    read_long h = (record_fits part (read_whole h)).0

    pub not_handed : (n ≡ 0 → ⊥) → only ≡ None
    not_handed some = by only refl
      where
        by : (o : Option Numbers) → only ≡ o → o ≡ None
        by (Some e) h = absurd (some (handed_short h))
        by None h = refl
