-- Document 02, item 5, "The same for Item 1 where the output starts empty and isn't renewed": a session into one output, counted over
-- everything offered so far. Proofs in proofs/OneOutput.antt. Assumes nothing.
use Rattle.rules.specs.declared.answer.Code.TheVariants.{Done}
use Rattle.std.specs.Prelude.{ℕ, ◌+◌, ◌/◌, ◌≤◌, ◌≡◌, ◌⊎◌, ℤ, drop, length, replicate, take}
use mathlib.Core.List.{List, [], ◌∷◌, flat_map, map}
use Rattle.std.proofs.Math.IntN.ℤ.{pos}
use Rattle.rules.specs.PowerOn.{made_of}
use Rattle.text_rules.specs.Sizes.{shortest_record}
use Rattle.replay_rules.specs.Best.{found_open, started}
use Rattle.blocks.specs.Blocks.{word_at}
use Rattle.replay_rules.specs.Room.{room_of}
use Rattle.session_rules.specs.declared.session.Session.{Session}
use Rattle.session_rules.specs.Bytes.{held_in}
use Rattle.session_rules.specs.Calls.{Call, fed, session_at}
use Rattle.session_rules.specs.Face.{FeedDone, Feeding, feed_into, nothing, open_of}

-- ---- By value ----

-- from any session, by its own counts: the bytes that it took, those carried among them, and this portion; the answers that it wrote, and the
-- room that is left behind them
abbrev pub StillEnough : Type 0
StillEnough =
    (s : Session) (c : Call) → room_of (s.used + s.count + length c.portion) ≤ s.written + c.room → (fed s c).code ≡ 8 → ⊥

-- all portions, taken or not; with any room in each call, also where the output is renewed
abbrev pub FewRecords : Type 0
FewRecords =
    (address : ℤ) → (made_of address).code ≡ Done → (cs : List Call) → (session_at address cs).records ≤ length (flat_map (λ c. c.portion) cs) / shortest_record

-- ---- Of the call that C makes ----

-- whatever keeps the promise of `dlaveth_feed`, for any bytes that are lent: the same, by the counts that the session's bytes hold
abbrev pub FeedNoEight : Type 0
FeedNoEight =
    (session portion : List ℕ) (end : ℤ) (output report progress : List ℕ) (r : ℤ) (session' output' report' progress' : List ℕ)
    → FeedDone (feed_into session portion end output report progress) r session' output' report' progress'
    → room_of ((held_in session).used + (held_in session).count + length portion) ≤ (held_in session).written + length output → r ≡ pos 8 → ⊥

-- ---- Any calls into one output ----

-- what a caller holds between two calls: the session's bytes, and what the answers have left of the output
pub record Hand : Type 0 where
  pub session : List ℕ
  pub left : List ℕ

-- what comes with one call
pub record Brought : Type 0 where
  pub portion : List ℕ
  pub end : ℤ
  pub report : List ℕ

-- progress is 0 before a call, so that after a refusal it tells that nothing was written
abbrev pub handed : Hand → Brought → Feeding
handed h b = feed_into h.session b.portion b.end h.left b.report (replicate 8 0)

-- "isn't renewed": the next call is lent what lies behind the bytes that this one has written
abbrev pub behind_it : Feeding → Hand
behind_it f = record { session = f.session; left = drop (word_at f.progress 4) f.output }

unfoldable pub hand_after : Hand → List Brought → Hand
hand_after h [] = h
hand_after h (b ∷ bs) = hand_after (behind_it (handed h b)) bs

-- "the output starts empty": opened by `dlaveth_open`, whatever the address and whatever stood in the session's bytes
abbrev pub hand_at : ℤ → List ℕ → List ℕ → Hand
hand_at address session output = record { session = (open_of address session).session; left = output }

-- the next call: with room for all that was offered so far, this portion too, it is not 8; with any room its report tells no more records than
-- that many bytes can hold, or it was refused and nothing at all was written
pub record NextCall (all room : ℕ) (h : Hand) (b : Brought) (f : Feeding) : Type 0 where
  pub never : room_of all ≤ room → f.code ≡ 8 → ⊥
  pub few : (f ≡ nothing f.code h.session h.left b.report (replicate 8 0)) ⊎ (word_at f.report 4 ≤ all / shortest_record)

-- after any calls; and what they have written, as the session's bytes count it, and what is left make up the output
pub record Into (address : ℤ) (session output : List ℕ) (bs : List Brought) (h : Hand) : Type 0 where
  pub next : (b : Brought) → NextCall (length (flat_map (λ x. x.portion) bs) + length b.portion) (length output) h b (handed h b)
  pub whole : length session ≡ 256 → (made_of address).code ≡ Done → word_at h.session 12 + length h.left ≡ length output

abbrev pub IntoOne : Type 0
IntoOne =
    (address : ℤ) (session output : List ℕ) (bs : List Brought) → Into address session output bs (hand_after (hand_at address session output) bs)

-- by hand: a record; the front of another, which is refused for its report and comes again; its rest. How much is left of 99 bytes after each
abbrev brings : ℕ → List ℕ → Brought
brings report portion = record { portion = portion; end = pos 0; report = replicate report 0 }

unfoldable pub four_calls : List Brought
four_calls = brings 16 started ∷ brings 15 (take 10 found_open) ∷ brings 16 (take 10 found_open) ∷ brings 16 (drop 10 found_open) ∷ []

pub record Hands (bs : List Brought) (steps : List ℕ) : Type 0 where
  pub left : map (λ n. length (hand_after (hand_at (pos 76) (replicate 256 5) (replicate 99 7)) (take n bs)).left) steps ≡ 99 ∷ 68 ∷ 68 ∷ 68 ∷ 37 ∷ []

abbrev pub HandsMean : Type 0
HandsMean = Hands four_calls (0 ∷ 1 ∷ 2 ∷ 3 ∷ 4 ∷ [])
