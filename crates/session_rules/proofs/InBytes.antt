-- A session in bytes is the session: by the places of its bytes. Assumes nothing.
use Prim.Native.Nat.{ℕ, ◌+◌, ◌*◌, ◌-◌, ◌/◌, ◌%◌}
use native.Mathlib.Omega.{arith}
use mathlib.Core.Path.{◌≡◌, refl, sym, ap, ◌∙◌}
use mathlib.Core.Bool.{Bool, cond, true, false, ◌&&◌, and-false}
use mathlib.Core.List.{List, [], ◌∷◌, ◌++◌, append_assoc, append-nil, map}
use lib.Dec.{eqb}
use lib.IntN.{ℤ}
use lib.IntN.ℤ.{negsuc, pos}
use lib.ListN.{drop, get_or, length, replicate, take, length-append, length-replicate, length-take}
use lib.Seq.{drop_at, take_at}
use borrow.Author.Tests.{eq-eqb, eqb-false, eqb-true, ne_eqb}
use Rattle.saved_rules.specs.Layout.{flag, is_set, same_bytes, save_of, state_at}
use Rattle.saved_rules.proofs.Same.{are_same, same_self}
use Rattle.saved_rules.proofs.Saved.{saved_is_loaded}
use Rattle.blocks.specs.Blocks.{word_at}
use Rattle.replay_rules.proofs.Words.{word_back}
use Rattle.session_rules.specs.declared.session.Session.{Session}
use Rattle.session_rules.specs.Session.{carried_of, is_session, opened_of, padded}
use Rattle.session_rules.specs.Portion.{Feed, feed_of, refused_with, report_after}
use Rattle.session_rules.specs.Calls.{session_after}
use Rattle.session_rules.specs.Bytes.{bytes_of, head_of, held_in, is_held, marks_of}
use Rattle.session_rules.specs.Face.{Feeding, Opening, feed_into, is_end, is_flag, nothing, open_of}
use Rattle.session_rules.specs.InBytes.{CallsInBytes, FeedIsFed, FeedsAs, HeldIsSaved, Lent, OpenMeans, PromisesMet, BytesRefused, Refuses, Restored, SessionIsHeld, ZerosAreNone, bytes_after, call_of, lent_to}
use Rattle.session_rules.proofs.Portions.{refused, same_session}
use Rattle.session_rules.proofs.Sessions.{Held, fed_held, given, held, is_held as was_held, opened_held}

flag_back : (t : Bool) → is_set (flag t) ≡ t
flag_back true = refl
flag_back false = refl

padded_size : (l : List ℕ) → length (padded l) ≡ 38
padded_size l =
    let zeros : List ℕ = replicate (38 - length l) 0 in
    let k : length zeros ≡ 38 - length l = length-replicate {A = ℕ} (38 - length l) 0 in
    length-append (take 38 l) zeros ∙ omega (arith, length-take 38 l, k)

-- 38 bytes in front of others are what is packed of them
padded_front : (p rest : List ℕ) → length p ≡ 38 → padded (p ++ rest) ≡ p
padded_front p rest e =
    let z : 38 - length (p ++ rest) ≡ 0 = omega (arith, length-append p rest, e) in
    rw (take_at p rest 38 e, z) (append-nil p)

module _ (s : Session) where
  abbrev kept : List ℕ
  kept = padded (carried_of s)

  head_size : length (head_of s) ≡ 128
  unfolding head_of
  head_size =
      let n : length ((marks_of s ++ kept) ++ replicate 74 0) ≡ length (marks_of s ++ kept) + 74 = length-append (marks_of s ++ kept) (replicate 74 0) in
      let m : length (marks_of s ++ kept) ≡ 16 + length kept = length-append (marks_of s) kept in
      omega (arith, n, m, padded_size (carried_of s))

  size : length (bytes_of s) ≡ 256
  unfolding bytes_of
  size = length-append (head_of s) (save_of s.chip) ∙ omega (arith, head_size, (saved_is_loaded s.chip).size)

  behind : drop 128 (bytes_of s) ≡ save_of s.chip
  unfolding bytes_of
  behind = drop_at (head_of s) (save_of s.chip) 128 head_size

  between : drop 16 (bytes_of s) ≡ kept ++ (replicate 74 0 ++ save_of s.chip)
  unfolding bytes_of head_of
  between = append_assoc kept (replicate 74 0) (save_of s.chip)

  -- byte by byte
  records : word_at (bytes_of s) 4 ≡ s.records % 256 + 256 * (s.records / 256 % 256) + 65536 * (s.records / 65536 % 256) + 16777216 * (s.records / 16777216 % 256)
  unfolding bytes_of head_of
  records = refl

  used : word_at (bytes_of s) 8 ≡ s.used % 256 + 256 * (s.used / 256 % 256) + 65536 * (s.used / 65536 % 256) + 16777216 * (s.used / 16777216 % 256)
  unfolding bytes_of head_of
  used = refl

  written : word_at (bytes_of s) 12 ≡ s.written % 256 + 256 * (s.written / 256 % 256) + 65536 * (s.written / 65536 % 256) + 16777216 * (s.written / 16777216 % 256)
  unfolding bytes_of head_of
  written = refl

  ended : is_set (get_or (bytes_of s) 1 0) ≡ is_set (flag s.ended)
  unfolding bytes_of head_of
  ended = refl

  stopped : is_set (get_or (bytes_of s) 2 0) ≡ is_set (flag s.stopped)
  unfolding bytes_of head_of
  stopped = refl

  count : get_or (bytes_of s) 3 0 ≡ s.count % 256
  unfolding bytes_of head_of
  count = refl

  module _ (h : Held s) where
    loaded : held_in (bytes_of s) ≡ s
    unfolding held_in
    loaded =
        let carried : padded (drop 16 (bytes_of s)) ≡ s.carried = ap padded between ∙ padded_front kept (replicate 74 0 ++ save_of s.chip) (padded_size (carried_of s)) ∙ h.padding in
        let chip : state_at (drop 128 (bytes_of s)) ≡ s.chip = ap state_at behind ∙ (saved_is_loaded s.chip).loaded in
        same_session chip (records ∙ word_back s.records (omega (arith, h.least, h.total))) (used ∙ word_back s.used (omega (arith, h.total)))
        (written ∙ word_back s.written (omega (arith, h.long, h.least, h.total))) (ended ∙ flag_back s.ended) (stopped ∙ flag_back s.stopped) (count ∙ omega (arith, h.few)) carried

    restored : Restored s
    unfolding is_held
    restored = record { loaded = loaded; taken = ap (λ (t : Session). same_bytes (bytes_of t) (bytes_of s)) loaded ∙ same_self (bytes_of s); size = size }

pub session_is_held : SessionIsHeld
session_is_held s e = restored s (held s e)

pub held_is_saved : HeldIsSaved
unfolding is_held
held_is_saved b e = are_same (bytes_of (held_in b)) b e

pub zeros_are_none : ZerosAreNone
unfolding is_held same_bytes bytes_of head_of
zeros_are_none = refl

pub open_means : OpenMeans
unfolding open_of opened_of
open_means address session =
    record {
      fresh = λ n made. rw (eq-eqb (length session) 256 n, made);
      bad = λ n made. rw (eq-eqb (length session) 256 n, made);
      other = λ ne. rw (ne_eqb (length session) 256 ne);
    }

pub promises_met : PromisesMet
promises_met opening feeding =
    record {
      opened = record { code = refl; bytes = refl };
      fed = record { code = refl; bytes = refl; answers = refl; told = refl; moved = refl };
      one_open = λ r session p. (p.code, p.bytes);
      one_feed = λ r session output report progress p. (p.code, p.bytes, p.answers, p.told, p.moved);
    }

-- ---- Feed ----

-- 0 and 1 say no and yes
said : (end : Bool) → (is_flag (pos (cond end 1 0)) ≡ true) × (is_end (pos (cond end 1 0)) ≡ end)
said true = (refl, refl)
said false = (refl, refl)

module _ (s : Session) (is : is_session s ≡ true) (portion : List ℕ) (end : Bool) (output report progress : List ℕ) (sixteen : length report ≡ 16) (eight : length progress ≡ 8) where
  abbrev f : Feed
  f = feed_of s portion end (length output)

  feeds_as : FeedsAs s portion end output report progress f
  unfolding feed_into report_after
  feeds_as =
      let k = session_is_held s is in
      let e = said end in
      record {
        done = λ z. rw (eq-eqb (length (bytes_of s)) 256 k.size, eq-eqb (length report) 16 sixteen, eq-eqb (length progress) 8 eight, e.0, k.taken, k.loaded, z, e.1) refl;
        refused = λ code z n. rw (eq-eqb (length (bytes_of s)) 256 k.size, eq-eqb (length report) 16 sixteen, eq-eqb (length progress) 8 eight, e.0, k.taken, k.loaded, z, ne_eqb code 0 n);
      }

pub feed_is_fed : FeedIsFed
feed_is_fed s is portion end output report progress sixteen eight = feeds_as s is portion end output report progress sixteen eight

no_flag : (end : ℤ) → (end ≡ pos 0 → ⊥) → (end ≡ pos 1 → ⊥) → is_flag end ≡ false
no_flag (pos n) a b = rw (ne_eqb n 0 (λ e. a (ap pos e)), ne_eqb n 1 (λ e. b (ap pos e)))
no_flag (negsuc n) a b = refl

-- what is no session is refused with 6 before anything else
not_one : (s : Session) (size : ℕ) → is_session s ≡ false → refused_with s size ≡ 6
unfolding refused_with
not_one s size e = rw e

module _ (session portion : List ℕ) (end : ℤ) (output report progress : List ℕ) where
  abbrev a : Bool
  a = eqb (length session) 256

  abbrev b : Bool
  b = eqb (length report) 16

  abbrev c : Bool
  c = eqb (length progress) 8

  pub refuses : Refuses session portion end output report progress
  unfolding feed_into
  refuses =
      record {
        other_session = λ n. rw (ne_eqb (length session) 256 n);
        other_report = λ n. rw (ne_eqb (length report) 16 n, and-false a);
        other_progress = λ n. rw (ne_eqb (length progress) 8 n, and-false (a && b));
        other_end = λ n m. rw (no_flag end n m, and-false (a && b && c));
        strange = λ d e f g h. rw (eq-eqb (length session) 256 d, eq-eqb (length report) 16 e, eq-eqb (length progress) 8 f, g, h);
        none = λ d e f g h. rw (eq-eqb (length session) 256 d, eq-eqb (length report) 16 e, eq-eqb (length progress) 8 f, g, not_one (held_in session) (length portion) h) (by (is_held session));
      }
    where
      by : (t : Bool) → cond t (nothing 6 session output report progress) (nothing 6 session output report progress) ≡ nothing 6 session output report progress
      by true = refl
      by false = refl

pub bytes_refused : BytesRefused
bytes_refused = refuses

-- ---- Calls one after the other ----

one_call : (s : Session) → Held s → (l : Lent) → (lent_to (bytes_of s) l).session ≡ bytes_of (feed_of s l.portion l.end (length l.output)).session
one_call s h l = by (eqb (refused_with s (length l.portion)) 0) refl
  where
    k : FeedsAs s l.portion l.end l.output l.report l.progress (feed_of s l.portion l.end (length l.output))
    k = feed_is_fed s (was_held s h) l.portion l.end l.output l.report l.progress l.sixteen l.eight

    same : (code : ℕ) → refused_with s (length l.portion) ≡ code → eqb code 0 ≡ false → (feed_of s l.portion l.end (length l.output)).session ≡ s
    same code e n = ap (λ (f : Feed). f.session) (refused s l.portion l.end (length l.output) code e n)

    by : (t : Bool) → eqb (refused_with s (length l.portion)) 0 ≡ t → (lent_to (bytes_of s) l).session ≡ bytes_of (feed_of s l.portion l.end (length l.output)).session
    by true q = ap (λ (x : Feeding). x.session) (k.done (eqb-true (refused_with s (length l.portion)) 0 q))
    by false q =
        ap (λ (x : Feeding). x.session) (k.refused (refused_with s (length l.portion)) refl (eqb-false (refused_with s (length l.portion)) 0 q))
        ∙ sym (ap bytes_of (same (refused_with s (length l.portion)) refl q))

calls_in_bytes_from : (ls : List Lent) (s : Session) → Held s → bytes_after (bytes_of s) ls ≡ bytes_of (session_after s (map call_of ls))
unfolding bytes_after session_after
calls_in_bytes_from [] s h = refl
calls_in_bytes_from (l ∷ ls) s h =
    ap (λ (x : List ℕ). bytes_after x ls) (one_call s h l)
    ∙ calls_in_bytes_from ls (feed_of s l.portion l.end (length l.output)).session (fed_held s l.portion l.end (length l.output) h (given s l.portion l.end (length l.output)))

pub calls_in_bytes : CallsInBytes
calls_in_bytes address made session size ls =
    ap (λ (x : Opening). bytes_after x.session ls) ((open_means address session).fresh size made) ∙ calls_in_bytes_from ls (opened_of address).session (opened_held address made)
