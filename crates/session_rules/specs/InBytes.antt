-- What is shown of a session in bytes, and of the two calls on it. Proofs in proofs/InBytes.antt. Assumes nothing.
use Rattle.rules.specs.declared.answer.Code.TheVariants.{Done, BadField}
use Rattle.std.specs.Prelude.{ℕ, ◌≡◌, Bool, cond, false, true, List, [], ◌∷◌, ◌++◌, map, ℤ, drop, length, replicate}
use Rattle.std.proofs.Math.IntN.ℤ.{pos}
use Rattle.rules.specs.PowerOn.{made_of}
use Rattle.blocks.specs.Blocks.{word}
use Rattle.session_rules.specs.declared.session.Session.{Session}
use Rattle.session_rules.specs.Session.{is_session, opened_of}
use Rattle.session_rules.specs.Portion.{Feed, feed_of, refused_with}
use Rattle.session_rules.specs.Calls.{Call, session_at}
use Rattle.session_rules.specs.Bytes.{bytes_of, held_in, is_held}
use Rattle.session_rules.specs.Face.{FeedDone, Feeding, OpenDone, Opening, feed_into, is_flag, open_of}

-- ---- Saved and held ----

-- a session that was saved is held, in 256 bytes; and bytes that hold one are saved as those bytes
pub record Restored (s : Session) : Type 0 where
  pub loaded : held_in (bytes_of s) ≡ s
  pub taken : is_held (bytes_of s) ≡ true
  pub size : length (bytes_of s) ≡ 256

abbrev pub SessionIsHeld : Type 0
SessionIsHeld = (s : Session) → is_session s ≡ true → Restored s

abbrev pub HeldIsSaved : Type 0
HeldIsSaved = (b : List ℕ) → is_held b ≡ true → bytes_of (held_in b) ≡ b

abbrev pub ZerosAreNone : Type 0
ZerosAreNone = is_held (replicate 256 0) ≡ false

-- ---- Open ----

pub record Opens (address : ℤ) (session : List ℕ) : Type 0 where
  pub fresh : length session ≡ 256 → (made_of address).code ≡ Done → open_of address session ≡ record { code = 0; session = bytes_of (opened_of address).session }
  pub bad : length session ≡ 256 → (made_of address).code ≡ BadField → open_of address session ≡ record { code = 2; session = replicate 256 0 }
  pub other : (length session ≡ 256 → ⊥) → open_of address session ≡ record { code = 2; session = session }

abbrev pub OpenMeans : Type 0
OpenMeans = (address : ℤ) (session : List ℕ) → Opens address session

-- ---- Feed ----

-- a portion that a session in bytes takes: what the session takes by value
pub record FeedsAs (s : Session) (portion : List ℕ) (end : Bool) (output report progress : List ℕ) (f : Feed) : Type 0 where
  pub done : refused_with s (length portion) ≡ 0
      → feed_into (bytes_of s) portion (pos (cond end 1 0)) output report progress
      ≡ record {
        code = f.code;
        session = bytes_of f.session;
        output = f.text ++ drop (length f.text) output;
        report = word f.code ++ word f.session.records ++ word f.session.used ++ word f.session.written;
        progress = word f.taken ++ word (length f.text);
      }
  pub refused : (code : ℕ) → refused_with s (length portion) ≡ code → (code ≡ 0 → ⊥)
      → feed_into (bytes_of s) portion (pos (cond end 1 0)) output report progress ≡ record { code = code; session = bytes_of s; output = output; report = report; progress = progress }

abbrev pub FeedIsFed : Type 0
FeedIsFed =
    (s : Session) → is_session s ≡ true → (portion : List ℕ) (end : Bool) (output report progress : List ℕ) → length report ≡ 16 → length progress ≡ 8
    → FeedsAs s portion end output report progress (feed_of s portion end (length output))

-- another length, or an end that is neither 0 nor 1, is code 2, whatever the bytes are; then bytes that are no session are code 6; neither
-- writes anything
pub record Refuses (session portion : List ℕ) (end : ℤ) (output report progress : List ℕ) : Type 0 where
  pub other_session : (length session ≡ 256 → ⊥) → feed_into session portion end output report progress ≡ record { code = 2; session = session; output = output; report = report; progress = progress }
  pub other_report : (length report ≡ 16 → ⊥) → feed_into session portion end output report progress ≡ record { code = 2; session = session; output = output; report = report; progress = progress }
  pub other_progress : (length progress ≡ 8 → ⊥) → feed_into session portion end output report progress ≡ record { code = 2; session = session; output = output; report = report; progress = progress }
  pub other_end : (end ≡ pos 0 → ⊥) → (end ≡ pos 1 → ⊥) → feed_into session portion end output report progress ≡ record { code = 2; session = session; output = output; report = report; progress = progress }
  pub strange : length session ≡ 256 → length report ≡ 16 → length progress ≡ 8 → is_flag end ≡ true → is_held session ≡ false
      → feed_into session portion end output report progress ≡ record { code = 6; session = session; output = output; report = report; progress = progress }
  pub none : length session ≡ 256 → length report ≡ 16 → length progress ≡ 8 → is_flag end ≡ true → is_session (held_in session) ≡ false
      → feed_into session portion end output report progress ≡ record { code = 6; session = session; output = output; report = report; progress = progress }

abbrev pub BytesRefused : Type 0
BytesRefused = (session portion : List ℕ) (end : ℤ) (output report progress : List ℕ) → Refuses session portion end output report progress

-- ---- Calls one after the other ----

-- what a caller lends to one call
pub record Lent : Type 0 where
  pub portion : List ℕ
  pub end : Bool
  pub output : List ℕ
  pub report : List ℕ
  pub progress : List ℕ
  pub sixteen : length report ≡ 16
  pub eight : length progress ≡ 8

abbrev pub lent_to : List ℕ → Lent → Feeding
lent_to session l = feed_into session l.portion (pos (cond l.end 1 0)) l.output l.report l.progress

unfoldable pub bytes_after : List ℕ → List Lent → List ℕ
bytes_after session [] = session
bytes_after session (l ∷ ls) = bytes_after (lent_to session l).session ls

abbrev pub call_of : Lent → Call
call_of l = record { portion = l.portion; end = l.end; room = length l.output }

-- a session that C opened, after any calls of right lengths (others change nothing): its bytes are those of the session after those calls, of
-- which `Calls.EveryMoment`, `Calls.EndIsWhole`, `Calls.BadAtOnce`, `Calls.HoweverCut` and `Calls.SessionNoAlarmLost` speak
abbrev pub CallsInBytes : Type 0
CallsInBytes =
    (address : ℤ) → (made_of address).code ≡ Done → (session : List ℕ) → length session ≡ 256 → (ls : List Lent)
    → bytes_after (open_of address session).session ls ≡ bytes_of (session_at address (map call_of ls))

-- ---- The promises ----

-- they ask for what the definitions give, and no second answer meets them
pub record Promised (opening : Opening) (feeding : Feeding) : Type 0 where
  pub opened : OpenDone opening (pos opening.code) opening.session
  pub fed : FeedDone feeding (pos feeding.code) feeding.session feeding.output feeding.report feeding.progress
  pub one_open : (r : ℤ) (session : List ℕ) → OpenDone opening r session → (r ≡ pos opening.code) × (session ≡ opening.session)
  pub one_feed : (r : ℤ) (session output report progress : List ℕ) → FeedDone feeding r session output report progress
      → (r ≡ pos feeding.code) × (session ≡ feeding.session) × (output ≡ feeding.output) × (report ≡ feeding.report) × (progress ≡ feeding.progress)

abbrev pub PromisesMet : Type 0
PromisesMet = (opening : Opening) (feeding : Feeding) → Promised opening feeding
