-- From what the parts of a C call on a session give to what the call promises. Assumes nothing.
use Rattle.rules.specs.Codes.{number_of}
use Prim.Native.Nat.{ℕ}
use mathlib.Core.Path.{◌≡◌, refl, ap, sym, ◌∙◌}
use mathlib.Core.Bool.{Bool, cond, true, false, not, ◌&&◌, ◌||◌}
use mathlib.Core.List.{List, ◌++◌}
use lib.Dec.{eqb}
use lib.IntN.{ℤ}
use lib.IntN.ℤ.{pos}
use lib.ListN.{length}
use borrow.Author.Tests.{eq-eqb, ne_eqb}
use Rattle.rules.proofs.Lists.{no}
use Rattle.saved_rules.specs.Layout.{same_bytes}
use Rattle.blocks.specs.Blocks.{word}
use Rattle.replay_rules.specs.Replay.{written_over}
use Rattle.session_rules.specs.declared.session.Fed.{Fed}
use Rattle.session_rules.specs.declared.session.Opened.{Opened}
use Rattle.session_rules.specs.declared.session.Session.{Session}
use Rattle.session_rules.specs.Session.{opened_of}
use Rattle.session_rules.specs.Portion.{fed_code, FedOn, feed_of, refused_with, report_after}
use Rattle.session_rules.specs.Bytes.{bytes_of, bytes_over, held_in, is_held}
use Rattle.session_rules.specs.Face.{FeedDone, OpenDone, feed_into, is_end, is_flag, open_of, opening_from, progress_over}

pub opened : (address : ℤ) (before : List ℕ) {o : Opened} {after : List ℕ} {r : ℤ} → length before ≡ 256 → o ≡ opened_of address → after ≡ bytes_over (opening_from o).session before → r ≡ pos (number_of o.code) → OpenDone (open_of address before) r after
unfolding open_of
opened address before n m e c =
    rw (eq-eqb (length before) 256 n)
    (record { code = c ∙ rw m; bytes = e ∙ rw (eq-eqb (length before) 256 n, m) })

either : (p q : Bool) → p || q ≡ cond p true q
either true q = refl
either false q = refl

-- all four tests hold, or one does not
fitting : (p q r s : Bool) → (((not p || not q) || not r) || not s) ≡ false → (p ≡ true) × (q ≡ true) × (r ≡ true) × (s ≡ true)
fitting true true true true e = (refl, refl, refl, refl)
fitting true true true false e = no (sym e)
fitting true true false s e = no (sym e)
fitting true false r s e = no (sym e)
fitting false q r s e = no (sym e)

unfit : (p q r s : Bool) → (((not p || not q) || not r) || not s) ≡ true → (p && q && r && s) ≡ false
unfit true true true true e = no e
unfit true true true false e = refl
unfit true true false s e = refl
unfit true false r s e = refl
unfit false q r s e = refl

module _ (session portion : List ℕ) (end : ℤ) (output report progress : List ℕ) where
  abbrev Bad : Bool → Bool → Type 0
  Bad flag t = (((not (eqb (length session) 256) || not (eqb (length report) 16)) || not (eqb (length progress) 8)) || not flag) ≡ t

  abbrev Done : ℤ → List ℕ → List ℕ → List ℕ → List ℕ → Type 0
  Done = FeedDone (feed_into session portion end output report progress)

  pub refused : {flag : Bool} → flag ≡ is_flag end → Bad flag true → Done (pos 2) session output report progress
  unfolding feed_into
  refused f h =
      rw (unfit (eqb (length session) 256) (eqb (length report) 16) (eqb (length progress) 8) (is_flag end) (rw f at h))
      (record { code = refl; bytes = refl; answers = refl; told = refl; moved = refl })

  -- bytes that the session they hold is not saved as
  pub strange : {flag held : Bool} {s : Session} → flag ≡ is_flag end → Bad flag false → s ≡ held_in session → held ≡ same_bytes (bytes_of s) session → held ≡ false → Done (pos 6) session output report progress
  unfolding feed_into is_held
  strange f h s held t =
      let fits = fitting (eqb (length session) 256) (eqb (length report) 16) (eqb (length progress) 8) (is_flag end) (rw f at h) in
      let bad : same_bytes (bytes_of (held_in session)) session ≡ false = rw s at (sym held ∙ t) in
      rw (fits.0, fits.1, fits.2, fits.3, bad)
      (record { code = refl; bytes = refl; answers = refl; told = refl; moved = refl })

  pub repelled : {flag held : Bool} {s : Session} {code : ℕ} {r : ℤ} → flag ≡ is_flag end → Bad flag false → s ≡ held_in session → held ≡ same_bytes (bytes_of s) session → held ≡ true → code ≡ refused_with s (length portion) → (code ≡ 0 → ⊥) → r ≡ pos code → Done r session output report progress
  unfolding feed_into is_held
  repelled {code = code} f h s held t e ne c =
      let fits = fitting (eqb (length session) 256) (eqb (length report) 16) (eqb (length progress) 8) (is_flag end) (rw f at h) in
      let good : same_bytes (bytes_of (held_in session)) session ≡ true = rw s at (sym held ∙ t) in
      let why : refused_with (held_in session) (length portion) ≡ code = sym (rw s at e) in
      rw (fits.0, fits.1, fits.2, fits.3, good, why, ne_eqb code 0 ne)
      (record { code = c; bytes = refl; answers = refl; told = refl; moved = refl })

  pub fed : {flag held last : Bool} {s : Session} {code : ℕ} {d : Fed} {session' output' report' progress' : List ℕ} {r : ℤ}
      → flag ≡ is_flag end → Bad flag false → s ≡ held_in session → held ≡ same_bytes (bytes_of s) session → held ≡ true
      → code ≡ refused_with s (length portion) → code ≡ 0 → last ≡ is_end end
      → FedOn (feed_of s portion last (length output)) output output' d
      → session' ≡ bytes_over (bytes_of d.session) session
      → report' ≡ written_over (((word (fed_code d.stop) ++ word d.session.records) ++ word d.session.used) ++ word d.session.written) report
      → progress' ≡ progress_over (word d.taken ++ word d.written) progress
      → r ≡ pos (fed_code d.stop) → Done r session' output' report' progress'
  unfolding feed_into is_held report_after
  fed {d = d} {output' = output'} f h s held t e z l on saved told moved c =
      let fits = fitting (eqb (length session) 256) (eqb (length report) 16) (eqb (length progress) 8) (is_flag end) (rw f at h) in
      let good : same_bytes (bytes_of (held_in session)) session ≡ true = rw s at (sym held ∙ t) in
      let why : refused_with (held_in session) (length portion) ≡ 0 = sym (rw s at e) ∙ z in
      let done : FedOn (feed_of (held_in session) portion (is_end end) (length output)) output output' d = rw (s, l) at on in
      rw (fits.0, fits.1, fits.2, fits.3, good, why)
      (record {
        code = c ∙ ap pos done.code;
        bytes = saved ∙ rw (fits.0, done.session);
        answers = done.bytes;
        told = told ∙ rw (fits.1, done.code, done.session);
        moved = moved ∙ rw (fits.2, done.taken, done.written);
      })
