-- What is taken for an event is that event; every event in range is taken; the rest is refused by its kind. Assumes nothing.
use Prim.Native.Nat.{ℕ, ◌+◌, ◌≤◌, ◌<◌}
use native.Mathlib.Omega.{arith}
use mathlib.Core.Path.{◌≡◌, refl, sym, subst, ap, ◌∙◌}
use mathlib.Core.Bool.{Bool, true, false, cond, ◌&&◌}
use lib.Dec.{eqb, leb}
use lib.IntN.{ℤ}
use lib.IntN.ℤ.{pos, negsuc}
use borrow.Author.Tests.{eqb-false, eqb-true, le-leb, leb-true, lt-leb}
use Rattle.std.specs.Prelude.{Ok, Err}
use Rattle.rules.specs.declared.answer.Code.{Code}
use Rattle.rules.specs.declared.answer.Code.TheVariants.{BadKind, BadField}
use Rattle.rules.specs.declared.event.Event.{Event}
use Rattle.rules.specs.declared.event.Event.TheVariants.{Reset, Send, Write, Read, Receive, Respond, Start, End}
use Rattle.rules.specs.declared.event.Numbers.{Numbers}
use Rattle.rules.specs.Bits.{weight}
use Rattle.rules.specs.Event.{Checked, byte_of, good_if, is_bus_address, is_byte, is_local_sample, is_mark, is_remote_sample, kind_from, kinds, sample_of, samples_of, unused}
use Rattle.rules.specs.Forms.{AllTaken, FromTo, InRange, RefusedByKind, TakenAsSent, numbers_of, refusal_for}
use Rattle.rules.specs.Trial.{four}
use Rattle.rules.proofs.Lists.{Each, left, looked_at, no, right}

-- ---- One field ----

up_to : (n k : ℕ) → leb 0 n && leb n k ≡ true → n ≤ k
up_to n k e = leb-true n k (right (leb 0 n) (leb n k) e)

from_zero : (n k : ℕ) → n ≤ k → leb 0 n && leb n k ≡ true
from_zero n k h = rw (le-leb 0 n (omega arith), le-leb n k h)

byte_is : (n : ℕ) → n ≤ 255 → byte_of (pos n) ≡ n
byte_is n h = rw (le-leb n 255 h)

-- a number that is taken for a byte is that byte
address_back : (x : ℤ) → is_bus_address x ≡ true → (pos (byte_of x) ≡ x) × (byte_of x ≤ 127)
address_back (pos n) e =
    let g = up_to n 127 e in let same = byte_is n (omega arith) in (ap pos same, rw same g)
address_back (negsuc n) e = no e

byte_back : (x : ℤ) → is_byte x ≡ true → (pos (byte_of x) ≡ x) × (byte_of x ≤ 255)
byte_back (pos n) e = let g = up_to n 255 e in let same = byte_is n g in (ap pos same, rw same g)
byte_back (negsuc n) e = no e

unused_back : (x : ℤ) → unused x ≡ true → pos 0 ≡ x
unused_back (pos n) e = let g = up_to n 0 e in let z : 0 ≡ n = omega arith in ap pos z
unused_back (negsuc n) e = no e

remote_back : (x : ℤ) → is_remote_sample x ≡ true → (sample_of x ≡ x) × FromTo 32768 32767 (sample_of x)
remote_back (pos n) e = let g : n ≤ 32767 = leb-true n 32767 e in rw e (refl, g)
remote_back (negsuc n) e =
    let f = left (leb n 32767) true e in
    let g : n ≤ 32767 = leb-true n 32767 f in
    rw f (refl, omega arith)

local_back : (x : ℤ) → is_local_sample x ≡ true → (sample_of x ≡ x) × FromTo 8192 8191 (sample_of x)
local_back (pos n) e =
    let g : n ≤ 8191 = leb-true n 8191 e in rw (le-leb n 32767 (omega arith)) (refl, g)
local_back (negsuc n) e =
    let g : n ≤ 8191 = leb-true n 8191 (left (leb n 8191) true e) in
    rw (le-leb n 32767 (omega arith)) (refl, omega arith)

mark_back : (x : ℤ) → is_mark x ≡ true → pos (weight (eqb (byte_of x) 1) 1) ≡ x
mark_back (pos n) e = by n (up_to n 1 e)
  where
    by : (n : ℕ) → n ≤ 1 → pos (weight (eqb (byte_of (pos n)) 1) 1) ≡ pos n
    by n h = two (eqb n 0) refl
      where
        two : (t : Bool) → eqb n 0 ≡ t → pos (weight (eqb (byte_of (pos n)) 1) 1) ≡ pos n
        two true q = let z : n ≡ 0 = eqb-true n 0 q in rw z
        two false q = let z : n ≡ 1 = omega (arith, eqb-false n 0 q) in rw z
mark_back (negsuc n) e = no e

-- ---- What is taken was sent ----

good_is : (t : Bool) (f e : Event) → good_if t f ≡ Ok e → (t ≡ true) × (f ≡ e)
good_is true f e h = (refl, cc)
good_is false f e h = absurd (let z : ◌≡◌ {A = ℕ} 0 1 = cc in omega arith)

abbrev Sent : Event → Numbers → Type 0
Sent e n = (numbers_of e ≡ n) × InRange e

module _ (k : ℕ) (a b c : ℤ) (e : Event) where
  abbrev Was : Checked → Type 0
  Was v = v ≡ Ok e → Sent e (four k a b c)

  -- a row of the table: with its fields in range, its event is what was sent
  row : (i : ℕ) (fields : Bool) (f : Event) → (fields ≡ true → Sent f (four i a b c)) → k ≡ i → Was (good_if fields f)
  row i fields f h same is =
      let g = good_is fields f e is in
      let sent = h g.0 in
      subst (λ (x : Event). Sent x (four k a b c)) g.1 (sent.0 ∙ ap (λ (m : ℕ). four m a b c) (sym same), sent.1)

  three : {x y z : ℤ} {i : ℕ} → x ≡ a → y ≡ b → z ≡ c → four i x y z ≡ four i a b c
  three {i = i} p q r = λ j. four i (p j) (q j) (r j)

  silent : (i : ℕ) (f : Event) → numbers_of f ≡ four i (pos 0) (pos 0) (pos 0) → InRange f → unused a && unused b && unused c ≡ true → Sent f (four i a b c)
  silent i f is range h =
      let hab = left (unused a && unused b) (unused c) h in
      (is ∙ three (unused_back a (left (unused a) (unused b) hab)) (unused_back b (right (unused a) (unused b) hab)) (unused_back c (right (unused a && unused b) (unused c) h)), range)

  two_bytes : is_bus_address a && is_byte b && unused c ≡ true → (four 1 (pos (byte_of a)) (pos (byte_of b)) (pos 0) ≡ four 1 a b c) × ((byte_of a ≤ 127) × (byte_of b ≤ 255))
  two_bytes h =
      let hab = left (is_bus_address a && is_byte b) (unused c) h in
      let x = address_back a (left (is_bus_address a) (is_byte b) hab) in
      let y = byte_back b (right (is_bus_address a) (is_byte b) hab) in
      (three x.0 y.0 (unused_back c (right (is_bus_address a && is_byte b) (unused c) h)), (x.1, y.1))

  each : Each (λ (r : ℕ × Checked). k ≡ r.0 → Was r.1) (kinds a b c)
  each = (
    row 0 (unused a && unused b && unused c) Reset (silent 0 Reset refl tt),
    (
      row 1 (is_bus_address a && is_byte b && unused c) (Send (byte_of a) (byte_of b)) (λ h. two_bytes h),
      (
        row 2 (is_bus_address a && is_byte b && is_byte c) (Write (byte_of a) (byte_of b) (byte_of c)) writes,
        (
          row 3 (is_bus_address a && is_byte b && unused c) (Read (byte_of a) (byte_of b)) (λ h. (ap (λ (n : Numbers). four 3 n.a n.b n.c) (two_bytes h).0, (two_bytes h).1)),
          (
            row 4 (is_bus_address a && unused b && unused c) (Receive (byte_of a)) receives,
            (
              row 5 (unused a && unused b && unused c) Respond (silent 5 Respond refl tt),
              (
                row 6 (unused a && unused b && unused c) Start (silent 6 Start refl tt),
                (
                  row 7 (is_local_sample a && is_remote_sample b && is_mark c) (End (samples_of a b c)) ends,
                  tt,
                ),
              ),
            ),
          ),
        ),
      ),
    ),
  )
    where
      writes : is_bus_address a && is_byte b && is_byte c ≡ true → Sent (Write (byte_of a) (byte_of b) (byte_of c)) (four 2 a b c)
      writes h =
          let hab = left (is_bus_address a && is_byte b) (is_byte c) h in
          let x = address_back a (left (is_bus_address a) (is_byte b) hab) in
          let y = byte_back b (right (is_bus_address a) (is_byte b) hab) in
          let z = byte_back c (right (is_bus_address a && is_byte b) (is_byte c) h) in
          (three x.0 y.0 z.0, (x.1, y.1, z.1))

      receives : is_bus_address a && unused b && unused c ≡ true → Sent (Receive (byte_of a)) (four 4 a b c)
      receives h =
          let hab = left (is_bus_address a && unused b) (unused c) h in
          let x = address_back a (left (is_bus_address a) (unused b) hab) in
          (three x.0 (unused_back b (right (is_bus_address a) (unused b) hab)) (unused_back c (right (is_bus_address a && unused b) (unused c) h)), x.1)

      ends : is_local_sample a && is_remote_sample b && is_mark c ≡ true → Sent (End (samples_of a b c)) (four 7 a b c)
      ends h =
          let hab = left (is_local_sample a && is_remote_sample b) (is_mark c) h in
          let x = local_back a (left (is_local_sample a) (is_remote_sample b) hab) in
          let y = remote_back b (right (is_local_sample a) (is_remote_sample b) hab) in
          (three x.0 y.0 (mark_back c (right (is_local_sample a && is_remote_sample b) (is_mark c) h)), (x.1, y.1))

pub taken_as_sent : TakenAsSent
taken_as_sent n e is = by n.kind is
  where
    by : (kind : ℤ) → kind_from kind n.a n.b n.c ≡ Ok e → (numbers_of e ≡ record { kind = kind; a = n.a; b = n.b; c = n.c }) × InRange e
    by (pos k) is =
        looked_at (Was k n.a n.b n.c e) k (kinds n.a n.b n.c) (Err BadKind) (each k n.a n.b n.c e) (λ rest h. absurd (let z : ◌≡◌ {A = ℕ} 0 1 = cc in omega arith)) is
    by (negsuc k) is = absurd (let z : ◌≡◌ {A = ℕ} 0 1 = cc in omega arith)

-- ---- Every event in range is taken ----

local_taken : (x : ℤ) → FromTo 8192 8191 x → (is_local_sample x ≡ true) × (sample_of x ≡ x)
local_taken (pos n) h = (le-leb n 8191 h, rw (le-leb n 32767 (omega arith)))
local_taken (negsuc n) h = (rw (le-leb n 8191 (omega arith)), rw (le-leb n 32767 (omega arith)))

remote_taken : (x : ℤ) → FromTo 32768 32767 x → (is_remote_sample x ≡ true) × (sample_of x ≡ x)
remote_taken (pos n) h = (le-leb n 32767 h, rw (le-leb n 32767 h))
remote_taken (negsuc n) h = (rw (le-leb n 32767 (omega arith)), rw (le-leb n 32767 (omega arith)))

mark_taken : (b : Bool) → (is_mark (pos (weight b 1)) ≡ true) × (eqb (byte_of (pos (weight b 1))) 1 ≡ b)
mark_taken true = (refl, refl)
mark_taken false = (refl, refl)

pub all_taken_lem : AllTaken
all_taken_lem Reset h = refl
all_taken_lem (Send a n) h =
    rw (from_zero a 127 h.0, from_zero n 255 h.1, le-leb a 255 (let g = h.0 in omega arith), le-leb n 255 h.1)
all_taken_lem (Write a n b) h =
    rw (from_zero a 127 h.0, from_zero n 255 h.1, from_zero b 255 h.2, le-leb a 255 (let g = h.0 in omega arith), le-leb n 255 h.1, le-leb b 255 h.2)
all_taken_lem (Read a n) h =
    rw (from_zero a 127 h.0, from_zero n 255 h.1, le-leb a 255 (let g = h.0 in omega arith), le-leb n 255 h.1)
all_taken_lem (Receive a) h = rw (from_zero a 127 h, le-leb a 255 (omega arith))
all_taken_lem Respond h = refl
all_taken_lem Start h = refl
all_taken_lem (End t) h =
    let l = local_taken t.local h.0 in
    let r = remote_taken t.remote h.1 in
    let m = mark_taken t.broken in
    rw (l.0, r.0, m.0, l.1, m.1)

-- ---- The rest is refused by its kind ----

past : (i k : ℕ) → i ≤ k → (k ≡ i → ⊥) → i + 1 ≤ k
past i k p q = omega (arith, q)

module _ (code : Code) (k : ℕ) where
  two_in : (i : ℕ) (fields : Bool) (f : Event) → leb i 7 ≡ true → k ≡ i → good_if fields f ≡ Err code → code ≡ cond (leb k 7) BadField BadKind
  two_in i true f small same is = absurd (let z : ◌≡◌ {A = ℕ} 0 1 = cc in omega arith)
  two_in i false f small same is = let z : code ≡ BadField = cc in rw (same, small, z)

  beyond : (k ≡ 0 → ⊥) → (k ≡ 1 → ⊥) → (k ≡ 2 → ⊥) → (k ≡ 3 → ⊥) → (k ≡ 4 → ⊥) → (k ≡ 5 → ⊥) → (k ≡ 6 → ⊥) → (k ≡ 7 → ⊥) → 7 < k
  beyond a b c d e f g h =
      past 7 k (past 6 k (past 5 k (past 4 k (past 3 k (past 2 k (past 1 k (past 0 k (omega arith) a) b) c) d) e) f) g) h

pub refused_by_kind : RefusedByKind
refused_by_kind n code is = by n.kind is
  where
    none : Bool
    none = unused n.a && unused n.b && unused n.c

    by : (kind : ℤ) → kind_from kind n.a n.b n.c ≡ Err code → code ≡ refusal_for kind
    by (pos k) is =
        looked_at (λ (v : Checked). v ≡ Err code → code ≡ cond (leb k 7) BadField BadKind) k (kinds n.a n.b n.c) (Err BadKind)
        (two_in code k 0 none Reset refl, (two_in code k 1 (is_bus_address n.a && is_byte n.b && unused n.c) (Send (byte_of n.a) (byte_of n.b)) refl, (two_in code k 2 (is_bus_address n.a && is_byte n.b && is_byte n.c) (Write (byte_of n.a) (byte_of n.b) (byte_of n.c)) refl, (two_in code k 3 (is_bus_address n.a && is_byte n.b && unused n.c) (Read (byte_of n.a) (byte_of n.b)) refl, (two_in code k 4 (is_bus_address n.a && unused n.b && unused n.c) (Receive (byte_of n.a)) refl, (two_in code k 5 none Respond refl, (two_in code k 6 none Start refl, (two_in code k 7 (is_local_sample n.a && is_remote_sample n.b && is_mark n.c) (End (samples_of n.a n.b n.c)) refl, tt))))))))
        (λ r h. let far = beyond code k r.0 r.1.0 r.1.1.0 r.1.1.1.0 r.1.1.1.1.0 r.1.1.1.1.1.0 r.1.1.1.1.1.1.0 r.1.1.1.1.1.1.1.0 in let z : code ≡ BadKind = cc in rw (lt-leb k 7 far, z))
        is
    by (negsuc k) is = cc
