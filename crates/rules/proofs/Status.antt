-- The status byte has each latched flag in its place: tried at every value of its eight bits. Assumes nothing.
use Prim.Native.Nat.{ℕ, ◌+◌}
use mathlib.Core.Path.{◌≡◌, refl, sym, ◌∙◌}
use mathlib.Core.Bool.{Bool, true, false, ◌&&◌, ◌||◌, not}
use Rattle.rules.specs.declared.register.Channel.{Channel}
use Rattle.rules.specs.declared.register.Channel.TheVariants.{Local, Remote}
use Rattle.rules.specs.declared.state.State.{State}
use Rattle.rules.specs.Bits.{bit, weight}
use Rattle.rules.specs.Channels.{traits}
use Rattle.rules.specs.State.{channel_at}
use Rattle.rules.specs.Status.{Fault, bit_of, mark_of, status_of}
use Rattle.rules.specs.Status.Fault.{Above, Below, Open}
use Rattle.rules.proofs.Lists.{left, no, not-true, right}
use Rattle.rules.proofs.WellFormed.{Well}

same : Bool → Bool → Bool
same true b = b
same false b = not b

same_eq : (a b : Bool) → same a b ≡ true → a ≡ b
unfolding same
same_eq true true e = refl
same_eq true false e = no e
same_eq false true e = no e
same_eq false false e = refl

-- what holds at both of a bit's values holds at any
abbrev each : (Bool → Bool) → Bool
each p = p true && p false

at : (p : Bool → Bool) → each p ≡ true → (b : Bool) → p b ≡ true
at p e true = left (p true) (p false) e
at p e false = right (p true) (p false) e

-- busy, the five flags in their order, THERM of each channel: what the byte shows of the flags; it has no bit 8
abbrev byte : Bool → Bool → Bool → Bool → Bool → Bool → Bool → Bool → ℕ
byte a b c d e f g h =
    weight a 128 + (weight b 64 + (weight c 32 + (weight d 16 + (weight e 8 + (weight f 4 + 0))))) + (weight g 1 + (weight h 2 + 0))

abbrev shows : Bool → Bool → Bool → Bool → Bool → Bool → Bool → Bool → Bool
shows a b c d e f g h =
    let n = byte a b c d e f g h in
    same (bit 6 n) b && (same (bit 5 n) c && (same (bit 4 n) d && (same (bit 3 n) e && (same (bit 2 n) f && (same (bit 8 n) false && (same (bit 7 n) a && (same (bit 1 n) h && same (bit 0 n) g)))))))

all_shown : (a b c d e f g h : Bool) → shows a b c d e f g h ≡ true
unfolding same
all_shown a b c d e f g h =
    at (λ h. shows a b c d e f g h)
    (at (λ g. each (λ h. shows a b c d e f g h))
    (at (λ f. each (λ g. each (λ h. shows a b c d e f g h)))
    (at (λ e. each (λ f. each (λ g. each (λ h. shows a b c d e f g h))))
    (at (λ d. each (λ e. each (λ f. each (λ g. each (λ h. shows a b c d e f g h)))))
    (at (λ c. each (λ d. each (λ e. each (λ f. each (λ g. each (λ h. shows a b c d e f g h))))))
    (at (λ b. each (λ c. each (λ d. each (λ e. each (λ f. each (λ g. each (λ h. shows a b c d e f g h)))))))
    (at (λ a. each (λ b. each (λ c. each (λ d. each (λ e. each (λ f. each (λ g. each (λ h. shows a b c d e f g h)))))))) refl a) b) c) d) e) f) g) h

record Shown (a b c d e f g h : Bool) : Type 0 where
  six : bit 6 (byte a b c d e f g h) ≡ b
  five : bit 5 (byte a b c d e f g h) ≡ c
  four : bit 4 (byte a b c d e f g h) ≡ d
  three : bit 3 (byte a b c d e f g h) ≡ e
  two : bit 2 (byte a b c d e f g h) ≡ f
  none : bit 8 (byte a b c d e f g h) ≡ false
  seven : bit 7 (byte a b c d e f g h) ≡ a
  one : bit 1 (byte a b c d e f g h) ≡ h
  zero : bit 0 (byte a b c d e f g h) ≡ g

shown : (a b c d e f g h : Bool) → Shown a b c d e f g h
shown a b c d e f g h =
    let n = byte a b c d e f g h in
    let b6 = same (bit 6 n) b in
    let b5 = same (bit 5 n) c in
    let b4 = same (bit 4 n) d in
    let b3 = same (bit 3 n) e in
    let b2 = same (bit 2 n) f in
    let b8 = same (bit 8 n) false in
    let b7 = same (bit 7 n) a in
    let b1 = same (bit 1 n) h in
    let b0 = same (bit 0 n) g in
    let t1 = b1 && b0 in
    let t7 = b7 && t1 in
    let t8 = b8 && t7 in
    let t2 = b2 && t8 in
    let t3 = b3 && t2 in
    let t4 = b4 && t3 in
    let t5 = b5 && t4 in
    let from5 = right b6 t5 (all_shown a b c d e f g h) in
    let from4 = right b5 t4 from5 in
    let from3 = right b4 t3 from4 in
    let from2 = right b3 t2 from3 in
    let from8 = right b2 t8 from2 in
    let from7 = right b8 t7 from8 in
    let from1 = right b7 t1 from7 in
    record {
      six = same_eq (bit 6 n) b (left b6 t5 (all_shown a b c d e f g h));
      five = same_eq (bit 5 n) c (left b5 t4 from5);
      four = same_eq (bit 4 n) d (left b4 t3 from4);
      three = same_eq (bit 3 n) e (left b3 t2 from3);
      two = same_eq (bit 2 n) f (left b2 t8 from2);
      none = same_eq (bit 8 n) false (left b8 t7 from8);
      seven = same_eq (bit 7 n) a (left b7 t1 from7);
      one = same_eq (bit 1 n) h (left b1 b0 from1);
      zero = same_eq (bit 0 n) g (right b1 b0 from1);
    }

-- of a state's status byte
tried : (s : State) → Shown s.busy s.localhighflag s.locallowflag s.remotehighflag s.remotelowflag s.remotediodeflag s.localthermflag s.remotethermflag
tried s = shown s.busy s.localhighflag s.locallowflag s.remotehighflag s.remotelowflag s.remotediodeflag s.localthermflag s.remotethermflag

pub status_bit : (s : State) → Well s → (ch : Channel) (k : Fault) → bit (bit_of ch k) (status_of s) ≡ (mark_of (channel_at s ch) k).flag
unfolding status_of
status_bit s w ch k = by ch k
  where
    clear : (x y : Bool) → not (x || y) ≡ true → y ≡ false
    clear true y e = no e
    clear false y e = not-true y e

    by : (ch : Channel) (k : Fault) → bit (bit_of ch k) (status_of s) ≡ (mark_of (channel_at s ch) k).flag
    by Local Above = (tried s).six
    by Local Below = (tried s).five
    by Remote Above = (tried s).four
    by Remote Below = (tried s).three
    by Remote Open = (tried s).two
    by Local Open = (tried s).none ∙ sym (clear s.localdiodefound s.localdiodeflag (w.channels_fit Local).diode)

pub busy_bit : (s : State) → bit 7 (status_of s) ≡ s.busy
unfolding status_of
busy_bit s = (tried s).seven

pub therm_bit_lem : (s : State) (ch : Channel) → bit (traits ch).therm_bit (status_of s) ≡ (channel_at s ch).therm
unfolding status_of
therm_bit_lem s Local = (tried s).zero
therm_bit_lem s Remote = (tried s).one
