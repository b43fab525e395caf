-- A number of five digits fits an i32 with either sign, so that its bits read back as it is. Assumes nothing.
use Prim.Native.Nat.{ℕ, zero, suc, ◌<◌}
use native.Mathlib.Omega.{arith}
use mathlib.Core.Path.{◌≡◌}
use mathlib.Core.Bool.{Bool, true, false}
use lib.IntN.{ℤ, ◌-ℤ◌, +ℤ_idl}
use lib.IntN.ℤ.{pos}
use lib.Signed.{mag}
use mir.Syntax.{w32}
use mir.Val.{SFits, to_z, of_z}
use mir.ValLaws.{to_z_pos}
use mir.Facts.{to_z-of_z}
use Rattle.text_rules.specs.Number.{signed_as}

pub mag_signed : (minus : Bool) (n : ℕ) → n < 100000 → mag (signed_as minus n) < 100000
mag_signed true zero h = h
mag_signed true (suc n) h = omega arith
mag_signed false n h = h

pub fits : (v : ℤ) → mag v < 100000 → SFits w32 v
fits v h = record { sfits = omega arith }

pub kept : (v : ℤ) → mag v < 100000 → to_z w32 (of_z w32 v) ≡ v
kept v h = to_z-of_z (fits v h)

pub unsigned : (n : ℕ) → n < 100000 → to_z w32 n ≡ pos n
unsigned n h = to_z_pos w32 n (omega arith)

pub negated : (n : ℕ) → n < 100000 → pos 0 -ℤ to_z w32 n ≡ signed_as true n
negated n h = rw (unsigned n h, +ℤ_idl)
