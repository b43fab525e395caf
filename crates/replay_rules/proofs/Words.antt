-- Four bytes make up the number that they are of, or what is left of it where it has more. Assumes nothing.
use Prim.Native.Nat.{ℕ, ◌+◌, ◌*◌, ◌/◌, ◌%◌, ◌<◌, ◌≤◌}
use native.Mathlib.Omega.{arith}
use mathlib.Core.Path.{◌≡◌, refl}
use Rattle.replay_rules.specs.Meant.{WordIsRead}

abbrev pub made_of : ℕ → ℕ
made_of n = n % 256 + 256 * (n / 256 % 256) + 65536 * (n / 65536 % 256) + 16777216 * (n / 16777216 % 256)

whole : (n : ℕ) → made_of n + 4294967296 * (n / 256 / 256 / 256 / 256) ≡ n
whole n = rw (twice, thrice) (digits n (n / 256) (n / 256 / 256) (n / 256 / 256 / 256) refl refl refl)
  where
    twice : n / 65536 ≡ n / 256 / 256
    twice = omega arith

    thrice : n / 16777216 ≡ n / 256 / 256 / 256
    thrice = omega arith

    digits : (n y z w : ℕ) → y ≡ n / 256 → z ≡ y / 256 → w ≡ z / 256 → n % 256 + 256 * (y % 256) + 65536 * (z % 256) + 16777216 * (w % 256) + 4294967296 * (w / 256) ≡ n
    digits n y z w e f g =
        let a : w % 256 + 256 * (w / 256) ≡ w = omega arith in
        let b : z % 256 + 256 * w ≡ z = omega (arith, g) in
        let c : y % 256 + 256 * z ≡ y = omega (arith, f) in
        let d : n % 256 + 256 * y ≡ n = omega (arith, e) in
        omega (arith, a, b, c, d)

pub word_below : (n : ℕ) → made_of n ≤ n
word_below n = omega (arith, whole n)

pub word_back : (n : ℕ) → n < 4294967296 → made_of n ≡ n
word_back n h = let none : n / 256 / 256 / 256 / 256 ≡ 0 = omega (arith, h) in omega (arith, whole n, none)

pub word_is_read : WordIsRead
word_is_read n more h = word_back n h
