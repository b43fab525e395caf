-- The first bytes of two parts that stand one behind the other, and the bytes behind them that are 0. Assumes nothing.
use Prim.Native.Nat.{ℕ, zero, suc, ◌+◌, ◌-◌, ◌≤◌, min}
use native.Mathlib.Numerals.{unary_clauses}
use native.Mathlib.Omega.{arith}
use mathlib.Core.Path.{◌≡◌, ap, ◌∙◌}
use mathlib.Core.Bool.{Bool, ◌&&◌}
use mathlib.Core.List.{List, [], ◌∷◌, ◌++◌}
use lib.Dec.{leb}
use lib.ListN.{length, drop, replicate, take, length-append, length-replicate, length-take}
use lib.Seq.{drop-length, take-append_seam}
use borrow.Author.Tests.{le-leb}
use Rattle.std.proofs.lemmas.List.{take_all, take_min}
use Rattle.blocks.specs.Blocks.{filled}
use Rattle.blocks.proofs.Parts.{take_append}
use Rattle.saved_rules.specs.Layout.{same_bytes}
use Rattle.session_rules.specs.declared.session.Window.{Window}
use Rattle.session_rules.specs.Portion.{window_of}
use Rattle.session_rules.specs.Session.{padded, partial}

abbrev pub zeros : ℕ → List ℕ
zeros n = replicate n 0

pub drop_min : (n : ℕ) (l : List ℕ) → drop (min n (length l)) l ≡ drop n l
drop_min zero l = simp unary_clauses
drop_min (suc n) [] = simp unary_clauses
drop_min (suc n) (x ∷ l) = simp unary_clauses (drop_min n l)

length_zeros : (n : ℕ) → length (zeros n) ≡ n
length_zeros n = length-replicate n (let z : ℕ = 0 in z)

pub drop_append : (n : ℕ) (a b : List ℕ) → length a ≤ n → drop n (a ++ b) ≡ drop (n - length a) b
drop_append n [] b p = simp unary_clauses
drop_append zero (x ∷ a) b p = absurd (omega arith)
drop_append (suc n) (x ∷ a) b p = simp unary_clauses (drop_append n a b (omega arith))

pub length_packed : (n : ℕ) (l after : List ℕ) → after ≡ take n l ++ zeros (n - length l) → length after ≡ n
length_packed n l after e =
    rw (e, length-append (take n l) (zeros (n - length l)), length-take n l, length_zeros (n - length l)) (omega arith)

pub from_second : (n k : ℕ) (a b : List ℕ) → length a ≤ n → k ≡ min (n - length a) (length b) → drop (length a) a ++ drop k b ≡ drop n (a ++ b)
from_second n k a b p f = rw (drop-length a, f, drop_min (n - length a) b, drop_append n a b p)

-- the first part cut where the window ends
pub window_cut : (n k : ℕ) (a b : List ℕ) → n ≡ min (length a) 39 → k ≡ min (length b) (39 - n)
    → record { bytes = filled 39 (take n a ++ b); count = n + k } ≡ window_of (a ++ b)
window_cut n k a b f g =
    let long : length (take n a) ≡ n = rw (length-take n a) (omega (arith, f)) in
    let most : n ≡ min 39 (length a) = omega (arith, f) in
    let front : take n a ≡ take 39 a = rw most (take_min 39 a) in
    let whole : take 39 (take n a) ≡ take n a = take_all 39 (take n a) (omega (arith, long, f)) in
    let left : 39 - length (take n a) ≡ 39 - length a = omega (arith, long, f) in
    let cut : take 39 (take n a ++ b) ≡ take 39 (a ++ b) = rw (take_append 39 (take n a) b, take_append 39 a b, left, whole, front) in
    let behind : 39 - length (take n a ++ b) ≡ 39 - length (a ++ b) = rw (length-append (take n a) b, length-append a b) (omega (arith, long, f)) in
    let count : n + k ≡ length (take 39 (a ++ b)) = rw (length-take 39 (a ++ b), length-append a b) (omega (arith, f, g)) in
    rw (cut, behind, count)

-- a part that is held: the bytes that were looked at, none behind the end, are the first count of them
pub part_held : (count n : ℕ) (all kept : List ℕ) (same part : Bool) → count ≤ 38 → n ≡ min count (length all) → kept ≡ padded (take n all)
    → same ≡ same_bytes kept all → part ≡ partial (take n all)
    → same && part ≡ leb count 38 && same_bytes (padded (take count all)) all && partial (take count all)
part_held count n all kept same part p f k s q =
    let e : take n all ≡ take count all = ap (λ (m : ℕ). take m all) f ∙ take_min count all in
    rw (le-leb count 38 p, s, k, q, e)

-- what a window shows
module _ (l : List ℕ) {w : Window} (e : w ≡ window_of l) where
  pub shown_fits : w.count ≤ length w.bytes
  shown_fits =
      let n : length (take 39 l ++ zeros (39 - length l)) ≡ length (take 39 l) + length (zeros (39 - length l)) = length-append (take 39 l) (zeros (39 - length l)) in
      omega (arith, ap (λ (y : Window). y.count) e, ap (λ (y : Window). length y.bytes) e, n)

  pub shown_is : take w.count w.bytes ≡ take 39 l
  shown_is = ap (λ (y : Window). take y.count y.bytes) e ∙ take-append_seam (take 39 l) (zeros (39 - length l))

  pub shown_count : w.count ≡ length (take w.count w.bytes)
  shown_count = omega (arith, length-take w.count w.bytes, shown_fits)
