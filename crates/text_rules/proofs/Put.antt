-- A text at the front of what is lent: what a writer's two answers say, and a second text put behind the first. Lists by `lib.Seq`.
-- Assumes nothing.
use Prim.Native.Nat.{ℕ, ◌+◌, ◌-◌, ◌≤◌, ◌<◌}
use native.Mathlib.Omega.{arith}
use mathlib.Core.Bool.{Bool, true, false}
use mathlib.Core.Path.{◌≡◌, refl, sym, ap, ◌∙◌}
use mathlib.Core.List.{List, [], ◌++◌, append_assoc, append-nil}
use borrow.Author.Tests.{le-leb, lt-leb, leb-true, leb-false}
use lib.Dec.{leb}
use lib.ListN.{length, take, drop, length-append, length-drop, drop_of_length-le}
use lib.Seq.{take_all, take_at, drop_at, drop-drop}
use Rattle.std.specs.Prelude.{Option, Some, None}
use Rattle.text_rules.specs.Answer.{Front, Put}

-- what is lent as `&mut out[n..]` is all of the rest
pub rest : (n : ℕ) (l : List ℕ) → take (length l - n) (drop n l) ≡ drop n l
rest n l = take_all (length l - n) (drop n l) (simp length-drop (omega arith))

module _ {text before after : List ℕ} where
  pub front_length : {n : ℕ} → Front text before after n → length after ≡ length before
  front_length f = ap length f.bytes ∙ simp (length-append, length-drop) (omega (arith, f.room))

  -- where what comes next may begin
  pub front_held : {n : ℕ} → Front text before after n → n ≤ length after
  front_held f = omega (arith, front_length f, f.room, f.count)

  -- and how much of it is left: a part is handed on as `&mut out[n..]`
  pub front_room : {n m : ℕ} → Front text before after n → n + m ≤ length before → m ≤ length (take (length after - n) (drop n after))
  front_room {n} f h = rw (rest n after, length-drop) (omega (arith, front_length f))

  -- what is written is at the front, and where there is no room nothing is written
  pub put_front : {r : Option ℕ} {n : ℕ} → Put text before after r → r ≡ Some n → Front text before after n
  put_front {r} {n} p e = by (leb (length text) (length before)) refl
    where
      by : (t : Bool) → leb (length text) (length before) ≡ t → Front text before after n
      by true q =
          record {
            room = leb-true _ _ q;
            count = let w : Some n ≡ Some (length text) = sym e ∙ p.said ∙ rw q in cc;
            bytes = p.bytes ∙ rw q;
          }
      by false q = absurd (let w : Some n ≡ None = sym e ∙ p.said ∙ rw q in let z : ◌≡◌ {A = ℕ} 0 1 = cc in omega arith)

  pub put_none : {r : Option ℕ} → Put text before after r → r ≡ None → (length before < length text) × (after ≡ before)
  put_none {r} p e = by (leb (length text) (length before)) refl
    where
      by : (t : Bool) → leb (length text) (length before) ≡ t → (length before < length text) × (after ≡ before)
      by true q = absurd (let w : None ≡ Some (length text) = sym e ∙ p.said ∙ rw q in let z : ◌≡◌ {A = ℕ} 0 1 = cc in omega arith)
      by false q = (leb-false _ _ q, p.bytes ∙ rw q)

  -- the same, from the room
  pub put_fits : {r : Option ℕ} → Put text before after r → length text ≤ length before → (r ≡ Some (length text)) × Front text before after (length text)
  put_fits {r} p h = let e : r ≡ Some (length text) = p.said ∙ rw (le-leb _ _ h) in (e, put_front p e)

pub none_put : {text before : List ℕ} → length before < length text → Put text before before None
none_put h = record { said = rw (lt-leb _ _ h); bytes = rw (lt-leb _ _ h) }

pub front_none : {l : List ℕ} → Front [] l l 0
front_none = record { room = omega arith; count = refl; bytes = refl }

-- what stands in `out` after a text was put into `&mut out[n..]`
pub front_then : {T S x₀ x ys : List ℕ} {n k : ℕ} → Front T x₀ x n → Front S (take (length x - n) (drop n x)) ys k
    → Front (T ++ S) x₀ (take n x ++ (ys ++ drop (length x - n) (drop n x))) (n + k)
front_then {T} {S} {x₀} {x} {ys} {n} {k} f g =
    let front : take n x ≡ T = ap (take n) f.bytes ∙ take_at T _ n (sym f.count) in
    let behind : drop n x ≡ drop n x₀ = ap (drop n) f.bytes ∙ drop_at T _ n (sym f.count) ∙ ap (λ (m : ℕ). drop m x₀) (sym f.count) in
    let part : take (length x - n) (drop n x) ≡ drop n x₀ = rest n x ∙ behind in
    let none : drop (length x - n) (drop n x) ≡ [] = drop_of_length-le (drop n x) {i = length x - n} (simp length-drop (omega arith)) in
    let room : length S ≤ length (drop n x₀) = rw part at g.room in
    record {
      room = omega (arith, length-append T S, length-drop n x₀, f.room, f.count);
      count = omega (arith, length-append T S, f.count, g.count);
      bytes = rw (front, none, g.bytes, part, append-nil, drop-drop, length-append, append_assoc, f.count);
    }
