-- The first bytes of two parts, and the bytes behind them that are 0. Assumes nothing.
use Prim.Native.Nat.{ℕ, zero, suc, ◌+◌, ◌-◌, min}
use native.Mathlib.Nat.{zero-sub}
use native.Mathlib.Numerals.{unary_clauses}
use native.Mathlib.Omega.{arith}
use mathlib.Core.Path.{◌≡◌, refl, ap, sym, ◌∙◌}
use mathlib.Core.List.{List, [], ◌∷◌, ◌++◌, append_assoc}
use lib.ListN.{length, drop, replicate, take, length-append, length-replicate, length-take, take-append-drop}
use lib.Seq.{drop_at, take_at, take-append_seam}
use borrow.Rule.Slice.PartMut.{put_mid}

abbrev pub zeros : ℕ → List ℕ
zeros n = replicate n 0

-- no more than there are
pub take_min : (n m : ℕ) (l : List ℕ) → m ≡ min (length l) n → take m l ≡ take n l
take_min n m l e =
    let k : m ≡ length (take n l) = rw (length-take n l) (omega (arith, e)) in
    rw k (ap (take (length (take n l))) (sym (take-append-drop n l)) ∙ take-append_seam (take n l) (drop n l))

pub length_zeros : (n : ℕ) → length (zeros n) ≡ n
length_zeros n = length-replicate n (let z : ℕ = 0 in z)

pub drop_zeros : (n m : ℕ) → drop n (zeros m) ≡ zeros (m - n)
drop_zeros zero m = simp unary_clauses
drop_zeros (suc n) zero = rw (zero-sub (suc n))
drop_zeros (suc n) (suc m) = simp unary_clauses (drop_zeros n m)

pub take_append : (n : ℕ) (a b : List ℕ) → take n (a ++ b) ≡ take n a ++ take (n - length a) b
take_append zero [] b = refl
take_append (suc n) [] b = simp unary_clauses
take_append zero (x ∷ a) b = rw (zero-sub (suc (length a)))
take_append (suc n) (x ∷ a) b = simp unary_clauses (ap (λ (l : List ℕ). x ∷ l) (take_append n a b))

-- both parts copied into zeros, as far as there is room
pub joins : (size n k : ℕ) (a b x y : List ℕ) → n ≡ min (length a) size → k ≡ min (length b) (size - n)
    → x ≡ take n a → y ≡ take k b
    → put_mid n (n + k - n) (x ++ drop n (zeros size)) y ≡ take size (a ++ b) ++ zeros (size - length (a ++ b))
joins size n k a b x y f g d e =
    let long : length (take n a) ≡ n = rw (length-take n a) (omega (arith, f)) in
    let front : take n (take n a ++ drop n (zeros size)) ≡ take size a = take_at (take n a) (drop n (zeros size)) n long ∙ take_min size n a f in
    let behind : drop n (take n a ++ drop n (zeros size)) ≡ zeros (size - n) = drop_at (take n a) (drop n (zeros size)) n long ∙ drop_zeros n size in
    let left : size - n ≡ size - length a = omega (arith, f) in
    let second : take k b ≡ take (size - length a) b = take_min (size - length a) k b (g ∙ ap (min (length b)) left) in
    let just : n + k - n ≡ k = omega arith in
    let none : size - n - k ≡ size - length (a ++ b) = rw (length-append a b) (omega (arith, f, g)) in
    rw (d, e, front, just, behind, drop_zeros k (size - n), second, none, take_append size a b)
    (sym (append_assoc (take size a) (take (size - length a) b) (zeros (size - length (a ++ b)))))
