-- A session in bytes: the parts that code copies are the bytes that the definitions say. Assumes nothing.
use Prim.Native.Nat.{ℕ, zero, suc, min, ◌+◌, ◌-◌, ◌≤◌}
use native.Mathlib.Numerals.{unary_clauses}
use native.Mathlib.Omega.{arith}
use mathlib.Core.Path.{◌≡◌, refl, ap, sym, ◌∙◌}
use mathlib.Core.Bool.{Bool}
use mathlib.Core.List.{List, [], ◌∷◌, ◌++◌, append_assoc, append-nil}
use lib.ListN.{length, drop, get_or, take, length-append, length-take}
use lib.Seq.{take_all}
use Rattle.std.proofs.lemmas.List.{replicate-append-replicate}
use Rattle.rules.specs.declared.state.State.{State}
use Rattle.saved_rules.specs.Layout.{is_set, save_of, state_at}
use Rattle.saved_rules.proofs.Saved.{saved_is_loaded}
use Rattle.text_rules.proofs.Put.{rest}
use Rattle.blocks.specs.Blocks.{word_at}
use Rattle.session_rules.specs.declared.session.Session.{Session}
use Rattle.session_rules.specs.Bytes.{bytes_of, head_of, held_in, marks_of}
use Rattle.session_rules.specs.Session.{carried_of, padded}
use Rattle.session_rules.proofs.Windows.{drop_min, length_packed, zeros}

-- the bytes from a place on, of which there may be none
behind : (n r : ℕ) (b : List ℕ) → r ≡ min (length b) n → take (length b - r) (drop r b) ≡ drop n b
behind n r b e =
    let m : r ≡ min n (length b) = omega (arith, e) in
    rest r b ∙ ap (λ (m : ℕ). drop m b) m ∙ drop_min n b

pub loaded : (b : List ℕ) {n m records used written count : ℕ} {chip : State} {ended stopped : Bool} {carried : List ℕ}
    → n ≡ min (length b) 128 → chip ≡ state_at (take (length b - n) (drop n b))
    → m ≡ min (length b) 16 → carried ≡ padded (take (length b - m) (drop m b))
    → records ≡ word_at b 4 → used ≡ word_at b 8 → written ≡ word_at b 12
    → ended ≡ is_set (get_or b 1 0) → stopped ≡ is_set (get_or b 2 0) → count ≡ get_or b 3 0
    → ◌≡◌ {A = Session} (record { chip = chip; records = records; used = used; written = written; ended = ended; stopped = stopped; count = count; carried = carried }) (held_in b)
unfolding held_in
loaded b {n = n} {m = m} e0 chip e1 carried p q r t u v =
    let state = chip ∙ ap state_at (behind 128 n b e0) in
    let part = carried ∙ ap padded (behind 16 m b e1) in
    rw (state, part, p, q, r, t, u, v)

-- parts that fit, side by side
fit : (size : ℕ) (a b : List ℕ) → length (a ++ b) ≤ size → take size (a ++ b) ++ zeros (size - length (a ++ b)) ≡ a ++ (b ++ zeros (size - length (a ++ b)))
fit size a b p = rw (take_all size (a ++ b) p) (append_assoc a b (zeros (size - length (a ++ b))))

size_marks : (s : Session) → length (marks_of s) ≡ 16
size_marks s = refl

size_padded : (l : List ℕ) → length (padded l) ≡ 38
size_padded l = length_packed 38 l (padded l) refl

taken_twice : (n m : ℕ) (l : List ℕ) → take (min n m) l ≡ take m (take n l)
taken_twice zero zero l = refl
taken_twice zero (suc m) l = simp unary_clauses
taken_twice (suc n) zero l = simp unary_clauses
taken_twice (suc n) (suc m) [] = simp unary_clauses
taken_twice (suc n) (suc m) (x ∷ l) = simp unary_clauses (ap (λ (xs : List ℕ). x ∷ xs) (taken_twice n m l))

pub heads : (s : Session) (n : ℕ) (a : List ℕ) → n ≡ min s.count 38 → a ≡ marks_of s
    → take 128 (a ++ take n s.carried) ++ zeros (128 - length (a ++ take n s.carried)) ≡ head_of s
unfolding head_of
heads s n a e p =
    let part : take n s.carried ≡ take 38 (carried_of s) = ap (λ (m : ℕ). take m s.carried) e ∙ taken_twice s.count 38 s.carried in
    let long : length (a ++ take n s.carried) ≡ 16 + min 38 (length (carried_of s)) = rw (part, length-append a (take 38 (carried_of s)), ap length p ∙ size_marks s, length-take 38 (carried_of s)) in
    let rest : zeros (128 - length (a ++ take n s.carried)) ≡ zeros (38 - length (carried_of s)) ++ zeros 74 = (let m : 128 - length (a ++ take n s.carried) ≡ 38 - length (carried_of s) + 74 = omega (arith, long) in rw m (sym (replicate-append-replicate (38 - length (carried_of s)) 74 0))) in
    fit 128 a (take n s.carried) (omega (arith, long)) ∙ rw (rest, part, p, append_assoc (take 38 (carried_of s)) (zeros (38 - length (carried_of s))) (zeros 74))

size_head : (s : Session) → length (head_of s) ≡ 128
unfolding head_of
size_head s =
    let n = size_padded (carried_of s) in
    length-append (marks_of s) (padded (carried_of s) ++ zeros 74)
    ∙ rw (length-append (padded (carried_of s)) (zeros 74), n)

size_saved : (s : State) → length (save_of s) ≡ 128
size_saved s = (saved_is_loaded s).size

pub size_bytes : (s : Session) → length (bytes_of s) ≡ 256
unfolding bytes_of
size_bytes s = rw (length-append (head_of s) (save_of s.chip), size_head s, size_saved s.chip)

pub saves : (s : Session) (a b : List ℕ) → a ≡ head_of s → b ≡ save_of s.chip
    → take 256 (a ++ b) ++ zeros (256 - length (a ++ b)) ≡ bytes_of s
unfolding bytes_of
saves s a b p q =
    let long : length (a ++ b) ≡ 256 = length-append a b ∙ rw (p, q, size_head s, size_saved s.chip) in
    fit 256 a b (omega (arith, long)) ∙ rw (long, append-nil b, p, q)
