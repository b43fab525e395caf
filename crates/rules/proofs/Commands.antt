-- Which commands name what: one law for every question that is asked of a table. Assumes nothing.
use Prim.Native.Nat.{ℕ}
use mathlib.Core.Path.{◌≡◌, refl, sym, subst, ◌∙◌}
use mathlib.Core.Bool.{Bool, true, false, cond, ◌||◌, not, or-false}
use mathlib.Core.List.{List, [], ◌∷◌, map}
use lib.Dec.{eqb}
use borrow.Author.Tests.{eqb-true}
use Rattle.rules.specs.declared.register.Register.{Register}
use Rattle.rules.specs.declared.register.Source.{Source}
use Rattle.rules.specs.declared.register.Source.TheVariants.{Stored as From, Value, ValueFine, Status, Maker, Revision, Hole}
use Rattle.rules.specs.declared.register.Target.{Target}
use Rattle.rules.specs.declared.register.Target.TheVariants.{Stored as Into, OneShot, Nowhere}
use Rattle.rules.specs.Channels.{all, any}
use Rattle.rules.specs.Commands.{read_table, source_of, target_of, write_table}
use Rattle.rules.specs.History.{compares_at, comparing}
use Rattle.rules.specs.Rows.{registers, row_of, same}
use Rattle.rules.specs.Table.{look_up}
use Rattle.rules.proofs.Lists.{each_true, left, no, not-true, right}
use Rattle.rules.proofs.Rows.{every}

-- p holds of what the table has at the keys, and of no other row, nor of the rest: so exactly at the keys
module _ {A : Type 0} (p : A → Bool) (keys : List ℕ) (table : List (ℕ × A)) (other : A) where
  abbrev is_key : ℕ → Bool
  is_key n = any (map (eqb n) keys)

  abbrev found : ℕ → Bool
  found n = p (look_up n table other)

  abbrev fits : ℕ × A → Bool
  fits row = is_key row.0 || not (p row.1)

  at_key : (n : ℕ) (ks : List ℕ) → all (map found ks) ≡ true → any (map (eqb n) ks) ≡ true → found n ≡ true
  at_key n [] h e = no e
  at_key n (k ∷ ks) h e = by (eqb n k) refl e (at_key n ks (right (found k) (all (map found ks)) h))
    where
      by : (t : Bool) → eqb n k ≡ t → t || any (map (eqb n) ks) ≡ true → (any (map (eqb n) ks) ≡ true → found n ≡ true) → found n ≡ true
      by true q e later = subst (λ (m : ℕ). found m ≡ true) (sym (eqb-true n k q)) (left (found k) (all (map found ks)) h)
      by false q e later = later e

  elsewhere : p other ≡ false → (n : ℕ) → is_key n ≡ false → (rows : List (ℕ × A)) → all (map fits rows) ≡ true → p (look_up n rows other) ≡ false
  elsewhere none n e [] h = none
  elsewhere none n e (row ∷ rows) h =
      by (eqb n row.0) refl (elsewhere none n e rows (right (fits row) (all (map fits rows)) h))
    where
      by : (t : Bool) → eqb n row.0 ≡ t → p (look_up n rows other) ≡ false → p (cond t row.1 (look_up n rows other)) ≡ false
      by true q later =
          let is : is_key row.0 ≡ false = subst (λ (m : ℕ). is_key m ≡ false) (eqb-true n row.0 q) e in
          not-true (p row.1) (rw is at (left (fits row) (all (map fits rows)) h))
      by false q later = later

  pub named : p other ≡ false → all (map found keys) ≡ true → all (map fits table) ≡ true → (n : ℕ) → found n ≡ is_key n
  named none here there n = by (is_key n) refl
    where
      by : (t : Bool) → is_key n ≡ t → found n ≡ t
      by true e = at_key n keys here e
      by false e = elsewhere none n e table there

-- ---- What is asked of the two tables ----

abbrev pub is_status : Source → Bool
is_status (From r) = false
is_status (Value ch) = false
is_status (ValueFine ch) = false
is_status Status = true
is_status Maker = false
is_status Revision = false
is_status Hole = false

abbrev pub is_one_shot : Target → Bool
is_one_shot (Into r) = false
is_one_shot OneShot = true
is_one_shot Nowhere = false

abbrev pub compares_to : Target → Bool
compares_to (Into r) = (row_of r).compares
compares_to OneShot = false
compares_to Nowhere = false

abbrev pub is_into : Register → Target → Bool
is_into r (Into q) = same q r
is_into r OneShot = false
is_into r Nowhere = false

pub status_named : (n : ℕ) → is_status (source_of n) ≡ eqb n 0x02
unfolding source_of
status_named n = named is_status (0x02 ∷ []) read_table Hole refl refl refl n ∙ or-false (eqb n 0x02)

pub shot_named : (n : ℕ) → is_one_shot (target_of n) ≡ eqb n 0x0f
unfolding target_of
shot_named n = named is_one_shot (0x0f ∷ []) write_table Nowhere refl refl refl n ∙ or-false (eqb n 0x0f)

pub compare_named : (n : ℕ) → compares_to (target_of n) ≡ compares_at n
unfolding target_of
compare_named n = named compares_to comparing write_table Nowhere refl refl refl n

-- a command writes a register exactly if it is its row's
abbrev key_of : Register → List ℕ
key_of r = (row_of r).write ∷ []

pub register_named : (r : Register) (n : ℕ) → is_into r (target_of n) ≡ eqb n (row_of r).write
unfolding target_of
register_named r n =
    named (is_into r) (key_of r) write_table Nowhere refl
    (every (λ q. all (map (found (is_into q) (key_of q) write_table Nowhere) (key_of q)) ≡ true) (each_true (λ q. all (map (found (is_into q) (key_of q) write_table Nowhere) (key_of q))) registers refl) r)
    (every (λ q. all (map (fits (is_into q) (key_of q) write_table Nowhere) write_table) ≡ true) (each_true (λ q. all (map (fits (is_into q) (key_of q) write_table Nowhere) write_table)) registers refl) r)
    n
    ∙ or-false (eqb n (row_of r).write)
