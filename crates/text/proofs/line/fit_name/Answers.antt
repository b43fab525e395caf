-- Byte by byte, the name is a beginning of the part, or the part one of the name, as `fit_of` says.
use Rattle.std.proofs.Common.{◌≡◌, ℕ, Bool, true, false, cond, eqb, List, [], ◌∷◌, refl, sym, ◌∙◌, eq-eqb}
use Rattle.std.specs.List.{starts_with}
use borrow.Author.Tests.{eqb-true, eqb-false, ne_eqb}
use Rattle.text_rules.specs.declared.line.Fit.{Fit}
use Rattle.text_rules.specs.declared.line.Fit.TheVariants.{Yes, Begun, No}
use Rattle.text_rules.specs.Line.{fit_of}
use Rattle.text.proofs.line.fit_name.Goals as goal

abbrev by_front : List ℕ → List ℕ → Fit
by_front xs ys = cond (starts_with eqb ys xs) Yes (cond (starts_with eqb xs ys) Begun No)

fits : (xs ys : List ℕ) → by_front xs ys ≡ fit_of xs ys
unfolding fit_of
fits [] ys = refl
fits (x ∷ xs) [] = refl
fits (x ∷ xs) (y ∷ ys) = by (eqb x y) refl (fits xs ys)
  where
    by : (t : Bool) → eqb x y ≡ t → by_front xs ys ≡ fit_of xs ys → by_front (x ∷ xs) (y ∷ ys) ≡ cond t (fit_of xs ys) No
    by true e ih = let f : eqb y x ≡ true = eq-eqb y x (sym (eqb-true x y e)) in rw (e, f) ih
    by false e ih = let f : eqb y x ≡ false = ne_eqb y x (λ z. eqb-false x y e (sym z)) in rw (e, f)

pub returns-then-starts_with : goal.returns-then-starts_with
returns-then-starts_with c = rw (sym c.starts_with.ensures.value ∙ c.if-starts_with.true) at (fits c.args.name.now c.args.s.now)

pub returns-then-starts_with-2 : goal.returns-then-starts_with-2
returns-then-starts_with-2 c =
    rw (sym c.starts_with.ensures.value ∙ c.if-starts_with.false, sym c.starts_with-else-starts_with.ensures.value ∙ c.if-starts_with-2.true) at (fits c.args.name.now c.args.s.now)

pub returns-else-starts_with-2 : goal.returns-else-starts_with-2
returns-else-starts_with-2 c =
    rw (sym c.starts_with.ensures.value ∙ c.if-starts_with.false, sym c.starts_with-else-starts_with.ensures.value ∙ c.if-starts_with-2.false) at (fits c.args.name.now c.args.s.now)
