use Prim.Native.Nat.{ℕ, ◌-◌}
use mathlib.Core.Path.{◌≡◌, refl, sym, ◌∙◌, ap}
use mathlib.Core.List.{List, [], ◌∷◌}
use native.Mathlib.Omega.{arith}
use denote.Ref.{Bor}
use mathlib.Core.Bool.{Bool, true, false, ◌&&◌}
use borrow.Author.Tests.{eq-eqb, ne_eqb, eqb-true, eqb-false}
use lib.Dec.{eqb}
use lib.ListN.{length, take, drop, length-drop, drop_of_length-le}
use lib.Seq.{take_all}
use Rattle.std.specs.Prelude.{Option, Some, None}
use Rattle.std.specs.Option.{unwrap_or}
use Rattle.std.specs.Slice.{IsGetRangeResult}
use Rattle.std.specs.Cmp.Lexicographic.{pointwise}
use Rattle.tables.specs.Table.{same_words}
use Rattle.strings.proofs.same_at.Goals as goal

-- the bytes from start on, none where it lies past the end
rest : (text : List ℕ) (start : ℕ) (o : Option (Bor (List ℕ))) (d r : Bor (List ℕ)) → d.now ≡ [] → IsGetRangeResult text start (length text) o → r ≡ unwrap_or o d → r.now ≡ drop start text
rest text start None d r n l e = ap (λ (x : Bor (List ℕ)). x.now) e ∙ n ∙ sym (drop_of_length-le text (omega (arith, l.0)))
rest text start (Some x) d r n l e = ap (λ (x : Bor (List ℕ)). x.now) e ∙ l.0.2 ∙ take_all (length text - start) (drop start text) (omega (arith, length-drop start text))

eqb_comm : (a b : ℕ) → eqb a b ≡ eqb b a
eqb_comm a b = go (eqb a b) refl
  where
    go : (t : Bool) → eqb a b ≡ t → t ≡ eqb b a
    go true e = sym (eq-eqb b a (sym (eqb-true a b e)))
    go false e = sym (ne_eqb b a (λ f. eqb-false a b e (sym f)))

compared : (x y : List ℕ) → pointwise eqb x y ≡ same_words y x
compared [] [] = refl
compared [] (b ∷ y) = refl
compared (a ∷ x) [] = refl
compared (a ∷ x) (b ∷ y) = rw (eqb_comm a b) (ap (λ t. eqb b a && t) (compared x y))

pub returns : goal.returns
returns c =
    let t = c.args.t.now in
    c.starts_with.ensures.value ∙ compared t _ ∙ ap (λ (x : List ℕ). same_words (take (length t) x) t) (rest c.args.text.now c.args.start c.get.result _ _ refl c.get.ensures.lookup c.unwrap_or.ensures)
