use Prim.Native.Nat.{ℕ, ◌-◌, ◌<◌}
use mathlib.Core.Path.{◌≡◌, sym, ◌∙◌, ap}
use mathlib.Core.Bool.{true, false, false≢true}
use mathlib.Core.List.{List, [], ◌∷◌}
use native.Mathlib.Omega.{arith}
use lib.Dec.{eqb, eqb-suc-zero}
use lib.ListN.{length, take, drop, length-drop}
use lib.Seq.{take_all}
use Rattle.text.specs.Utf8.{utf8}
use Rattle.text.proofs.Utf8Steps.{utf8_nil}
use Rattle.text.proofs.Utf8Eights.{run_within, utf8_no_run, utf8-run}
use Rattle.text.proofs.utf8.is_utf8.Goals as goal

-- what `is_empty` answers
some_left : (s : List ℕ) → false ≡ eqb (length s) 0 → 0 < length s
some_left [] e = absurd (false≢true e)
some_left (b ∷ s) e = omega arith

none_left : (s : List ℕ) → true ≡ eqb (length s) 0 → utf8 s ≡ true
none_left [] e = utf8_nil
none_left (b ∷ s) e = absurd (false≢true (sym (e ∙ eqb-suc-zero (length s))))

-- `&rest[n..]` is all that follows
follows : (s : List ℕ) (n : ℕ) → take (length s - n) (drop n s) ≡ drop n s
follows s n = take_all (length s - n) (drop n s) (omega (arith, length-drop n s))

pub returns-in_default : goal.returns-in_default
returns-in_default c = sym (c.loop-rest.invariant ∙ utf8_no_run c.loop-rest.rest.now (some_left c.loop-rest.rest.now c.loop-rest-test.ensures) (sym c.in_default.ensures))

pub slice_bounds-rest-count : goal.slice_bounds-rest-count
slice_bounds-rest-count c = (run_within c.loop-rest.rest.now c.in-Some.n (sym c.in-Some.ensures)).1

pub slice_bounds-rest-start : goal.slice_bounds-rest-start
slice_bounds-rest-start c = (run_within c.loop-rest.rest.now c.in-Some.n (sym c.in-Some.ensures)).1

pub loop-rest-smaller : goal.loop-rest-smaller
loop-rest-smaller c =
    let w = run_within c.loop-rest.rest.now c.in-Some.n (sym c.in-Some.ensures) in
    rw (follows c.loop-rest.rest.now c.in-Some.n) (omega (arith, length-drop c.in-Some.n c.loop-rest.rest.now))

pub loop-rest-preserved : goal.loop-rest-preserved
loop-rest-preserved c = c.loop-rest.invariant ∙ utf8-run c.loop-rest.rest.now c.in-Some.n (sym c.in-Some.ensures) ∙ ap utf8 (sym (follows c.loop-rest.rest.now c.in-Some.n))

pub returns : goal.returns
returns c = sym (c.loop-rest.invariant ∙ none_left c.loop-rest.rest.now c.loop-rest-test.ensures)
