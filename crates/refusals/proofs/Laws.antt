-- What the definitions compute to under the tests that the code makes: a loop over rows, and number by number.
use Prim.Native.Nat.{ℕ, zero, suc, ◌+◌, ◌-◌, ◌*◌, ◌/◌, ◌%◌, ◌≤◌, ◌<◌}
use mathlib.Core.Path.{◌≡◌, refl, sym, ◌∙◌, ap}
use mathlib.Core.Bool.{Bool, true, false, ◌&&◌, true≢false, and-true, and-false}
use mathlib.Core.Logic.{⊎_elim}
use mathlib.Core.List.{List}
use native.Mathlib.Omega.{arith}
use native.Mathlib.Numerals.{add-one}
use native.Mathlib.Nat.{eq-or-lt_of_le, add-zero, zero-add, add-suc, suc-add}
use Rattle.std.specs.List.{list_all, range_with_len}
use Rattle.std.proofs.lemmas.Bool.Decides.{nat_tests}
use lib.Dec.{eqb, leb}
use lib.ListN.{length}
use borrow.Author.Tests.{lt-ltb, le-ltb, le-leb, lt-leb, eq-eqb, ne_eqb}
use Rattle.slices.proofs.Cases.{both_true}
pub use Rattle.slices.proofs.Cases.{and-stop, and_then}
use Rattle.rows.specs.declared.FunctionRow.{FunctionRow}
use Rattle.rows.specs.declared.OptionalPart.{OptionalPart}
use Rattle.rows.specs.Columns.{Columns, function_rows, line_rows, line_struct, function_in_columns}
use Rattle.refusals.specs.Refusals.{each, total, lengths?, count?, depth?, shallow_row?, shallow?, shaped?, readable?, optional?, function_texts?, line_texts?, texts?, end?, ends?, room?, tree_refusal, function_lengths?, line_lengths?, shaped_with?, refusal_with}

-- ── Tests joined by `&&` ──

-- what `x && y` is where x held, and where it did not
pub joined-then : {x y v a b : Bool} → a ≡ x → b ≡ y → a ≡ true → v ≡ b → v ≡ (x && y)
joined-then e f h g = rw (← e, h) (g ∙ f)

pub joined-else : {x v a : Bool} (y : Bool) → a ≡ x → a ≡ false → v ≡ a → v ≡ (x && y)
joined-else y e h g = rw (← e, h) (g ∙ h)

pub and-and : (a b c : Bool) → (a && b) && c ≡ a && (b && c)
and-and true b c = refl
and-and false b c = refl

pub and_five : (a b c d e : Bool) → (((a && b) && c) && d) && e ≡ a && (b && (c && (d && e)))
and_five a b c d e = and-and ((a && b) && c) d e ∙ (and-and (a && b) c (d && e) ∙ and-and a b (c && (d && e)))

-- ── Loops over rows ──

below : (i n : ℕ) → i < suc n → i ≤ n
below i n h = omega arith

module _ (p : ℕ → Bool) where
  pub each_none : each p 0 ≡ true
  unfolding each
  each_none = refl

  pub each_more : (i : ℕ) → each p i ≡ true → p i ≡ true → each p (i + 1) ≡ true
  unfolding each
  each_more i e f = rw (add-one, e, f)

  pub each_at : (n i : ℕ) → i < n → each p n ≡ true → p i ≡ true
  unfolding each
  each_at zero i h e = absurd (omega arith)
  each_at (suc n) i h e =
      ⊎_elim (λ z. ap p z ∙ (both_true (each p n) (p n) e).1) (λ l. each_at n i l (both_true (each p n) (p n) e).0) (eq-or-lt_of_le (below i n h))

  pub each-not : (n i : ℕ) → i < n → p i ≡ false → each p n ≡ false
  each-not n i h f = go (each p n) refl
    where
      go : (b : Bool) → each p n ≡ b → each p n ≡ false
      go true e = absurd (true≢false (sym (each_at n i h e) ∙ f))
      go false e = e

pub total-none : (f : ℕ → ℕ) → 0 ≡ total f 0
unfolding total
total-none f = refl

pub total-more : (f : ℕ → ℕ) (i : ℕ) {sum v : ℕ} → sum ≡ total f i → v ≡ f i → sum + v ≡ total f (i + 1)
unfolding total
total-more f i e g = rw (add-one, e, g)

-- the rows by their numbers, as `all` goes through them
module _ (p : ℕ → Bool) where
  each_from : (n a : ℕ) → each p a && list_all p (range_with_len a n) ≡ each p (a + n)
  unfolding each
  each_from zero a = and-true (each p a) ∙ ap (each p) (sym (add-zero a))
  each_from (suc n) a =
      sym (and-and (each p a) (p a) (list_all p (range_with_len (a + 1) n)))
      ∙ (rw (add-one a) (each_from n (suc a)) ∙ ap (each p) (suc-add a n ∙ sym (add-suc a n)))

  pub each_found : {n m : ℕ} {r : Bool} → n ≡ m → r ≡ list_all p (range_with_len 0 n) → r ≡ each p m
  unfolding each
  each_found {n = n} e f = f ∙ (each_from n 0 ∙ ap (each p) (zero-add n ∙ e))

module _ (p : ℕ → Bool) where
  pub each-end : (n i : ℕ) → i ≤ n → n ≤ i → each p i ≡ true → true ≡ each p n
  each-end n i g h e = let z : n ≡ i = omega arith in rw z (sym e)

pub total-end : (f : ℕ → ℕ) (n i sum : ℕ) → i ≤ n → n ≤ i → sum ≡ total f i → sum ≡ total f n
total-end f n i sum g h e = let z : n ≡ i = omega arith in rw z e

-- ── 13: depths ──

module _ (d : ℕ → ℕ) where
  pub depths-first : d 0 ≡ 0 → each (depth? d) 1 ≡ true
  unfolding each depth?
  depths-first e = eq-eqb (d 0) 0 e

  pub depths-not-first : (n : ℕ) → 1 ≤ n → (d 0 ≡ 0 → ⊥) → false ≡ each (depth? d) n
  unfolding depth?
  depths-not-first n h e = sym (each-not (depth? d) n 0 h (ne_eqb (d 0) 0 e))

  step-zero : (i : ℕ) → 1 ≤ i → d i ≡ 0 → depth? d i ≡ false
  unfolding depth?
  step-zero zero h e = absurd (omega arith)
  step-zero (suc i) h e = rw (le-ltb 0 (d (suc i)) (omega arith))

  step-high : (i : ℕ) → 1 ≤ i → d (i - 1) + 1 < d i → depth? d i ≡ false
  unfolding depth?
  step-high zero h l = absurd (omega arith)
  step-high (suc i) h l = let z : suc i - 1 ≡ i = omega arith in rw (lt-ltb 0 (d (suc i)) (omega arith), lt-leb (d (suc i)) (d i + 1) (rw z at l))

  step_down : (i : ℕ) → 1 ≤ i → (d i ≡ 0 → ⊥) → d i ≤ d (i - 1) + 1 → depth? d i ≡ true
  unfolding depth?
  step_down zero h e l = absurd (omega arith)
  step_down (suc i) h e l =
      let z : suc i - 1 ≡ i = omega arith in rw (lt-ltb 0 (d (suc i)) (omega (arith, e)), le-leb (d (suc i)) (d i + 1) (rw z at l))

  pub depths-zero : (n i : ℕ) → 1 ≤ i → i < n → d i ≡ 0 → false ≡ each (depth? d) n
  depths-zero n i g h e = sym (each-not (depth? d) n i h (step-zero i g e))

  pub depths-high : (n i most : ℕ) → 1 ≤ i → i < n → most ≡ d (i - 1) + 1 → most < d i → false ≡ each (depth? d) n
  depths-high n i most g h e l = sym (each-not (depth? d) n i h (step-high i g (rw e at l)))

  pub depths-more : (i most : ℕ) → 1 ≤ i → each (depth? d) i ≡ true → most ≡ d (i - 1) + 1 → (d i ≡ 0 → ⊥) → d i ≤ most → each (depth? d) (i + 1) ≡ true
  depths-more i most g a e z l = each_more (depth? d) i a (step_down i g z (rw e at l))

  pub depths-most : (i m : ℕ) → m ≡ d i → m + 1 ≡ d (i + 1 - 1) + 1
  depths-most i m e = let z : i + 1 - 1 ≡ i = omega arith in rw (z, e)

-- ── 15 ──

pub end_is : (q : FunctionRow) → q.address ≤ 0xffff_ffff_ffff_ffff → leb q.size (0xffff_ffff_ffff_ffff - q.address) ≡ end? q
unfolding end?
end_is q h = grind (arith, nat_tests)

-- ── 14: an optional text ──

module _ (t : List ℕ) (o : OptionalPart) where
  pub optional-present : o.present ≡ true → optional? t o ≡ readable? t o.part
  unfolding optional?
  optional-present e = rw e

  pub optional-absent : o.present ≡ false → optional? t o ≡ true
  unfolding optional?
  optional-absent e = rw e

-- by the flag
pub ruleset optional_cases = (optional-present, optional-absent)

-- ── 13 to 16 and 25 ──

module _ (n : ℕ) where
  pub count_yes : (n ≡ 0 → ⊥) → n ≤ 65536 → count? n ≡ true
  unfolding count?
  count_yes g h = rw (lt-ltb 0 n (omega (arith, g)), le-leb n 65536 h)

  pub count_none : n ≡ 0 → count? n ≡ false
  unfolding count?
  count_none g = rw (le-ltb 0 n (omega arith))

  pub count-many : 65536 < n → count? n ≡ false
  unfolding count?
  count-many g = rw (lt-ltb 0 n (omega arith), lt-leb n 65536 g)

-- `refusal_with`, number by number
module _ (f64 f32 : List ℕ) (n : ℕ) (b : Bool) (t : List ℕ) (s : ℕ) where
  pub with_13 : shaped_with? f64 f32 n ≡ false → 13 ≡ refusal_with f64 f32 n b t s
  unfolding refusal_with
  with_13 e = rw e

  module _ (shape : shaped_with? f64 f32 n ≡ true) where
    pub with_25 : each (λ (i : ℕ). shallow_row? (function_in_columns f64 f32 i)) (length f64 / 2) ≡ false → 25 ≡ refusal_with f64 f32 n b t s
    unfolding refusal_with
    with_25 e = rw (shape, e)

    module _ (shallow : each (λ (i : ℕ). shallow_row? (function_in_columns f64 f32 i)) (length f64 / 2) ≡ true) where
      pub with_14_functions : each (λ (i : ℕ). function_texts? t (function_in_columns f64 f32 i)) (length f64 / 2) ≡ false → 14 ≡ refusal_with f64 f32 n b t s
      unfolding refusal_with
      with_14_functions e = rw (shape, shallow, e)

      module _ (names : each (λ (i : ℕ). function_texts? t (function_in_columns f64 f32 i)) (length f64 / 2) ≡ true) where
        pub with_14_lines : b ≡ false → 14 ≡ refusal_with f64 f32 n b t s
        unfolding refusal_with
        with_14_lines e = rw (shape, shallow, names, e)

        module _ (files : b ≡ true) where
          pub with_15 : each (λ (i : ℕ). end? (function_in_columns f64 f32 i)) (length f64 / 2) ≡ false → 15 ≡ refusal_with f64 f32 n b t s
          unfolding refusal_with
          with_15 e = rw (shape, shallow, names, files, e)

          module _ (low : each (λ (i : ℕ). end? (function_in_columns f64 f32 i)) (length f64 / 2) ≡ true) where
            pub with_16 : s / 4 < length f64 / 2 + n → 16 ≡ refusal_with f64 f32 n b t s
            unfolding refusal_with
            with_16 h = rw (shape, shallow, names, files, low, lt-leb (4 * (length f64 / 2 + n)) s (omega arith))

            pub with_0 : length f64 / 2 + n ≤ s / 4 → 0 ≡ refusal_with f64 f32 n b t s
            unfolding refusal_with
            with_0 h = rw (shape, shallow, names, files, low, le-leb (4 * (length f64 / 2 + n)) s (omega arith))

-- rows in columns: their lengths are two tests, of the function rows' slices and of the line rows'
six : (a b c d e f : Bool) → a && (b && (c && (d && (e && f)))) ≡ (a && (b && e)) && (c && (d && f))
six true true true true e f = go e
  where
    go : (x : Bool) → x && f ≡ x && f
    go x = refl
six true true true false true f = refl
six true true true false false f = refl
six true true false d true f = refl
six true true false d false f = refl
six true false c d e f = refl
six false b c d e f = refl

module _ (k : Columns) where
  lengths-two : lengths? k ≡ function_lengths? k.functions64 k.functions32 && line_lengths? k.lines64 k.lines32
  unfolding lengths? function_lengths? line_lengths?
  lengths-two =
      six (eqb (length k.functions64 % 2) 0) (eqb (length k.functions32 % 8) 0) (eqb (length k.lines64 % 3) 0) (eqb (length k.lines32 % 14) 0) (eqb (length k.functions32 / 8) (function_rows k))
      (eqb (length k.lines32 / 14) (line_rows k))

  pub refusal-columns : (s : ℕ) → line_lengths? k.lines64 k.lines32 ≡ true
      → refusal_with k.functions64 k.functions32 (line_rows k) (each (λ (j : ℕ). line_texts? k.text (line_struct k j)) (line_rows k)) k.text s ≡ tree_refusal k s
  unfolding refusal_with tree_refusal shaped_with? shaped? shallow? texts? ends? room?
  refusal-columns s e = rw (lengths-two, e, and-true)

  pub refusal-lengths : (s : ℕ) → line_lengths? k.lines64 k.lines32 ≡ false → 13 ≡ tree_refusal k s
  unfolding tree_refusal shaped?
  refusal-lengths s e = rw (lengths-two, e, and-false)
