-- What the code of tree.rt does, step by step, as the definitions have it.
use mathlib.Core.Path.{◌≡◌, refl, sym, ap, ◌∙◌}
use mathlib.Core.Bool.{Bool, true, false, cond, true≢false}
use mathlib.Core.List.{List, [], ◌∷◌, ◌++◌, map}
use Prim.Native.Nat.{ℕ, suc, ◌+◌, ◌*◌, ◌-◌, ◌/◌, ◌%◌, ◌≤◌, ◌<◌}
use native.Mathlib.Omega.{arith}
use lib.Dec.{eqb, ltb}
use lib.ListN.{length, get_or, take, drop}
use lib.Seq.{sets, drop-drop}
use borrow.Author.Tests.{eq-eqb, ne_eqb}
use Rattle.std.proofs.Common.{subst, Option, Some, None}
use Rattle.std.proofs.lemmas.Option.{none-some, same_Some}
use Rattle.names.specs.Names.{undecorated}
use Rattle.model.specs.Basics.{Span, sort}
use Rattle.model.specs.Rows.{MAX, Text, LineRow, FunctionRow, SymbolRow, skipped, function_end}
use Rattle.model.specs.Machine.{Machine, LoopedM, unless_held, put_end, loop_m, entry_m, closing_m, row_m}
use Rattle.model.specs.Converter.{Setup, input}
use Rattle.sorting.specs.Pairs.{pair_words, sorted_of}
use Rattle.rows.specs.declared.FunctionRow.{FunctionRow as FunctionStruct}
use Rattle.rows.specs.Columns.{Columns, columns, function_rows, line_rows, function_in_columns, function_struct, tree_row, text_of}
use Rattle.rows.proofs.RowLaws.{tree_row-lines, tree_row-skipped}
use Rattle.refusals.proofs.Accepted.{Accepted}
use Rattle.memory.specs.Memory.{Words}
use Rattle.steps.specs.Steps.{put_range, location, begin_named, over_words}
use Rattle.steps.proofs.RowTexts.{begin-is}
use Rattle.scratch.specs.Scratch.{pairs_at, ref_of, refs_at, calls_start, len_at, set_calls, calls_of, top_of, kid_spans, Lined, RowDone}
use Rattle.scratch.proofs.Pairs.{pairs-kept}
use Rattle.scratch.proofs.Rows.{first-line}
use Rattle.scratch.proofs.Visits.{row-empty, row-skipped, row-visited, calls-root, calls-none, calls-some, visited, passed_over}
use Rattle.scratch.proofs.Gathered.{spans-text, sorted-pairs, sorted-kept}
use Rattle.scratch.proofs.Tree.{Rowing, depth_low, room_fits, next}
use Rattle.writer.specs.Walk.{LinesReady, LinesLeft, ref, calls_of_lem, OwnCalls, Sorted, row_spans, RowReady, GatherReady, VisitReady, RowLeft}
use Rattle.writer.specs.declared.stack.Pairs.{Pairs}
use Rattle.writer.specs.declared.lines.CallLocations.{CallLocations}
use Rattle.writer.specs.declared.tree.Own.{Own}

-- ── What is read of a row ──

pub size_none : (z : ℕ) (b : Bool) → z ≡ 0 → true ≡ cond (eqb z 0) true b
size_none z b e = rw (eq-eqb z 0 e)

pub size-some : (z : ℕ) (b : Bool) → (z ≡ 0 → ⊥) → b ≡ cond (eqb z 0) true b
size-some z b e = rw (ne_eqb z 0 e)

pub begun : (u : Bool) (lang : ℕ) (w : Words) {name name' : Text} {e e' : ℕ} {z : ℕ × Words} → name ≡ name' → e ≡ e'
    → z ≡ begin_named (cond u (undecorated name) name) e lang w → z ≡ begin_named (cond u (undecorated name') name') e' lang w
begun u lang w {name} {name'} {e} {e'} {z} f g h = rw (f, g) at h

-- ── The entry and the end ──

module _ (X : Setup) (p : FunctionRow) (fi : ℕ) (w : Words) where
  pub entry-inline : p.inline ≡ true → w ≡ entry_m input (over_words X) p fi w
  unfolding entry_m
  entry-inline h = rw (h, entry_m)

  pub entry-own : (a : ℕ) (w₁ : Words) → p.inline ≡ false → a ≡ p.address → w₁ ≡ unless_held input (over_words X) a (put_range a (location MAX 0 fi MAX) w) w → w₁ ≡ entry_m input (over_words X) p fi w
  unfolding entry_m
  entry-own a w₁ h e f = rw (h, entry_m) (rw e at f)

  pub closing : (a : ℕ) (w₁ w₂ : Words) → w₁ ≡ entry_m input (over_words X) p fi w → a ≡ function_end p → w₂ ≡ put_end input (over_words X) a w₁ → w₂ ≡ closing_m input (over_words X) p fi w
  unfolding closing_m
  closing a w₁ w₂ e₁ e₂ e₃ = e₃ ∙ ap (put_end input (over_words X) a) e₁ ∙ ap (λ (x : ℕ). put_end input (over_words X) x (entry_m input (over_words X) p fi w)) e₂

cut-same : (a b c d : ℕ) → a ≡ c → b ≡ d → (c + d) % 4294967296 ≡ (a + b) % 4294967296
cut-same a b c d e f = rw (e, f)

pub end_is : (p : FunctionRow) (q : FunctionStruct) {r : ℕ} → r ≡ (q.address + q.size) % 4294967296 → p.address ≡ q.address → p.size ≡ q.size → r ≡ function_end p
end_is p q e f g = e ∙ cut-same p.address p.size q.address q.size f g

pub address_is : (p : FunctionRow) (q : FunctionStruct) → p.address ≡ q.address → q.address ≤ MAX → q.address % 4294967296 ≡ p.address
address_is p q e h = omega arith

-- ── The call locations of a depth ──

abbrev pub own_of : ℕ → ℕ → ℕ → ℕ → Own
own_of top first at len = record { top = top; call_locations = Some (record { first = first; others = record { at = at; len = len } }) }

abbrev pub own_none : ℕ → Own
own_none top = record { top = top; call_locations = None }

module _ (s : List ℕ) (base : ℕ) where
  -- there is one: c is it
  one : (d top a first at len : ℕ) → top ≡ top_of s d → calls_of s base d ≡ calls_of_lem s a (record { first = first; others = record { at = at; len = len } })
      → at + len * 2 ≤ base + top * 2 → OwnCalls s base d (own_of top first at len)
  one d top a first at len e f h = record {
    top_is = e;
    none = λ x. absurd (none-some _ (sym x));
    first = λ c x. (a, f ∙ ap (calls_of_lem s a) (same_Some _ _ x));
    below = λ c x. subst (λ (y : CallLocations). y.others.at + y.others.len * 2 ≤ base + top * 2) (same_Some _ _ x) h;
  }

  pub own_root : (d : ℕ) → d ≡ 0 → OwnCalls s base d (own_of 0 4294967295 0 0)
  unfolding top_of
  own_root d e = rw e (one 0 0 0 4294967295 0 0 refl (calls-root s base 0) (omega arith))

  below_one : (d : ℕ) → (d ≡ 0 → ⊥) → d ≡ suc (d - 1)
  below_one d h = omega arith

  module _ (d start len : ℕ) (h : d ≡ 0 → ⊥) (e : start ≡ calls_start s (d - 1)) (f : len ≡ len_at s (d - 1)) where
    pub own-top : start + len ≡ top_of s d
    unfolding top_of
    own-top = rw (below_one d h, e, f)

    pub own-none : len ≡ 0 → OwnCalls s base d (own_none (start + len))
    own-none z = record {
      top_is = own-top;
      none = λ x. ap (calls_of s base) (below_one d h) ∙ calls-none s base (d - 1) (sym f ∙ z);
      first = λ c x. absurd (none-some c x);
      below = λ c x. absurd (none-some c x);
    }

    pub own-some : (current : ℕ) → (len ≡ 0 → ⊥) → current ≡ get_or s (base + start * 2 + 1) 0 → OwnCalls s base d (own_of (start + len) current (base + start * 2 + 2) (len - 1))
    own-some current z g =
        one d (start + len) (get_or s (base + start * 2) 0) current (base + start * 2 + 2) (len - 1) own-top
        (ap (calls_of s base) (below_one d h) ∙ rw (g, e, f) (calls-some s base (d - 1) (omega (arith, f, z)))) (omega (arith, z))

-- ── The inlinee ranges of a row ──

pub ranges-sorted : (s s₁ ys : List ℕ) (b n : ℕ) (ss : List Span) → n ≡ length ss → s₁ ≡ sets s b (pair_words ss) → b + length ss * 2 ≤ length s
    → ys ≡ sorted_of (take (b + n * 2 - b) (drop b s₁)) → Sorted b ss n s (take b s₁ ++ (ys ++ drop (b + n * 2 - b) (drop b s₁)))
ranges-sorted s s₁ ys b n ss e f h g =
    let z : b + (b + n * 2 - b) ≡ b + n * 2 = omega arith in
    let d : drop (b + n * 2 - b) (drop b s₁) ≡ drop (b + n * 2) s₁ = drop-drop (b + n * 2 - b) b s₁ ∙ ap (λ (x : ℕ). drop x s₁) z in
    let x : take b s₁ ++ (ys ++ drop (b + n * 2 - b) (drop b s₁)) ≡ take b s₁ ++ (sorted_of (take (b + n * 2 - b) (drop b s₁)) ++ drop (b + n * 2) s₁) = rw (d, g) refl in
    record {
      count = e;
      sorted = sorted-pairs s s₁ _ b (b + n * 2) ss (omega arith) (omega arith) f x;
      kept = sorted-kept s s₁ _ b (b + n * 2) ss (omega arith) (omega arith) f x;
    }

-- ── A row ──

module _ {R P L S : Type 0} (M : Machine FunctionRow LineRow SymbolRow R P L ℕ S) (q : FunctionRow) (ss : List Span) (base d top calls count current : ℕ) (s s₂ s₃ : List ℕ) (w w₁ w₃ : S) (fi : R) (m : ℕ) where
  abbrev walked : LoopedM ℕ S
  walked = loop_m input M q fi q.lines current (refs_at s₂ calls count) (pairs_at s₂ (base + top * 2) (length ss)) 0 w₁

  -- its inlinee ranges were gathered and sorted (s₂), it was begun (w₁), its lines were walked (s₃, w₃), and it was closed
  pub row_done : (n : ℕ) → Sorted (base + top * 2) ss n s s₂ → skipped q ≡ false → calls + count * 2 ≤ base + top * 2 → d * 4 + 4 ≤ base → base ≤ length s₃
      → M.begin q w ≡ (fi, w₁) → Lined (base + top * 2) (length ss) walked s₂ s₃ w₃ m
      → (a : ℕ) → RowDone base d top (length ss) (row_m input M q ss (ref a current ∷ refs_at s calls count) w) s (set_calls s₃ d top m) (closing_m input M q fi w₃)
  row_done n o k h low room b l a =
      let x : refs_at s₂ calls count ≡ refs_at s calls count = ap (map ref_of) (pairs-kept s s₂ calls count (base + top * 2) o.kept h) in
      let e : walked ≡ loop_m input M q fi q.lines current (refs_at s calls count) (sort ss) 0 w₁ = rw (x, o.sorted) refl in
      let p : row_m input M q ss (ref a current ∷ refs_at s calls count) w ≡ record { state = closing_m input M q fi walked.state; calls = walked.calls } =
      row-visited input M q ss w (ref a current) (refs_at s calls count) k ∙ rw (b, e) refl in
      visited base d top (length ss) low s s₂ s₃ walked w₃ m (row_m input M q ss (ref a current ∷ refs_at s calls count) w) (closing_m input M q fi w₃) room o.kept l
      (ap (closing_m input M q fi) l.state ∙ sym (ap (λ (y : LoopedM ℕ S). y.state) p)) (sym (ap (λ (y : LoopedM ℕ S). y.calls) p))

module _ (f64 f32 l64 l32 t : List ℕ) (base i first : ℕ) where
  abbrev k : Columns
  k = columns f64 f32 l64 l32 t

  abbrev k₀ : Columns
  k₀ = columns f64 f32 l64 l32 []

  -- ── A row that is visited ──

  module _ (size top : ℕ) (ready : RowReady k size base i first top) (q : FunctionStruct) (e : q ≡ function_in_columns f64 f32 i) where
    same-spans : kid_spans k₀ q.depth (i + 1) (first + q.lines) ≡ row_spans k i first
    same-spans = rw e (sym (spans-text f64 f32 l64 l32 t (function_in_columns f64 f32 i).depth (i + 1) (first + (function_in_columns f64 f32 i).lines)))

    pub gather_ready : GatherReady k₀ size (base + top * 2) (i + 1) (first + q.lines) q.depth
    gather_ready = record {
      room = rw same-spans (omega (arith, ready.room));
      inside = omega (arith, ready.inside);
      shallow = rw e ready.shallow;
      first_is = rw e (ap (λ (x : ℕ). x + (function_in_columns f64 f32 i).lines) ready.first_is ∙ sym (first-line k i));
      within = ready.within;
    }

    pub lines-room : first + q.lines ≤ length l64 / 3
    lines-room = rw (e, ready.first_is) (ready.within i ready.inside)

    module _ (calls : CallLocations) (n : ℕ) (h : calls.others.at + calls.others.len * 2 ≤ base + top * 2) where
      abbrev inlinees : Pairs
      inlinees = record { at = base + top * 2; len = n }

      pub lines-ready : (s₁ s₂ : List ℕ) → length s₂ ≡ size → Sorted (base + top * 2) (kid_spans k₀ q.depth (i + 1) (first + q.lines)) n s₁ s₂
          → LinesReady q first calls inlinees (length l64 / 3) (length s₂)
      lines-ready s₁ s₂ l o =
          let z : length (kid_spans k₀ q.depth (i + 1) (first + q.lines)) ≡ length (row_spans k i first) = ap length same-spans in
          record { within = lines-room; room = omega (arith, ready.room, o.count); apart = h }

      pub row_walked : (X : Setup) (fi m : ℕ) (s s₂ s₃ s₄ : List ℕ) (w w₁ w₃ w₄ : Words) → skipped (tree_row k i first) ≡ false
          → Sorted (base + top * 2) (kid_spans k₀ q.depth (i + 1) (first + q.lines)) n s s₂ → length s₃ ≡ size
          → (fi, w₁) ≡ begin_named (cond X.functions_on (undecorated (text_of t q.name)) (text_of t q.name)) (cond q.inline MAX (q.address % 4294967296)) q.language w
          → LinesLeft X k i first fi calls inlinees s₂ s₃ w₁ w₃ m
          → w₄ ≡ closing_m input (over_words X) (tree_row k i first) fi w₃ → s₄ ≡ set_calls s₃ q.depth top m
          → (a : ℕ) → RowLeft X k base i first top (calls_of_lem s a calls) s s₄ w w₄
      unfolding tree_row
      row_walked X fi m s s₂ s₃ s₄ w w₁ w₃ w₄ z o l b d c y a =
          let o' : Sorted (base + top * 2) (row_spans k i first) n s s₂ = rw same-spans at o in
          let b' : (over_words X).begin (tree_row k i first) w ≡ (fi, w₁) = begin-is k i first X w z ∙ sym (rw e at b) in
          let at = calls.others.at in
          let len = calls.others.len in
          let d' : Lined (base + top * 2) (length (row_spans k i first)) (loop_m input (over_words X) (tree_row k i first) fi (tree_row k i first).lines calls.first (refs_at s₂ at len) (pairs_at s₂ (base + top * 2) (length (row_spans k i first))) 0 w₁) s₂ s₃ w₃ m =
          rw (tree_row-lines k i first) (rw o'.count at d) in
          rw (c, y, e)
          (row_done (over_words X) (tree_row k i first) (row_spans k i first) base (function_in_columns f64 f32 i).depth top at len calls.first s s₂ s₃ w w₁ w₃ fi m n o' z h ready.low (omega (arith, ready.room)) b' d' a)

  -- ── A row, visited or not ──

  module _ (s : List ℕ) (ready : RowReady k (length s) base i first (top_of s (function_in_columns f64 f32 i).depth)) (q : FunctionStruct) (e : q ≡ function_in_columns f64 f32 i) where
    pub own-ready : base + top_of s q.depth * 2 ≤ length s
    own-ready = rw e (omega (arith, ready.room))

    module _ (own : Own) (is : OwnCalls s base q.depth own) (v : Option CallLocations) (f : v ≡ cond (cond (eqb q.size 0) true (ltb MAX q.address)) None own.call_locations) where
      is' : OwnCalls s base (function_in_columns f64 f32 i).depth own
      is' = rw e at is

      skip_is : skipped (tree_row k i first) ≡ cond (eqb q.size 0) true (ltb MAX q.address)
      skip_is = tree_row-skipped k i first ∙ rw e refl

      -- "No call location made", or skipped
      pub row-passed : (X : Setup) (w : Words) (s' : List ℕ) → v ≡ None → s' ≡ set_calls s q.depth own.top 0
          → RowLeft X k base i first (top_of s (function_in_columns f64 f32 i).depth) (calls_of s base (function_in_columns f64 f32 i).depth) s s' w w
      row-passed X w s' z y =
          rw (y, e, is'.top_is)
          (passed_over base (function_in_columns f64 f32 i).depth (top_of s (function_in_columns f64 f32 i).depth) (length (row_spans k i first)) ready.low s _ w (omega (arith, ready.room))
          (go (cond (eqb q.size 0) true (ltb MAX q.address)) refl (sym f ∙ z)))
        where
          go : (b : Bool) → cond (eqb q.size 0) true (ltb MAX q.address) ≡ b → cond b None own.call_locations ≡ None
              → row_m input (over_words X) (tree_row k i first) (row_spans k i first) (calls_of s base (function_in_columns f64 f32 i).depth) w ≡ record { state = w; calls = [] }
          go true x g = row-skipped input (over_words X) (tree_row k i first) (row_spans k i first) w (calls_of s base (function_in_columns f64 f32 i).depth) (skip_is ∙ x)
          go false x g = rw (is'.none g) (row-empty input (over_words X) (tree_row k i first) (row_spans k i first) w)

      module _ (c : CallLocations) (z : v ≡ Some c) where
        both : (b : Bool) → cond (eqb q.size 0) true (ltb MAX q.address) ≡ b → cond b None own.call_locations ≡ Some c → (own.call_locations ≡ Some c) × (skipped (tree_row k i first) ≡ false)
        both true x g = absurd (none-some c g)
        both false x g = (g, skip_is ∙ x)

        there : (own.call_locations ≡ Some c) × (skipped (tree_row k i first) ≡ false)
        there = both (cond (eqb q.size 0) true (ltb MAX q.address)) refl (sym f ∙ z)

        pub visit-ready : VisitReady k (length s) base (record { function = q; i = i; first_line = first }) own.top c
        visit-ready = record { is = e; ready = rw is'.top_is ready; below = is'.below c there.0; visited = there.1 }

        pub row_visits : (X : Setup) (w w' : Words) (s' : List ℕ) → ((a : ℕ) → RowLeft X k base i first own.top (calls_of_lem s a c) s s' w w')
            → RowLeft X k base i first (top_of s (function_in_columns f64 f32 i).depth) (calls_of s base (function_in_columns f64 f32 i).depth) s s' w w'
        row_visits X w w' s' g =
            let x = is'.first c there.0 in
            rw (← is'.top_is, x.1) (g x.0)

-- ── The rows ──

module _ (k : Columns) (size : ℕ) (X : Setup) (w₀ : Words) (ok : Accepted k size) (s : List ℕ) (i first : ℕ) (w : Words) (r : Rowing (over_words X) k size w₀ s i first w) (h : i < function_rows k) where
  pub row-ready : RowReady k (length s) (function_rows k * 4) i first (top_of s (function_struct k i).depth)
  row-ready =
      let d : (function_struct k i).depth < function_rows k = depth_low (over_words X) k size w₀ ok s i first w r h in
      record {
        inside = h;
        first_is = r.first_is;
        within = ok.within;
        shallow = omega (arith, ok.few);
        low = omega arith;
        room = room_fits (over_words X) k size w₀ ok s i first w r h;
      }

  module _ (q : FunctionStruct) (e : q ≡ function_struct k i) where
    pub first-low : first + q.lines ≤ line_rows k
    first-low = rw (e, r.first_is) (ok.within i h)

    pub row-after : (s' : List ℕ) (w' : Words) → RowLeft X k (function_rows k * 4) i first (top_of s (function_struct k i).depth) (calls_of s (function_rows k * 4) (function_struct k i).depth) s s' w w'
        → length s' ≡ length s → Rowing (over_words X) k size w₀ s' (i + 1) (first + q.lines) w'
    row-after s' w' d l = rw e (next (over_words X) k size w₀ ok s i first w r h s' w' d l)
