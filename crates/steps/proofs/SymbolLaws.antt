-- A symbol's steps, one after the other, are those of the machine's `named_symbol_m` and `convert_symbol_m`.
use mathlib.Core.Path.{◌≡◌, ◌∙◌, ap}
use mathlib.Core.Bool.{Bool, true, false}
use Prim.Native.Nat.{ℕ, ◌+◌, ◌<◌, ◌≤◌}
use native.Mathlib.Omega.{arith}
use mathlib.Core.List.{List}
use borrow.Author.Tests.{lt-ltb, le-ltb, le-leb, lt-leb, eq-eqb, ne_eqb}
use Rattle.model.specs.Rows.{MAX, Text, SymbolRow, symbol_end}
use Rattle.model.specs.Machine.{put_end, named_symbol_m, convert_symbol_m}
use Rattle.model.specs.Converter.{Setup, input, symbol_name}
use Rattle.rows.specs.Columns.{text_of}
use Rattle.rows.specs.declared.OptionalPart.{OptionalPart}
use Rattle.tables.specs.Ranges.{get_of}
use Rattle.memory.specs.Memory.{Words}
use Rattle.steps.specs.Steps.{gave, store, add_function, put_range, location, free, over_words}
use Rattle.steps.proofs.Ranges.{put_where_free, kept_where_held}
use Rattle.steps.specs.Symbols.{symbol_row_lem, symbol_put, end_put, named_row}

-- ── The location at the start ──────────────────────────────────────────────────────────────────────────────────────────

module _ (X : Setup) (p a : ℕ) (s : Words) {b : Bool} (e : b ≡ free (get_of s.mm.ranges s.st.ranges a)) where
  pub symbol-placed : b ≡ true → {i : ℕ} {t u : Words} → gave i t ≡ add_function p a MAX s → u ≡ put_range a (location MAX 0 i MAX) t → u ≡ symbol_put X p a s
  symbol-placed h f d =
      let g = add_function p a MAX s in
      d ∙ ap (λ (q : ℕ × Words). put_range a (location MAX 0 q.0 MAX) q.1) f ∙ put_where_free X a s (put_range a (location MAX 0 g.0 MAX) g.1) e h

  pub symbol-kept : b ≡ false → s ≡ symbol_put X p a s
  symbol-kept h = let g = add_function p a MAX s in kept_where_held X a s (put_range a (location MAX 0 g.0 MAX) g.1) e h

-- ── The empty mapping at the end ───────────────────────────────────────────────────────────────────────────────────────

module _ (X : Setup) (a z : ℕ) (t : Text) (s : Words) where
  pub end-placed : 0 < z → a + z ≤ MAX → {u : Words} → u ≡ put_end input (over_words X) (a + z) s → u ≡ end_put X (symbol_end (named_row a z t)) s
  end-placed h l e = rw (ne_eqb z 0 (λ k. omega arith), le-leb (a + z) MAX l) e

  pub end-above : 0 < z → MAX < a + z → s ≡ end_put X (symbol_end (named_row a z t)) s
  end-above h l = rw (ne_eqb z 0 (λ k. omega arith), lt-leb (a + z) MAX l)

  pub end_large : MAX < z → s ≡ end_put X (symbol_end (named_row a z t)) s
  end_large h = end-above (omega arith) (omega arith)

  pub end-absent : z ≤ 0 → s ≡ end_put X (symbol_end (named_row a z t)) s
  end-absent h = let k : z ≡ 0 = omega arith in rw (eq-eqb z 0 k)

-- ── A symbol ───────────────────────────────────────────────────────────────────────────────────────────────────────────

module _ (X : Setup) (y : SymbolRow) (s : Words) where
  -- the text, the location, the empty mapping
  pub named_law : {shown : Text} {p : ℕ} {t u v : Words} → shown ≡ symbol_name X y → gave p t ≡ store shown s → u ≡ symbol_put X p y.address t
      → v ≡ end_put X (symbol_end y) u → v ≡ named_symbol_m input (over_words X) y s
  unfolding named_symbol_m
  named_law n e l k =
      k ∙ ap (λ (w : Words). end_put X (symbol_end y) w)
      (l ∙ ap (λ (q : ℕ × Words). symbol_put X q.0 y.address q.1) (e ∙ ap (λ (r : Text). store r s) n))

-- "Symbols counted are named, at addresses up to MAX"
module _ (X : Setup) (text : List ℕ) (a z : ℕ) (o : OptionalPart) (s : Words) where
  pub symbol-named : o.present ≡ true → a ≤ MAX → {n : Text} {u : Words} → n ≡ text_of text o.part → u ≡ named_symbol_m input (over_words X) (named_row a z n) s
      → u ≡ convert_symbol_m input (over_words X) (symbol_row_lem text a z o) s
  unfolding convert_symbol_m
  symbol-named h l n e = rw (h, convert_symbol_m, le-ltb MAX a l) (rw h (e ∙ ap (λ (r : Text). named_symbol_m input (over_words X) (named_row a z r) s) n))

  pub symbol-above : o.present ≡ true → MAX < a → s ≡ convert_symbol_m input (over_words X) (symbol_row_lem text a z o) s
  unfolding convert_symbol_m
  symbol-above h l = rw (h, convert_symbol_m, lt-ltb MAX a l)

  pub symbol-unnamed : o.present ≡ false → s ≡ convert_symbol_m input (over_words X) (symbol_row_lem text a z o) s
  unfolding convert_symbol_m
  symbol-unnamed h = rw h

-- by the size, and by whether the end is representable
pub ruleset symbol_end_cases = (end-placed, end-above, end_large, end-absent)
