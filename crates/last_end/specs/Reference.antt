-- THE REFERENCE CONVERTER: the plain converter with the Rust's `last_addr`, and with what `serialize` of writer.rs inserts at it. Ours has neither;
-- this is kept for the theorem alone that the file is the same (LastEnd). Tables change as in the plain converter; the last end is a fold over the
-- accepted calls beside them.
use Rattle.std.specs.Prelude.{cond, List, [], ◌∷◌, map, ℕ, suc, ltb, leb}
use Rattle.std.proofs.Math.Option.{Option, none, some}
use Rattle.model.specs.Basics.{Span, Deep}
use Rattle.model.specs.Rows.{FunctionRow, SymbolRow, Given, function_end, skipped, symbol_skipped}
use Rattle.model.specs.Machine.{Ref, LoopedM, OpM, tree_m, symbol_m, set_at_m, kid_spans_m, put_end, row_m, start_m, convert_symbol_m}
use Rattle.model.specs.Converter.{Setup, Tables, nothing, input, op, plain}

-- ── The last end ───────────────────────────────────────────────────────────────────────────────────────────────────────

-- `self.last_addr.get_or_insert(0)`: "unset counts as 0"
abbrev pub or_zero : Option ℕ → ℕ
or_zero none = 0
or_zero (some a) = a

-- "if function_end > *last_addr": the greater end
abbrev pub later : Option ℕ → ℕ → Option ℕ
later o e = cond (ltb (or_zero o) e) (some e) (some (or_zero o))

-- "if symbol.address as u32 >= *last_addr": a named symbol at or above it clears it
abbrev pub cleared : Option ℕ → ℕ → Option ℕ
cleared o y = cond (leb (or_zero o) y) none (some (or_zero o))

-- ── The converter ──────────────────────────────────────────────────────────────────────────────────────────────────────

pub record Reference : Type 0 where
  pub tables : Tables
  pub last : Option ℕ

abbrev pub reference_begun : Reference
reference_begun = record { tables = nothing; last = none }

module _ (X : Setup) where
  -- a row: where it is visited and not skipped, its end may become the last end
  unfoldable pub row_r : FunctionRow → List Span → List (Ref (Option ℕ)) → Reference → LoopedM (Option ℕ) Reference
  row_r q ss [] s = record { state = s; calls = [] }
  row_r q ss (c ∷ cs) s =
      let o = row_m input (plain X) q ss (c ∷ cs) s.tables in
      let e = cond (skipped q) s.last (later s.last (function_end q)) in
      record { state = record { tables = o.state; last = e }; calls = o.calls }

  -- rows in preorder
  unfoldable pub convert_r : List (Deep FunctionRow) → (ℕ → List (Ref (Option ℕ))) → Reference → Reference
  convert_r [] ctx s = s
  convert_r (r ∷ rs) ctx s =
      let o = row_r r.item (kid_spans_m input r.depth rs) (ctx r.depth) s in
      convert_r rs (set_at_m (suc r.depth) o.calls ctx) o.state

  -- a symbol: where it is named and at most at MAX, it may clear the last end
  unfoldable pub symbol_r : SymbolRow → Reference → Reference
  symbol_r y s =
      let e = cond (symbol_skipped y) s.last (cleared s.last y.address) in
      record { tables = convert_symbol_m input (plain X) y s.tables; last = e }

  unfoldable pub op_r : OpM FunctionRow SymbolRow → Reference → Reference
  op_r (tree_m q rs) s = convert_r (record { depth = 0; item = q } ∷ rs) (start_m input (plain X)) s
  op_r (symbol_m y) s = symbol_r y s

  unfoldable pub run_r : List (OpM FunctionRow SymbolRow) → Reference → Reference
  run_r [] s = s
  run_r (o ∷ os) s = run_r os (op_r o s)

  -- the reference converter after a list of accepted calls, and its last end
  abbrev pub referred : List Given → Reference
  referred gs = run_r (map op gs) reference_begun

  abbrev pub last_end : List Given → Option ℕ
  last_end gs = (referred gs).last

  -- ── Writing ──

  -- "Insert a trailing sentinel source location in case we have a definite end addr": the empty mapping at the last end, where that is vacant
  unfoldable pub with_sentinel : Reference → Tables
  with_sentinel s = elim s.last [ none ↦ s.tables | some a ↦ put_end input (plain X) a s.tables ]

  -- the tables that it writes after a list of accepted calls
  abbrev pub reference_tables : List Given → Tables
  reference_tables gs = with_sentinel (referred gs)
