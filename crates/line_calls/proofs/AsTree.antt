-- The call over a list of line rows against the call over number slices: with room to unpack the rows it is the same call; without, it is one with no scratch. What it leaves of the memory that the rows are
-- unpacked into, number by number.
use Prim.Native.Nat.{ℕ, ◌+◌, ◌*◌}
use mathlib.Core.Path.{◌≡◌, refl, sym, ap, ◌∙◌}
use mathlib.Core.Bool.{Bool, true, false, cond, ◌&&◌}
use mathlib.Core.Logic.{◌⊎◌, inl, inr}
use mathlib.Core.List.{List, []}
use native.Mathlib.Omega.{arith}
use lib.Dec.{eqb, leb}
use lib.ListN.{length}
use borrow.Author.Tests.{lt-leb, eq-eqb, eqb-true}
use Rattle.rows.specs.Columns.{Columns, function_rows, line_rows}
use Rattle.refusals.specs.Refusals.{shaped?, shallow?, texts?, ends?, room?, tree_refusal}
use Rattle.refusals.proofs.Accepted.{some-row}
use Rattle.memory.specs.Memory.{Memory}
use Rattle.memory.specs.declared.Converter.{Converter}
use Rattle.symbol_call.specs.Calls.{Called, called, finished}
use Rattle.writer.specs.Calls.{rows_converted, tree_counted, tree_of}
use Rattle.slices.specs.Slices.{zeros}
use Rattle.memory.specs.Record.{usable?}
use Rattle.line_rows.specs.Numbers.{unpack_room?}
use Rattle.line_calls.specs.Calls.{LinesCalled, lines_called, lines_of}

-- ── Rows that are refused for want of scratch alone ──

-- with no scratch at all: 16 where there is nothing else to refuse
pub no_scratch : (k : Columns) (s : ℕ) → tree_refusal k 0 ≡ cond (eqb (tree_refusal k s) 0) 16 (tree_refusal k s)
unfolding tree_refusal room?
no_scratch k s = go (shaped? k) (shallow? k) (texts? k) (ends? k) (room? k s) refl
  where
    go : (a x b c d : Bool) → shaped? k ≡ a
        → ◌≡◌ {A = ℕ} (cond a (cond x (cond b (cond c (cond (leb (4 * (function_rows k + line_rows k)) 0) 0 16) 15) 14) 25) 13)
        (cond (eqb (cond a (cond x (cond b (cond c (cond d 0 16) 15) 14) 25) 13) 0) 16 (cond a (cond x (cond b (cond c (cond d 0 16) 15) 14) 25) 13))
    go false x b c d e = refl
    go true false b c d e = refl
    go true true false c d e = refl
    go true true true false d e = refl
    go true true true true true e = let h = some-row k e in rw (lt-leb (4 * (function_rows k + line_rows k)) 0 (omega (arith, h)))
    go true true true true false e = let h = some-row k e in rw (lt-leb (4 * (function_rows k + line_rows k)) 0 (omega (arith, h)))

module _ (c : Converter) (m : Memory) (s u v : List ℕ) (k : Columns) where
  -- ── The same call ──

  -- "Its answer, record and every lent slice equal what the call over number slices gives"
  pub lines_equal : unpack_room? k u v ≡ true → (lines_of c m s u v k).called ≡ tree_of c m s k
  unfolding lines_of
  lines_equal e = go (usable? c m && eqb (tree_refusal k (length s)) 0)
    where
      go : (b : Bool) → (cond b (cond (unpack_room? k u v) (lines_called (tree_of c m s k) (zeros u) (zeros v)) (lines_called (called 16 c m s) u v)) (lines_called (tree_of c m s k) u v)).called ≡ tree_of c m s k
      go true = rw e
      go false = refl

  -- 16 without room for the rows, where no earlier number is due
  pub lines_16 : usable? c m ≡ true → tree_refusal k (length s) ≡ 0 → unpack_room? k u v ≡ false → lines_of c m s u v k ≡ lines_called (called 16 c m s) u v
  unfolding lines_of
  lines_16 e f g = rw (e, eq-eqb (tree_refusal k (length s)) 0 f, g)

  -- the scratch of the tree call that it is in any case, as far as its number, the record and the tables go
  abbrev pub scratch_had : List ℕ
  scratch_had = cond (unpack_room? k u v) s []

  -- what counts of a call in a list of calls
  abbrev pub Kept : Type 0
  Kept = ℕ × (Converter × Memory)

  abbrev pub kept : Called → Kept
  kept o = (o.code, (o.converter, o.memory))

  pub lines_tree : kept (lines_of c m s u v k).called ≡ kept (tree_of c m scratch_had k)
  unfolding lines_of tree_of
  lines_tree = go (usable? c m) (eqb (tree_refusal k (length s)) 0) (unpack_room? k u v) refl refl refl
    where
      nothing_had : unpack_room? k u v ≡ false → usable? c m ≡ true → tree_of c m scratch_had k ≡ cond (eqb (tree_refusal k 0) 0) (finished (tree_counted c k) [] (rows_converted c m k)) (called (tree_refusal k 0) c m [])
      nothing_had f p = rw (f, p)

      go : (a b d : Bool) → usable? c m ≡ a → eqb (tree_refusal k (length s)) 0 ≡ b → unpack_room? k u v ≡ d → kept (lines_of c m s u v k).called ≡ kept (tree_of c m scratch_had k)
      go true b true p q f = ap kept (lines_equal f) ∙ rw f
      go true true false p q f =
          let z : tree_refusal k 0 ≡ 16 = no_scratch k (length s) ∙ rw q in
          let there : tree_of c m scratch_had k ≡ called 16 c m [] = nothing_had f p ∙ rw z in
          ap (λ (o : LinesCalled). kept o.called) (lines_16 p (eqb-true (tree_refusal k (length s)) 0 q) f) ∙ sym (ap kept there)
      go true false false p q f =
          let z : tree_refusal k 0 ≡ tree_refusal k (length s) = no_scratch k (length s) ∙ rw q in
          let here : kept (lines_of c m s u v k).called ≡ kept (called (tree_refusal k (length s)) c m s) = rw (p, q) in
          let there : tree_of c m scratch_had k ≡ called (tree_refusal k (length s)) c m [] = nothing_had f p ∙ rw (z, q) in
          here ∙ sym (ap kept there)
      go false b true p q f = ap kept (lines_equal f) ∙ rw f
      go false b false p q f = rw p

  -- ── The memory that the rows are unpacked into ──

  -- any refusal but 17 changes no lent byte and no state; after acceptance and 17 it is zero
  pub lines_left : (lines_of c m s u v k ≡ lines_called (called (lines_of c m s u v k).called.code c m s) u v) ⊎ (((lines_of c m s u v k).unpacked64 ≡ zeros u) × ((lines_of c m s u v k).unpacked32 ≡ zeros v))
  unfolding lines_of tree_of
  lines_left = go (usable? c m) (eqb (tree_refusal k (length s)) 0) (unpack_room? k u v) refl refl refl
    where
      go : (a b d : Bool) → usable? c m ≡ a → eqb (tree_refusal k (length s)) 0 ≡ b → unpack_room? k u v ≡ d
          → (lines_of c m s u v k ≡ lines_called (called (lines_of c m s u v k).called.code c m s) u v) ⊎ (((lines_of c m s u v k).unpacked64 ≡ zeros u) × ((lines_of c m s u v k).unpacked32 ≡ zeros v))
      go true true true p q f = inr (rw (p, q, f), rw (p, q, f))
      go true true false p q f = inl (rw (p, q, f))
      go true false d p q f = inl (rw (p, q))
      go false b d p q f = inl (rw p)
