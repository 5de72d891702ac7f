-- The premises can be met: two roots that touch, an inlinee, a line of absent size, symbols at their boundaries, one that is unnamed and one above MAX, inside or not.
use mathlib.Core.Path.{◌≡◌, refl}
use mathlib.Core.Bool.{true, false}
use mathlib.Core.Option.{none, some}
use mathlib.Core.Logic.{inl, inr}
use mathlib.Core.List.{List, [], ◌∷◌}
use Prim.Native.Nat.{ℕ, ◌+◌, ◌≤◌, ◌<◌}
use native.Mathlib.Omega.{arith}
use Rattle.text.specs.Utf8.{utf8, chars, char_len, Utf8Char, fits, within}
use Rattle.model.specs.Basics.{◌∈◌, here, there, before, place, sort, intern}
use Rattle.model.specs.Rows.{MAX, LineRow, FunctionRow, SymbolRow, Given, tree_rows, symbol_row, line_size}
use Rattle.model.specs.Machine.{advance_m, set_at_m, kid_spans_m, unless_held, put_end, walk_m, loop_m, entry_m, closing_m, row_m, convert_m, start_m, named_symbol_m, convert_symbol_m, convert_op_m, run_m}
use Rattle.model.specs.Converter.{intern_text, intern_six, range_at, range_put, begin_row, locate_line, begin_symbol, locate_symbol, enter_call, converted}
use Rattle.model.specs.Frames.{Frame, callers, frames_of, better, best, frames_at}
use Rattle.model.specs.Premises.{inlinees, RowWell, InlineeWell, TreeWell, WellNested, SymbolClear, Separate, AllSeparate, line_at_lem, nested_at}
use Rattle.model.proofs.Spans.{∈-elim}
use Rattle.model.proofs.Demand.{demand}
use Rattle.model.proofs.Worked.{worked, plain-setup, trk, pos, ars, prs, src, line, root-row, inlinee-row, frame}

abbrev second_row : FunctionRow
second_row = record { depth = 0; address = 0x1010; size = 4; inline = false; language = 3; name = pos; comp_dir = []; lines = line 0x1010 none 7 prs ∷ line 0x1012 (some 2) 8 prs ∷ [] }

abbrev symbol_of_lem : ℕ → ℕ → SymbolRow
symbol_of_lem a z = record { address = a; size = z; name = some trk }

abbrev pub list : List Given
list =
    symbol_row (symbol_of_lem 0x0ff0 16)
    ∷ tree_rows root-row (inlinee-row ∷ [])
    ∷ symbol_row (record { address = 0x1004; size = 2; name = none })
    ∷ tree_rows second_row []
    ∷ symbol_row (symbol_of_lem 0x1010 0)
    ∷ symbol_row (symbol_of_lem 0x1014 0)
    ∷ symbol_row (symbol_of_lem 0x1_0000_1004 1)
    ∷ []

empty : {A : Type 0} (P : A → Type 0) (a : A) → a ∈ [] → P a
empty P a i = elim i [ ]

root-well : RowWell root-row
root-well = record {
  sized = omega arith;
  low = omega arith;
  ascending = (omega arith, omega arith, (omega arith, omega arith, tt));
  inside = ∈-elim (λ (n : LineRow). n.address + line_size n ≤ 0x1000 + 16) (omega arith) (∈-elim (λ (n : LineRow). n.address + line_size n ≤ 0x1000 + 16) (omega arith) (empty _));
  numbers = ∈-elim (λ (n : LineRow). n.number < 4294967296) (omega arith) (∈-elim (λ (n : LineRow). n.number < 4294967296) (omega arith) (empty _));
}

inlinee-well : RowWell inlinee-row
inlinee-well = record {
  sized = omega arith;
  low = omega arith;
  ascending = (omega arith, omega arith, tt);
  inside = ∈-elim (λ (n : LineRow). n.address + line_size n ≤ 0x1002 + 4) (omega arith) (empty _);
  numbers = ∈-elim (λ (n : LineRow). n.number < 4294967296) (omega arith) (empty _);
}

second_well : RowWell second_row
second_well = record {
  sized = omega arith;
  low = omega arith;
  ascending = (omega arith, omega arith, (omega arith, omega arith, tt));
  inside = ∈-elim (λ (n : LineRow). n.address + line_size n ≤ 0x1010 + 4) (omega arith) (∈-elim (λ (n : LineRow). n.address + line_size n ≤ 0x1010 + 4) (omega arith) (empty _));
  numbers = ∈-elim (λ (n : LineRow). n.number < 4294967296) (omega arith) (∈-elim (λ (n : LineRow). n.number < 4294967296) (omega arith) (empty _));
}

inlined : InlineeWell root-row inlinee-row
inlined = record {
  last = refl;
  within = ∈-elim (λ (n : LineRow). (m : LineRow) × (m ∈ root-row.lines) × (m.address ≤ n.address) × (n.address + line_size n ≤ m.address + line_size m)) (line 0x1000 (some 8) 10 ars, here, omega arith, omega arith) (empty _);
}

root-tree : TreeWell root-row (inlinee-row ∷ [])
unfolding inlinees
root-tree = record {
  first = refl;
  legal = (omega arith, omega arith, tt);
  root = refl;
  others = ∈-elim (λ (r : FunctionRow). r.inline ≡ true) refl (empty _);
  rows = (root-well, ∈-elim (InlineeWell root-row) inlined (empty _), (empty _, tt), (inlinee-well, empty _, tt, tt));
}

second_tree : TreeWell second_row []
unfolding inlinees
second_tree = record { first = refl; legal = tt; root = refl; others = empty _; rows = (second_well, empty _, tt, tt) }

pub list-well : (g : Given) → g ∈ list → WellNested g
list-well = ∈-elim WellNested tt (∈-elim WellNested root-tree (∈-elim WellNested tt (∈-elim WellNested second_tree (∈-elim WellNested tt (∈-elim WellNested tt (∈-elim WellNested tt (empty _)))))))

clear-low : (q : FunctionRow) (y : SymbolRow) → y.address ≤ q.address → y.address + y.size ≤ q.address → SymbolClear q y
clear-low q y h k = record { start = λ c. inl h; end = λ c z m. inl k }

clear-high : (q : FunctionRow) (y : SymbolRow) → q.address + q.size ≤ y.address → SymbolClear q y
clear-high q y h = record { start = λ c. inr h; end = λ c z m. inr (omega arith) }

pub list-separate : AllSeparate list
list-separate = (
  ∈-elim (Separate (symbol_row (symbol_of_lem 0x0ff0 16))) (clear-low root-row (symbol_of_lem 0x0ff0 16) (omega arith) (omega arith))
      (∈-elim (Separate (symbol_row (symbol_of_lem 0x0ff0 16))) tt
      (∈-elim (Separate (symbol_row (symbol_of_lem 0x0ff0 16))) (clear-low second_row (symbol_of_lem 0x0ff0 16) (omega arith) (omega arith))
      (∈-elim (Separate (symbol_row (symbol_of_lem 0x0ff0 16))) tt
      (∈-elim (Separate (symbol_row (symbol_of_lem 0x0ff0 16))) tt
      (∈-elim (Separate (symbol_row (symbol_of_lem 0x0ff0 16))) tt (empty _)))))),
  (
    ∈-elim (Separate (tree_rows root-row (inlinee-row ∷ []))) (record { start = λ c. absurd c.0; end = λ c z m. absurd c.0 })
        (∈-elim (Separate (tree_rows root-row (inlinee-row ∷ []))) (inl (omega arith))
        (∈-elim (Separate (tree_rows root-row (inlinee-row ∷ []))) (clear-high root-row (symbol_of_lem 0x1010 0) (omega arith))
        (∈-elim (Separate (tree_rows root-row (inlinee-row ∷ []))) (clear-high root-row (symbol_of_lem 0x1014 0) (omega arith))
        (∈-elim (Separate (tree_rows root-row (inlinee-row ∷ []))) (clear-high root-row (symbol_of_lem 0x1_0000_1004 1) (omega arith)) (empty _))))),
    (
      ∈-elim (Separate (symbol_row (record { address = 0x1004; size = 2; name = none }))) (clear-low second_row (record { address = 0x1004; size = 2; name = none }) (omega arith) (omega arith))
          (∈-elim (Separate (symbol_row (record { address = 0x1004; size = 2; name = none }))) tt
          (∈-elim (Separate (symbol_row (record { address = 0x1004; size = 2; name = none }))) tt
          (∈-elim (Separate (symbol_row (record { address = 0x1004; size = 2; name = none }))) tt (empty _)))),
      (
        ∈-elim (Separate (tree_rows second_row [])) (clear-low second_row (symbol_of_lem 0x1010 0) (omega arith) (omega arith))
            (∈-elim (Separate (tree_rows second_row [])) (clear-high second_row (symbol_of_lem 0x1014 0) (omega arith))
            (∈-elim (Separate (tree_rows second_row [])) (clear-high second_row (symbol_of_lem 0x1_0000_1004 1) (omega arith)) (empty _))),
        (
          ∈-elim (Separate (symbol_row (symbol_of_lem 0x1010 0))) tt (∈-elim (Separate (symbol_row (symbol_of_lem 0x1010 0))) tt (empty _)),
          (∈-elim (Separate (symbol_row (symbol_of_lem 0x1014 0))) tt (empty _), (empty _, tt)),
        ),
      ),
    ),
  ),
)

-- the worked file's call alone meets them too
pub worked-well : (g : Given) → g ∈ worked → WellNested g
worked-well = ∈-elim WellNested root-tree (empty _)

pub worked-separate : AllSeparate worked
worked-separate = (empty _, tt)

-- what the theorem gives of the list, and what the tables give by computation
list_1003 : frames_at (converted plain-setup list) 0x1003 ≡ frame pos MAX 50 prs ∷ frame trk 0x1000 10 ars ∷ []
unfolding nested_at line_at_lem utf8 chars char_len Utf8Char fits within
list_1003 = (demand plain-setup list list-well list-separate root-row (inlinee-row ∷ []) (there here) 0x1003 (λ e. let bad : ◌≡◌ {A = ℕ} 0 1 = cc in omega arith)).0

list-computed : frames_at (converted plain-setup list) 0x1003 ≡ frame pos MAX 50 prs ∷ frame trk 0x1000 10 ars ∷ []
unfolding before place sort intern advance_m set_at_m kid_spans_m unless_held put_end walk_m loop_m entry_m closing_m row_m convert_m start_m named_symbol_m convert_symbol_m convert_op_m run_m intern_text intern_six range_at range_put begin_row locate_line begin_symbol locate_symbol enter_call callers frames_of better best frames_at utf8 chars char_len Utf8Char fits within
list-computed = refl

abbrev no_directory : ℕ → ℕ → Frame
no_directory e n = record { name = some pos; entry = e; language = 3; number = n; file = some (record { name = some prs; directory = some src; comp_dir = none; srcsrv_name = none; srcsrv_dir = none; revision = none }) }

list_1013 : frames_at (converted plain-setup list) 0x1013 ≡ no_directory 0x1010 8 ∷ []
unfolding nested_at line_at_lem utf8 chars char_len Utf8Char fits within
list_1013 = (demand plain-setup list list-well list-separate second_row [] (there (there (there here))) 0x1013 (λ e. let bad : ◌≡◌ {A = ℕ} 0 1 = cc in omega arith)).0
