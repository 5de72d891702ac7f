-- THE CONVERTER'S LOOPS, over any state S: `process_symbolic_functions` and `process_symbolic_symbol` of writer.rs, on flat rows in preorder.
-- S stands for all the tables, and `Machine` is what the loops ask of them: the plain tables are one machine, lent words are another.
use Rattle.std.specs.Prelude.{Bool, true, false, cond, List, [], ◌∷◌, ◌++◌, map, ℕ, zero, suc, ltb, leb, eqb}
use Rattle.std.proofs.Math.Option.{Option, none, some}
use Rattle.model.specs.Basics.{Span, Deep, sort}

-- what is read of a function row (Q), a line row (N) and a symbol (Y)
pub record Input (Q N Y : Type 0) : Type 0 where
  pub entry : Q → ℕ
  pub stop : Q → ℕ
  pub skipped : Q → Bool  -- size 0, or address above MAX
  pub inline : Q → Bool
  pub lines : Q → List N
  pub span : N → Span  -- line_boundaries
  pub cut : N → ℕ  -- the address, cut to 32 bits
  pub sym_skipped : Y → Bool  -- unnamed, or address above MAX
  pub sym_addr : Y → ℕ
  pub sym_end : Y → Option ℕ

-- what the loops ask of the tables. Locations are L, references to call locations C, what a row keeps while its lines are walked R,
-- and what a symbol's text became P
pub record Machine (Q N Y R P L C S : Type 0) : Type 0 where
  pub get : S → ℕ → Option L  -- what the ranges hold at a start
  pub put : ℕ → L → S → S
  pub begin : Q → S → R × S  -- a row's texts and its function
  pub locate : Q → R → N → C → S → L × S  -- a line's texts and its file
  pub enter : L → S → C × S  -- a call location
  pub bare : Q → R → L  -- the location of a function with no line
  pub none_loc : L  -- the empty mapping
  pub is_none : L → Bool
  pub base : C  -- no caller
  pub sym_begin : Y → S → P × S  -- a symbol's text
  pub sym_locate : Y → P → S → L × S  -- its function

-- a call location that was made for the inlinees, and the address from which it counts
pub record Ref (C : Type 0) : Type 0 where
  pub addr : ℕ
  pub ref : C

-- what the inner walk over one line leaves: the call locations that it made, the inlinee ranges that are left, and the address at which it stopped
pub record WalkedM (C S : Type 0) : Type 0 where
  pub state : S
  pub calls : List (Ref C)
  pub left : List Span
  pub at : ℕ

-- what the loop over a row's lines leaves
pub record LoopedM (C S : Type 0) : Type 0 where
  pub state : S
  pub calls : List (Ref C)

-- the current call location, and those after it
pub record CursorM (C : Type 0) : Type 0 where
  pub now : C
  pub next : List (Ref C)

-- an accepted call
pub data OpM (Q Y : Type 0) : Type 0 where
  tree_m : Q → List (Deep Q) → OpM Q Y  -- the root, and the rows after it
  symbol_m : Y → OpM Q Y

module _ {C : Type 0} where
  -- "Find the call location for this line": the last one that starts at most at a
  unfoldable pub advance_m : ℕ → C → List (Ref C) → CursorM C
  advance_m a w [] = record { now = w; next = [] }
  advance_m a w (c ∷ cs) = elim (leb c.addr a) [ true ↦ advance_m a c.ref cs | false ↦ record { now = w; next = c ∷ cs } ]

  -- the call locations for each depth, with those for depth d replaced
  unfoldable pub set_at_m : ℕ → List (Ref C) → (ℕ → List (Ref C)) → ℕ → List (Ref C)
  set_at_m d cs ctx = λ j. cond (eqb j d) cs (ctx j)

module _ {Q N Y : Type 0} (I : Input Q N Y) where
  -- the inlinee ranges of a row at depth d, from the rows after it: the lines of its inlinees, of skipped ones too
  -- ("yet its lines still mark its caller's inlinee ranges")
  unfoldable pub kid_spans_m : ℕ → List (Deep Q) → List Span
  kid_spans_m d [] = []
  kid_spans_m d (r ∷ rs) =
      cond (leb r.depth d) [] (cond (eqb r.depth (suc d)) (map I.span (I.lines r.item) ++ kid_spans_m d rs) (kid_spans_m d rs))

module _ {Q N Y R P L C S : Type 0} (I : Input Q N Y) (M : Machine Q N Y R P L C S) where
  -- `insert_source_location`: t, if a is vacant or holds the empty mapping in s, and else s
  unfoldable pub unless_held : ℕ → S → S → S
  unless_held a t s = elim (M.get s a) [ none ↦ t | some w ↦ cond (M.is_none w) t s ]

  -- the empty mapping at a, if a is vacant
  unfoldable pub put_end : ℕ → S → S
  put_end a s = elim (M.get s a) [ none ↦ M.put a M.none_loc s | some w ↦ s ]

  -- the inner walk over one line, whose location is l and whose end is e; it stands at a. "Per line, the inner walk hands out the address at which
  -- it stopped, never below the line's end; on the way it may fall below the line's start and insert a range there"
  unfoldable pub walk_m : L → ℕ → ℕ → List Span → S → WalkedM C S
  walk_m l e a [] s =
      elim (ltb a e) [
        | true ↦ record { state = M.put a l s; calls = []; left = []; at = e }
        | false ↦ record { state = s; calls = []; left = []; at = a }
      ]
  walk_m l e a (r ∷ rs) s =
      let s₁ : S = cond (ltb a r.from) (M.put a l s) s in
      elim (ltb a e) [
        | true ↦ elim (ltb r.from e) [
          | true ↦
              let c = M.enter l s₁ in
              let w = walk_m l e r.to rs c.1 in
              record { state = w.state; calls = record { addr = r.from; ref = c.0 } ∷ w.calls; left = w.left; at = w.at }
          | false ↦ record { state = s₁; calls = []; left = r ∷ rs; at = e }
        ]
        | false ↦ record { state = s; calls = []; left = r ∷ rs; at = a }
      ]

  -- the loop over the lines of the row q. "Following lines whose address, cut to 32 bits (not clamped), is below it are skipped": `at` is where the
  -- walk before stopped
  unfoldable pub loop_m : Q → R → List N → C → List (Ref C) → List Span → ℕ → S → LoopedM C S
  loop_m q r [] w cs rs at s = record { state = s; calls = [] }
  loop_m q r (n ∷ ns) w cs rs at s =
      elim (ltb (I.cut n) at) [
        | true ↦ loop_m q r ns w cs rs at s
        | false ↦
            let c = advance_m (I.span n).from w cs in
            let l = M.locate q r n c.now s in
            let o = walk_m l.0 (I.span n).to (I.span n).from rs l.1 in
            let p = loop_m q r ns c.now c.next o.left o.at o.state in
            record { state = p.state; calls = o.calls ++ p.calls }
      ]

  -- after a row's own lines: the entry, unless it is inline
  unfoldable pub entry_m : Q → R → S → S
  entry_m q r s = elim (I.inline q) [ true ↦ s | false ↦ unless_held (I.entry q) (M.put (I.entry q) (M.bare q r) s) s ]

  -- then the empty mapping at the function's end
  unfoldable pub closing_m : Q → R → S → S
  closing_m q r s = put_end (I.stop q) (entry_m q r s)

  -- a row, given its inlinee ranges and its call locations. "No call location made: inlinees aren't visited"
  unfoldable pub row_m : Q → List Span → List (Ref C) → S → LoopedM C S
  row_m q ss [] s = record { state = s; calls = [] }
  row_m q ss (c ∷ cs) s =
      elim (I.skipped q) [
        | true ↦ record { state = s; calls = [] }
        | false ↦
            let b = M.begin q s in
            let o = loop_m q b.0 (I.lines q) c.ref cs (sort ss) 0 b.1 in
            record { state = closing_m q b.0 o.state; calls = o.calls }
      ]

  -- rows in preorder; each hands its call locations to the rows one deeper
  unfoldable pub convert_m : List (Deep Q) → (ℕ → List (Ref C)) → S → S
  convert_m [] ctx s = s
  convert_m (r ∷ rs) ctx s =
      let o = row_m r.item (kid_spans_m I r.depth rs) (ctx r.depth) s in
      convert_m rs (set_at_m (suc r.depth) o.calls ctx) o.state

  -- the root's one call location: from 0 on, no caller
  unfoldable pub start_m : ℕ → List (Ref C)
  start_m zero = record { addr = 0; ref = M.base } ∷ []
  start_m (suc d) = []

  -- `process_symbolic_symbol`: the text, then the function and the location where there is none, and the empty mapping at its end
  unfoldable pub named_symbol_m : Y → S → S
  named_symbol_m y s =
      let b = M.sym_begin y s in
      let l = M.sym_locate y b.0 b.1 in
      let t = unless_held (I.sym_addr y) (M.put (I.sym_addr y) l.0 l.1) b.1 in
      elim (I.sym_end y) [ none ↦ t | some e ↦ put_end e t ]

  -- one that is unnamed or above MAX is accepted and changes nothing
  unfoldable pub convert_symbol_m : Y → S → S
  convert_symbol_m y s = elim (I.sym_skipped y) [ true ↦ s | false ↦ named_symbol_m y s ]

  unfoldable pub convert_op_m : OpM Q Y → S → S
  convert_op_m (tree_m q rs) s = convert_m (record { depth = 0; item = q } ∷ rs) start_m s
  convert_op_m (symbol_m y) s = convert_symbol_m y s

  -- a list of accepted calls
  unfoldable pub run_m : List (OpM Q Y) → S → S
  run_m [] s = s
  run_m (o ∷ os) s = run_m os (convert_op_m o s)
