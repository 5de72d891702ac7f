-- What the input of the converter means to the ideal one: a row's lines as frames, its inlinees as a forest; and the input on which no corner of document 01 matters.
use mathlib.Core.Path.{◌≡◌}
use mathlib.Core.Bool.{Bool, true, false, cond}
use mathlib.Core.List.{List, map}
use Prim.Native.Nat.{ℕ, zero, suc, ◌≤◌}
use Rattle.model.specs.Basics.{◌∈◌, Deep}
use Rattle.model.specs.Machine.{Input, OpM, tree_m, symbol_m}
use Rattle.model.proofs.Ideal.{Line, Row, Forest, Op, tree, symbol, idle}
use Rattle.model.proofs.Depths.{under, Steps}

pub record Means (Q N Y F : Type 0) : Type 0 where
  pub frame : Q → N → F  -- of a row's line
  pub bare-frame : Q → F  -- of a row alone
  pub sym-frame : Y → F

module _ {Q N Y F : Type 0} (I : Input Q N Y) (T : Means Q N Y F) where
  abbrev pub line_of_lem : Q → N → Line F
  line_of_lem q n = record { span = I.span n; frame = T.frame q n }

  abbrev pub row_of_lem : Q → Row F
  row_of_lem q = record { entry = I.entry q; stop = I.stop q; bare = T.bare-frame q; lines = map (line_of_lem q) (I.lines q) }

  abbrev pub deep_of : Deep Q → Deep (Row F)
  deep_of r = record { depth = r.depth; item = row_of_lem r.item }

  abbrev pub kids_of : List (Deep Q) → Forest F
  kids_of rs = under 1 (map deep_of rs)

  abbrev pub op_of_lem : OpM Q Y → Op F
  op_of_lem (tree_m q rs) = tree (row_of_lem q) (kids_of rs)
  op_of_lem (symbol_m y) = cond (I.sym_skipped y) idle (symbol (I.sym_addr y) (I.sym_end y) (T.sym-frame y))

-- at depth 0 a row isn't inline, and below it is
abbrev pub inner : ℕ → Bool
inner zero = false
inner (suc d) = true

module _ {Q N Y : Type 0} (I : Input Q N Y) where
  -- a row at depth d that isn't skipped, with no line whose address is cut or clamped
  pub record Sound (d : ℕ) (q : Q) : Type 0 where
    pub flag : I.inline q ≡ inner d
    pub kept : I.skipped q ≡ false
    pub uncut : (n : N) → n ∈ I.lines q → I.cut n ≡ (I.span n).from

  -- the depths are a tree's, and its rows are sound
  pub record SoundTree (q : Q) (rs : List (Deep Q)) : Type 0 where
    pub root : Sound 0 q
    pub rows : (r : Deep Q) → r ∈ rs → Sound r.depth r.item
    pub steps : Steps 1 rs
    pub deeper : (r : Deep Q) → r ∈ rs → 1 ≤ r.depth

  abbrev pub SoundOp : OpM Q Y → Type 0
  SoundOp (tree_m q rs) = SoundTree q rs
  SoundOp (symbol_m y) = Unit {0}
