-- What the code of lines.rt does, step by step, as the definitions have it.
use mathlib.Core.Path.{◌≡◌, refl, sym, ap, ◌∙◌}
use mathlib.Core.Bool.{cond}
use mathlib.Core.List.{List}
use Prim.Native.Nat.{ℕ, ◌+◌, ◌*◌, ◌%◌, ◌≤◌, ◌<◌}
use lib.Dec.{ltb}
use borrow.Author.Tests.{lt-ltb, le-ltb}
use Rattle.text.specs.Utf8.{utf8}
use Rattle.model.specs.Basics.{Span}
use Rattle.model.specs.Rows.{cut32, boundaries}
use Rattle.model.specs.Machine.{advance_m, loop_m}
use Rattle.model.specs.Converter.{Setup, input}
use Rattle.raw.specs.declared.SourceLocation.{SourceLocation}
use Rattle.rows.specs.declared.TextPart.{TextPart}
use Rattle.rows.specs.declared.FunctionRow.{FunctionRow as FunctionStruct}
use Rattle.rows.specs.declared.LineRow.{LineRow as LineStruct}
use Rattle.rows.specs.declared.Boundaries.{Boundaries}
use Rattle.rows.specs.Columns.{Columns, function_struct, line_struct, text_of, boundaries_of, tree_row, line_at, lines_from}
use Rattle.rows.proofs.RowLaws.{line_at_address, line_at_boundaries}
use Rattle.memory.specs.Memory.{Words}
use Rattle.steps.specs.Steps.{no_part, six_of, locate_six, over_words}
use Rattle.steps.proofs.RowTexts.{dir_part, locate-is}
use Rattle.scratch.specs.Scratch.{pairs_at, refs_at, Lined}
use Rattle.scratch.proofs.Walks.{Stopped}
use Rattle.scratch.proofs.Lines.{Outer, Keeps, starts, line-skipped, line-done, ended}
use Rattle.writer.specs.Walk.{refs_from, cursor_at, LinesLeft}
use Rattle.writer.specs.declared.stack.Pairs.{Pairs}
use Rattle.writer.specs.declared.lines.CallLocations.{CallLocations}
use Rattle.writer.specs.declared.lines.CallLocationIter.{CallLocationIter}

-- a line's own range: there is one, or none
module _ {S : Type 0} (a next : ℕ) (t w : S) where
  pub self_range : (w₁ : S) → a < next → w₁ ≡ t → w₁ ≡ cond (ltb a next) t w
  self_range w₁ h e = rw (lt-ltb a next h) e

  pub no_self_range : next ≤ a → w ≡ cond (ltb a next) t w
  no_self_range h = rw (le-ltb a next h)

-- ── The loop over a function's lines ──

-- what stays the same while it runs: function row i of the columns, its lines, its call locations after the first, and its inlinee ranges (n pairs from word at on)
pub record Fixed : Type 0 where
  pub k : Columns
  pub i : ℕ
  pub first : ℕ
  pub fi : ℕ
  pub lines : ℕ
  pub others : Pairs
  pub cur : ℕ
  pub at : ℕ
  pub n : ℕ
  pub s : List ℕ
  pub X : Setup
  pub w : Words

abbrev pub fixed : Columns → ℕ → ℕ → ℕ → ℕ → Pairs → ℕ → ℕ → ℕ → List ℕ → Setup → Words → Fixed
fixed k i first fi lines others cur at n s X w =
    record { k = k; i = i; first = first; fi = fi; lines = lines; others = others; cur = cur; at = at; n = n; s = s; X = X; w = w }

-- the numbers of where it stands
abbrev pub Kept : ℕ → Pairs → ℕ → ℕ → List ℕ → List ℕ → ℕ → CallLocationIter → ℕ → Type 0
Kept lines others at n s₀ s j c t = Keeps lines others.at others.len at n s₀ s j c.next_call_location t

module _ (f : Fixed) where
  -- what is still to come from there is what was to come
  abbrev pub Goes : List ℕ → ℕ → CallLocationIter → ℕ → ℕ → Words → Type 0
  Goes s j c t below w =
      Outer (over_words f.X) (tree_row f.k f.i f.first) f.fi f.k f.first f.lines f.others.at f.others.len f.at f.n f.s f.cur f.w
      s j c.current_call_location c.next_call_location t below w

  pub goes-start : Goes f.s 0 (record { current_call_location = f.cur; next_call_location = 0 }) 0 0 f.w
  goes-start = starts (over_words f.X) (tree_row f.k f.i f.first) f.fi f.k f.first f.lines f.others.at f.others.len f.at f.n f.s f.cur f.w

  module _ (s : List ℕ) (j : ℕ) (c : CallLocationIter) (t below : ℕ) (w : Words) (o : Goes s j c t below w) where
    pub lines-ended : Kept f.lines f.others f.at f.n f.s s j c t → f.lines ≤ j
        → Lined f.at f.n (loop_m input (over_words f.X) (tree_row f.k f.i f.first) f.fi (lines_from f.k f.first f.lines) f.cur (refs_at f.s f.others.at f.others.len) (pairs_at f.s f.at f.n) 0 f.w) f.s s w t
    lines-ended z h =
        ended (over_words f.X) (tree_row f.k f.i f.first) f.fi f.k f.first f.lines f.others.at f.others.len f.at f.n f.s f.cur f.w
        s j c.current_call_location c.next_call_location t below w o h z.kept z.few

    module _ (h : j < f.lines) (line : LineStruct) (is : line ≡ line_struct f.k (f.first + j)) where
      cut-is : cut32 (line_at f.k (f.first + j)).address ≡ line.address % 4294967296
      cut-is = ap cut32 (line_at_address f.k (f.first + j)) ∙ sym (ap (λ (x : LineStruct). x.address % 4294967296) is)

      pub line-passed : line.address % 4294967296 < below → Goes s (j + 1) c t below w
      line-passed g =
          line-skipped (over_words f.X) (tree_row f.k f.i f.first) f.fi f.k f.first f.lines f.others.at f.others.len f.at f.n f.s f.cur f.w
          s j c.current_call_location c.next_call_location t below w o h (rw cut-is g)

      pub line-walked : f.others.at + f.others.len * 2 ≤ f.at
          → (bd : Boundaries) → bd ≡ boundaries_of line.address line.has_size line.size → below ≤ line.address % 4294967296
          → (dir : TextPart) → dir ≡ dir_part f.k f.i
          → (c' : CallLocationIter) → c'.next_call_location ≤ f.others.len
          → advance_m bd.start c.current_call_location (refs_from s f.others c.next_call_location) ≡ cursor_at s f.others c'
          → (l : SourceLocation) (w₁ : Words) → (l, w₁) ≡ locate_six (six_of f.k.text dir line) line.number f.fi c'.current_call_location w
          → (s' : List ℕ) (t' stop : ℕ) (w' : Words) → Stopped input (over_words f.X) f.at f.n l bd.end s t bd.start w₁ s' t' stop w'
          → Goes s' (j + 1) c' t' stop w'
      line-walked apart bd eb g dir ed c' p a l w₁ el s' t' stop w' d =
          let row = line_at f.k (f.first + j) in
          let span : boundaries row ≡ record { from = bd.start; to = bd.end } = line_at_boundaries f.k (f.first + j) ∙ (rw (eb, is) refl) in
          let from : (boundaries row).from ≡ bd.start = ap (λ (x : Span). x.from) span in
          let to : (boundaries row).to ≡ bd.end = ap (λ (x : Span). x.to) span in
          line-done (over_words f.X) (tree_row f.k f.i f.first) f.fi f.k f.first f.lines f.others.at f.others.len f.at f.n f.s f.cur f.w
          s j c.current_call_location c.next_call_location t below w o h
          apart (rw cut-is g) c'.current_call_location c'.next_call_location p (rw from a) l w₁
          (locate-is f.k f.i f.first f.X f.fi (f.first + j) c'.current_call_location w ∙ sym (el ∙ rw (ed, is) refl)) s' t' stop w' (rw (to, from) d)

-- what is known of the row's struct
pub dir_of : (k : Columns) (i : ℕ) (q : FunctionStruct) (dir : TextPart) → q ≡ function_struct k i → dir ≡ cond (utf8 (text_of k.text q.comp_dir)) q.comp_dir no_part → dir ≡ dir_part k i
dir_of k i q dir e f = rw e at f

pub left_of : (X : Setup) (k : Columns) (i first fi : ℕ) (own : CallLocations) (rs : Pairs) (s s' : List ℕ) (w w' : Words) (n : ℕ) (q : FunctionStruct) → q ≡ function_struct k i
    → Lined rs.at rs.len (loop_m input (over_words X) (tree_row k i first) fi (lines_from k first q.lines) own.first (refs_at s own.others.at own.others.len) (pairs_at s rs.at rs.len) 0 w) s s' w' n
    → LinesLeft X k i first fi own rs s s' w w' n
left_of X k i first fi own rs s s' w w' n q e l = rw (ap (λ (x : FunctionStruct). x.lines) e) at l
