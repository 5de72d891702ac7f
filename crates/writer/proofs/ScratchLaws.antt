-- What the code of scratch.rt stores, step by step, as the definitions have it.
use mathlib.Core.Path.{◌≡◌, refl, sym, ap, ◌∙◌}
use mathlib.Core.Logic.{⊎_elim}
use mathlib.Core.List.{List}
use Prim.Native.Nat.{ℕ, suc, ◌+◌, ◌*◌, ◌/◌, ◌%◌, ◌≤◌, ◌<◌}
use native.Mathlib.Omega.{arith}
use native.Mathlib.Nat.{eq-or-lt_of_le}
use native.Mathlib.Numerals.{add-one}
use lib.ListN.{length, set}
use lib.Seq.{sets, length-sets}
use Rattle.model.specs.Basics.{Span}
use Rattle.sorting.specs.Pairs.{pair_words}
use Rattle.rows.specs.declared.FunctionRow.{FunctionRow as FunctionStruct}
use Rattle.rows.specs.declared.LineRow.{LineRow as LineStruct}
use Rattle.rows.specs.declared.Boundaries.{Boundaries}
use Rattle.rows.specs.Columns.{Columns, function_rows, function_struct, line_struct, boundaries_of}
use Rattle.refusals.specs.Refusals.{first_line_lem}
use Rattle.scratch.specs.Scratch.{two32, set_calls, line_spans, kid_spans}
use Rattle.scratch.proofs.Rows.{first-line}
use Rattle.scratch.proofs.Gathered.{Pushed, pushed_more, Gathering, gathered, gather_deeper, gather_here, spans-end, spans-none}

-- the four words of a depth's call locations
pub calls-stored : (s s₁ s₂ s₃ s₄ : List ℕ) (d start len : ℕ)
    → s₁ ≡ set s (d * 4) (start % two32) → s₂ ≡ set s₁ (d * 4 + 1) (start / two32) → s₃ ≡ set s₂ (d * 4 + 2) (len % two32) → s₄ ≡ set s₃ (d * 4 + 3) (len / two32)
    → s₄ ≡ set_calls s d start len
unfolding set_calls
calls-stored s s₁ s₂ s₃ s₄ d start len e₁ e₂ e₃ e₄ =
    let a : d * 4 + 1 ≡ suc (d * 4) = omega arith in
    let b : d * 4 + 2 ≡ suc (suc (d * 4)) = omega arith in
    let c : d * 4 + 3 ≡ suc (suc (suc (d * 4))) = omega arith in
    rw (e₄, e₃, e₂, e₁, a, b, c)

-- the two words of a line
pub line_pushed : (k : Columns) (first count at : ℕ) (s₀ s s₁ s₂ : List ℕ) (i : ℕ) (line : LineStruct) (b : Boundaries)
    → line ≡ line_struct k (first + i) → b ≡ boundaries_of line.address line.has_size line.size
    → s₁ ≡ set s (at + i * 2) b.start → s₂ ≡ set s₁ (at + i * 2 + 1) b.end
    → i < count → Pushed k first count at s₀ s i → Pushed k first count at s₀ s₂ (i + 1)
line_pushed k first count at s₀ s s₁ s₂ i line b e₁ e₂ e₃ e₄ h p = rw (e₄, e₃, e₂, e₁) (pushed_more k first count at s₀ s i h p)

-- ── The inlinee ranges of a row ──

-- `gather` goes over the rows from i on, for a function at `depth`: it stands at row r, whose line rows begin at `line`, and n pairs are stored from word b on
module _ (k : Columns) (depth b i first : ℕ) (s₀ : List ℕ) where
  abbrev all : List Span
  all = kid_spans k depth i first

  pub record Gathers (s : List ℕ) (r line n : ℕ) : Type 0 where
    pub rows : r ≤ function_rows k
    pub line-is : line ≡ first_line_lem k r
    pub len : length s ≡ length s₀
    pub going : Gathering k depth b s₀ all s r line n

  pub gathers_begin : i ≤ function_rows k → first ≡ first_line_lem k i → Gathers s₀ i first 0
  gathers_begin h e =
      let z : b + 0 * 2 ≡ b = omega arith in
      record { rows = h; line-is = e; len = refl; going = record { count = omega arith; stored = rw z refl } }

  module _ (s : List ℕ) (r line n : ℕ) (g : Gathers s r line n) where
    pub gathers_end : function_rows k ≤ r → (n ≡ length all) × (s ≡ sets s₀ b (pair_words all))
    gathers_end h = gathered k depth b s₀ all s r line n g.going (spans-none k depth r line h)

    module _ (q : FunctionStruct) (e : q ≡ function_struct k r) (h : r < function_rows k) where
      pub gathers_stop : q.depth ≤ depth → (n ≡ length all) × (s ≡ sets s₀ b (pair_words all))
      gathers_stop l = gathered k depth b s₀ all s r line n g.going (spans-end k depth r line h (rw e at l))

      line-next : line + (function_struct k r).lines ≡ first_line_lem k (r + 1)
      line-next = ap (λ (x : ℕ). x + (function_struct k r).lines) g.line-is ∙ sym (first-line k r)

      pub gathers_pass : depth < q.depth → (q.depth ≡ depth + 1 → ⊥) → Gathers s (r + 1) (line + q.lines) n
      gathers_pass l m = rw e (record {
        rows = omega arith;
        line-is = line-next;
        len = g.len;
        going = gather_deeper k depth b s₀ all s r line n g.going h (deep (function_struct k r).depth (rw e at l) (rw e at m));
      })
        where
          deep : (d : ℕ) → depth < d → (d ≡ depth + 1 → ⊥) → suc depth < d
          deep d l m = ⊎_elim (λ z. absurd (m (omega arith))) (λ z. z) (eq-or-lt_of_le {n = suc depth} {m = d} (omega arith))

      module _ (l : q.depth ≡ depth + 1) where
        pub gathers_push : (s' : List ℕ) → s' ≡ sets s (b + n * 2) (pair_words (line_spans k line q.lines)) → length s' ≡ length s → Gathers s' (r + 1) (line + q.lines) (n + q.lines)
        gathers_push s' f o = rw e (record {
          rows = omega arith;
          line-is = line-next;
          len = o ∙ g.len;
          going = gather_here k depth b s₀ all s r line n g.going h (rw e at l ∙ add-one depth) s' (rw e at f);
        })

        -- there is room for one more row
        pub gathers_room : n + q.lines ≤ length all
        gathers_room =
            let z : Gathers _ (r + 1) (line + q.lines) (n + q.lines) = gathers_push (sets s (b + n * 2) (pair_words (line_spans k line q.lines))) refl (length-sets s (b + n * 2) (pair_words (line_spans k line q.lines))) in
            omega (arith, z.going.count)

-- the line rows of row r lie within the line rows
pub lines_fit : (k : Columns) (r line : ℕ) (q : FunctionStruct) → q ≡ function_struct k r → line ≡ first_line_lem k r → first_line_lem k r + (function_struct k r).lines ≤ length k.lines64 / 3
    → line + q.lines ≤ length k.lines64 / 3
lines_fit k r line q e f h = rw (e, f) h
