-- WHAT 13 TO 16 LEAVE: rows that are refused with no number are a tree's rows, as the model's theorems want them.
use mathlib.Core.Path.{◌≡◌, refl, sym, ap, ◌∙◌, subst}
use mathlib.Core.Bool.{Bool, true, false, cond, ◌&&◌}
use mathlib.Core.Option.{none, some}
use mathlib.Core.List.{List, [], ◌∷◌, ◌++◌}
use Prim.Native.Nat.{ℕ, zero, suc, ◌+◌, ◌-◌, ◌*◌, ◌/◌, ◌%◌, ◌≤◌, ◌<◌, ◌^◌}
use native.Mathlib.Omega.{arith}
use native.Mathlib.Nat.{add-suc, suc-add, add-zero, zero-add}
use lib.ListN.{length, get_or}
use lib.Dec.{ltb, leb, eqb}
use borrow.Author.Tests.{ltb-true, leb-true, eqb-true}
use Rattle.slices.proofs.Cases.{both_true}
use Rattle.text.specs.Utf8.{utf8}
use Rattle.model.specs.Basics.{◌∈◌, here, there}
use Rattle.model.specs.Rows.{MAX, Text, LineRow, FunctionRow, tree_rows}
use Rattle.model.specs.Premises.{Legal}
use Rattle.model.proofs.Spans.{∈-elim}
use Rattle.model.proofs.Compact.{LineFits, RowFits, GivenFits}
use Rattle.rows.specs.declared.TextPart.{TextPart}
use Rattle.rows.specs.declared.OptionalPart.{OptionalPart}
use Rattle.rows.specs.declared.FunctionRow.{FunctionRow as FunctionStruct}
use Rattle.rows.specs.declared.LineRow.{LineRow as LineStruct}
use Rattle.rows.specs.Columns.{Columns, function_rows, line_rows, function_struct, line_struct, text_of, optional_of, line_at, lines_from, tree_row, tree_rows_from, tree_rows_lem, root_row, later_rows}
use Rattle.refusals.specs.Refusals.{each, total, lengths?, count?, depth?, first_line_lem, shaped?, shallow_row?, shallow?, inside?, readable?, optional?, function_texts?, line_texts?, texts?, end?, ends?, room?, tree_refusal}
use Rattle.rows.proofs.Laws.{function_in}
use Rattle.refusals.proofs.Laws.{each_at, optional-present}
use Rattle.rows.proofs.RowLaws.{lines_from_append}

-- ── The tests, taken apart ──

zero-only : (a x b c d : Bool) → ◌≡◌ {A = ℕ} (cond a (cond x (cond b (cond c (cond d 0 16) 15) 14) 25) 13) 0
    → (a ≡ true) × (x ≡ true) × (b ≡ true) × (c ≡ true) × (d ≡ true)
zero-only true true true true true e = (refl, refl, refl, refl, refl)
zero-only true true true true false e = absurd (omega arith)
zero-only true true true false d e = absurd (omega arith)
zero-only true true false c d e = absurd (omega arith)
zero-only true false b c d e = absurd (omega arith)
zero-only false x b c d e = absurd (omega arith)

four : (a b c d : Bool) → a && (b && (c && d)) ≡ true → (a ≡ true) × (b ≡ true) × (c ≡ true) × (d ≡ true)
four a b c d e =
    let (p, r) = both_true a (b && (c && d)) e in
    let (q, o) = both_true b (c && d) r in
    let (m, n) = both_true c d o in
    (p, q, m, n)

five : (a b c d x : Bool) → a && (b && (c && (d && x))) ≡ true → (a ≡ true) × (b ≡ true) × (c ≡ true) × (d ≡ true) × (x ≡ true)
five a b c d x e = let (p, r) = both_true a (b && (c && (d && x))) e in let (q, m, n, o) = four b c d x r in (p, q, m, n, o)

six : (a b c d x y : Bool) → a && (b && (c && (d && (x && y)))) ≡ true → (a ≡ true) × (b ≡ true) × (c ≡ true) × (d ≡ true) × (x ≡ true) × (y ≡ true)
six a b c d x y e = let (p, r) = both_true a (b && (c && (d && (x && y)))) e in let (q, m, n, o, l) = five b c d x y r in (p, q, m, n, o, l)

-- no number: each of the five tests passes
pub tests : (k : Columns) (s : ℕ) → tree_refusal k s ≡ 0 → (shaped? k ≡ true) × (shallow? k ≡ true) × (texts? k ≡ true) × (ends? k ≡ true) × (room? k s ≡ true)
unfolding tree_refusal
tests k s e = zero-only (shaped? k) (shallow? k) (texts? k) (ends? k) (room? k s) e

-- ── 13 ──

pub record Lengths (k : Columns) : Type 0 where
  pub functions64 : length k.functions64 ≡ function_rows k * 2
  pub functions32 : length k.functions32 ≡ function_rows k * 8
  pub lines64 : length k.lines64 ≡ line_rows k * 3
  pub lines32 : length k.lines32 ≡ line_rows k * 14

-- of the later depths, that at p + 1
stepped : (d : ℕ → ℕ) (p : ℕ) → depth? d (suc p) ≡ true → (1 ≤ d (suc p)) × (d (suc p) ≤ suc (d p))
unfolding depth?
stepped d p e =
    let (a, b) = both_true (ltb 0 (d (suc p))) (leb (d (suc p)) (d p + 1)) e in
    let g : 0 < d (suc p) = ltb-true _ _ a in
    let h : d (suc p) ≤ d p + 1 = leb-true _ _ b in
    (omega arith, omega arith)

total_grows : (f : ℕ → ℕ) (i n : ℕ) → total f i ≤ total f (i + n)
unfolding total
total_grows f i zero = rw (add-zero i) (omega arith)
total_grows f i (suc n) = let h : total f i ≤ total f (i + n) = total_grows f i n in rw (add-suc i n) (omega arith)

-- the line rows of function rows, one after the other
abbrev pub lines_of : List FunctionRow → List LineRow
lines_of [] = []
lines_of (q ∷ qs) = q.lines ++ lines_of qs

module _ (k : Columns) where
  abbrev depth-at : ℕ → ℕ
  depth-at i = (function_struct k i).depth

  -- the rows after row p
  legal-from : (n p j : ℕ) → ((r : ℕ) → r < suc p + n → depth? depth-at r ≡ true) → Legal (depth-at p) (tree_rows_from k (suc p) n j)
  unfolding tree_rows_from tree_row
  legal-from zero p j h = tt
  legal-from (suc n) p j h =
      let e = stepped depth-at p (h (suc p) (omega arith)) in
      (e.0, e.1, legal-from n (suc p) (j + (function_struct k (suc p)).lines) (λ r l. h r (omega arith)))

  first_more : (i : ℕ) → first_line_lem k (suc i) ≡ first_line_lem k i + (function_struct k i).lines
  unfolding total
  first_more i = refl

  rows-lines : (n i : ℕ) → lines_of (tree_rows_from k i n (first_line_lem k i)) ≡ lines_from k (first_line_lem k i) (first_line_lem k (i + n) - first_line_lem k i)
  unfolding tree_rows_from tree_row lines_from
  rows-lines zero i = let z : first_line_lem k (i + 0) - first_line_lem k i ≡ 0 = rw (add-zero i) (omega arith) in rw z
  rows-lines (suc n) i =
      let c = (function_struct k i).lines in
      let g : first_line_lem k (suc i) ≤ first_line_lem k (suc i + n) = total_grows (λ (r : ℕ). (function_struct k r).lines) (suc i) n in
      let f : first_line_lem k (suc i) ≡ first_line_lem k i + c = first_more i in
      let z : first_line_lem k (suc i + n) - first_line_lem k i ≡ c + (first_line_lem k (suc i + n) - first_line_lem k (suc i)) = omega arith in
      rw (add-suc i n, ← suc-add i n, z, lines_from_append k, ← f)
      (ap (λ (l : List LineRow). lines_from k (first_line_lem k i) c ++ l) (rows-lines n (suc i)))

  module _ (shape : shaped? k ≡ true) where
    shape-parts : (lengths? k ≡ true) × (count? (function_rows k) ≡ true) × (each (depth? depth-at) (function_rows k) ≡ true) × (eqb (first_line_lem k (function_rows k)) (line_rows k) ≡ true)
    unfolding shaped?
    shape-parts = four (lengths? k) (count? (function_rows k)) (each (depth? depth-at) (function_rows k)) (eqb (first_line_lem k (function_rows k)) (line_rows k)) shape

    pub lengths : Lengths k
    unfolding lengths?
    lengths =
        let (a, b, c, d, e, f) =
        six (eqb (length k.functions64 % 2) 0) (eqb (length k.functions32 % 8) 0) (eqb (length k.lines64 % 3) 0) (eqb (length k.lines32 % 14) 0)
        (eqb (length k.functions32 / 8) (function_rows k)) (eqb (length k.lines32 / 14) (line_rows k)) shape-parts.0 in
        let a' : length k.functions64 % 2 ≡ 0 = eqb-true _ _ a in
        let b' : length k.functions32 % 8 ≡ 0 = eqb-true _ _ b in
        let c' : length k.lines64 % 3 ≡ 0 = eqb-true _ _ c in
        let d' : length k.lines32 % 14 ≡ 0 = eqb-true _ _ d in
        let e' : length k.functions32 / 8 ≡ function_rows k = eqb-true _ _ e in
        let f' : length k.lines32 / 14 ≡ line_rows k = eqb-true _ _ f in
        record { functions64 = omega arith; functions32 = omega arith; lines64 = omega arith; lines32 = omega arith }

    -- there is a row
    pub some-row : 0 < function_rows k
    unfolding count?
    some-row = ltb-true _ _ (both_true (ltb 0 (function_rows k)) (leb (function_rows k) 65536) shape-parts.1).0

    pub few-rows : function_rows k ≤ 65536
    unfolding count?
    few-rows = leb-true _ _ (both_true (ltb 0 (function_rows k)) (leb (function_rows k) 65536) shape-parts.1).1

    pub sum : first_line_lem k (function_rows k) ≡ line_rows k
    sum = eqb-true _ _ shape-parts.3

    pub rows_are : tree_rows_lem k ≡ root_row k ∷ later_rows k
    unfolding tree_rows_from
    rows_are = go (function_rows k) some-row
      where
        go : (n : ℕ) → 0 < n → tree_rows_from k 0 n 0 ≡ tree_row k 0 0 ∷ tree_rows_from k 1 (n - 1) (function_struct k 0).lines
        go zero h = absurd (omega arith)
        go (suc n) h = let z : suc n - 1 ≡ n = omega arith in rw (z, zero-add)

    pub first : (root_row k).depth ≡ 0
    unfolding tree_row depth?
    first = eqb-true _ _ (each_at (depth? depth-at) (function_rows k) 0 some-row shape-parts.2)

    -- "a later depth 0 or above its predecessor's plus 1": none
    pub legal : Legal 0 (later_rows k)
    unfolding tree_row
    legal =
        subst (λ (d : ℕ). Legal d (later_rows k)) first
        (legal-from (function_rows k - 1) 0 (function_struct k 0).lines (λ r l. each_at (depth? depth-at) (function_rows k) r (let h = some-row in omega arith) shape-parts.2))

    -- the lines of a row lie within the line rows
    pub lines-within : (i : ℕ) → i < function_rows k → first_line_lem k i + (function_struct k i).lines ≤ line_rows k
    lines-within i h =
        let f : first_line_lem k (suc i) ≡ first_line_lem k i + (function_struct k i).lines = first_more i in
        let z : suc i + (function_rows k - suc i) ≡ function_rows k = omega arith in
        let g : first_line_lem k (suc i) ≤ first_line_lem k (function_rows k) =
        subst (λ (n : ℕ). first_line_lem k (suc i) ≤ first_line_lem k n) z (total_grows (λ (r : ℕ). (function_struct k r).lines) (suc i) (function_rows k - suc i)) in
        omega (arith, sum)

    -- the lines of all function rows are all line rows
    pub all_lines : lines_of (tree_rows_lem k) ≡ lines_from k 0 (line_rows k)
    unfolding total
    all_lines = rows-lines (function_rows k) 0 ∙ (rw (zero-add) (ap (lines_from k 0) (let h = sum in omega arith)))

-- ── 14 ──

-- inside the lent text, and UTF-8
pub record Readable (t : List ℕ) (p : TextPart) : Type 0 where
  pub inside : p.start + p.len ≤ length t
  pub right : utf8 (text_of t p) ≡ true

pub record LineReadable (t : List ℕ) (l : LineStruct) : Type 0 where
  pub name : Readable t l.name
  pub directory : Readable t l.directory
  pub srcsrv_name : l.srcsrv_name.present ≡ true → Readable t l.srcsrv_name.part
  pub srcsrv_dir : l.srcsrv_dir.present ≡ true → Readable t l.srcsrv_dir.part
  pub revision : l.revision.present ≡ true → Readable t l.revision.part

pub readable : (t : List ℕ) (p : TextPart) → readable? t p ≡ true → Readable t p
unfolding readable? inside?
readable t p e = let (a, b) = both_true (inside? t p) (utf8 (text_of t p)) e in record { inside = leb-true _ _ a; right = b }

optional : (t : List ℕ) (o : OptionalPart) → optional? t o ≡ true → o.present ≡ true → Readable t o.part
optional t o e h = readable t o.part (sym (optional-present t o h) ∙ e)

-- a text of the model that is there is one that was looked at
optional-right : (t : List ℕ) (o : OptionalPart) → (o.present ≡ true → Readable t o.part) → (u : Text) → optional_of t o ≡ some u → utf8 u ≡ true
optional-right t o h u e = go o.present refl e
  where
    go : (b : Bool) → o.present ≡ b → cond b (some (text_of t o.part)) none ≡ some u → utf8 u ≡ true
    go true p f = let z : text_of t o.part ≡ u = cc in subst (λ (x : Text). utf8 x ≡ true) z (h p).right
    go false p f = let bad : ◌≡◌ {A = ℕ} 0 1 = cc in absurd (omega arith)

module _ (k : Columns) (right : texts? k ≡ true) where
  texts-parts : (each (λ (i : ℕ). function_texts? k.text (function_struct k i)) (function_rows k) ≡ true) × (each (λ (j : ℕ). line_texts? k.text (line_struct k j)) (line_rows k) ≡ true)
  unfolding texts?
  texts-parts =
      both_true (each (λ (i : ℕ). function_texts? k.text (function_struct k i)) (function_rows k)) (each (λ (j : ℕ). line_texts? k.text (line_struct k j)) (line_rows k)) right

  function-parts : (i : ℕ) → i < function_rows k → (readable? k.text (function_struct k i).name ≡ true) × (inside? k.text (function_struct k i).comp_dir ≡ true)
  unfolding function_texts?
  function-parts i h =
      both_true (readable? k.text (function_struct k i).name) (inside? k.text (function_struct k i).comp_dir)
      (each_at (λ (r : ℕ). function_texts? k.text (function_struct k r)) (function_rows k) i h texts-parts.0)

  pub name-readable : (i : ℕ) → i < function_rows k → Readable k.text (function_struct k i).name
  name-readable i h = readable k.text (function_struct k i).name (function-parts i h).0

  pub comp_dir-inside : (i : ℕ) → i < function_rows k → (function_struct k i).comp_dir.start + (function_struct k i).comp_dir.len ≤ length k.text
  unfolding inside?
  comp_dir-inside i h = leb-true _ _ (function-parts i h).1

  pub line-readable : (j : ℕ) → j < line_rows k → LineReadable k.text (line_struct k j)
  unfolding line_texts?
  line-readable j h =
      let t = k.text in
      let l = line_struct k j in
      let (a, b, c, d, e) =
      five (readable? t l.name) (readable? t l.directory) (optional? t l.srcsrv_name) (optional? t l.srcsrv_dir) (optional? t l.revision)
      (each_at (λ (r : ℕ). line_texts? t (line_struct k r)) (line_rows k) j h texts-parts.1) in
      record {
        name = readable t l.name a;
        directory = readable t l.directory b;
        srcsrv_name = optional t l.srcsrv_name c;
        srcsrv_dir = optional t l.srcsrv_dir d;
        revision = optional t l.revision e;
      }

  line-fits : (j : ℕ) → j < line_rows k → LineFits (line_at k j)
  unfolding line_at
  line-fits j h =
      let t = k.text in
      let l = line_struct k j in
      let r = line-readable j h in
      record {
        name = r.name.right;
        directory = r.directory.right;
        srcsrv_name = optional-right t l.srcsrv_name r.srcsrv_name;
        srcsrv_dir = optional-right t l.srcsrv_dir r.srcsrv_dir;
        revision = optional-right t l.revision r.revision;
      }

  lines_fit : (n j : ℕ) → j + n ≤ line_rows k → (l : LineRow) → l ∈ lines_from k j n → LineFits l
  unfolding lines_from
  lines_fit zero j h l i = elim i [ ]
  lines_fit (suc n) j h l i = ∈-elim LineFits (line-fits j (omega arith)) (lines_fit n (suc j) (omega arith)) l i

  -- the words of functions32 have 32 bits
  module _ (shape : shaped? k ≡ true) (words : (i : ℕ) → get_or k.functions32 i 0 ≤ MAX) where
    language-low : (i : ℕ) → i < function_rows k → (function_struct k i).language ≤ MAX
    language-low i h =
        let w = lengths k shape in
        let g : i < length k.functions32 / 8 = omega arith in
        subst (λ (q : FunctionStruct). q.language ≤ MAX) (function_in k.functions64 k.functions32 i h g) (words (i * 8 + 2))

    rows_fit : (n i : ℕ) → i + n ≤ function_rows k → (q : FunctionRow) → q ∈ tree_rows_from k i n (first_line_lem k i) → RowFits q
    unfolding tree_rows_from tree_row
    rows_fit zero i h q m = elim m [ ]
    rows_fit (suc n) i h q m =
        ∈-elim RowFits
        (record {
          name = (name-readable i (omega arith)).right;
          language = language-low i (omega arith);
          lines = lines_fit (function_struct k i).lines (first_line_lem k i) (lines-within k shape i (omega arith));
        })
        (λ p o. rows_fit n (suc i) (omega arith) p (subst (λ (j : ℕ). p ∈ tree_rows_from k (suc i) n j) (sym (first_more k i)) o))
        q m

    -- what the model asks of an accepted call's texts
    pub given-fits : GivenFits (tree_rows (root_row k) (later_rows k))
    unfolding total
    given-fits =
        let all : (q : FunctionRow) → q ∈ tree_rows_lem k → RowFits q = rows_all in (
          all (root_row k) (subst (λ (l : List FunctionRow). root_row k ∈ l) (sym (rows_are k shape)) here),
          λ r i. all r (subst (λ (l : List FunctionRow). r ∈ l) (sym (rows_are k shape)) (there i)),
        )
      where
        rows_all : (q : FunctionRow) → q ∈ tree_rows_lem k → RowFits q
        rows_all q i = rows_fit (function_rows k) 0 (omega arith) q i

-- ── 15 and 16, and all of it ──

pub record Accepted (k : Columns) (s : ℕ) : Type 0 where
  pub shape : shaped? k ≡ true
  pub texts : texts? k ≡ true
  pub lengths : Lengths k
  pub rows_are : tree_rows_lem k ≡ root_row k ∷ later_rows k
  pub first : (root_row k).depth ≡ 0
  pub legal : Legal 0 (later_rows k)
  pub few : function_rows k ≤ 65536
  pub shallow : (q : FunctionRow) → q ∈ later_rows k → q.depth ≤ 41
  pub sum : first_line_lem k (function_rows k) ≡ line_rows k
  pub within : (i : ℕ) → i < function_rows k → first_line_lem k i + (function_struct k i).lines ≤ line_rows k
  pub all_lines : lines_of (tree_rows_lem k) ≡ lines_from k 0 (line_rows k)
  pub names : (i : ℕ) → i < function_rows k → Readable k.text (function_struct k i).name
  pub comp_dirs : (i : ℕ) → i < function_rows k → (function_struct k i).comp_dir.start + (function_struct k i).comp_dir.len ≤ length k.text
  pub lines : (j : ℕ) → j < line_rows k → LineReadable k.text (line_struct k j)
  pub ends : (i : ℕ) → i < function_rows k → (function_struct k i).address + (function_struct k i).size < 2 ^ 64
  pub room : 4 * (function_rows k + line_rows k) ≤ s

-- 25: no row is deeper than 41
module _ (k : Columns) (low : shallow? k ≡ true) where
  not-deep : (i : ℕ) → i < function_rows k → (function_struct k i).depth ≤ 41
  unfolding shallow? shallow_row?
  not-deep i h = leb-true _ _ (each_at (λ (r : ℕ). shallow_row? (function_struct k r)) (function_rows k) i h low)

  shallow-from : (n i j : ℕ) → i + n ≤ function_rows k → (q : FunctionRow) → q ∈ tree_rows_from k i n j → q.depth ≤ 41
  unfolding tree_rows_from tree_row
  shallow-from zero i j h q m = elim m [ ]
  shallow-from (suc n) i j h q m =
      ∈-elim (λ (p : FunctionRow). p.depth ≤ 41) (not-deep i (omega arith)) (λ p o. shallow-from n (suc i) (j + (function_struct k i).lines) (omega arith) p o) q m

  shallow-rows : shaped? k ≡ true → (q : FunctionRow) → q ∈ later_rows k → q.depth ≤ 41
  shallow-rows shape = let h = some-row k shape in shallow-from (function_rows k - 1) 1 (function_struct k 0).lines (omega arith)

ends_low : (k : Columns) → ends? k ≡ true → (i : ℕ) → i < function_rows k → (function_struct k i).address + (function_struct k i).size < 2 ^ 64
unfolding ends? end?
ends_low k e i h =
    let g : (function_struct k i).address + (function_struct k i).size ≤ 0xffff_ffff_ffff_ffff =
    leb-true _ _ (each_at (λ (r : ℕ). end? (function_struct k r)) (function_rows k) i h e) in
    omega arith

room_enough : (k : Columns) (s : ℕ) → room? k s ≡ true → 4 * (function_rows k + line_rows k) ≤ s
unfolding room?
room_enough k s e = leb-true _ _ e

pub accepted : (k : Columns) (s : ℕ) → tree_refusal k s ≡ 0 → Accepted k s
accepted k s e =
    let (shape, shallow, right, low, room) = tests k s e in
    record {
      shape = shape;
      texts = right;
      lengths = lengths k shape;
      rows_are = rows_are k shape;
      first = first k shape;
      legal = legal k shape;
      few = few-rows k shape;
      shallow = shallow-rows k shallow shape;
      sum = sum k shape;
      within = lines-within k shape;
      all_lines = all_lines k shape;
      names = name-readable k right;
      comp_dirs = comp_dir-inside k right;
      lines = line-readable k right;
      ends = ends_low k low;
      room = room_enough k s room;
    }
