-- What the code hands to a step for a function row and a line row of the columns is what the machine hands to it for the model's rows.
use mathlib.Core.Path.{◌≡◌, refl, sym, ap}
use mathlib.Core.Bool.{Bool, true, false, cond, true≢false}
use mathlib.Core.Option.{none, some}
use mathlib.Core.List.{List, []}
use Prim.Native.Nat.{ℕ, ◌+◌, ◌≤◌}
use native.Mathlib.Omega.{arith}
use lib.Dec.{leb, ltb, eqb}
use lib.ListN.{length, take, drop}
use borrow.Author.Tests.{ltb-false}
use Rattle.text.specs.Utf8.{utf8}
use Rattle.names.specs.Names.{undecorated}
use Rattle.model.specs.Rows.{MAX, cut32, Text, skipped}
use Rattle.model.specs.Converter.{Setup, Six, or_empty, line_texts}
use Rattle.rows.specs.Columns.{Columns, function_struct, line_struct, tree_row, line_at, part_of, text_of}
use Rattle.rows.specs.declared.TextPart.{TextPart}
use Rattle.memory.specs.Memory.{Words}
use Rattle.steps.specs.Steps.{no_part, six_of, locate_six, begin_named, over_words}

-- ── Texts ──

part_none : (t : List ℕ) → part_of t 0 0 ≡ []
unfolding part_of
part_none t = go (leb (0 + 0) (length t))
  where
    go : (b : Bool) → cond b (take 0 (drop 0 t)) [] ≡ []
    go true = refl
    go false = refl

either-text : (t : List ℕ) (p : TextPart) (b : Bool) → text_of t (cond b p no_part) ≡ cond b (text_of t p) []
either-text t p true = refl
either-text t p false = part_none t

optional-text : (t : List ℕ) (p : TextPart) (b : Bool) → text_of t (cond b p no_part) ≡ or_empty (cond b (some (text_of t p)) none)
optional-text t p true = refl
optional-text t p false = part_none t

whole : (a : ℕ) → a ≤ MAX → cut32 a ≡ a
whole a h = omega arith

-- the compilation directory of function row i, as `comp_dir_part` answers it
abbrev pub dir_part : Columns → ℕ → TextPart
dir_part k i = let p = (function_struct k i).comp_dir in cond (utf8 (text_of k.text p)) p no_part

module _ (k : Columns) (i first : ℕ) where
  -- ── A line ──

  pub six-texts : (j : ℕ) → six_of k.text (dir_part k i) (line_struct k j) ≡ line_texts (tree_row k i first) (line_at k j)
  unfolding six_of tree_row line_at
  six-texts j =
      let t = k.text in
      let l = line_struct k j in
      let p = (function_struct k i).comp_dir in
      λ z. record {
        name = text_of t l.name;
        directory = text_of t l.directory;
        comp_dir = either-text t p (utf8 (text_of t p)) z;
        srcsrv_name = optional-text t l.srcsrv_name.part l.srcsrv_name.present z;
        srcsrv_dir = optional-text t l.srcsrv_dir.part l.srcsrv_dir.present z;
        revision = optional-text t l.revision.part l.revision.present z;
      }

  pub locate-is : (X : Setup) (r j c : ℕ) (s : Words)
      → (over_words X).locate (tree_row k i first) r (line_at k j) c s ≡ locate_six (six_of k.text (dir_part k i) (line_struct k j)) (line_struct k j).number r c s
  unfolding line_at
  locate-is X r j c s = ap (λ (x : Six Text). locate_six x (line_struct k j).number r c s) (sym (six-texts j))

  -- ── A function row ──

  pub address_below : skipped (tree_row k i first) ≡ false → (function_struct k i).address ≤ MAX
  unfolding tree_row
  address_below h = go (eqb (function_struct k i).size 0) h
    where
      go : (b : Bool) → cond b true (ltb MAX (function_struct k i).address) ≡ false → (function_struct k i).address ≤ MAX
      go true e = absurd (true≢false e)
      go false e = ltb-false MAX (function_struct k i).address e

  -- the entry is cut to 32 bits, and a row that isn't skipped has one below 2^32
  pub begin-is : (X : Setup) (s : Words) → skipped (tree_row k i first) ≡ false
      → let q = function_struct k i in
      (over_words X).begin (tree_row k i first) s
      ≡ begin_named (cond X.functions_on (undecorated (text_of k.text q.name)) (text_of k.text q.name)) (cond q.inline MAX (cut32 q.address)) q.language s
  unfolding tree_row
  begin-is X s h =
      let q = function_struct k i in
      let name = cond X.functions_on (undecorated (text_of k.text q.name)) (text_of k.text q.name) in
      ap (λ (a : ℕ). begin_named name (cond q.inline MAX a) q.language s) (sym (whole q.address (address_below h)))
