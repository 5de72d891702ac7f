-- No step changes the length of a lent table, on any content; so no loop of the machine does.
use mathlib.Core.Path.{◌≡◌, refl, ◌∙◌, ap, ap₂}
use mathlib.Core.Bool.{Bool, true, false, cond, ◌&&◌}
use mathlib.Core.List.{List}
use Prim.Native.Nat.{ℕ, ◌+◌}
use lib.Dec.{ltb, leb, eqb}
use lib.ListN.{length}
use lib.Seq.{length-sets}
use Rattle.model.specs.Rows.{MAX, Text}
use Rattle.model.specs.Converter.{Setup, Six, input, function_name, symbol_name, line_texts, entry_of}
use Rattle.raw.specs.declared.SourceLocation.{SourceLocation}
use Rattle.tables.specs.Table.{Left, row_at, same_row, insert_of, insert_at, bucket_of, bucket_in, head_at, newest_of, lookup_of, capacity_of}
use Rattle.tables.specs.Ranges.{range_row_lem, put_of, put_at, replace_of}
use Rattle.strings.specs.Strings.{StringsLeft, text_size_lem, stored_text, text_capacity_of, text_row, find_text, insert_text_of, insert_text_at, store_of, index_of}
use Rattle.tables.specs.declared.Row.{Row}
use Rattle.tables.specs.declared.Inserted.{Inserted}
use Rattle.tables.specs.declared.ranges.Was.{Was}
use Rattle.tables.specs.declared.ranges.Change.{Change}
use Rattle.table_laws.proofs.Rows.{length_set_row, length-append}
use Rattle.memory.specs.Memory.{Words}
use Rattle.steps.specs.Steps.{store, add_function, add_file_row, add_call, put_range, store_six, locate_six, begin_named, function_row_lem, location_row_lem, file_row_lem, over_words}
use Rattle.steps.proofs.Loops.{Keeps}

-- ── The tables of crate tables ─────────────────────────────────────────────────────────────────────────────────────────

either : {A : Type 0} (f : A → ℕ) (n : ℕ) (b : Bool) {x y : A} → f x ≡ n → f y ≡ n → f (cond b x y) ≡ n
either f n true p q = p
either f n false p q = q

pub insert-long : (w : ℕ) (t : List ℕ) (n : ℕ) (q : Row) → length (insert_of w t n q).table ≡ length t
unfolding insert_of insert_at
insert-long w t n q =
    let cap = capacity_of (length t) in
    either (λ (x : Left Inserted). length x.table) (length t) (ltb (lookup_of w t n q) n) refl
    (either (λ (x : Left Inserted). length x.table) (length t) (ltb n cap) (length-append cap t n q (newest_of w t q) (bucket_in w t q)) refl)

replace_long : (t : List ℕ) (i : ℕ) (q : Row) → length (replace_of t i q).table ≡ length t
unfolding replace_of
replace_long t i q = either (λ (x : Left Was). length x.table) (length t) (same_row (row_at t i) q) refl (length_set_row t i q)

pub put-long : (t : List ℕ) (n : ℕ) (q : Row) → length (put_of t n q).table ≡ length t
unfolding put_of put_at
put-long t n q =
    let x = insert_of 1 t n q in
    either (λ (x : Left Change). length x.table) (length t) (ltb (capacity_of (length t)) n) refl
    (either (λ (x : Left Change). length x.table) (length t) (ltb x.got.index n) (replace_long x.table x.got.index q ∙ insert-long 1 t n q) (insert-long 1 t n q))

module _ (x i : List ℕ) (bytes count : ℕ) (t : Text) where
  store_long : length (store_of x i bytes count t).text ≡ length x
  unfolding store_of
  store_long = either (λ (r : StringsLeft). length r.text) (length x) (leb (bytes + text_size_lem t) (text_capacity_of (length x)) && ltb count (capacity_of (length i))) (length-sets x bytes (stored_text t)) refl

  store-long-index : length (store_of x i bytes count t).strings ≡ length i
  unfolding store_of index_of
  store-long-index =
      let cap = capacity_of (length i) in
      let r = text_row bytes t in
      either (λ (r : StringsLeft). length r.strings) (length i) (leb (bytes + text_size_lem t) (text_capacity_of (length x)) && ltb count cap)
      (length-append cap i count r (head_at cap i (bucket_of r.d cap)) (bucket_of r.d cap)) refl

  pub text-long : length (insert_text_of x i bytes count t).text ≡ length x
  unfolding insert_text_of insert_text_at
  text-long =
      either (λ (r : StringsLeft). length r.text) (length x) (eqb (length t) 0) refl
      (either (λ (r : StringsLeft). length r.text) (length x) (ltb (find_text x i count t) count) refl store_long)

  pub text-long-index : length (insert_text_of x i bytes count t).strings ≡ length i
  unfolding insert_text_of insert_text_at
  text-long-index =
      either (λ (r : StringsLeft). length r.strings) (length i) (eqb (length t) 0) refl
      (either (λ (r : StringsLeft). length r.strings) (length i) (ltb (find_text x i count t) count) refl store-long-index)

-- ── The steps ──────────────────────────────────────────────────────────────────────────────────────────────────────────

pub record Lens : Type 0 where
  pub text : ℕ
  pub strings : ℕ
  pub files : ℕ
  pub functions : ℕ
  pub calls : ℕ
  pub ranges : ℕ

-- the lengths of the lent tables
abbrev pub lens : Words → Lens
lens s = record {
  text = length s.mm.text;
  strings = length s.mm.strings;
  files = length s.mm.files;
  functions = length s.mm.functions;
  calls = length s.mm.calls;
  ranges = length s.mm.ranges;
}

module _ (s : Words) where
  pub store-lens : (t : Text) → lens (store t s).1 ≡ lens s
  unfolding store
  store-lens t =
      let m = s.mm in
      ap₂ (λ (a b : ℕ). record { text = a; strings = b; files = (lens s).files; functions = (lens s).functions; calls = (lens s).calls; ranges = (lens s).ranges })
      (text-long m.text m.strings s.st.string_bytes s.st.strings t) (text-long-index m.text m.strings s.st.string_bytes s.st.strings t)

  pub add_function-lens : (name entry lang : ℕ) → lens (add_function name entry lang s).1 ≡ lens s
  unfolding add_function
  add_function-lens name entry lang =
      ap (λ (a : ℕ). record { text = (lens s).text; strings = (lens s).strings; files = (lens s).files; functions = a; calls = (lens s).calls; ranges = (lens s).ranges })
      (insert-long 6 s.mm.functions s.st.functions (function_row_lem name entry lang))

  pub add_file_row-lens : (row : Row) → lens (add_file_row row s).1 ≡ lens s
  unfolding add_file_row
  add_file_row-lens row =
      ap (λ (a : ℕ). record { text = (lens s).text; strings = (lens s).strings; files = a; functions = (lens s).functions; calls = (lens s).calls; ranges = (lens s).ranges })
      (insert-long 6 s.mm.files s.st.files row)

  pub add_call-lens : (l : SourceLocation) → lens (add_call l s).1 ≡ lens s
  unfolding add_call
  add_call-lens l =
      ap (λ (a : ℕ). record { text = (lens s).text; strings = (lens s).strings; files = (lens s).files; functions = (lens s).functions; calls = a; ranges = (lens s).ranges })
      (insert-long 6 s.mm.calls s.st.call_locations (location_row_lem l))

  pub put_range-lens : (k : ℕ) (l : SourceLocation) → lens (put_range k l s) ≡ lens s
  unfolding put_range
  put_range-lens k l =
      ap (λ (a : ℕ). record { text = (lens s).text; strings = (lens s).strings; files = (lens s).files; functions = (lens s).functions; calls = (lens s).calls; ranges = a })
      (put-long s.mm.ranges s.st.ranges (range_row_lem k l))

pub store_six-lens : (x : Six Text) (s : Words) → lens (store_six x s).1 ≡ lens s
unfolding store_six
store_six-lens x s =
    let a = (store x.name s).1 in
    let b = (store x.directory a).1 in
    let c = (store x.comp_dir b).1 in
    let d = (store x.srcsrv_name c).1 in
    let e = (store x.srcsrv_dir d).1 in
    store-lens e x.revision ∙ (store-lens d x.srcsrv_dir ∙ (store-lens c x.srcsrv_name ∙ (store-lens b x.comp_dir ∙ (store-lens a x.directory ∙ store-lens s x.name))))

pub locate_six-lens : (x : Six Text) (number function into : ℕ) (s : Words) → lens (locate_six x number function into s).1 ≡ lens s
unfolding locate_six
locate_six-lens x number function into s = let t = store_six x s in add_file_row-lens t.1 (file_row_lem t.0) ∙ store_six-lens x s

pub begin_named-lens : (name : Text) (entry lang : ℕ) (s : Words) → lens (begin_named name entry lang s).1 ≡ lens s
unfolding begin_named
begin_named-lens name entry lang s = let t = store name s in add_function-lens t.1 t.0 entry lang ∙ store-lens s name

-- ── The machine ────────────────────────────────────────────────────────────────────────────────────────────────────────

-- so its loops keep them: `walk_keeps`, `loop_keeps`, `row_keeps`, .. of Loops, with f = lens and k = lens-kept X
pub lens-kept : (X : Setup) → Keeps input (over_words X) lens
lens-kept X = record {
  put = λ a l s. put_range-lens s a l;
  begin = λ q s. begin_named-lens (function_name X q) (entry_of q) q.language s;
  locate = λ q r n c s. locate_six-lens (line_texts q n) n.number r c s;
  enter = λ l s. add_call-lens s l;
  sym_begin = λ y s. store-lens s (symbol_name X y);
  sym_locate = λ y p s. add_function-lens s p y.address MAX;
}
