-- The columns of document 01's small worked file, and each number at its boundary, by computation.
use mathlib.Core.Path.{◌≡◌, refl}
use mathlib.Core.List.{List, [], ◌∷◌}
use Prim.Native.Nat.{ℕ, zero, suc, ◌*◌}
use lib.ListN.{set, replicate}
use Rattle.text.specs.Utf8.{utf8, chars, char_len, Utf8Char, fits, within}
use Rattle.model.proofs.Worked.{root-row, inlinee-row}
use Rattle.rows.specs.Columns.{Columns, function_in_columns, line_in_columns, part_of, line_at, lines_from, tree_row, tree_rows_from, tree_rows_lem}
use Rattle.refusals.specs.Refusals.{each, total, lengths?, count?, depth?, shaped?, shallow_row?, shallow?, inside?, readable?, optional?, function_texts?, line_texts?, texts?, end?, ends?, room?, tree_refusal}

-- trk, /b, a.rs, src, pos, p.rs
abbrev words : List ℕ
words = 116 ∷ 114 ∷ 107 ∷ 47 ∷ 98 ∷ 97 ∷ 46 ∷ 114 ∷ 115 ∷ 115 ∷ 114 ∷ 99 ∷ 112 ∷ 111 ∷ 115 ∷ 112 ∷ 46 ∷ 114 ∷ 115 ∷ []

abbrev f64 : List ℕ
f64 = 0x1000 ∷ 16 ∷ 0x1002 ∷ 4 ∷ []

abbrev f32 : List ℕ
f32 = 0 ∷ 0 ∷ 2 ∷ 0 ∷ 3 ∷ 3 ∷ 2 ∷ 2 ∷ 1 ∷ 1 ∷ 2 ∷ 12 ∷ 3 ∷ 3 ∷ 2 ∷ 1 ∷ []

abbrev l64 : List ℕ
l64 = 0x1000 ∷ 8 ∷ 10 ∷ 0x1008 ∷ 8 ∷ 11 ∷ 0x1002 ∷ 4 ∷ 50 ∷ []

abbrev l32 : List ℕ
l32 =
    1 ∷ 5 ∷ 4 ∷ 9 ∷ 3 ∷ 0 ∷ 0 ∷ 0 ∷ 0 ∷ 0 ∷ 0 ∷ 0 ∷ 0 ∷ 0 ∷ 1 ∷ 5 ∷ 4 ∷ 9 ∷ 3 ∷ 0 ∷ 0 ∷ 0 ∷ 0 ∷ 0 ∷ 0 ∷ 0 ∷ 0 ∷ 0
    ∷ 1 ∷ 15 ∷ 4 ∷ 9 ∷ 3 ∷ 0 ∷ 0 ∷ 0 ∷ 0 ∷ 0 ∷ 0 ∷ 0 ∷ 0 ∷ 0 ∷ []

-- the worked file's columns with other functions64, functions32 and lines32
abbrev with : List ℕ → List ℕ → List ℕ → Columns
with a b d = record { functions64 = a; functions32 = b; lines64 = l64; lines32 = d; text = words }

abbrev pub worked-columns : Columns
worked-columns = with f64 f32 l32

-- n rows without lines and texts, each inside the one before it, from depth d on
unfoldable pub chain32 : ℕ → ℕ → List ℕ
chain32 d zero = []
chain32 d (suc n) = d ∷ 0 ∷ 0 ∷ 0 ∷ 0 ∷ 0 ∷ 0 ∷ 0 ∷ chain32 (suc d) n

abbrev pub chain : ℕ → Columns
chain n = record { functions64 = replicate (2 * n) 0; functions32 = chain32 0 n; lines64 = []; lines32 = []; text = [] }

pub record Examples : Type 0 where
  pub rows : tree_rows_lem worked-columns ≡ root-row ∷ inlinee-row ∷ []
  pub taken : tree_refusal (with f64 f32 l32) 20 ≡ 0
  pub scratch-short : tree_refusal (with f64 f32 l32) 19 ≡ 16
  pub no_rows : tree_refusal (record { functions64 = []; functions32 = []; lines64 = []; lines32 = []; text = [] }) 20 ≡ 13
  pub first-deep : tree_refusal (with f64 (set f32 0 1) l32) 20 ≡ 13
  pub later-zero : tree_refusal (with f64 (set f32 8 0) l32) 20 ≡ 13
  pub later-deep : tree_refusal (with f64 (set f32 8 2) l32) 20 ≡ 13
  pub lines-fewer : tree_refusal (with f64 (set f32 15 0) l32) 20 ≡ 13
  pub lines_more : tree_refusal (with f64 (set f32 15 2) l32) 20 ≡ 13
  pub half-row : tree_refusal (with f64 (0 ∷ f32) l32) 20 ≡ 13
  pub row-short : tree_refusal (with (0x1000 ∷ 16 ∷ []) f32 l32) 20 ≡ 13
  -- K7: depth 41 is taken, depth 42 is not; a text that is wrong too comes after it, a jump in depth before
  pub depth_41 : tree_refusal (chain 42) 168 ≡ 0
  pub depth_42 : tree_refusal (chain 43) 172 ≡ 25
  pub depth_42_text : tree_refusal (record { functions64 = replicate 86 0; functions32 = set (chain32 0 43) 4 1; lines64 = []; lines32 = []; text = [] }) 0 ≡ 25
  pub jump_to_43 : tree_refusal (record { functions64 = replicate 86 0; functions32 = set (chain32 0 43) 336 43; lines64 = []; lines32 = []; text = [] }) 172 ≡ 13
  pub name-outside : tree_refusal (with f64 (set (set f32 11 16) 12 4) l32) 20 ≡ 14
  pub name-at-end : tree_refusal (with f64 (set (set f32 11 16) 12 3) l32) 20 ≡ 0
  pub empty-at-end : tree_refusal (with f64 (set (set f32 11 19) 12 0) l32) 20 ≡ 0
  pub empty-outside : tree_refusal (with f64 (set (set f32 11 20) 12 0) l32) 20 ≡ 14
  pub directory-outside : tree_refusal (with f64 (set f32 14 17) l32) 20 ≡ 14
  pub name-not-utf8 : tree_refusal (record { functions64 = f64; functions32 = f32; lines64 = l64; lines32 = l32; text = set words 12 0xff }) 20 ≡ 14
  pub directory-not-utf8 : tree_refusal (record { functions64 = f64; functions32 = f32; lines64 = l64; lines32 = l32; text = set words 3 0xff }) 20 ≡ 0
  pub absent-outside : tree_refusal (with f64 f32 (set l32 6 99)) 20 ≡ 0
  pub present-outside : tree_refusal (with f64 f32 (set (set l32 6 99) 5 1)) 20 ≡ 14
  pub end_highest : tree_refusal (with (set f64 2 0xffff_ffff_ffff_fffb) f32 l32) 20 ≡ 0
  pub end_wraps : tree_refusal (with (set f64 2 0xffff_ffff_ffff_fffc) f32 l32) 20 ≡ 15

pub examples : Examples
unfolding chain32 function_in_columns line_in_columns part_of line_at lines_from tree_row tree_rows_from each total lengths? count? depth? shaped? shallow_row? shallow? inside? readable? optional? function_texts? line_texts? texts? end? ends? room? tree_refusal utf8 chars char_len Utf8Char fits within
examples = record {
  rows = refl;
  taken = refl;
  scratch-short = refl;
  no_rows = refl;
  first-deep = refl;
  later-zero = refl;
  later-deep = refl;
  lines-fewer = refl;
  lines_more = refl;
  half-row = refl;
  row-short = refl;
  depth_41 = refl;
  depth_42 = refl;
  depth_42_text = refl;
  jump_to_43 = refl;
  name-outside = refl;
  name-at-end = refl;
  empty-at-end = refl;
  empty-outside = refl;
  directory-outside = refl;
  name-not-utf8 = refl;
  directory-not-utf8 = refl;
  absent-outside = refl;
  present-outside = refl;
  end_highest = refl;
  end_wraps = refl;
}
