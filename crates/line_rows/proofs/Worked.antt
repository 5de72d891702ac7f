-- Document 01's small worked file with its line rows as a list: they stand for its columns, so the call (`AsTree`) leaves what the call over number slices does; and the room to unpack them at its boundary.
use mathlib.Core.Path.{◌≡◌, refl}
use mathlib.Core.Bool.{true, false}
use mathlib.Core.List.{List, [], ◌∷◌}
use Prim.Native.Nat.{ℕ}
use lib.ListN.{replicate}
use Rattle.model.proofs.Worked.{root-row, inlinee-row}
use Rattle.rows.specs.Columns.{Columns, columns, function_in_columns, line_in_columns, part_of, line_at, lines_from, tree_row, tree_rows_from, tree_rows_lem}
use Rattle.rows.specs.declared.LineRow.{LineRow}
use Rattle.rows.specs.declared.OptionalPart.{OptionalPart}
use Rattle.line_rows.specs.Lines.{packed, line_columns}
use Rattle.line_rows.specs.Numbers.{unpack_room?}

-- trk, /b, a.rs, src, pos, p.rs
abbrev words : List ℕ
words = 116 ∷ 114 ∷ 107 ∷ 47 ∷ 98 ∷ 97 ∷ 46 ∷ 114 ∷ 115 ∷ 115 ∷ 114 ∷ 99 ∷ 112 ∷ 111 ∷ 115 ∷ 112 ∷ 46 ∷ 114 ∷ 115 ∷ []

abbrev f64 : List ℕ
f64 = 0x1000 ∷ 16 ∷ 0x1002 ∷ 4 ∷ []

abbrev f32 : List ℕ
f32 = 0 ∷ 0 ∷ 2 ∷ 0 ∷ 3 ∷ 3 ∷ 2 ∷ 2 ∷ 1 ∷ 1 ∷ 2 ∷ 12 ∷ 3 ∷ 3 ∷ 2 ∷ 1 ∷ []

abbrev l64 : List ℕ
l64 = 0x1000 ∷ 8 ∷ 10 ∷ 0x1008 ∷ 8 ∷ 11 ∷ 0x1002 ∷ 4 ∷ 50 ∷ []

abbrev l32 : List ℕ
l32 =
    1 ∷ 5 ∷ 4 ∷ 9 ∷ 3 ∷ 0 ∷ 0 ∷ 0 ∷ 0 ∷ 0 ∷ 0 ∷ 0 ∷ 0 ∷ 0 ∷ 1 ∷ 5 ∷ 4 ∷ 9 ∷ 3 ∷ 0 ∷ 0 ∷ 0 ∷ 0 ∷ 0 ∷ 0 ∷ 0 ∷ 0 ∷ 0
    ∷ 1 ∷ 15 ∷ 4 ∷ 9 ∷ 3 ∷ 0 ∷ 0 ∷ 0 ∷ 0 ∷ 0 ∷ 0 ∷ 0 ∷ 0 ∷ 0 ∷ []

abbrev absent : OptionalPart
absent = record { present = false; part = record { start = 0; len = 0 } }

-- a line with a size, its file name at `name`, four bytes, in src
abbrev line : ℕ → ℕ → ℕ → ℕ → LineRow
line address size number name = record {
  address = address;
  has_size = true;
  size = size;
  number = number;
  name = record { start = name; len = 4 };
  directory = record { start = 9; len = 3 };
  srcsrv_name = absent;
  srcsrv_dir = absent;
  revision = absent;
}

abbrev worked-lines : List LineRow
worked-lines = line 0x1000 8 10 5 ∷ line 0x1008 8 11 5 ∷ line 0x1002 4 50 15 ∷ []

abbrev worked : Columns
worked = line_columns f64 f32 worked-lines words

pub record Examples : Type 0 where
  pub stand_for : worked ≡ columns f64 f32 l64 l32 words
  pub rows : tree_rows_lem worked ≡ root-row ∷ inlinee-row ∷ []
  pub room : unpack_room? worked (replicate 9 7) (replicate 42 7) ≡ true
  pub short64 : unpack_room? worked (replicate 8 7) (replicate 42 7) ≡ false
  pub short32 : unpack_room? worked (replicate 9 7) (replicate 41 7) ≡ false

pub examples : Examples
unfolding packed function_in_columns line_in_columns part_of line_at lines_from tree_row tree_rows_from unpack_room?
examples = record { stand_for = refl; rows = refl; room = refl; short64 = refl; short32 = refl }
