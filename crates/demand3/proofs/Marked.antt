-- Document 01's marked examples, M1 to M12, in one table. Each is computed where its definition stands: M1 to M3 in symcache, M4 and M5 in rows, M6 to M10 in names, M11 and M12 in text.
use Prim.Native.Nat.{ℕ, ◌-◌}
use mathlib.Core.Path.{◌≡◌}
use mathlib.Core.Bool.{true, false}
use mathlib.Core.List.{List, [], ◌∷◌, ◌++◌, map}
use Rattle.text.specs.Leb128.{encoded}
use Rattle.text.specs.Utf8.{utf8}
use Rattle.text.proofs.Marked as texts
use Rattle.names.specs.Names.{undecorated}
use Rattle.names.specs.Marked as names
use Rattle.model.specs.Rows.{MAX}
use Rattle.rows.specs.Columns.{boundaries_of}
use Rattle.rows.specs.Marked as boundaries
use Rattle.lookup.specs.Lookup.{walk_at_lem, frames_in}
use Rattle.read_back.proofs.WorkedBytes.{worked, tables, Listed, listed, m1, m2, m3}

-- the worked file's frames at an address
abbrev frames : ℕ → List Listed
frames x = map listed (frames_in worked tables 6 (walk_at_lem worked tables x))

-- `foo`
abbrev foo : List ℕ
foo = 102 ∷ 111 ∷ 111 ∷ []

-- `4294967296`
abbrev too_great : List ℕ
too_great = 52 ∷ 50 ∷ 57 ∷ 52 ∷ 57 ∷ 54 ∷ 55 ∷ 50 ∷ 57 ∷ 54 ∷ []

pub record Marked : Type 0 where
  pub M1 : frames 0x1003 ≡ record { location = 2; function = 1; line = 0x32; file = 1 } ∷ record { location = 0; function = 0; line = 0xA; file = 0 } ∷ []
  pub M2 : frames 0x1010 ≡ []
  pub M3 : frames 0x0FFF ≡ []
  pub M4 : (size : ℕ) → boundaries_of MAX false size ≡ record { start = MAX; end = MAX; cut = true }
  pub M5 : boundaries_of (MAX - 5) true 5 ≡ record { start = MAX - 5; end = MAX; cut = false }
  pub M6 : undecorated (95 ∷ foo ++ (64 ∷ 52 ∷ [])) ≡ foo  -- `_foo@4`
  pub M7 : undecorated (foo ++ (64 ∷ 64 ∷ 43 ∷ 56 ∷ [])) ≡ foo  -- `foo@@+8`
  pub M8 : undecorated (95 ∷ foo ++ (64 ∷ too_great)) ≡ foo ++ (64 ∷ too_great)  -- `_foo@4294967296`
  pub M9 : undecorated (97 ∷ 64 ∷ 64 ∷ 64 ∷ 56 ∷ []) ≡ 97 ∷ 64 ∷ []  -- `a@@@8`
  pub M10 : undecorated (64 ∷ foo) ≡ 64 ∷ foo  -- `@foo`
  pub M11 : (encoded 127 ≡ 0x7F ∷ []) × (encoded 128 ≡ 0x80 ∷ 0x01 ∷ [])
  pub M12 : (utf8 (0xED ∷ 0xA0 ∷ 0x80 ∷ []) ≡ false) × (utf8 (0xF4 ∷ 0x8F ∷ 0xBF ∷ 0xBF ∷ []) ≡ true)

pub marked : Marked
marked = record {
  M1 = m1;
  M2 = m2;
  M3 = m3;
  M4 = (boundaries.marked).M4;
  M5 = (boundaries.marked).M5;
  M6 = names.m6;
  M7 = names.m7;
  M8 = names.m8;
  M9 = names.m9;
  M10 = names.m10;
  M11 = texts.M11;
  M12 = texts.M12;
}
