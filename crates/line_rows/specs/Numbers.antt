-- The number of a tree call whose line rows are one lent list, before a word is unpacked.
use Rattle.std.specs.Prelude.{Bool, cond, ◌&&◌, List, ℕ, ◌/◌, eqb, leb, length}
use Rattle.rows.specs.Columns.{Columns}
use Rattle.refusals.specs.Refusals.{refusal_with}
use Rattle.memory.specs.Record.{usable_in}
use Rattle.memory.specs.declared.Converter.{Converter}

-- 19, of tables of these lengths
abbrev pub usable_by : Converter → ℕ → ℕ → ℕ → ℕ → ℕ → ℕ → Bool
usable_by c x i f g k r = usable_in c (record { string_bytes = x; strings = i; files = f; functions = g; call_locations = k; ranges = r })

-- the number before 17, where the tables can be used or not, of n line rows whose texts are in order or not, and of lent memory of these lengths
unfoldable pub number_of : Bool → ℕ → ℕ → ℕ → List ℕ → List ℕ → ℕ → Bool → List ℕ → ℕ
number_of usable s u v f64 f32 n b t =
    cond usable (cond (eqb (refusal_with f64 f32 n b t s) 0) (cond (leb n (u / 3) && leb n (v / 14)) 0 16) (refusal_with f64 f32 n b t s)) 19

-- the memory lent for the line rows holds as many rows as there are
unfoldable pub unpack_room? : Columns → List ℕ → List ℕ → Bool
unpack_room? k u v = leb (length k.lines64) (length u) && leb (length k.lines32) (length v)
