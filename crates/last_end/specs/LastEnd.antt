-- THE FILE WITHOUT THE LAST END IS THE FILE WITH IT: document 02, K6. Of every list of calls of demand 3, refused ones included, premises or not: while
-- the converter is open, the Rust's last end, where it is set, is a start already in the ranges; so what `serialize` of writer.rs would insert is there,
-- and what we write is the reference converter's file, byte for byte.
use Rattle.std.specs.Prelude.{◌≡◌, Bool, true, List, ℕ, Some}
use Rattle.std.proofs.Math.Option.{some}
use Rattle.raw.specs.declared.SourceLocation.{SourceLocation}
use Rattle.tables.specs.Ranges.{get_of}
use Rattle.model.specs.Basics.{◌∈◌}
use Rattle.model.specs.Rows.{Given}
use Rattle.model.specs.Converter.{Setup}
use Rattle.model.specs.Written.{as_written}
use Rattle.model.specs.FileWords.{sections}
use Rattle.memory.specs.Memory.{Memory}
use Rattle.memory.specs.declared.Converter.{Converter}
use Rattle.serialize.specs.File.{write_answer, serialize_of}
use Rattle.read_back.specs.Bytes.{file_bytes}
use Rattle.demand3.specs.Lists.{Call, Standing, run, by_value, beginning, Typed}
use Rattle.last_end.specs.Reference.{last_end, reference_tables}

-- the reference converter's file
abbrev pub reference_file : List ℕ → ℕ → Setup → List Given → List ℕ
reference_file id arch X gs = file_bytes id arch (sections (as_written (reference_tables X gs)))

-- a list that stands open, after a beginning with this debug id, arch number and switches:
-- `is_a_start`: the lent ranges hold the last end, if it is set; `same_file`: a write answers what the reference converter's file would be answered with
pub record Unneeded (id : List ℕ) (arch : ℕ) (X : Setup) (r : Standing Converter) : Type 0 where
  pub is_a_start : (a : ℕ) → last_end X r.counted ≡ some a
      → (l : SourceLocation) × (get_of r.memory.ranges r.carrier.state.ranges a ≡ Some l)
  pub same_file : (out : List ℕ) → serialize_of r.carrier r.memory out ≡ write_answer (reference_file id arch X r.counted) out

abbrev pub LastEndUnneeded : Type 0
LastEndUnneeded =
    (id : List ℕ) (arch : ℕ) (f s : Bool) (m : Memory) (calls : List Call) → ((k : Call) → k ∈ calls → Typed k)
    → let r = run by_value calls (beginning id arch f s m) in
    r.carrier.«open» ≡ true → Unneeded id arch (record { functions_on = f; symbols_on = s }) r
