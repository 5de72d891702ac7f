-- THE LENT TABLES: document 01, "Forms that Rattle cannot carry": "lent tables, each with a count".
-- Which tables there are, with the counts that the record has of them.
use Rattle.std.specs.Prelude.{◌≡◌, List, ℕ, length}
use Rattle.slices.specs.Slices.{zeros}
use Rattle.memory.specs.declared.State.{State}
use Rattle.memory.specs.declared.Tables.{Tables}
use Rattle.memory.specs.declared.Lent.{Lent}
use Rattle.memory.specs.declared.Lengths.{Lengths}

-- the string section, the index of its texts, and the four tables of the Rust's `SymCacheConverter`
pub record Memory : Type 0 where
  pub text : List ℕ
  pub strings : List ℕ
  pub files : List ℕ
  pub functions : List ℕ
  pub calls : List ℕ
  pub ranges : List ℕ

abbrev pub memory : List ℕ → List ℕ → List ℕ → List ℕ → List ℕ → List ℕ → Memory
memory x i f g c r = record { text = x; strings = i; files = f; functions = g; calls = c; ranges = r }

-- with the counts, by value: what a step of the converter works on
pub record Words : Type 0 where
  pub st : State
  pub mm : Memory

abbrev pub words : State → List ℕ → List ℕ → List ℕ → List ℕ → List ℕ → List ℕ → Words
words s x i f g c r = record { st = s; mm = memory x i f g c r }

-- what is behind the references of a call: the tables with their counts, and the tables alone
abbrev pub words_of : Tables → Words
words_of t = words t.state t.string_bytes.now t.strings.now t.files.now t.functions.now t.call_locations.now t.ranges.now

abbrev pub memory_of : Tables → Memory
memory_of t = memory t.string_bytes.now t.strings.now t.files.now t.functions.now t.call_locations.now t.ranges.now

abbrev pub memory_in : Lent → Memory
memory_in t = memory t.string_bytes.now t.strings.now t.files.now t.functions.now t.call_locations.now t.ranges.now

-- the six references are still those that were lent
abbrev pub SameTables : Tables → Tables → Type 0
SameTables old new = (new.string_bytes.ghost_name ≡ old.string_bytes.ghost_name)
    × (new.strings.ghost_name ≡ old.strings.ghost_name)
    × (new.files.ghost_name ≡ old.files.ghost_name)
    × (new.functions.ghost_name ≡ old.functions.ghost_name)
    × (new.call_locations.ghost_name ≡ old.call_locations.ghost_name)
    × (new.ranges.ghost_name ≡ old.ranges.ghost_name)

-- their lengths
abbrev pub lent : Memory → Lengths
lent m = record {
  string_bytes = length m.text;
  strings = length m.strings;
  files = length m.files;
  functions = length m.functions;
  call_locations = length m.calls;
  ranges = length m.ranges;
}

-- zero throughout
abbrev pub zeroed : Memory → Memory
zeroed m = memory (zeros m.text) (zeros m.strings) (zeros m.files) (zeros m.functions) (zeros m.calls) (zeros m.ranges)
