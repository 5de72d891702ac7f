-- The lookup: document 01 "Lookup"; v9/lookup.rs.
use Rattle.std.specs.Prelude.{ℕ, zero, suc, ◌+◌, ◌*◌, ◌-◌, List, [], ◌∷◌, Bool, false, cond, ◌&&◌, ◌||◌, eqb, ltb, leb}
use Rattle.std.specs.Prelude as rust
use Rattle.std.proofs.Math.Option.{Option, none, some}
use Rattle.raw.specs.declared.File.{File}
use Rattle.raw.specs.declared.Function.{Function}
use Rattle.raw.specs.Rows.{max32, file_at_lem, function_at_lem, is_no_source_location}
use Rattle.symcache.specs.declared.SymCache.{SymCache}
use Rattle.lookup.specs.declared.SourceLocations.{SourceLocations}
use Rattle.lookup.specs.declared.Frame.{Frame}
use Rattle.lookup.specs.declared.Functions.{Functions}
use Rattle.lookup.specs.declared.Files.{Files}
use Rattle.symcache.specs.Answers.{Answer, gives, and_then}
use Rattle.lookup.specs.declared.NextFunction.{NextFunction}
use Rattle.lookup.specs.declared.NextFile.{NextFile}
use Rattle.lookup.specs.Answers.{Framed}
use Rattle.symcache.specs.Reader.{start_at, parsed, opened, location_in_lem, function_in_lem, file_in_lem}
-- the search
unfoldable pub use Rattle.search.specs.Search.{count_in_lem, half_in, quarters_in, search_in, found_among, usable, found_in}

-- ── The location that an address belongs to ──

-- the last of n starts that is at most the address
unfoldable pub last_start : (ℕ → ℕ) → ℕ → ℕ → Option ℕ
last_start f a zero = none
last_start f a (suc n) = cond (leb (f n) a) (some n) (last_start f a n)

-- the location of a range, or MAX where there is none. v9/lookup.rs: "The ranges section indexes into the tail of the source locations section"
unfoldable pub location_of_range : SymCache → Option ℕ → ℕ
location_of_range c none = max32
location_of_range c (some i) = (c.num_source_locations - c.num_ranges) + i

-- in an opened file, whose starts ascend: the location of the last start at most the address; an address above MAX has none
unfoldable pub belongs_to : List ℕ → SymCache → ℕ → ℕ
belongs_to s c a = cond (ltb max32 a) max32 (location_of_range c (last_start (start_at s c.ranges) a c.num_ranges))

-- where the search ends, in bytes of any content. In an opened file it is `belongs_to`: proofs/ByMeaning.antt
abbrev pub found_at : List ℕ → SymCache → ℕ → ℕ
found_at s c a = found_in s c.source_locations c.num_source_locations c.ranges c.num_ranges a

-- ── The walk ──

abbrev pub walk_from_lem : ℕ → SourceLocations
walk_from_lem i = record { first = i; current = i; steps = 0 }

-- the walk from a location, or MAX: "Only the first location is tested for the empty mapping"
abbrev pub walk_tested : List ℕ → SymCache → ℕ → SourceLocations
walk_tested s c i =
    cond (eqb i max32) (walk_from_lem max32) (cond (is_no_source_location (location_in_lem s c i)) (walk_from_lem max32) (walk_from_lem i))

-- the walk of an address, from where the search ends
unfoldable pub walk_at_lem : List ℕ → SymCache → ℕ → SourceLocations
walk_at_lem s c a = walk_tested s c (found_at s c a)

-- a lookup: 1 to 12, or the walk from the location that the address belongs to
unfoldable pub looked_up_lem : List ℕ → ℕ → Answer SourceLocations
looked_up_lem s a = and_then (opened s) (λ c. gives (walk_tested s c (belongs_to s c a)))

-- whether `i` is met among the first `n` indexes of the walk that begins at `j`
unfoldable pub met : List ℕ → SymCache → ℕ → ℕ → ℕ → Bool
met s c i j zero = false
met s c i j (suc n) =
    eqb j i || (ltb j c.num_source_locations && met s c i (location_in_lem s c j).inlined_into_idx n)

-- "A function outside the table has the stand-in, entry MAX and language MAX"
abbrev pub entry_of : Option Function → ℕ
entry_of none = max32
entry_of (some f) = f.entry_pc

abbrev pub language_of : Option Function → ℕ
language_of none = max32
language_of (some f) = f.lang

-- "A frame holds either a file or the mark that there is none"
abbrev pub file_of_lem : Option File → rust.Option File
file_of_lem none = rust.None
file_of_lem (some f) = rust.Some f

unfoldable pub frame_in_lem : List ℕ → SymCache → ℕ → Frame
frame_in_lem s c i = record {
  location_idx = i;
  function_idx = (location_in_lem s c i).function_idx;
  line = (location_in_lem s c i).line;
  file_idx = (location_in_lem s c i).file_idx;
  entry_pc = entry_of (function_in_lem s c (location_in_lem s c i).function_idx);
  language = language_of (function_in_lem s c (location_in_lem s c i).function_idx);
  file = file_of_lem (file_in_lem s c (location_in_lem s c i).file_idx);
}

-- "The walk ends at MAX, outside the table, or at an index already met"; a made-up cursor ends where its steps reach the count of locations
unfoldable pub ended : List ℕ → SymCache → SourceLocations → Bool
ended s c k =
    eqb k.current max32
    || (leb c.num_source_locations k.current
    || (leb c.num_source_locations k.steps || met s c k.current k.first k.steps))

abbrev pub framed : List ℕ → SymCache → SourceLocations → Framed
framed s c k = record {
  frame = frame_in_lem s c k.current;
  next = record { first = k.first; current = (location_in_lem s c k.current).inlined_into_idx; steps = k.steps + 1 };
}

unfoldable pub step_in_lem : List ℕ → SymCache → SourceLocations → Option Framed
step_in_lem s c k = cond (ended s c k) none (some (framed s c k))

unfoldable pub stepped : List ℕ → SourceLocations → Answer (Option Framed)
stepped s k = and_then (parsed s) (λ c. gives (step_in_lem s c k))

-- the frames of a walk, at most n of them
unfoldable pub frames_in : List ℕ → SymCache → ℕ → SourceLocations → List Frame
frames_in s c zero k = []
frames_in s c (suc n) k = elim (step_in_lem s c k) [ none ↦ [] | some t ↦ t.frame ∷ frames_in s c n t.next ]

-- ── Functions and files ──

unfoldable pub got_file : List ℕ → ℕ → Answer (Option File)
got_file s i = and_then (parsed s) (λ c. gives (file_in_lem s c i))

unfoldable pub got_function : List ℕ → ℕ → Answer (Option Function)
got_function s i = and_then (parsed s) (λ c. gives (function_in_lem s c i))

-- `Functions` passes over entry MAX: the first of the n functions from index i on that has another
unfoldable pub next_function : List ℕ → SymCache → ℕ → ℕ → Option NextFunction
next_function s c i zero = none
next_function s c i (suc n) =
    cond (eqb (function_at_lem s (c.functions + 16 * i)).entry_pc max32) (next_function s c (suc i) n)
    (some (record { index = i; function = function_at_lem s (c.functions + 16 * i); next = record { function_idx = i + 1 } }))

unfoldable pub functions_next : List ℕ → Functions → Answer (Option NextFunction)
functions_next s k = and_then (parsed s) (λ c. gives (next_function s c k.function_idx (c.num_functions - k.function_idx)))

unfoldable pub next_file : List ℕ → SymCache → ℕ → Option NextFile
next_file s c i =
    cond (ltb i c.num_files) (some (record { index = i; file = file_at_lem s (c.files + 24 * i); next = record { file_idx = i + 1 } })) none

unfoldable pub files_next : List ℕ → Files → Answer (Option NextFile)
files_next s k = and_then (parsed s) (λ c. gives (next_file s c k.file_idx))
