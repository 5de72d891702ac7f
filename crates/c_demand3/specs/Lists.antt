-- A LIST OF EXPORTED CALLS AFTER A BEGINNING, and demand 3 of it: demand3's list and its `Demand3` with the exported calls in place of those by value.
-- The record's words are what is carried, and the lent tables, as each call leaves them.
use Rattle.std.specs.Prelude.{◌≡◌, List, [], ◌∷◌, ◌++◌, map, ℕ, ◌≤◌, length, get_or, drop}
use Rattle.model.specs.Basics.{◌∈◌, Covers}
use Rattle.model.specs.Rows.{MAX, LineRow, FunctionRow, Given, tree_rows}
use Rattle.model.specs.Converter.{Setup, converted}
use Rattle.model.specs.Frames.{frames_at}
use Rattle.model.specs.Premises.{reach}
use Rattle.model.specs.Gaps.{SymbolsWell, SymbolsAndGaps}
use Rattle.read_back.specs.Shown.{Shown, with_stand_in}
use Rattle.memory.specs.Memory.{Memory}
use Rattle.memory.specs.Record.{while_open, capped}
use Rattle.line_rows.specs.Lines.{line_columns}
use Rattle.demand3.specs.Lists.{Call, tree, lines_tree, symbol, write, Outcome, outcome, Standing, none_counted, run, Typed}
use Rattle.demand3.specs.Clamped.{clamped_calls}
use Rattle.demand3.specs.Demand3.{Premises, asked, Reopened}
use Rattle.slices.specs.Slices.{yes}
use Rattle.slices.specs.Bytes.{bytes_at}
use Rattle.c_reading.specs.Stored.{stored}
use Rattle.c_words.specs.Record.{Bytes}
use Rattle.c_words.specs.Writing.{CallLeft, begin_call, tree_call, lines_call, symbol_call, clamped_call, LeftFile, serialize_call}
use Rattle.c_demand3.specs.Walks.{FoundByCalls}

abbrev pub of_left : CallLeft → Outcome (List ℕ)
of_left o = outcome o.code o.words o.memory

-- what each call leaves. A write leaves the record and the tables as they were; its number is the same whatever words are lent for the length
abbrev pub exported : Call → List ℕ → Memory → Outcome (List ℕ)
exported (tree k s) r m = of_left (tree_call r m s k)
exported (lines_tree f64 f32 ls t s u v) r m = of_left (lines_call r m s u v (line_columns f64 f32 ls t)).tree
exported (symbol t address size name) r m = of_left (symbol_call r m t address size name)
exported (write output) r m = outcome (serialize_call r m output []).code r m

abbrev pub exported_beginning : List ℕ → List ℕ → ℕ → ℕ → ℕ → Memory → Standing (List ℕ)
exported_beginning r id arch f s m = let o = begin_call r id arch f s m in none_counted o.words o.memory

-- ── The claim ──────────────────────────────────────────────────────────────────────────────────────────────────────────

-- what a write that answers 0 leaves, after a beginning with this debug id and arch number and after the counted calls gs: the output begins with the
-- file, and beyond it keeps its content; the word of the length, where one is lent, has its length. Reopened unchanged, the file is what demand 3 says
-- (`Reopened`), and the exported readers alone show it: at every address what the plain tables of the counted calls say, at most 42 frames (K7); where
-- the premises hold, at each address that a line of a root covers, the frames asked for; and, where the counted symbols are well too, at every address
-- in a symbol's extent its frame alone, and in no extent none (K13)
pub record FileLeft (id : List ℕ) (arch : ℕ) (X : Setup) (gs : List Given) (out l : List ℕ) (o : LeftFile) : Type 0 where
  pub file : List ℕ
  pub begins : o.output ≡ file ++ drop (length file) out
  pub room : length file ≤ length out
  pub len : o.len ≡ stored (length file ∷ []) l
  pub reopened : Reopened id arch X gs file
  pub every_address : (d : List ℕ) (x : ℕ) → FoundByCalls file d x (map (with_stand_in d) (frames_at (converted X gs) x))
  pub few_frames : (d : List ℕ) (x : ℕ) (vs : List Shown) → FoundByCalls file d x vs → length vs ≤ 42
  pub demanded : Premises gs → (q : FunctionRow) (rs : List FunctionRow) → tree_rows q rs ∈ gs
      → (n : LineRow) → n ∈ q.lines → (x : ℕ) → Covers (reach n) x → (d : List ℕ) → FoundByCalls file d x (asked X d x q rs)
  pub symbols_and_gaps : Premises gs → SymbolsWell gs → SymbolsAndGaps X gs (λ x fs. (d : List ℕ) → FoundByCalls file d x (map (with_stand_in d) fs))

-- for every record of twenty words or more, every debug id and arch, both switches, any lent lengths, any content before the beginning, every list of
-- calls, and every write in it that answers 0, whatever words it is lent for the length. The file's debug id is what the beginning stores: the first 32
-- bytes of the one lent, and 0 for each that is missing
abbrev pub ExportedDemand3 : Type 0
ExportedDemand3 =
    (r id : List ℕ) (arch f s : ℕ) (m : Memory) (calls : List Call)
    → 20 ≤ length r → Bytes id → arch ≤ MAX → ((k : Call) → k ∈ calls → Typed k)
    → (before after : List Call) (out l : List ℕ) → calls ≡ before ++ (write out ∷ after)
    → let x = run exported before (exported_beginning r id arch f s m) in
    let o = serialize_call x.carrier x.memory out l in
    o.code ≡ 0 → FileLeft (bytes_at 32 id 0) arch (record { functions_on = yes f; symbols_on = yes s }) x.counted out l o

-- K5: what `symcache_clamped_lines` answers after every list of exported calls, refused ones included: while word 19 of the record says that it is open
-- the count over the accepted trees since the beginning, at most 2^64 − 1; else 0
abbrev pub ExportedClamped : Type 0
ExportedClamped =
    (r id : List ℕ) (arch f s : ℕ) (m : Memory) (calls : List Call)
    → 20 ≤ length r → Bytes id
    → let x = run exported calls (exported_beginning r id arch f s m) in
    clamped_call x.carrier ≡ while_open (yes (get_or x.carrier 19 0)) (capped (clamped_calls x.counted))
