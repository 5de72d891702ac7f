-- DEMAND 3: what every reopened file shows. One claim about a whole list of calls after one beginning, in any order, refused ones included.
-- The steps of the list are the definitions that the contracts of `begin`, `process_symbolic_function`, `process_symbolic_symbol` and `serialize` cite,
-- and the exported call over a list of line rows (Calls, Lists; serialize's File); and a file is read by those that `parse`, `open`, `lookup`, `next`,
-- `function_name`, `get_string` and `read_string` cite (read_back's Shown). The premises are document 01's words, on the rows as they were given.
use Rattle.std.specs.Prelude.{◌≡◌, Bool, true, false, List, [], ◌∷◌, ◌++◌, map, reverse, ℕ, ◌≤◌, length, take}
use Rattle.model.specs.Basics.{◌∈◌, Covers, items, depths, upto}
use Rattle.model.specs.Rows.{MAX, LineRow, FunctionRow, Given, tree_rows, symbol_row}
use Rattle.model.specs.Converter.{Setup, converted}
use Rattle.model.specs.Frames.{frames_at}
use Rattle.model.specs.Premises.{reach, RowsWell, AllSeparate, nested_at, stack_of}
use Rattle.model.specs.Gaps.{SymbolsWell, SymbolsAndGaps}
use Rattle.model.specs.Written.{as_written}
use Rattle.model.specs.FileWords.{Sections, sections}
use Rattle.symcache.specs.declared.SymCache.{SymCache}
use Rattle.symcache.specs.Answers.{gives}
use Rattle.symcache.specs.Reader.{layout_of, parsed, opened}
use Rattle.lookup.specs.declared.SourceLocations.{SourceLocations}
use Rattle.lookup.specs.declared.Frame.{Frame}
use Rattle.lookup.specs.Lookup.{looked_up_lem}
use Rattle.read_back.specs.Bytes.{sections_header, file_bytes}
use Rattle.read_back.specs.Shown.{Shown, with_stand_in, Walked, Found}
use Rattle.read_back.specs.Ends.{Handed, EndsByRule}
use Rattle.memory.specs.Memory.{Memory}
use Rattle.serialize.specs.File.{Wrote, serialize_of}
use Rattle.demand3.specs.Lists.{Call, write, run, by_value, beginning, Typed}

-- ── The premises, about the counted calls alone ────────────────────────────────────────────────────────────────────────

-- "Well nested": "The root alone isn't inline"; of every row its size, its extent, its lines and its inlinees' lines as model's `RowsWell` says.
-- The depths are not assumed: 13 leaves none but a tree's
abbrev pub Nested : Given → Type 0
Nested (tree_rows q rs) = (q.inline ≡ false) × ((r : FunctionRow) → r ∈ rs → r.inline ≡ true) × RowsWell (q ∷ rs)
Nested (symbol_row y) = Unit {0}

-- "roots don't overlap, no symbol starts or ends inside one, every tree is well nested"
pub record Premises (gs : List Given) : Type 0 where
  pub nested : (g : Given) → g ∈ gs → Nested g
  pub separate : AllSeparate gs

-- ── What is asked for ──────────────────────────────────────────────────────────────────────────────────────────────────

-- one frame for each row of the tree with a line covering x, "innermost first": with its name (undecorated where that is on, or the stand-in d),
-- entry, language, number and file, whose name is the covering line's own, empty where it is empty
abbrev pub asked : Setup → List ℕ → ℕ → FunctionRow → List FunctionRow → List Shown
asked X d x q rs = map (with_stand_in d) (reverse (items (nested_at X x (q ∷ rs))))

-- at an address x that a line of the root q covers: looking it up and iterating `next` shows these frames and then ends; their depths are
-- 0, 1, 2, .. from the root on; by recursion on the tree they are the same; and no row of another counted tree has a line covering x
pub record Shows (X : Setup) (gs : List Given) (file : List ℕ) (q : FunctionRow) (rs : List FunctionRow) (x : ℕ) : Type 0 where
  pub frames : (d : List ℕ) → Found file d x (asked X d x q rs)
  pub one_a_depth : let found = nested_at X x (q ∷ rs) in depths found ≡ upto 0 (length found)
  pub by_recursion : reverse (items (nested_at X x (q ∷ rs))) ≡ stack_of X x 0 (q ∷ rs)
  pub alone : (before after : List Given) → gs ≡ before ++ (tree_rows q rs ∷ after)
      → (p : FunctionRow) (ps : List FunctionRow) → tree_rows p ps ∈ (before ++ after) → nested_at X x (p ∷ ps) ≡ []

-- the sections of a file: the rows and texts of the plain tables of the counted calls
abbrev pub plain_sections : Setup → List Given → Sections
plain_sections X gs = sections (as_written (converted X gs))

-- where they lie in the file, and how many rows each has
abbrev pub plain_layout : List ℕ → ℕ → Setup → List Given → SymCache
plain_layout id arch X gs = layout_of (sections_header id arch (plain_sections X gs))

-- a file, written after a beginning with this debug id and arch number, and after the counted calls gs:
-- `laid_out`: as document 01's Rows and Writer say, with the true counts in the header, its bytes are those of the plain tables of the counted calls;
-- `parses`, `opens`: as Reader says, `parse` and `open` answer 0, with these tables;
-- `every_address`: as Lookup says, every lookup answers 0, at every address, and shows what the plain tables of the counted calls say;
-- `ends_by_rule`: at every cursor that `lookup` and `next` hand out, `next` is at the end exactly where "The walk ends at MAX, outside the table, or at
-- an index already met" says so;
-- `few_frames`: K7, a lookup at any address, walked to its end, gives at most 42 frames;
-- `demanded`: where the premises hold, demand 3;
-- `symbols_and_gaps`: K13, where they hold and the counted symbols are well, at every address in a symbol's extent its frame alone, and in no extent none
pub record Reopened (id : List ℕ) (arch : ℕ) (X : Setup) (gs : List Given) (file : List ℕ) : Type 0 where
  pub laid_out : file ≡ file_bytes id arch (plain_sections X gs)
  pub parses : parsed file ≡ gives (plain_layout id arch X gs)
  pub opens : opened file ≡ gives (plain_layout id arch X gs)
  pub every_address : (d : List ℕ) (x : ℕ) → Found file d x (map (with_stand_in d) (frames_at (converted X gs) x))
  pub ends_by_rule : (fs : List Frame) (k : SourceLocations) → Handed file fs k → EndsByRule file fs k
  pub few_frames : (x : ℕ) (k : SourceLocations) (fs : List Frame) → looked_up_lem file x ≡ gives k → Walked file k fs → length fs ≤ 42
  pub demanded : Premises gs → (q : FunctionRow) (rs : List FunctionRow) → tree_rows q rs ∈ gs
      → (n : LineRow) → n ∈ q.lines → (x : ℕ) → Covers (reach n) x → Shows X gs file q rs x
  pub symbols_and_gaps : Premises gs → SymbolsWell gs → SymbolsAndGaps X gs (λ x fs. (d : List ℕ) → Found file d x (map (with_stand_in d) fs))

-- ── The claim ──────────────────────────────────────────────────────────────────────────────────────────────────────────

-- the bytes of the file that was written
abbrev pub file_written : Wrote → List ℕ
file_written o = take o.len o.output

-- For every beginning (a debug id of 32 bytes, an arch number of 32 bits, both switches, any lent lengths, any content before it), every list of
-- calls, every write in it, at any place, that answers 0
abbrev pub Demand3 : Type 0
Demand3 =
    (id : List ℕ) (arch : ℕ) (f s : Bool) (m : Memory) (calls : List Call)
    → length id ≡ 32 → arch ≤ MAX → ((k : Call) → k ∈ calls → Typed k)
    → (before after : List Call) (out : List ℕ) → calls ≡ before ++ (write out ∷ after)
    → let r = run by_value before (beginning id arch f s m) in
    let o = serialize_of r.carrier r.memory out in
    o.code ≡ 0 → Reopened id arch (record { functions_on = f; symbols_on = s }) r.counted (file_written o)
