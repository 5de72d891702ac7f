-- THE PLAIN CONVERTER: document 01's "Converter" over lists of rows, with no index, no capacity and no words. References are `Option`s: `none` stands for
-- the MAX that the file has. The loops are those of `Machine`; here is what they do to the tables.
use Rattle.std.specs.Prelude.{Bool, true, false, cond, ◌&&◌, List, [], ◌∷◌, map, ℕ, eqb}
use Rattle.std.proofs.Math.Option.{Option, none, some}
use Rattle.text.specs.Utf8.{utf8}
use Rattle.names.specs.Names.{undecorated}
use Rattle.model.specs.Basics.{Deep, Entry, intern}
use Rattle.model.specs.Rows.{MAX, cut32, Text, LineRow, FunctionRow, SymbolRow, Given, tree_rows, symbol_row}
use Rattle.model.specs.Rows.{function_end, skipped, boundaries, symbol_skipped, symbol_end}
use Rattle.model.specs.Machine.{Input, Machine, OpM, tree_m, symbol_m, run_m}

-- ── What the loops read of the rows ──

abbrev pub input : Input FunctionRow LineRow SymbolRow
input = record {
  entry = λ q. q.address;
  stop = function_end;
  skipped = skipped;
  inline = λ q. q.inline;
  lines = λ q. q.lines;
  span = boundaries;
  cut = λ n. cut32 n.address;  -- "Following lines whose address, cut to 32 bits (not clamped), is below it are skipped"
  sym_skipped = symbol_skipped;
  sym_addr = λ y. y.address;
  sym_end = symbol_end;
}

abbrev pub deep : FunctionRow → Deep FunctionRow
deep q = record { depth = q.depth; item = q }

abbrev pub op : Given → OpM FunctionRow SymbolRow
op (tree_rows q rs) = tree_m q (map deep rs)
op (symbol_row y) = symbol_m y

-- how the converter was begun, as far as it matters to the tables: whether names are undecorated, "functions and symbols separately"
pub record Setup : Type 0 where
  pub functions_on : Bool
  pub symbols_on : Bool

-- the six of a file: its texts, their references, or what is read at these
pub record Six (A : Type 0) : Type 0 where
  pub name : A
  pub directory : A
  pub comp_dir : A
  pub srcsrv_name : A
  pub srcsrv_dir : A
  pub revision : A

-- ── The tables ─────────────────────────────────────────────────────────────────────────────────────────────────────────

abbrev pub File : Type 0
File = Six (Option ℕ)

pub record Function : Type 0 where
  pub name : Option ℕ
  pub entry : ℕ  -- MAX for an inlinee, and for a function at MAX: the file can't tell them apart
  pub language : ℕ

-- the empty mapping; or file, line number, function, and the call location it is inlined into
pub data Location : Type 0 where
  nowhere : Location
  at : Option ℕ → ℕ → ℕ → Option ℕ → Location

pub record Tables : Type 0 where
  pub texts : List Text  -- each once, none of them empty; a reference is a place in the list
  pub files : List File
  pub functions : List Function
  pub calls : List Location
  pub ranges : List (Entry Location)  -- in order of insertion

abbrev pub nothing : Tables
nothing = record { texts = []; files = []; functions = []; calls = []; ranges = [] }

-- ── Equality tests ─────────────────────────────────────────────────────────────────────────────────────────────────────

abbrev pub opt_eq : Option ℕ → Option ℕ → Bool
opt_eq none none = true
opt_eq none (some j) = false
opt_eq (some i) none = false
opt_eq (some i) (some j) = eqb i j

abbrev pub text_eq : Text → Text → Bool
text_eq [] [] = true
text_eq [] (b ∷ t) = false
text_eq (a ∷ s) [] = false
text_eq (a ∷ s) (b ∷ t) = eqb a b && text_eq s t

abbrev pub file_eq : File → File → Bool
file_eq x y =
    opt_eq x.name y.name
    && opt_eq x.directory y.directory
    && opt_eq x.comp_dir y.comp_dir
    && opt_eq x.srcsrv_name y.srcsrv_name
    && opt_eq x.srcsrv_dir y.srcsrv_dir
    && opt_eq x.revision y.revision

abbrev pub function_eq : Function → Function → Bool
function_eq x y = opt_eq x.name y.name && eqb x.entry y.entry && eqb x.language y.language

abbrev pub location_eq : Location → Location → Bool
location_eq nowhere nowhere = true
location_eq nowhere (at g o j b) = false
location_eq (at f n i a) nowhere = false
location_eq (at f n i a) (at g o j b) = opt_eq f g && eqb n o && eqb i j && opt_eq a b

abbrev pub is_nowhere : Location → Bool
is_nowhere nowhere = true
is_nowhere (at f n i a) = false

-- ── Texts ──────────────────────────────────────────────────────────────────────────────────────────────────────────────

pub record Stored (A : Type 0) : Type 0 where
  pub ref : A
  pub table : List Text

-- "A text is stored once"; "an empty text takes offset MAX and reads as absent"
unfoldable pub intern_text : List Text → Text → Stored (Option ℕ)
intern_text ts [] = record { ref = none; table = ts }
intern_text ts (b ∷ t) = let r = intern text_eq ts (b ∷ t) in record { ref = some r.index; table = r.table }

-- "Texts are stored name, directory, compilation directory, srcsrv name, srcsrv directory, revision"
unfoldable pub intern_six : List Text → Six Text → Stored File
intern_six ts x =
    let a = intern_text ts x.name in
    let b = intern_text a.table x.directory in
    let c = intern_text b.table x.comp_dir in
    let d = intern_text c.table x.srcsrv_name in
    let e = intern_text d.table x.srcsrv_dir in
    let f = intern_text e.table x.revision in
    record {
      ref = record { name = a.ref; directory = b.ref; comp_dir = c.ref; srcsrv_name = d.ref; srcsrv_dir = e.ref; revision = f.ref };
      table = f.table;
    }

-- an absent text and an empty one are one value before anything is stored
abbrev pub or_empty : Option Text → Text
or_empty none = []
or_empty (some t) = t

module _ (X : Setup) where
  abbrev pub function_name : FunctionRow → Text
  function_name q = cond X.functions_on (undecorated q.name) q.name

  abbrev pub symbol_name : SymbolRow → Text
  symbol_name y = cond X.symbols_on (undecorated (or_empty y.name)) (or_empty y.name)

-- "A compilation directory that isn't UTF-8 is absent"
abbrev pub directory_of : FunctionRow → Text
directory_of q = cond (utf8 q.comp_dir) q.comp_dir []

-- the six texts of a line of the row q
abbrev pub line_texts : FunctionRow → LineRow → Six Text
line_texts q n = record {
  name = n.name;
  directory = n.directory;
  comp_dir = directory_of q;
  srcsrv_name = or_empty n.srcsrv_name;
  srcsrv_dir = or_empty n.srcsrv_dir;
  revision = or_empty n.revision;
}

abbrev pub entry_of : FunctionRow → ℕ
entry_of q = cond q.inline MAX q.address

-- ── Ranges ─────────────────────────────────────────────────────────────────────────────────────────────────────────────

module _ {L : Type 0} where
  unfoldable pub range_at : List (Entry L) → ℕ → Option L
  range_at [] k = none
  range_at (e ∷ es) k = cond (eqb k e.key) (some e.value) (range_at es k)

  -- the last one put wins, and keeps the place of the first
  unfoldable pub range_put : ℕ → L → List (Entry L) → List (Entry L)
  range_put k l [] = record { key = k; value = l } ∷ []
  range_put k l (e ∷ es) = cond (eqb k e.key) (record { key = k; value = l } ∷ es) (e ∷ range_put k l es)

-- ── What the loops do to the tables ────────────────────────────────────────────────────────────────────────────────────

abbrev pub put_at_lem : ℕ → Location → Tables → Tables
put_at_lem k l s = record { texts = s.texts; files = s.files; functions = s.functions; calls = s.calls; ranges = range_put k l s.ranges }

-- a function row
abbrev pub enter_function : List Text → Function → Tables → ℕ × Tables
enter_function ts f s =
    let i = intern function_eq s.functions f in
    (i.index, record { texts = ts; files = s.files; functions = i.table; calls = s.calls; ranges = s.ranges })

-- a line's texts, its file, and its location; "Line numbers too" are cut
unfoldable pub locate_line : FunctionRow → ℕ → LineRow → Option ℕ → Tables → Location × Tables
locate_line q r n c s =
    let t = intern_six s.texts (line_texts q n) in
    let i = intern file_eq s.files t.ref in
    let u : Tables = record { texts = t.table; files = i.table; functions = s.functions; calls = s.calls; ranges = s.ranges } in
    (at (some i.index) (cut32 n.number) r c, u)

-- a call location
unfoldable pub enter_call : Location → Tables → Option ℕ × Tables
enter_call l s =
    let i = intern location_eq s.calls l in
    (some i.index, record { texts = s.texts; files = s.files; functions = s.functions; calls = i.table; ranges = s.ranges })

-- a symbol's function, of language MAX, and its location
unfoldable pub locate_symbol : SymbolRow → Option ℕ → Tables → Location × Tables
locate_symbol y p s = let f = enter_function s.texts (record { name = p; entry = y.address; language = MAX }) s in (at none 0 f.0 none, f.1)

module _ (X : Setup) where
  -- a row's name, and its function
  unfoldable pub begin_row : FunctionRow → Tables → ℕ × Tables
  begin_row q s =
      let t = intern_text s.texts (function_name X q) in
      enter_function t.table (record { name = t.ref; entry = entry_of q; language = q.language }) s

  -- a symbol's name: stored even where its location is not
  unfoldable pub begin_symbol : SymbolRow → Tables → Option ℕ × Tables
  begin_symbol y s =
      let t = intern_text s.texts (symbol_name X y) in
      (t.ref, record { texts = t.table; files = s.files; functions = s.functions; calls = s.calls; ranges = s.ranges })

  abbrev pub plain : Machine FunctionRow LineRow SymbolRow ℕ (Option ℕ) Location (Option ℕ) Tables
  plain = record {
    get = λ s. range_at s.ranges;
    put = put_at_lem;
    begin = begin_row;
    locate = locate_line;
    enter = enter_call;
    bare = λ q r. at none 0 r none;
    none_loc = nowhere;
    is_none = is_nowhere;
    base = none;
    sym_begin = begin_symbol;
    sym_locate = locate_symbol;
  }

  -- the tables after a list of accepted calls
  abbrev pub converted : List Given → Tables
  converted gs = run_m input plain (map op gs) nothing
