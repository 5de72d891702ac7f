-- What the plain tables say of an address: the frames of the range with the greatest start at most it.
use Rattle.std.specs.Prelude.{true, false, cond, List, [], ◌∷◌, ℕ, zero, suc, length, get_or, ltb, leb}
use Rattle.std.proofs.Math.Option.{Option, none, some}
use Rattle.std.proofs.Math.ListN.{get_elem?}
use Rattle.model.specs.Basics.{Entry}
use Rattle.model.specs.Rows.{MAX, Text}
use Rattle.model.specs.Converter.{Six, File, Function, Location, nowhere, at, is_nowhere, Tables}

pub record Frame : Type 0 where
  pub name : Option Text
  pub entry : ℕ
  pub language : ℕ
  pub number : ℕ
  pub file : Option (Six (Option Text))

abbrev pub read : List Text → Option ℕ → Option Text
read ts none = none
read ts (some i) = get_elem? ts i

abbrev pub read_six : List Text → File → Six (Option Text)
read_six ts x = record {
  name = read ts x.name;
  directory = read ts x.directory;
  comp_dir = read ts x.comp_dir;
  srcsrv_name = read ts x.srcsrv_name;
  srcsrv_dir = read ts x.srcsrv_dir;
  revision = read ts x.revision;
}

abbrev pub file_at : Tables → Option ℕ → Option (Six (Option Text))
file_at s none = none
file_at s (some i) = elim (get_elem? s.files i) [ none ↦ none | some x ↦ some (read_six s.texts x) ]

-- "A function outside the table has the stand-in, entry MAX and language MAX"
abbrev pub function_at : Tables → ℕ → Function
function_at s i = get_or s.functions i (record { name = none; entry = MAX; language = MAX })

abbrev pub frame_of : Tables → Location → Frame
frame_of s nowhere = record { name = none; entry = MAX; language = MAX; number = MAX; file = none }
frame_of s (at f n i c) = record {
  name = read s.texts (function_at s i).name;
  entry = (function_at s i).entry;
  language = (function_at s i).language;
  number = n;
  file = file_at s f;
}

abbrev pub caller_of : Location → Option ℕ
caller_of nowhere = none
caller_of (at f n i c) = c

unfoldable pub callers : ℕ → Tables → Option ℕ → List Frame
callers zero s c = []
callers (suc k) s none = []
callers (suc k) s (some i) = elim (get_elem? s.calls i) [ none ↦ [] | some l ↦ frame_of s l ∷ callers k s (caller_of l) ]

-- "Only the first location is tested for the empty mapping". No chain is longer than the table of call locations
unfoldable pub frames_of : Tables → Location → List Frame
frames_of s l = cond (is_nowhere l) [] (frame_of s l ∷ callers (length s.calls) s (caller_of l))

-- the range with the greatest start at most x
module _ {L : Type 0} where
  unfoldable pub better : ℕ → Entry L → Option (Entry L) → Option (Entry L)
  better x e none = cond (leb e.key x) (some e) none
  better x e (some d) = cond (leb e.key x) (cond (leb d.key e.key) (some e) (some d)) (some d)

  unfoldable pub best : List (Entry L) → ℕ → Option (Entry L)
  best [] x = none
  best (e ∷ es) x = better x e (best es x)

-- an address above MAX gives none
unfoldable pub frames_at : Tables → ℕ → List Frame
frames_at s x = elim (ltb MAX x) [ true ↦ [] | false ↦ elim (best s.ranges x) [ none ↦ [] | some e ↦ frames_of s e.value ] ]

-- what is read of a text that was stored: "an empty text takes offset MAX and reads as absent"
abbrev pub known : Text → Option Text
known [] = none
known (b ∷ t) = some (b ∷ t)

abbrev pub known_six : Six Text → Six (Option Text)
known_six x = record {
  name = known x.name;
  directory = known x.directory;
  comp_dir = known x.comp_dir;
  srcsrv_name = known x.srcsrv_name;
  srcsrv_dir = known x.srcsrv_dir;
  revision = known x.revision;
}
