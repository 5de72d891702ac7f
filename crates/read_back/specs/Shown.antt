-- WHAT A READER SHOWS at an address: the answers of `lookup` and `next`, each frame with its texts as `function_name`, `get_string` and `read_string`
-- read them.
-- All in the very definitions that the contracts of these functions cite.
use Rattle.std.specs.Prelude.{ℕ, ◌≡◌, List, [], ◌∷◌, map, take, drop}
use Rattle.std.proofs.Math.Option.{Option, none, some}
use Rattle.lookup.specs.declared.SourceLocations.{SourceLocations}
use Rattle.raw.specs.declared.File.{File}
use Rattle.lookup.specs.declared.Frame.{Frame}
use Rattle.std.specs.Prelude as rust
use Rattle.symcache.specs.Answers.{Answer, gives, refuses}
use Rattle.lookup.specs.Lookup.{looked_up_lem, stepped}
use Rattle.file_texts.specs.declared.Part.{Part}
use Rattle.file_texts.specs.Strings.{got_string, string_of, name_of}
use Rattle.model.specs.Rows.{Text}
use Rattle.model.specs.Converter.{Six}
use Rattle.model.specs.Frames as plain

-- the part of the file that `read_string` tells of
abbrev pub part_of : List ℕ → Answer (Option Part) → Option Text
part_of s (gives none) = none
part_of s (gives (some p)) = some (take p.len (drop p.start s))
part_of s (refuses r) = none

abbrev pub text_shown : List ℕ → ℕ → Option Text
text_shown s offset = part_of s (got_string s offset)

-- a file's six texts. Where its name is absent it is empty (document 01 "Lookup"), as `get_string` gives it; each of the others is a text or absent
pub record ShownFile : Type 0 where
  pub name : Text
  pub directory : Option Text
  pub comp_dir : Option Text
  pub srcsrv_name : Option Text
  pub srcsrv_dir : Option Text
  pub revision : Option Text

abbrev pub file_shown : List ℕ → rust.Option File → Option ShownFile
file_shown s rust.None = none
file_shown s (rust.Some f) = some (record {
  name = string_of s f.name_offset;
  directory = text_shown s f.directory_offset;
  comp_dir = text_shown s f.comp_dir_offset;
  srcsrv_name = text_shown s f.srcsrv_name_offset;
  srcsrv_dir = text_shown s f.srcsrv_dir_offset;
  revision = text_shown s f.srcsrv_revision_offset;
})

pub record Shown : Type 0 where
  pub name : Text
  pub entry : ℕ
  pub language : ℕ
  pub number : ℕ
  pub file : Option ShownFile

-- a frame of the file s, with d for the stand-in
abbrev pub shown : List ℕ → List ℕ → Frame → Shown
shown s d f = record { name = name_of s d f.function_idx; entry = f.entry_pc; language = f.language; number = f.line; file = file_shown s f.file }

-- the same of a plain frame: the stand-in where it has no name
abbrev pub name_or : List ℕ → Option Text → Text
name_or d none = d
name_or d (some t) = t

-- and of its file: the empty name where that has none
abbrev pub with_empty_name : Option (Six (Option Text)) → Option ShownFile
with_empty_name none = none
with_empty_name (some x) = some (record {
  name = name_or [] x.name;
  directory = x.directory;
  comp_dir = x.comp_dir;
  srcsrv_name = x.srcsrv_name;
  srcsrv_dir = x.srcsrv_dir;
  revision = x.revision;
})

abbrev pub with_stand_in : List ℕ → plain.Frame → Shown
with_stand_in d f = record {
  name = name_or d f.name;
  entry = f.entry;
  language = f.language;
  number = f.number;
  file = with_empty_name f.file;
}

-- `next` on the file s from the cursor k on gives these frames one by one, and then the end; no call refuses
pub data Walked (s : List ℕ) : SourceLocations → List Frame → Type 0 where
  ends : {k : SourceLocations} → stepped s k ≡ gives none → Walked s k []
  goes : {k n : SourceLocations} {f : Frame} {fs : List Frame} → stepped s k ≡ gives (some (record { frame = f; next = n }))
      → Walked s n fs → Walked s k (f ∷ fs)

-- looking up x in the file s and iterating `next` shows exactly vs
pub record Found (s d : List ℕ) (x : ℕ) (vs : List Shown) : Type 0 where
  pub cursor : SourceLocations
  pub looked : looked_up_lem s x ≡ gives cursor
  pub frames : List Frame
  pub walked : Walked s cursor frames
  pub shows : map (shown s d) frames ≡ vs
