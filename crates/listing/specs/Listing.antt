-- THE LISTING: the whole output of the lister for a file and an input, as document 01 "Lister" says it.
use Rattle.std.specs.Prelude.{ℕ, Some, None, Ok, Err, ◌+◌, List, [], ◌∷◌, ◌++◌}
use Rattle.symcache.specs.declared.SymCache.{SymCache}
use Rattle.symcache.specs.Answers.{Answer, gives, refuses}
use Rattle.symcache.specs.Reader.{opened}
use Rattle.lookup.specs.declared.Frame.{Frame}
use Rattle.lookup.specs.Lookup.{belongs_to, walk_tested, frames_in}
use Rattle.input_lines.specs.Line.{Got}
use Rattle.input_lines.specs.Input.{input_says}
use Rattle.printed_lines.specs.Printed.{frame_line_lem, no_frame_line, bad_line, refused_line}

-- cache.sym: its bytes, none of them where it can't be opened; or the mark that it has more than 65,536
pub data Loaded : Type 0 where
  loaded : List ℕ → Loaded
  too_long : Loaded

-- the frames that a lookup gives in an opened file, and `next` after it
unfoldable pub frames_of : List ℕ → SymCache → ℕ → List Frame
frames_of file c a = frames_in file c c.num_source_locations (walk_tested file c (belongs_to file c a))

-- "one frame a line ..: address, frame number from 0, location, function, line, file"
unfoldable pub frame_lines : ℕ → ℕ → List Frame → List ℕ
frame_lines a n [] = []
frame_lines a n (f ∷ fs) = frame_line_lem a n f.location_idx f.function_idx f.line f.file_idx ++ frame_lines a (n + 1) fs

-- "No frame: address, FFFFFFFF"
unfoldable pub address_lines : ℕ → List Frame → List ℕ
address_lines a [] = no_frame_line a
address_lines a (f ∷ fs) = frame_lines a 0 (f ∷ fs)

-- what a line of the input prints. Each address is looked up as it is read
unfoldable pub line_prints : List ℕ → SymCache → Got → List ℕ
line_prints file c (Some (Ok a)) = address_lines a (frames_of file c a)
line_prints file c (Some (Err b)) = bad_line b.0
line_prints file c None = []

unfoldable pub lines_print : List ℕ → SymCache → List Got → List ℕ
lines_print file c [] = []
lines_print file c (g ∷ gs) = line_prints file c g ++ lines_print file c gs

-- "Refused file: REFUSED and the number .., nothing else"
unfoldable pub file_prints : List ℕ → List Got → Answer SymCache → List ℕ
file_prints file gs (gives c) = lines_print file c gs
file_prints file gs (refuses r) = refused_line r.number

-- "20 file above 65,536 bytes, before 1"; "12 is tested even without input"
unfoldable pub listing_of : Loaded → List ℕ → List ℕ
listing_of too_long input = refused_line 20
listing_of (loaded file) input = file_prints file (input_says input) (opened file)
