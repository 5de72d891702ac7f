-- A LISTING UNDER WAY: what each call does to it. That what is printed is the listing, however input and output are cut: Cut.
use Rattle.std.specs.Prelude.{ℕ, zero, suc, ◌+◌, ◌-◌, List, [], ◌∷◌, Bool, true, false, cond, leb, eqb, length, Result, Ok, Err, Some, None}
use Rattle.std.proofs.Math.Option.{Option, none, some}
use Rattle.std.proofs.lemmas.List.Edits.{sets}
use Rattle.symcache.specs.declared.SymCache.{SymCache}
use Rattle.symcache.specs.Answers.{Refusal, only, refusal_of, Answer, gives, refuses}
use Rattle.symcache.specs.Reader.{parsed, opened}
use Rattle.lookup.specs.declared.SourceLocations.{SourceLocations}
use Rattle.lookup.specs.declared.Frame.{Frame}
use Rattle.lookup.specs.Answers.{Framed}
use Rattle.lookup.specs.Lookup.{walk_at_lem, stepped}
use Rattle.input_lines.specs.declared.Input.{Input}
use Rattle.input_lines.specs.Line.{Got}
use Rattle.input_lines.specs.Input.{input_start, fed, whole_line, at_end}
use Rattle.printed_lines.specs.Printed.{frame_line_lem, no_frame_line, bad_line, WroteLine, put_line}
use Rattle.listing.specs.declared.Waiting.{Waiting}
use Rattle.listing.specs.declared.Waiting.TheVariants as waiting
use Rattle.listing.specs.declared.Listing.{Listing}
use Rattle.listing.specs.declared.Refused.{Refused}
use Rattle.listing.specs.declared.Refused.TheVariants as refused

-- ── A beginning ──

unfoldable pub listing_start : SymCache → Listing
listing_start c = record { cache = c; input = input_start; waiting = waiting.Nothing }

-- the number, and the counts of 10, of each case
abbrev pub refused_of : Refused → Refusal
refused_of refused.TooLong = only 20
refused_of (refused.File k) = refusal_of k

abbrev pub begin_answer : Result Listing Refused → Answer Listing
begin_answer (Ok l) = gives l
begin_answer (Err r) = refuses (refused_of r)

unfoldable pub begun_by : Answer SymCache → Answer Listing
begun_by (gives c) = gives (listing_start c)
begun_by (refuses r) = refuses r

unfoldable pub begun_of : List ℕ → Bool → Answer Listing
begun_of file too_long = cond too_long (refuses (only 20)) (begun_by (opened file))

-- ── What waits ──

unfoldable pub waits? : Waiting → Bool
waits? waiting.Nothing = false
waits? (waiting.Bad n) = true
waits? (waiting.Frames a k) = true

-- what a line of the input leaves to print
unfoldable pub waiting_for : List ℕ → SymCache → Got → Waiting
waiting_for file c (Some (Ok a)) = waiting.Frames a (walk_at_lem file c a)
waiting_for file c (Some (Err b)) = waiting.Bad b.0
waiting_for file c None = waiting.Nothing

-- how many frames a walk can have at most: as many as there are locations
unfoldable pub count_in : Answer SymCache → ℕ
count_in (gives c) = c.num_source_locations
count_in (refuses r) = 0

unfoldable pub frame_in : Answer (Option Framed) → Option Framed
frame_in (gives o) = o
frame_in (refuses r) = none

-- the frames from a cursor on, at most n of them, each with the cursor after it
unfoldable pub walked : List ℕ → ℕ → SourceLocations → List Framed
walked file zero k = []
walked file (suc n) k = elim (frame_in (stepped file k)) [ none ↦ [] | some t ↦ t ∷ walked file n t.next ]

abbrev pub frames_left : List ℕ → SourceLocations → List Framed
frames_left file k = walked file (count_in (parsed file) - k.steps) k

-- a line to print, and what waits after it
pub record Turn : Type 0 where
  pub line : List ℕ
  pub after : Waiting

abbrev pub turn : List ℕ → Waiting → Turn
turn l w = record { line = l; after = w }

abbrev pub frame_line : ℕ → ℕ → Frame → List ℕ
frame_line a n f = frame_line_lem a n f.location_idx f.function_idx f.line f.file_idx

-- the number of a frame is that of the steps before it. A walk that ends before its first step has no frame
unfoldable pub frame_turns : ℕ → SourceLocations → List Framed → List Turn
frame_turns a k [] = cond (eqb k.steps 0) (turn (no_frame_line a) waiting.Nothing ∷ []) []
frame_turns a k (t ∷ ts) = turn (frame_line a k.steps t.frame) (waiting.Frames a t.next) ∷ frame_turns a t.next ts

unfoldable pub turns : List ℕ → Waiting → List Turn
turns file waiting.Nothing = []
turns file (waiting.Bad n) = turn (bad_line n) waiting.Nothing ∷ []
turns file (waiting.Frames a k) = frame_turns a k (frames_left file k)

-- ── Printing ──

-- what is left waiting, the place in the output after what was printed, and the output
pub record PrintedOut : Type 0 where
  pub waiting : Waiting
  pub at : ℕ
  pub out : List ℕ

abbrev pub printed_out : Waiting → ℕ → List ℕ → PrintedOut
printed_out w at out = record { waiting = w; at = at; out = out }

-- "a printed line fits into": a line is printed where the longest, of 62 bytes, has room
abbrev pub room? : List ℕ → ℕ → Bool
room? out at = leb (at + 62) (length out)

-- line by line, as long as there is room
unfoldable pub emitted : Waiting → List Turn → List ℕ → ℕ → PrintedOut
emitted w [] out at = cond (room? out at) (printed_out waiting.Nothing at out) (printed_out w at out)
emitted w (t ∷ ts) out at =
    cond (room? out at) (emitted t.after ts (sets out at t.line) (at + length t.line)) (printed_out w at out)

unfoldable pub print_of : List ℕ → Waiting → List ℕ → ℕ → PrintedOut
print_of file w out at = emitted w (turns file w) out at

-- a bad line alone
unfoldable pub bad_printed : ℕ → List ℕ → ℕ → PrintedOut
bad_printed n out at = emitted (waiting.Bad n) (turn (bad_line n) waiting.Nothing ∷ []) out at

-- what was printed last, after a line that was put
abbrev pub last_put : WroteLine → PrintedOut
last_put o = printed_out waiting.Nothing o.next o.out

-- the walk has ended after so many frames, and there is room
unfoldable pub no_more : ℕ → ℕ → List ℕ → ℕ → PrintedOut
no_more a n out at = cond (eqb n 0) (last_put (put_line out at (no_frame_line a))) (printed_out waiting.Nothing at out)

-- ── A call ──

-- the listing after a call, how many bytes of the input it used, how many of the output it wrote, and the output
pub record ListedOut : Type 0 where
  pub listing : Listing
  pub used : ℕ
  pub written : ℕ
  pub out : List ℕ

abbrev pub listed_out : Listing → ℕ → ℕ → List ℕ → ListedOut
listed_out l i n out = record { listing = l; used = i; written = n; out = out }

abbrev pub listed_to : SymCache → Input → PrintedOut → ℕ → ListedOut
listed_to c s p i = listed_out (record { cache = c; input = s; waiting = p.waiting }) i p.at p.out

-- with p printed, and these bytes of the piece left from place i on: a byte is taken where nothing waits any more; what a whole line leaves to print
-- is printed at once, as far as there is room
unfoldable pub list_from : List ℕ → SymCache → Input → PrintedOut → ℕ → List ℕ → ListedOut
list_from file c s p i [] = listed_to c s p i
list_from file c s p i (b ∷ bs) =
    cond (waits? p.waiting) (listed_to c s p i)
    (cond (eqb b 10)
    (list_from file c (whole_line s).input (print_of file (waiting_for file c (whole_line s).got) p.out p.at) (i + 1) bs)
    (list_from file c (fed s b) p (i + 1) bs))

-- a call: what waits is printed first, at the front of the output
unfoldable pub list_of : List ℕ → Listing → List ℕ → List ℕ → ListedOut
list_of file l piece out = list_from file l.cache l.input (print_of file l.waiting out 0) 0 piece

-- the input has ended: its last line, if it has no 0A, is taken where nothing waits any more
unfoldable pub end_of : List ℕ → Listing → Listing
end_of file l =
    cond (waits? l.waiting) l
    (record { cache = l.cache; input = (at_end l.input).input; waiting = waiting_for file l.cache (at_end l.input).got })
