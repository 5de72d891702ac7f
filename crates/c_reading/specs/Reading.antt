-- The exported calls of the reader and the lookup: what the calls of `symcache` answer (symcache's Answers, Reader, Lookup, Strings), as a number and
-- as words in the lent slices.
use Rattle.std.specs.Prelude.{ℕ, ◌%◌, cond, List, [], ◌∷◌, ◌++◌, eqb, ltb, length, take, drop, get_or}
use Rattle.std.proofs.Math.Option.{Option, none, some}
use Rattle.raw.specs.declared.File.{File}
use Rattle.raw.specs.declared.Function.{Function}
use Rattle.raw.specs.Rows.{max32, file_words_lem, function_words_lem}
use Rattle.symcache.specs.declared.SymCache.{SymCache}
use Rattle.lookup.specs.declared.SourceLocations.{SourceLocations}
use Rattle.lookup.specs.declared.Frame.{Frame}
use Rattle.std.specs.Prelude as rust
use Rattle.symcache.specs.Answers.{Answer, gives, refuses, Refusal, and_then}
use Rattle.lookup.specs.declared.NextFunction.{NextFunction}
use Rattle.lookup.specs.declared.NextFile.{NextFile}
use Rattle.lookup.specs.Answers.{Framed}
use Rattle.symcache.specs.Reader.{parsed, opened}
use Rattle.lookup.specs.Lookup.{found_at, walk_from_lem, walk_at_lem, looked_up_lem, stepped, got_file, got_function, functions_next, files_next}
use Rattle.file_texts.specs.declared.Part.{Part}
use Rattle.file_texts.specs.Strings.{got_string}
use Rattle.c_reading.specs.Stored.{stored}

-- ── What a call leaves ─────────────────────────────────────────────────────────────────────────────────────────────────

-- the number and the words of the lent slice
pub record Filled : Type 0 where
  pub code : ℕ
  pub slice : List ℕ

abbrev pub filled : ℕ → List ℕ → Filled
filled n t = record { code = n; slice = t }

-- the number and the words of the two lent slices
pub record Moved : Type 0 where
  pub code : ℕ
  pub cursor : List ℕ
  pub slice : List ℕ

abbrev pub moved : ℕ → List ℕ → List ℕ → Moved
moved n k t = record { code = n; cursor = k; slice = t }

-- an answer as its words; a refusal leaves the slice
unfoldable pub answered : {A : Type 0} → (A → List ℕ) → Answer A → List ℕ → Filled
answered words (gives a) t = filled 0 (stored (words a) t)
answered words (refuses r) t = filled r.number t

-- a row and where the reading goes on; "At the end only word 0 is stored and the cursor stays"; a refusal leaves both
unfoldable pub steps_to : {A : Type 0} → (A → List ℕ) → (A → List ℕ) → Answer (Option A) → List ℕ → List ℕ → Moved
steps_to next words (gives none) k t = moved 0 k (stored (0 ∷ []) t)
steps_to next words (gives (some a)) k t = moved 0 (stored (next a) k) (stored (words a) t)
steps_to next words (refuses r) k t = moved r.number k t

-- ── A file read ────────────────────────────────────────────────────────────────────────────────────────────────────────

-- "files offset, count, functions offset, count, source locations offset, count, ranges offset, count, strings offset, string bytes"
abbrev pub cache_words : SymCache → List ℕ
cache_words c =
    c.files ∷ c.num_files ∷ c.functions ∷ c.num_functions ∷ c.source_locations ∷ c.num_source_locations ∷ c.ranges ∷ c.num_ranges ∷ c.strings
    ∷ c.string_bytes ∷ []

-- "counts are the words cut to 32 bits"
abbrev pub count_at : List ℕ → ℕ → ℕ
count_at t j = get_or t j 0 % 4294967296

unfoldable pub cache_of : List ℕ → SymCache
cache_of t = record {
  files = get_or t 0 0;
  num_files = count_at t 1;
  functions = get_or t 2 0;
  num_functions = count_at t 3;
  source_locations = get_or t 4 0;
  num_source_locations = count_at t 5;
  ranges = get_or t 6 0;
  num_ranges = count_at t 7;
  strings = get_or t 8 0;
  string_bytes = count_at t 9;
}

-- "10: cache[0] expected, cache[1] found. Else untouched"
unfoldable pub refused : Refusal → List ℕ → Filled
refused r t = filled r.number (cond (eqb r.number 10) (stored (r.expected ∷ r.found ∷ []) t) t)

unfoldable pub cached : Answer SymCache → List ℕ → Filled
cached (gives c) t = filled 0 (stored (cache_words c) t)
cached (refuses r) t = refused r t

unfoldable pub parse_call : List ℕ → List ℕ → Filled
parse_call s t = cached (parsed s) t

unfoldable pub open_call : List ℕ → List ℕ → Filled
open_call s t = cached (opened s) t

-- ── Looking up ─────────────────────────────────────────────────────────────────────────────────────────────────────────

unfoldable pub find_call : List ℕ → List ℕ → ℕ → ℕ
find_call s t a = found_at s (cache_of t) a

abbrev pub walk_words : SourceLocations → List ℕ
walk_words k = k.first ∷ k.current ∷ k.steps ∷ []

-- "One of fewer than three words is a walk that has ended"
unfoldable pub walk_of : List ℕ → SourceLocations
walk_of k = cond (ltb (length k) 3) (walk_from_lem max32) (record { first = get_or k 0 0; current = get_or k 1 0; steps = get_or k 2 0 })

-- "Walk answers the index it begins at, or MAX"
unfoldable pub walk_call : List ℕ → List ℕ → ℕ → List ℕ → Filled
walk_call s t a k = filled (walk_at_lem s (cache_of t) a).current (stored (walk_words (walk_at_lem s (cache_of t) a)) k)

unfoldable pub lookup_call : List ℕ → ℕ → List ℕ → Filled
lookup_call s a k = answered walk_words (looked_up_lem s a) k

-- "0 kind (0 the end, 1 a frame without a file, 2 a frame with a file), 1 location, 2 function, 3 line, 4 file (as stored), 5 entry, 6 language"
abbrev pub head_words : ℕ → Frame → List ℕ
head_words kind f = kind ∷ f.location_idx ∷ f.function_idx ∷ f.line ∷ f.file_idx ∷ f.entry_pc ∷ f.language ∷ []

-- "7-12 the file's six text offsets in the row's order"; "without a file words 7-12 stay"
abbrev pub with_file : Frame → rust.Option File → List ℕ
with_file f rust.None = head_words 1 f
with_file f (rust.Some g) = head_words 2 f ++ file_words_lem g

abbrev pub frame_words : Frame → List ℕ
frame_words f = with_file f f.file

abbrev pub framed_words : Framed → List ℕ
framed_words x = frame_words x.frame

abbrev pub framed_next : Framed → List ℕ
framed_next x = walk_words x.next

unfoldable pub next_call : List ℕ → List ℕ → List ℕ → Moved
next_call s k t = steps_to framed_next framed_words (stepped s (walk_of k)) k t

-- ── Texts ──────────────────────────────────────────────────────────────────────────────────────────────────────────────

-- "0 whether present (0, 1), 1 start in the file, 2 length. Absent: only word 0 is stored"
abbrev pub part_words : Option Part → List ℕ
part_words none = 0 ∷ []
part_words (some p) = 1 ∷ p.start ∷ p.len ∷ []

unfoldable pub string_call : List ℕ → ℕ → List ℕ → Filled
string_call s offset t = answered part_words (got_string s offset) t

-- where the name of a function lies; none where the function or its name is absent
unfoldable pub name_after : List ℕ → Option Function → Answer (Option Part)
name_after s none = gives none
name_after s (some f) = got_string s f.name_offset

unfoldable pub got_name : List ℕ → ℕ → Answer (Option Part)
got_name s i = and_then (got_function s i) (name_after s)

unfoldable pub name_call : List ℕ → ℕ → List ℕ → Filled
name_call s i t = answered part_words (got_name s i) t

-- the text that the three words tell of, as a caller takes it: a part of the file, or none
unfoldable pub text_told : List ℕ → List ℕ → Option (List ℕ)
text_told s t = cond (eqb (get_or t 0 0) 0) none (some (take (get_or t 2 0) (drop (get_or t 1 0) s)))

-- ── Files and functions ────────────────────────────────────────────────────────────────────────────────────────────────

-- "0 whether there is one", then its words
abbrev pub row_answer_words : {A : Type 0} → (A → List ℕ) → Option A → List ℕ
row_answer_words words none = 0 ∷ []
row_answer_words words (some a) = 1 ∷ words a

abbrev pub function_answer_words : Option Function → List ℕ
function_answer_words o = row_answer_words function_words_lem o

abbrev pub file_answer_words : Option File → List ℕ
file_answer_words o = row_answer_words file_words_lem o

unfoldable pub function_call : List ℕ → ℕ → List ℕ → Filled
function_call s i t = answered function_answer_words (got_function s i) t

unfoldable pub file_call : List ℕ → ℕ → List ℕ → Filled
file_call s i t = answered file_answer_words (got_file s i) t

-- "the cursor is 1 word, the index from which on to look (0 at first; a cursor of no words is at the end)"
unfoldable pub cursor_index : List ℕ → ℕ
cursor_index k = cond (eqb (length k) 0) max32 (get_or k 0 0)

-- "0 whether there is one, 1 index, 2-5 the function or 2-7 the file"
abbrev pub next_function_words : NextFunction → List ℕ
next_function_words x = 1 ∷ x.index ∷ function_words_lem x.function

abbrev pub function_next : NextFunction → List ℕ
function_next x = x.next.function_idx ∷ []

unfoldable pub functions_call : List ℕ → List ℕ → List ℕ → Moved
functions_call s k t = steps_to function_next next_function_words (functions_next s (record { function_idx = cursor_index k })) k t

abbrev pub next_file_words : NextFile → List ℕ
next_file_words x = 1 ∷ x.index ∷ file_words_lem x.file

abbrev pub file_next : NextFile → List ℕ
file_next x = x.next.file_idx ∷ []

unfoldable pub files_call : List ℕ → List ℕ → List ℕ → Moved
files_call s k t = steps_to file_next next_file_words (files_next s (record { file_idx = cursor_index k })) k t
