-- LOOKING UP BY THE EXPORTED CALLS, as a program in C does it: by numbers and lent words alone. What read_back's `Found` says of `lookup`, `next`,
-- `function_name`, `get_string` and `read_string`, said of `symcache_lookup`, `symcache_open` with `symcache_walk`, `symcache_next`,
-- `symcache_function_name` and `symcache_read_string`. A cursor has three words, a frame 13, a text 3, a cache 10; or more of them, with any content.
use Rattle.std.specs.Prelude.{ℕ, ◌≤◌, ◌≡◌, List, [], ◌∷◌, length, get_or}
use Rattle.std.proofs.Math.Option.{Option, none, some}
use Rattle.model.specs.Rows.{Text}
use Rattle.read_back.specs.Shown.{ShownFile, Shown, name_or}
use Rattle.c_reading.specs.Reading.{Filled, open_call, walk_call, lookup_call, next_call, string_call, name_call, text_told}

-- ── Texts ──────────────────────────────────────────────────────────────────────────────────────────────────────────────

-- a read of a text in the file s answers 0, and the three words that it stores tell of t, or that there is none
abbrev pub Tells : List ℕ → (List ℕ → Filled) → Option Text → Type 0
Tells s read t = (p : List ℕ) → 3 ≤ length p → ((read p).code ≡ 0) × (text_told s (read p).slice ≡ t)

-- the same of a name, which is d where it is absent
abbrev pub Names : List ℕ → List ℕ → (List ℕ → Filled) → Text → Type 0
Names s d read t = (p : List ℕ) → 3 ≤ length p → ((read p).code ≡ 0) × (name_or d (text_told s (read p).slice) ≡ t)

-- ── A frame ────────────────────────────────────────────────────────────────────────────────────────────────────────────

-- the words w of a frame with a file: "7-12 the file's six text offsets in the row's order"; an absent name is empty
pub record FileTexts (s w : List ℕ) (f : ShownFile) : Type 0 where
  pub kind : get_or w 0 0 ≡ 2
  pub comp_dir : Tells s (string_call s (get_or w 7 0)) f.comp_dir
  pub directory : Tells s (string_call s (get_or w 8 0)) f.directory
  pub name : Names s [] (string_call s (get_or w 9 0)) f.name
  pub srcsrv_name : Tells s (string_call s (get_or w 10 0)) f.srcsrv_name
  pub srcsrv_dir : Tells s (string_call s (get_or w 11 0)) f.srcsrv_dir
  pub revision : Tells s (string_call s (get_or w 12 0)) f.revision

-- "0 kind (0 the end, 1 a frame without a file, 2 a frame with a file)"
abbrev pub FileByWords : List ℕ → List ℕ → Option ShownFile → Type 0
FileByWords s w none = get_or w 0 0 ≡ 1
FileByWords s w (some f) = FileTexts s w f

-- the words w of a frame show v: "2 function, 3 line, .. 5 entry, 6 language"; the function's name is d where it has none
pub record FrameByWords (s d w : List ℕ) (v : Shown) : Type 0 where
  pub name : Names s d (name_call s (get_or w 2 0)) v.name
  pub number : get_or w 3 0 ≡ v.number
  pub entry : get_or w 5 0 ≡ v.entry
  pub language : get_or w 6 0 ≡ v.language
  pub file : FileByWords s w v.file

-- ── A walk ─────────────────────────────────────────────────────────────────────────────────────────────────────────────

-- `symcache_next` from the cursor k on, with the frame t lent, shows vs one by one, and then the end; every call answers 0. Cursor and frame are lent
-- again as the call before left them
pub data WalkedByCalls (s d : List ℕ) : List ℕ → List ℕ → List Shown → Type 0 where
  ends : {k t : List ℕ} → (next_call s k t).code ≡ 0 → get_or (next_call s k t).slice 0 0 ≡ 0 → WalkedByCalls s d k t []
  goes : {k t : List ℕ} {v : Shown} {vs : List Shown} → (next_call s k t).code ≡ 0 → FrameByWords s d (next_call s k t).slice v
      → WalkedByCalls s d (next_call s k t).cursor (next_call s k t).slice vs → WalkedByCalls s d k t (v ∷ vs)

-- looking up x in the file s shows exactly vs, both ways: by `symcache_lookup`; and by `symcache_open`, whose words `symcache_walk` is lent
pub record FoundByCalls (s d : List ℕ) (x : ℕ) (vs : List Shown) : Type 0 where
  pub by_lookup : (k t : List ℕ) → 3 ≤ length k → 13 ≤ length t → ((lookup_call s x k).code ≡ 0) × WalkedByCalls s d (lookup_call s x k).slice t vs
  pub by_walk : (c k t : List ℕ) → 10 ≤ length c → 3 ≤ length k → 13 ≤ length t
      → ((open_call s c).code ≡ 0) × WalkedByCalls s d (walk_call s (open_call s c).slice x k).slice t vs
