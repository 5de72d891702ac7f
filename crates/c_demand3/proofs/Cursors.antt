-- The words of a cursor, a frame and a cache survive between two calls. So the frames that `lookup` and `next` show are those that the exported calls show, and an address is found by the words that
-- `symcache_open` stored as by the cache that `open` gave.
use Prim.Native.Nat.{ℕ, zero, suc, ◌+◌, ◌-◌, ◌%◌, ◌<◌, ◌≤◌}
use native.Mathlib.Omega.{arith}
use mathlib.Core.Path.{◌≡◌, refl, sym, ap, subst, ◌∙◌}
use mathlib.Core.Option.{none, some}
use mathlib.Core.List.{List, [], ◌∷◌, ◌++◌, map, append-nil}
use lib.ListN.{length, get_or}
use lib.Seq.{length-sets}
use borrow.Author.Tests.{le-ltb, ne_eqb}
use Rattle.slices.specs.Bytes.{le_at, word_bytes, Stands}
use Rattle.slices.proofs.Bytes.{le_at-four, length-words, stands-left, stands-right, stands-between}
use Rattle.slices.proofs.Runs.{sets_in}
use Rattle.raw.specs.Rows.{file_words_lem, header_words, header_bytes, header_at, version_info_bytes}
use Rattle.raw.specs.Head.{version_info}
use Rattle.raw.proofs.Rows.{length-version_info}
use Rattle.symcache.specs.declared.SymCache.{SymCache}
use Rattle.symcache.specs.Answers.{gives, answer_number}
use Rattle.symcache.specs.Reader.{layout_of, parsed, opened}
use Rattle.symcache.proofs.ReaderLaws.{parsed-within, opened-parsed}
use Rattle.lookup.specs.declared.SourceLocations.{SourceLocations}
use Rattle.raw.specs.declared.File.{File}
use Rattle.lookup.specs.declared.Frame.{Frame}
use Rattle.std.specs.Prelude as rust
use Rattle.lookup.specs.Lookup.{belongs_to, found_at, walk_at_lem, looked_up_lem, stepped}
use Rattle.lookup.proofs.ByMeaning.{by_meaning}
use Rattle.file_texts.specs.Strings.{string_of, name_of}
use Rattle.model.specs.FileWords.{Sections}
use Rattle.read_back.specs.Bytes.{sections_header, file_bytes}
use Rattle.read_back.specs.Shown.{Shown, shown, file_shown, text_shown, ends, goes, Walked, Found}
use Rattle.c_reading.specs.Stored.{stored}
use Rattle.c_reading.specs.Reading.{Filled, filled, answered, Moved, moved, steps_to, cache_words, cache_of, cached, open_call, find_call, walk_words, walk_of, walk_call, lookup_call}
use Rattle.c_reading.specs.Reading.{head_words, with_file, frame_words, next_call, cursor_index, string_call, name_call}
use Rattle.c_reading.proofs.Numbers.{cached-number}
use Rattle.c_words.specs.Record.{Bytes}
use Rattle.c_demand3.specs.Walks.{Tells, Names, FrameByWords, WalkedByCalls, FoundByCalls}
use Rattle.c_demand3.specs.Walks as words
use Rattle.c_demand3.proofs.Carried.{bytes-words}
use Rattle.c_demand3.proofs.Names.{tells, tells-name, names}

-- ── Cursors ────────────────────────────────────────────────────────────────────────────────────────────────────────────

pub cursor-back : (k : List ℕ) (w : SourceLocations) → 3 ≤ length k → walk_of (stored (walk_words w) k) ≡ w
unfolding walk_of
cursor-back k w h =
    let l : length (stored (walk_words w) k) ≡ length k = length-sets k 0 (walk_words w) in
    rw (
      le-ltb (length (stored (walk_words w) k)) 3 (omega arith),
      sets_in (walk_words w) k 0 0 0 refl (omega arith) (omega arith),
      sets_in (walk_words w) k 0 1 1 refl (omega arith) (omega arith),
      sets_in (walk_words w) k 0 2 2 refl (omega arith) (omega arith),
    )

pub index_back : (k : List ℕ) (i : ℕ) → 0 < length k → cursor_index (stored (i ∷ []) k) ≡ i
unfolding cursor_index
index_back k i h =
    let l : length (stored (i ∷ []) k) ≡ length k = length-sets k 0 (i ∷ []) in
    rw (ne_eqb (length (stored (i ∷ []) k)) 0 (λ e. omega arith), sets_in (i ∷ []) k 0 0 0 refl (omega arith) (omega arith))

-- ── Frames ─────────────────────────────────────────────────────────────────────────────────────────────────────────────

module _ (s d : List ℕ) (c : SymCache) (is : parsed s ≡ gives c) where
  -- the words of a frame, stored in 13 or more
  frame-told : (t : List ℕ) (f : Frame) → 13 ≤ length t → FrameByWords s d (stored (frame_words f) t) (shown s d f)
  frame-told t f h = go f.file
    where
      go : (g : rust.Option File) → FrameByWords s d (stored (with_file f g) t) (record { name = name_of s d f.function_idx; entry = f.entry_pc; language = f.language; number = f.line; file = file_shown s g })
      go rust.None =
          let at : (j : ℕ) → j < 7 → get_or (stored (head_words 1 f) t) j 0 ≡ get_or (head_words 1 f) j 0 = λ j l. sets_in (head_words 1 f) t 0 j j (omega arith) l (omega arith) in
          record {
            name = subst (λ (i : ℕ). Names s d (name_call s i) (name_of s d f.function_idx)) (sym (at 2 (omega arith))) (names s c is d f.function_idx);
            number = at 3 (omega arith);
            entry = at 5 (omega arith);
            language = at 6 (omega arith);
            file = at 0 (omega arith);
          }
      go (rust.Some g) =
          let ws = head_words 2 f ++ file_words_lem g in
          let at : (j : ℕ) → j < 13 → get_or (stored ws t) j 0 ≡ get_or ws j 0 = λ j l. sets_in ws t 0 j j (omega arith) l (omega arith) in
          let text : (j o : ℕ) → get_or (stored ws t) j 0 ≡ o → Tells s (string_call s (get_or (stored ws t) j 0)) (text_shown s o) =
          λ j o e. subst (λ (i : ℕ). Tells s (string_call s i) (text_shown s o)) (sym e) (tells s c is o) in
          record {
            name = subst (λ (i : ℕ). Names s d (name_call s i) (name_of s d f.function_idx)) (sym (at 2 (omega arith))) (names s c is d f.function_idx);
            number = at 3 (omega arith);
            entry = at 5 (omega arith);
            language = at 6 (omega arith);
            file = record {
              kind = at 0 (omega arith);
              comp_dir = text 7 g.comp_dir_offset (at 7 (omega arith));
              directory = text 8 g.directory_offset (at 8 (omega arith));
              name = subst (λ (i : ℕ). Names s [] (string_call s i) (string_of s g.name_offset)) (sym (at 9 (omega arith))) (tells-name s c is g.name_offset);
              srcsrv_name = text 10 g.srcsrv_name_offset (at 10 (omega arith));
              srcsrv_dir = text 11 g.srcsrv_dir_offset (at 11 (omega arith));
              revision = text 12 g.srcsrv_revision_offset (at 12 (omega arith));
            };
          }

  -- `symcache_next` moves as `next` does
  next-ends : (k t : List ℕ) (w : SourceLocations) → walk_of k ≡ w → stepped s w ≡ gives none → next_call s k t ≡ moved 0 k (stored (0 ∷ []) t)
  unfolding next_call steps_to
  next-ends k t w e g = rw (e, g)

  next-goes : (k t : List ℕ) (w n : SourceLocations) (f : Frame) → walk_of k ≡ w → stepped s w ≡ gives (some (record { frame = f; next = n }))
      → next_call s k t ≡ moved 0 (stored (walk_words n) k) (stored (frame_words f) t)
  unfolding next_call steps_to
  next-goes k t w n f e g = rw (e, g)

  walks : (k t : List ℕ) {w : SourceLocations} {fs : List Frame} → walk_of k ≡ w → 3 ≤ length k → 13 ≤ length t → Walked s w fs → WalkedByCalls s d k t (map (shown s d) fs)
  walks k t {w = w} e h l (ends g) =
      let o = next-ends k t w e g in
      words.ends {k = k} {t = t} (ap (λ (m : Moved). m.code) o) (ap (λ (m : Moved). get_or m.slice 0 0) o ∙ sets_in (0 ∷ []) t 0 0 0 refl (omega arith) (omega arith))
  walks k t {w = w} e h l (goes {n = n} {f = f} {fs = fs} g rest) =
      let o = next-goes k t w n f e g in
      let hk : length (stored (walk_words n) k) ≡ length k = length-sets k 0 (walk_words n) in
      let ht : length (stored (frame_words f) t) ≡ length t = length-sets t 0 (frame_words f) in
      words.goes {k = k} {t = t}
      (ap (λ (m : Moved). m.code) o)
      (subst (λ (m : Moved). FrameByWords s d m.slice (shown s d f)) (sym o) (frame-told t f l))
      (subst (λ (m : Moved). WalkedByCalls s d m.cursor m.slice (map (shown s d) fs)) (sym o)
      (walks (stored (walk_words n) k) (stored (frame_words f) t) (cursor-back k n h) (omega arith) (omega arith) rest))

-- ── The cache ──────────────────────────────────────────────────────────────────────────────────────────────────────────

pub record CountsFit (c : SymCache) : Type 0 where
  pub files : c.num_files < 4294967296
  pub functions : c.num_functions < 4294967296
  pub locations : c.num_source_locations < 4294967296
  pub ranges : c.num_ranges < 4294967296
  pub strings : c.string_bytes < 4294967296

cut-none : (n : ℕ) → n < 4294967296 → n % 4294967296 ≡ n
cut-none n h = omega arith

pub cache-back : (t : List ℕ) (c : SymCache) → 10 ≤ length t → CountsFit c → cache_of (stored (cache_words c) t) ≡ c
unfolding cache_of
cache-back t c h f =
    rw (
      sets_in (cache_words c) t 0 0 0 refl (omega arith) (omega arith),
      sets_in (cache_words c) t 0 1 1 refl (omega arith) (omega arith),
      sets_in (cache_words c) t 0 2 2 refl (omega arith) (omega arith),
      sets_in (cache_words c) t 0 3 3 refl (omega arith) (omega arith),
      sets_in (cache_words c) t 0 4 4 refl (omega arith) (omega arith),
      sets_in (cache_words c) t 0 5 5 refl (omega arith) (omega arith),
      sets_in (cache_words c) t 0 6 6 refl (omega arith) (omega arith),
      sets_in (cache_words c) t 0 7 7 refl (omega arith) (omega arith),
      sets_in (cache_words c) t 0 8 8 refl (omega arith) (omega arith),
      sets_in (cache_words c) t 0 9 9 refl (omega arith) (omega arith),
      cut-none c.num_files f.files,
      cut-none c.num_functions f.functions,
      cut-none c.num_source_locations f.locations,
      cut-none c.num_ranges f.ranges,
      cut-none c.string_bytes f.strings,
    )

-- the numbers of a header that was written are bytes, four each
stands-below : (bs s : List ℕ) (at i j : ℕ) → j ≡ at + i → i < length bs → Bytes bs → Stands bs s at → get_or s j 0 < 256
stands-below [] s at i j e h p q = absurd (omega arith)
stands-below (b ∷ bs) s at zero j e h p q = let e' : j ≡ at = omega arith in rw (e', q.0) p.0
stands-below (b ∷ bs) s at (suc i) j e h p q = stands-below bs s (suc at) i j (omega arith) (omega arith) p.1 q.1

stands_third : (v id w more rest : List ℕ) → length v ≡ 8 → length id ≡ 32 → Stands w (v ++ ((id ++ (w ++ more)) ++ rest)) 40
stands_third v id w more rest a b =
    let s = v ++ ((id ++ (w ++ more)) ++ rest) in
    let all : Stands s s 0 = rw (append-nil s) at (stands-between [] s [] 0 refl) in
    stands-left w more s 40
    (stands-right id (w ++ more) s 8 40 (omega arith)
    (stands-left (id ++ (w ++ more)) rest s 8 (stands-right v ((id ++ (w ++ more)) ++ rest) s 0 8 (omega arith) all)))

module _ (id : List ℕ) (a : ℕ) (z : Sections) (size : length id ≡ 32) where
  abbrev ws : List ℕ
  ws = header_words (sections_header id a z)

  words_stand : Stands (word_bytes ws) (file_bytes id a z) 40
  unfolding file_bytes header_bytes
  words_stand = stands_third (version_info_bytes version_info) id (word_bytes ws) _ _ (length-version_info version_info) size

  pub counts-below : (j : ℕ) → 44 ≤ j → j < 64 → get_or (file_bytes id a z) j 0 < 256
  counts-below j l h = stands-below (word_bytes ws) (file_bytes id a z) 40 (j - 40) j (omega arith) (rw (length-words ws) (omega arith)) (bytes-words ws) words_stand

-- four bytes make 32 bits
four_fit : (s : List ℕ) (n : ℕ) → get_or s n 0 < 256 → get_or s (n + 1) 0 < 256 → get_or s (n + 2) 0 < 256 → get_or s (n + 3) 0 < 256 → le_at 4 s n < 4294967296
four_fit s n a b c d = rw (le_at-four s n) (omega arith)

header-fits : (s : List ℕ) → ((j : ℕ) → 44 ≤ j → j < 64 → get_or s j 0 < 256) → CountsFit (layout_of (header_at s 8))
unfolding layout_of header_at
header-fits s p =
    let at : (n : ℕ) → 44 ≤ n → n ≤ 60 → le_at 4 s n < 4294967296 =
    λ n l h. four_fit s n (p n l (omega arith)) (p (n + 1) (omega arith) (omega arith)) (p (n + 2) (omega arith) (omega arith)) (p (n + 3) (omega arith) (omega arith)) in
    record {
      files = at 44 (omega arith) (omega arith);
      functions = at 48 (omega arith) (omega arith);
      locations = at 52 (omega arith) (omega arith);
      ranges = at 56 (omega arith) (omega arith);
      strings = at 60 (omega arith) (omega arith);
    }

-- in a file of bytes whose tables are c; t are the words lent for the cache
module _ (s t : List ℕ) (c : SymCache) (bytes : (j : ℕ) → 44 ≤ j → j < 64 → get_or s j 0 < 256) (long : 10 ≤ length t) (is : opened s ≡ gives c) where
  cache-opened : cache_of (open_call s t).slice ≡ c
  unfolding open_call cached
  cache-opened = rw is (cache-back t c long (rw (parsed-within s c (opened-parsed s c is)).0 at (header-fits s bytes)))

  -- by the words that `symcache_open` stored, `symcache_find` gives the location that the address belongs to
  pub find-opened : (a : ℕ) → find_call s (open_call s t).slice a ≡ belongs_to s c a
  unfolding find_call
  find-opened a = ap (λ (x : SymCache). found_at s x a) cache-opened ∙ (by_meaning s c is a).find

  -- and `symcache_walk` the walk that a lookup gives
  pub walk-opened : (a : ℕ) (k : List ℕ) (w : SourceLocations) → looked_up_lem s a ≡ gives w → walk_call s (open_call s t).slice a k ≡ filled w.current (stored (walk_words w) k)
  unfolding walk_call
  walk-opened a k w e =
      ap (λ (x : SymCache). filled (walk_at_lem s x a).current (stored (walk_words (walk_at_lem s x a)) k)) cache-opened
      ∙ ap (λ (x : SourceLocations). filled x.current (stored (walk_words x) k)) (walk-given ((by_meaning s c is a).walk ∙ e))
    where
      walk-given : {x y : SourceLocations} → gives x ≡ gives y → x ≡ y
      walk-given h = cc

-- ── Looking up ─────────────────────────────────────────────────────────────────────────────────────────────────────────

-- for every file that was opened, and every address: what `lookup` and `next` show, the exported calls show
pub found_by_calls : (s d : List ℕ) (x : ℕ) (c : SymCache) (vs : List Shown) → opened s ≡ gives c → ((j : ℕ) → 44 ≤ j → j < 64 → get_or s j 0 < 256) → Found s d x vs → FoundByCalls s d x vs
unfolding lookup_call open_call answered
found_by_calls s d x c vs is bytes f =
    let walk : (k t : List ℕ) → 3 ≤ length k → 13 ≤ length t → WalkedByCalls s d (stored (walk_words f.cursor) k) t vs =
    λ k t hk ht.
    let l : length (stored (walk_words f.cursor) k) ≡ length k = length-sets k 0 (walk_words f.cursor) in
    subst (WalkedByCalls s d (stored (walk_words f.cursor) k) t) f.shows
    (walks s d c (opened-parsed s c is) (stored (walk_words f.cursor) k) t (cursor-back k f.cursor hk) (omega arith) ht f.walked) in
    record {
      by_lookup = λ k t hk ht. rw f.looked (refl, walk k t hk ht);
      by_walk = λ a k t ha hk ht. (
        cached-number (opened s) a ∙ ap answer_number is,
        subst (λ (o : Filled). WalkedByCalls s d o.slice t vs) (sym (walk-opened s a c bytes ha is x k f.cursor f.looked)) (walk k t hk ht),
      );
    }
