-- The exported calls of the reader and the lookup: an answer's words.
use Prim.Native.Nat.{ℕ, ◌<◌, ◌≤◌}
use mathlib.Core.Path.{◌≡◌, sym, ap, ◌∙◌}
use mathlib.Core.List.{List, [], ◌∷◌}
use mathlib.Core.Option.{Option, none, some}
use lib.ListN.{length, get_or, set}
use lib.Seq.{sets}
use borrow.Author.Tests.{lt-ltb, le-ltb, eq-eqb, ne_eqb}
use Rattle.raw.specs.Rows.{max32, file_words_lem}
use Rattle.raw.specs.declared.File.{File}
use Rattle.raw.specs.declared.Function.{Function}
use Rattle.symcache.specs.declared.SymCache.{SymCache}
use Rattle.lookup.specs.declared.SourceLocations.{SourceLocations}
use Rattle.lookup.specs.declared.Frame.{Frame}
use Rattle.std.specs.Prelude as rust
use Rattle.symcache.specs.Answers.{Answer, gives, refuses, Refusal, and_then}
use Rattle.lookup.specs.Lookup.{walk_from_lem, walk_at_lem, got_function}
use Rattle.file_texts.specs.declared.Part.{Part}
use Rattle.file_texts.specs.Strings.{got_string}
use Rattle.c_reading.specs.Stored.{stored}
use Rattle.c_reading.specs.Reading.{Filled, filled, moved, answered, steps_to, cache_words, count_at, cache_of, refused, cached, walk_words, walk_of, walk_call, head_words, with_file, name_after, got_name, cursor_index}

-- ── One slice ──────────────────────────────────────────────────────────────────────────────────────────────────────────

module _ {A : Type 0} (words : A → List ℕ) (o : Answer A) where
  pub given : (a : A) (t : List ℕ) {t₁ : List ℕ} → o ≡ gives a → t₁ ≡ stored (words a) t → filled 0 t₁ ≡ answered words o t
  unfolding answered
  given a t e h = rw (e, h)

  pub declined : (r : Refusal) (n : ℕ) (t : List ℕ) → o ≡ refuses r → n ≡ r.number → filled n t ≡ answered words o t
  unfolding answered
  declined r n t e h = rw (e, h)

-- ── A cursor and a row ─────────────────────────────────────────────────────────────────────────────────────────────────

module _ {A : Type 0} (next words : A → List ℕ) (o : Answer (Option A)) where
  pub moves : (a : A) (k t : List ℕ) {k₁ t₁ : List ℕ} → o ≡ gives (some a) → k₁ ≡ stored (next a) k → t₁ ≡ stored (words a) t → moved 0 k₁ t₁ ≡ steps_to next words o k t
  unfolding steps_to
  moves a k t e hk ht = rw (e, hk, ht)

  pub ends : (k t : List ℕ) {t₁ : List ℕ} → o ≡ gives none → t₁ ≡ stored (0 ∷ []) t → moved 0 k t₁ ≡ steps_to next words o k t
  unfolding steps_to
  ends k t e h = rw (e, h)

  pub stays : (r : Refusal) (n : ℕ) (k t : List ℕ) → o ≡ refuses r → n ≡ r.number → moved n k t ≡ steps_to next words o k t
  unfolding steps_to
  stays r n k t e h = rw (e, h)

-- ── A file read ────────────────────────────────────────────────────────────────────────────────────────────────────────

pub refused_else : (r : Refusal) (n : ℕ) (t : List ℕ) → n ≡ r.number → (n ≡ 10 → ⊥) → filled n t ≡ refused r t
unfolding refused
refused_else r n t e h = rw e (rw (ne_eqb r.number 10 (λ p. h (e ∙ p))))

pub refused_ten : (r : Refusal) (n x y : ℕ) (t : List ℕ) {t₁ t₂ : List ℕ} → n ≡ r.number → n ≡ 10 → x ≡ r.expected → y ≡ r.found → t₁ ≡ set t 0 x → t₂ ≡ set t₁ 1 y → filled n t₂ ≡ refused r t
unfolding refused
refused_ten r n x y t e h ex ey e₁ e₂ = rw (e, e₂, e₁, ex, ey) (rw (eq-eqb r.number 10 (sym e ∙ h)))

pub cached-given : (o : Answer SymCache) (c : SymCache) (t : List ℕ) {t₁ : List ℕ} → o ≡ gives c → t₁ ≡ stored (cache_words c) t → filled 0 t₁ ≡ cached o t
unfolding cached
cached-given o c t e h = rw (e, h)

pub cached-refused : (o : Answer SymCache) (r : Refusal) (t : List ℕ) {f : Filled} → o ≡ refuses r → f ≡ refused r t → f ≡ cached o t
unfolding cached
cached-refused o r t e h = rw e h

pub tables-stored : (t : List ℕ) (c : SymCache) {t₁ t₂ t₃ t₄ t₅ : List ℕ} → t₁ ≡ sets t 0 (c.files ∷ c.num_files ∷ []) → t₂ ≡ sets t₁ 2 (c.functions ∷ c.num_functions ∷ [])
    → t₃ ≡ sets t₂ 4 (c.source_locations ∷ c.num_source_locations ∷ []) → t₄ ≡ sets t₃ 6 (c.ranges ∷ c.num_ranges ∷ []) → t₅ ≡ sets t₄ 8 (c.strings ∷ c.string_bytes ∷ [])
    → t₅ ≡ stored (cache_words c) t
tables-stored t c e₁ e₂ e₃ e₄ e₅ = rw (e₅, e₄, e₃, e₂, e₁)

pub cache-read : (t : List ℕ) {a b c d e f g h i j : ℕ} → a ≡ get_or t 0 0 → b ≡ count_at t 1 → c ≡ get_or t 2 0 → d ≡ count_at t 3 → e ≡ get_or t 4 0 → f ≡ count_at t 5 → g ≡ get_or t 6 0 → h ≡ count_at t 7
    → i ≡ get_or t 8 0 → j ≡ count_at t 9
    → record { files = a; num_files = b; functions = c; num_functions = d; source_locations = e; num_source_locations = f; ranges = g; num_ranges = h; strings = i; string_bytes = j }
    ≡ cache_of t
unfolding cache_of
cache-read t ea eb ec ed ee ef eg eh ei ej = rw (ea, eb, ec, ed, ee, ef, eg, eh, ei, ej)

-- ── Cursors ────────────────────────────────────────────────────────────────────────────────────────────────────────────

pub walk-ended : (k : List ℕ) → length k < 3 → walk_from_lem max32 ≡ walk_of k
unfolding walk_of
walk-ended k h = rw (lt-ltb (length k) 3 h)

pub walk-read : (k : List ℕ) {a b c : ℕ} → 3 ≤ length k → a ≡ get_or k 0 0 → b ≡ get_or k 1 0 → c ≡ get_or k 2 0 → record { first = a; current = b; steps = c } ≡ walk_of k
unfolding walk_of
walk-read k h ea eb ec = rw (le-ltb (length k) 3 h) (rw (ea, eb, ec))

pub index-none : (k : List ℕ) → length k ≡ 0 → max32 ≡ cursor_index k
unfolding cursor_index
index-none k h = rw (eq-eqb (length k) 0 h)

pub index_read : (k : List ℕ) {a : ℕ} → (length k ≡ 0 → ⊥) → a ≡ get_or k 0 0 → a ≡ cursor_index k
unfolding cursor_index
index_read k h e = rw (ne_eqb (length k) 0 h) e

-- a walk, made of the words of a cache
pub walk-made : (s t : List ℕ) (a : ℕ) (k : List ℕ) {c : SymCache} {w : SourceLocations} {k₁ : List ℕ} → c ≡ cache_of t → w ≡ walk_at_lem s c a → k₁ ≡ stored (walk_words w) k → filled w.current k₁ ≡ walk_call s t a k
unfolding walk_call
walk-made s t a k ec ew ek =
    rw ek (ap (λ (w : SourceLocations). filled w.current (stored (walk_words w) k)) (ew ∙ ap (λ (c : SymCache). walk_at_lem s c a) ec))

-- ── Frames ─────────────────────────────────────────────────────────────────────────────────────────────────────────────

pub frame-alone : (t : List ℕ) (f : Frame) (x : rust.Option File) {t₁ : List ℕ} → x ≡ rust.None → t₁ ≡ stored (head_words 1 f) t → t₁ ≡ stored (with_file f x) t
frame-alone t f x e h = rw e h

pub frame_filed : (t : List ℕ) (f : Frame) (x : rust.Option File) (g : File) {t₁ t₂ : List ℕ} → x ≡ rust.Some g → t₁ ≡ stored (head_words 2 f) t → t₂ ≡ sets t₁ 7 (file_words_lem g) → t₂ ≡ stored (with_file f x) t
frame_filed t f x g e h h₂ = rw (e, h₂, h)

-- ── Names ──────────────────────────────────────────────────────────────────────────────────────────────────────────────

module _ (s : List ℕ) (i : ℕ) where
  pub name-found : (f : Function) {p : Answer (Option Part)} → got_function s i ≡ gives (some f) → p ≡ got_string s f.name_offset → p ≡ got_name s i
  unfolding got_name and_then name_after
  name-found f e h = rw e h

  pub name-nowhere : got_function s i ≡ gives none → gives none ≡ got_name s i
  unfolding got_name and_then name_after
  name-nowhere e = rw e

  pub name-declined : (r : Refusal) → got_function s i ≡ refuses r → refuses r ≡ got_name s i
  unfolding got_name and_then name_after
  name-declined r e = rw e
