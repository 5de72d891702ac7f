-- Each row is read back where it stands, and a row cut out with zeros past the end reads as the row itself.
use Prim.Native.Nat.{ℕ, zero, suc, ◌+◌, ◌*◌, ◌<◌, ◌≤◌}
use mathlib.Core.Path.{◌≡◌, refl, sym, ap, ◌∙◌}
use mathlib.Core.List.{List, [], ◌∷◌, ◌++◌, append_assoc, append-nil}
use native.Mathlib.Omega.{arith}
use native.Mathlib.Numerals.{add-one}
use lib.ListN.{length, get_or, take, replicate, length-append, length-replicate}
use lib.Seq.{sets, take_all, length-take-le, length-sets}
use Rattle.slices.specs.Bytes.{le, word_bytes, Words32, Stands}
use Rattle.raw.specs.Rows.{version_info_words, version_info_bytes, version_info_at, header_words, header_bytes, header_at, HeaderFits, file_words_lem, file_bytes_lem, file_at_lem, function_words_lem, function_bytes, function_at_lem, location_words_lem, location_bytes, location_at, range_bytes, range_at_lem}
use Rattle.raw.specs.declared.VersionInfo.{VersionInfo}
use Rattle.raw.specs.declared.Header.{Header}
use Rattle.raw.specs.declared.File.{File}
use Rattle.raw.specs.declared.Function.{Function}
use Rattle.raw.specs.declared.SourceLocation.{SourceLocation}
use Rattle.raw.specs.declared.Range.{Range}
use Rattle.slices.proofs.Bytes.{length-le, length-words, stands-left, stands-right, le-back, bytes_back, word_back, sets_join, take-sets}

-- Numbers stored one after the other

pub data Stored : List ℕ → ℕ → List ℕ → List ℕ → Type 0 where
  all : {s : List ℕ} {at : ℕ} → Stored s at [] s
  next : {s s₁ r : List ℕ} {at v : ℕ} {vs : List ℕ} (n : ℕ) → n ≡ at + 4 → s₁ ≡ sets s at (le 4 v) → Stored s₁ n vs r → Stored s at (v ∷ vs) r

pub stored : {s r : List ℕ} {at : ℕ} {vs : List ℕ} → Stored s at vs r → r ≡ sets s at (word_bytes vs)
unfolding word_bytes
stored all = refl
stored {s = s} {at = at} {vs = v ∷ vs} (next n e h t) = stored t ∙ rw h (sets_join (le 4 v) (word_bytes vs) s at n (rw length-le e))

words_more : (vs : List ℕ) (i : ℕ) → i < length vs → word_bytes (take (suc i) vs) ≡ word_bytes (take i vs) ++ le 4 (get_or vs i 0)
unfolding word_bytes
words_more [] i h = absurd (omega arith)
words_more (v ∷ vs) zero h = append-nil (le 4 v)
words_more (v ∷ vs) (suc i) h = rw (words_more vs i (omega arith), append_assoc)

-- one turn of a loop that stores them
pub word-stored : (s vs : List ℕ) (at i : ℕ) {s₁ s₂ : List ℕ} → i < length vs → s₁ ≡ sets s at (word_bytes (take i vs))
    → s₂ ≡ sets s₁ (at + 4 * i) (le 4 (get_or vs i 0)) → s₂ ≡ sets s at (word_bytes (take (i + 1) vs))
word-stored s vs at i h e₁ e₂ =
    let l : i ≤ length vs = omega arith in
    rw (add-one i, words_more vs i h, e₂, e₁)
    (sets_join (word_bytes (take i vs)) (le 4 (get_or vs i 0)) s at (at + 4 * i) (rw (length-words, length-take-le i vs l)))

-- Magic and version

pub length-version_info : (v : VersionInfo) → length (version_info_bytes v) ≡ 8
unfolding version_info_bytes
length-version_info v = length-words (version_info_words v)

pub version_info-back : (v : VersionInfo) (s : List ℕ) (at : ℕ) → Words32 (version_info_words v) → Stands (version_info_bytes v) s at → version_info_at s at ≡ v
unfolding version_info_bytes version_info_at
version_info-back v s at f h =
    let w = version_info_words v in
    rw (word_back w s at 0 at f (omega arith) (omega arith) h, word_back w s at 1 (at + 4) f (omega arith) (omega arith) h)

-- File

pub length-file : (f : File) → length (file_bytes_lem f) ≡ 24
unfolding file_bytes_lem
length-file f = length-words (file_words_lem f)

pub file-back : (r : File) (s : List ℕ) (at : ℕ) → Words32 (file_words_lem r) → Stands (file_bytes_lem r) s at → file_at_lem s at ≡ r
unfolding file_bytes_lem file_at_lem
file-back r s at f h =
    let w = file_words_lem r in
    rw (
      word_back w s at 0 at f (omega arith) (omega arith) h,
      word_back w s at 1 (at + 4) f (omega arith) (omega arith) h,
      word_back w s at 2 (at + 8) f (omega arith) (omega arith) h,
      word_back w s at 3 (at + 12) f (omega arith) (omega arith) h,
      word_back w s at 4 (at + 16) f (omega arith) (omega arith) h,
      word_back w s at 5 (at + 20) f (omega arith) (omega arith) h,
    )

-- Function

pub length-function : (f : Function) → length (function_bytes f) ≡ 16
unfolding function_bytes
length-function f = length-words (function_words_lem f)

pub function-back : (r : Function) (s : List ℕ) (at : ℕ) → Words32 (function_words_lem r) → Stands (function_bytes r) s at → function_at_lem s at ≡ r
unfolding function_bytes function_at_lem
function-back r s at f h =
    let w = function_words_lem r in
    rw (
      word_back w s at 0 at f (omega arith) (omega arith) h,
      word_back w s at 1 (at + 4) f (omega arith) (omega arith) h,
      word_back w s at 2 (at + 8) f (omega arith) (omega arith) h,
      word_back w s at 3 (at + 12) f (omega arith) (omega arith) h,
    )

-- SourceLocation

pub length-location : (l : SourceLocation) → length (location_bytes l) ≡ 16
unfolding location_bytes
length-location l = length-words (location_words_lem l)

pub location-back : (r : SourceLocation) (s : List ℕ) (at : ℕ) → Words32 (location_words_lem r) → Stands (location_bytes r) s at → location_at s at ≡ r
unfolding location_bytes location_at
location-back r s at f h =
    let w = location_words_lem r in
    rw (
      word_back w s at 0 at f (omega arith) (omega arith) h,
      word_back w s at 1 (at + 4) f (omega arith) (omega arith) h,
      word_back w s at 2 (at + 8) f (omega arith) (omega arith) h,
      word_back w s at 3 (at + 12) f (omega arith) (omega arith) h,
    )

-- Range

pub length_range : (r : Range) → length (range_bytes r) ≡ 4
unfolding range_bytes
length_range r = length-words (r.0 ∷ [])

pub range_back : (r : Range) (s : List ℕ) (at : ℕ) → Words32 (r.0 ∷ []) → Stands (range_bytes r) s at → range_at_lem s at ≡ r
unfolding range_bytes range_at_lem
range_back r s at f h = rw (word_back (r.0 ∷ []) s at 0 at f (omega arith) (omega arith) h)

-- Header

pub length-header : (h : Header) → length h.debug_id ≡ 32 → length h.reserved ≡ 14 → length (header_bytes h) ≡ 72
unfolding header_bytes
length-header h d r = simp (length-append, length-words, length-le, d, r)

-- the four parts of a header stored one after the other among zeros, and these copied
pub header_made : (h : Header) {r₁ r₂ r₃ r₄ r : List ℕ} (s : List ℕ) (at : ℕ) → length h.debug_id ≡ 32 → length h.reserved ≡ 14
    → r₁ ≡ sets (replicate 72 0) 0 h.debug_id → r₂ ≡ sets r₁ 32 (word_bytes (header_words h)) → r₃ ≡ sets r₂ 56 (le 2 h.variable_header)
    → r₄ ≡ sets r₃ 58 h.reserved → r ≡ sets s at r₄ → r ≡ sets s at (header_bytes h)
unfolding header_bytes
header_made h {r₄ = r₄} s at d z e₁ e₂ e₃ e₄ e =
    let zeros : List ℕ = replicate 72 0 in
    let i = h.debug_id in
    let w = word_bytes (header_words h) in
    let v = le 2 h.variable_header in
    let n : length zeros ≡ 72 = length-replicate {A = ℕ} 72 0 in
    let made : r₄ ≡ sets zeros 0 (i ++ (w ++ (v ++ h.reserved))) =
    rw (
      e₄,
      e₃,
      e₂,
      e₁,
      sets_join v h.reserved (sets (sets zeros 0 i) 32 w) 56 58 (omega (arith, length-le 2 h.variable_header)),
      sets_join w (v ++ h.reserved) (sets zeros 0 i) 32 56 (omega (arith, length-words (header_words h))),
      sets_join i (w ++ (v ++ h.reserved)) zeros 0 32 (omega (arith, d)),
    )
    in
    let all : take 72 (sets zeros 0 (header_bytes h)) ≡ sets zeros 0 (header_bytes h) =
    take_all 72 (sets zeros 0 (header_bytes h)) (omega (arith, length-sets zeros 0 (header_bytes h)))
    in
    e ∙ ap (λ (t : List ℕ). sets s at t) (made ∙ (sym all ∙ take-sets (header_bytes h) zeros 72 (length-header h d z) (omega arith)))

pub header-back : (r : Header) (s : List ℕ) (at : ℕ) → HeaderFits r → Stands (header_bytes r) s at → header_at s at ≡ r
unfolding header_bytes header_at
header-back r s at f h =
    let w = header_words r in
    let h₀ = stands-left r.debug_id (word_bytes w ++ (le 2 r.variable_header ++ r.reserved)) s at h in
    let h₁ = stands-right r.debug_id (word_bytes w ++ (le 2 r.variable_header ++ r.reserved)) s at (at + 32) (omega (arith, f.id)) h in
    let h₂ = stands-left (word_bytes w) (le 2 r.variable_header ++ r.reserved) s (at + 32) h₁ in
    let h₃ = stands-right (word_bytes w) (le 2 r.variable_header ++ r.reserved) s (at + 32) (at + 56) (omega (arith, length-words w)) h₁ in
    let h₄ = stands-left (le 2 r.variable_header) r.reserved s (at + 56) h₃ in
    let h₅ = stands-right (le 2 r.variable_header) r.reserved s (at + 56) (at + 58) (omega (arith, length-le 2 r.variable_header)) h₃ in
    let id = rw f.id at (bytes_back r.debug_id s at h₀) in
    let zeros = rw f.zeros at (bytes_back r.reserved s (at + 58) h₅) in
    rw (
      id,
      word_back w s (at + 32) 0 (at + 32) f.numbers (omega arith) (omega arith) h₂,
      word_back w s (at + 32) 1 (at + 36) f.numbers (omega arith) (omega arith) h₂,
      word_back w s (at + 32) 2 (at + 40) f.numbers (omega arith) (omega arith) h₂,
      word_back w s (at + 32) 3 (at + 44) f.numbers (omega arith) (omega arith) h₂,
      word_back w s (at + 32) 4 (at + 48) f.numbers (omega arith) (omega arith) h₂,
      word_back w s (at + 32) 5 (at + 52) f.numbers (omega arith) (omega arith) h₂,
      le-back 2 r.variable_header s (at + 56) f.variables h₄,
      zeros,
    )
