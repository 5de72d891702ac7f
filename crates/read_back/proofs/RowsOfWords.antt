-- Rows of words in a list of bytes: each stands where its index says, and its words are read back.
use Prim.Native.Nat.{ℕ, zero, suc, ◌+◌, ◌*◌, ◌<◌}
use mathlib.Core.Path.{◌≡◌, refl, sym, ap, ◌∙◌}
use mathlib.Core.List.{List, [], ◌∷◌, ◌++◌, map, append_assoc}
use native.Mathlib.Nat.{add-zero, mul-zero, mul-suc}
use native.Mathlib.Omega.{arith}
use lib.ListN.{length, get_or, length-append}
use Rattle.slices.specs.Bytes.{le, word_bytes, Words32, Stands, table_bytes}
use Rattle.raw.specs.Rows.{file_at_lem, function_at_lem, location_at}
use Rattle.raw.specs.declared.File.{File}
use Rattle.raw.specs.declared.Function.{Function}
use Rattle.raw.specs.declared.SourceLocation.{SourceLocation}
use Rattle.slices.proofs.Bytes.{length-words, stands-left, stands-right, word_back}
use Rattle.model.proofs.Sections.{word}
use Rattle.read_back.specs.Bytes.{Rows}

-- a row of n words that stands at m
pub record RowAt (n : ℕ) (r s : List ℕ) (m : ℕ) : Type 0 where
  pub size : length r ≡ n
  pub low : Words32 r
  pub stands : Stands (word_bytes r) s m

module _ (n b : ℕ) (wide : 4 * n ≡ b) where
  row-size : (r : List ℕ) → length r ≡ n → length (word_bytes r) ≡ b
  row-size r e = length-words r ∙ rw e wide

  pub table-size : (rs : List (List ℕ)) → Rows n rs → length (table_bytes word_bytes rs) ≡ b * length rs
  unfolding table_bytes
  table-size [] w = sym (mul-zero b)
  table-size (r ∷ rs) w = simp (length-append, row-size r w.0.0, table-size rs w.1, mul-suc) (omega arith)

  -- row i stands i rows further on
  pub row-there : (rs : List (List ℕ)) (d s : List ℕ) (at i m : ℕ) → Rows n rs → i < length rs → m ≡ at + b * i → Stands (table_bytes word_bytes rs) s at → RowAt n (get_or rs i d) s m
  unfolding table_bytes
  row-there [] d s at i m w h e g = absurd (omega arith)
  row-there (r ∷ rs) d s at zero m w h e g =
      let e' : m ≡ at = e ∙ rw (mul-zero b, add-zero) in
      record { size = w.0.0; low = w.0.1; stands = rw e' (stands-left (word_bytes r) (table_bytes word_bytes rs) s at g) }
  row-there (r ∷ rs) d s at (suc i) m w h e g =
      let e' : m ≡ at + b + b * i = e ∙ rw (mul-suc b i) (omega arith) in
      row-there rs d s (at + b) i m w.1 (omega arith) e' (stands-right (word_bytes r) (table_bytes word_bytes rs) s at (at + b) (rw (row-size r w.0.0)) g)

-- ── Tables of other rows are such tables ──

module _ {A B : Type 0} where
  pub table-map : (bytes : B → List ℕ) (f : A → B) (xs : List A) → table_bytes bytes (map f xs) ≡ table_bytes (λ (x : A). bytes (f x)) xs
  unfolding table_bytes
  table-map bytes f [] = refl
  table-map bytes f (x ∷ xs) = ap (λ (l : List ℕ). bytes (f x) ++ l) (table-map bytes f xs)

module _ {A : Type 0} where
  pub table-append : (bytes : A → List ℕ) (xs ys : List A) → table_bytes bytes (xs ++ ys) ≡ table_bytes bytes xs ++ table_bytes bytes ys
  unfolding table_bytes
  table-append bytes [] ys = refl
  table-append bytes (x ∷ xs) ys = ap (λ (l : List ℕ). bytes x ++ l) (table-append bytes xs ys) ∙ sym (append_assoc (bytes x) (table_bytes bytes xs) (table_bytes bytes ys))

  pub table_same : (f g : A → List ℕ) → ((x : A) → f x ≡ g x) → (xs : List A) → table_bytes f xs ≡ table_bytes g xs
  unfolding table_bytes
  table_same f g e [] = refl
  table_same f g e (x ∷ xs) = rw (e x, table_same f g e xs)

  -- a table of one word a row
  pub table-words : (f : A → ℕ) (xs : List A) → table_bytes (λ (x : A). word_bytes (f x ∷ [])) xs ≡ word_bytes (map f xs)
  unfolding table_bytes word_bytes
  table-words f [] = refl
  table-words f (x ∷ xs) = append_assoc (le 4 (f x)) [] (table_bytes (λ (y : A). word_bytes (f y ∷ [])) xs) ∙ ap (λ (l : List ℕ). le 4 (f x) ++ l) (table-words f xs)

-- ── Words as rows ──

abbrev pub file_of : List ℕ → File
file_of r = record {
  comp_dir_offset = word 0 r;
  directory_offset = word 1 r;
  name_offset = word 2 r;
  srcsrv_name_offset = word 3 r;
  srcsrv_dir_offset = word 4 r;
  srcsrv_revision_offset = word 5 r;
}

abbrev pub function_of : List ℕ → Function
function_of r = record { name_offset = word 0 r; comp_dir_offset = word 1 r; entry_pc = word 2 r; lang = word 3 r }

abbrev pub location_of : List ℕ → SourceLocation
location_of r = record { file_idx = word 0 r; line = word 1 r; function_idx = word 2 r; inlined_into_idx = word 3 r }

module _ (r s : List ℕ) (at : ℕ) where
  pub file_row : RowAt 6 r s at → file_at_lem s at ≡ file_of r
  unfolding file_at_lem
  file_row p =
      let l : length r ≡ 6 = p.size in
      rw (
        word_back r s at 0 at p.low (omega arith) (omega arith) p.stands,
        word_back r s at 1 (at + 4) p.low (omega arith) (omega arith) p.stands,
        word_back r s at 2 (at + 8) p.low (omega arith) (omega arith) p.stands,
        word_back r s at 3 (at + 12) p.low (omega arith) (omega arith) p.stands,
        word_back r s at 4 (at + 16) p.low (omega arith) (omega arith) p.stands,
        word_back r s at 5 (at + 20) p.low (omega arith) (omega arith) p.stands,
      )

  module _ (p : RowAt 4 r s at) where
    pub function_row : function_at_lem s at ≡ function_of r
    unfolding function_at_lem
    function_row =
        let l : length r ≡ 4 = p.size in
        rw (
          word_back r s at 0 at p.low (omega arith) (omega arith) p.stands,
          word_back r s at 1 (at + 4) p.low (omega arith) (omega arith) p.stands,
          word_back r s at 2 (at + 8) p.low (omega arith) (omega arith) p.stands,
          word_back r s at 3 (at + 12) p.low (omega arith) (omega arith) p.stands,
        )

    pub location_row : location_at s at ≡ location_of r
    unfolding location_at
    location_row =
        let l : length r ≡ 4 = p.size in
        rw (
          word_back r s at 0 at p.low (omega arith) (omega arith) p.stands,
          word_back r s at 1 (at + 4) p.low (omega arith) (omega arith) p.stands,
          word_back r s at 2 (at + 8) p.low (omega arith) (omega arith) p.stands,
          word_back r s at 3 (at + 12) p.low (omega arith) (omega arith) p.stands,
        )
