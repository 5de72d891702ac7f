-- Laws of the plain list of texts: the section and its length, where a text stands in it, the rows of its index, and what one more text adds.
use Prim.Native.Nat.{ℕ, zero, suc, ◌+◌, ◌<◌, ◌≤◌}
use mathlib.Core.Path.{◌≡◌, refl, sym, ◌∙◌, ap, ap₂}
use mathlib.Core.List.{List, [], ◌∷◌, ◌++◌, append_assoc, append-nil}
use mathlib.Core.Bool.{Bool, true, false, cond}
use native.Mathlib.Omega.{arith}
use native.Mathlib.Nat.{add-zero, zero-add, add_assoc}
use lib.ListN.{length, get_or, take, drop, length-append, get_or-append}
use lib.Seq.{take-take, take_all, take-append-le}
use Rattle.text.specs.Leb128.{encoded}
use Rattle.strings.specs.Strings.{stored_text, text_size_lem, text_row}
use Rattle.tables.specs.Table.{same_words}
use Rattle.table_laws.specs.Plain.{PlainInterned, row_intern}
use Rattle.table_laws.specs.PlainTexts.{text_bytes_lem, text_offset_lem, section, text_rows}
use Rattle.tables.specs.declared.Row.{Row}
use Rattle.tables.proofs.Words.{words-eq}

pub size_is : (t : List ℕ) → text_size_lem t ≡ length (encoded (length t)) + length t
unfolding text_size_lem
size_is t = refl

pub stored-length : (t : List ℕ) → length (stored_text t) ≡ text_size_lem t
unfolding stored_text text_size_lem
stored-length t = length-append (encoded (length t)) t

pub section-length : (ts : List (List ℕ)) → length (section ts) ≡ text_bytes_lem ts
section-length [] = refl
section-length (t ∷ ts) = length-append (stored_text t) (section ts) ∙ ap₂ (λ (m n : ℕ). m + n) (stored-length t) (section-length ts)

pub bytes-append : (ts us : List (List ℕ)) → text_bytes_lem (ts ++ us) ≡ text_bytes_lem ts + text_bytes_lem us
bytes-append [] us = sym (zero-add (text_bytes_lem us))
bytes-append (t ∷ ts) us = ap (λ (n : ℕ). text_size_lem t + n) (bytes-append ts us) ∙ sym (add_assoc (text_size_lem t) (text_bytes_lem ts) (text_bytes_lem us))

pub section-append : (ts us : List (List ℕ)) → section (ts ++ us) ≡ section ts ++ section us
section-append [] us = refl
section-append (t ∷ ts) us = ap (λ (l : List ℕ). stored_text t ++ l) (section-append ts us) ∙ sym (append_assoc (stored_text t) (section ts) (section us))

-- one more text
pub bytes-more : (ts : List (List ℕ)) (t : List ℕ) → text_bytes_lem (ts ++ (t ∷ [])) ≡ text_bytes_lem ts + text_size_lem t
bytes-more ts t = bytes-append ts (t ∷ []) ∙ ap (λ (n : ℕ). text_bytes_lem ts + n) (add-zero (text_size_lem t))

pub section-more : (ts : List (List ℕ)) (t : List ℕ) → section (ts ++ (t ∷ [])) ≡ section ts ++ stored_text t
section-more ts t = section-append ts (t ∷ []) ∙ ap (λ (l : List ℕ). section ts ++ l) (append-nil (stored_text t))

-- text i stands in the section, after its length, where the texts before it end
pub section-at : (ts : List (List ℕ)) (i : ℕ) → i < length ts
    → section ts ≡ section (take i ts) ++ (encoded (length (get_or ts i [])) ++ (get_or ts i [] ++ section (drop (suc i) ts)))
unfolding stored_text
section-at [] i h = absurd (omega arith)
section-at (t ∷ ts) zero h = append_assoc (encoded (length t)) t (section ts)
section-at (t ∷ ts) (suc i) h =
    ap (λ (l : List ℕ). stored_text t ++ l) (section-at ts i (omega arith))
    ∙ sym (append_assoc (stored_text t) (section (take i ts)) (encoded (length (get_or ts i [])) ++ (get_or ts i [] ++ section (drop (suc i) ts))))

pub offset-within : (ts : List (List ℕ)) (i : ℕ) → i < length ts → text_offset_lem ts i + text_size_lem (get_or ts i []) ≤ text_bytes_lem ts
offset-within [] i h = absurd (omega arith)
offset-within (t ∷ ts) zero h = omega arith
offset-within (t ∷ ts) (suc i) h = let k = offset-within ts i (omega arith) in omega arith

pub offset-end : (ts : List (List ℕ)) → text_offset_lem ts (length ts) ≡ text_bytes_lem ts
offset-end ts = ap (λ (l : List (List ℕ)). text_bytes_lem l) (take_all (length ts) ts (omega arith))

-- a part of the first b items
pub part-take : {A : Type 0} (k n b : ℕ) (l : List A) → k + n ≤ b → take n (drop k (take b l)) ≡ take n (drop k l)
part-take zero n b l h = take-take n b l (omega arith)
part-take (suc k) n zero l h = absurd (omega arith)
part-take (suc k) n (suc b) [] h = refl
part-take (suc k) n (suc b) (x ∷ l) h = part-take k n b l (omega arith)

-- ---- a list that grows at its end: what stood at a place, and the offset of that place, stay
pub record Grown (ts us : List (List ℕ)) : Type 0 where
  pub rest : List (List ℕ)
  pub is : us ≡ ts ++ rest

pub grown-then : {ts us vs : List (List ℕ)} → Grown ts us → Grown us vs → Grown ts vs
grown-then {ts} g h = record { rest = g.rest ++ h.rest; is = h.is ∙ ap (λ (l : List (List ℕ)). l ++ h.rest) g.is ∙ append_assoc ts g.rest h.rest }

pub grown-item : {ts us : List (List ℕ)} → Grown ts us → (i : ℕ) → i < length ts → get_or us i [] ≡ get_or ts i []
grown-item {ts} g i h = rw g.is (get_or-append ts g.rest [] i h)

pub grown-offset : {ts us : List (List ℕ)} → Grown ts us → (i : ℕ) → i ≤ length ts → text_offset_lem us i ≡ text_offset_lem ts i
grown-offset {ts} g i h = rw (g.is, take-append-le i ts g.rest h)

pub grown-bytes : {ts us : List (List ℕ)} → Grown ts us → text_bytes_lem ts ≤ text_bytes_lem us
grown-bytes {ts} g = rw (g.is, bytes-append ts g.rest) (omega arith)

pub grown-length : {ts us : List (List ℕ)} → Grown ts us → length ts ≤ length us
grown-length {ts} g = rw (g.is, length-append ts g.rest) (omega arith)

-- ---- interning a text
-- a stands at its index, before which nothing changes
pub record Placed (xs : List (List ℕ)) (a : List ℕ) (r : PlainInterned (List ℕ)) : Type 0 where
  pub item : get_or r.table r.index [] ≡ a
  pub below : r.index < length r.table
  pub first : r.index ≤ length xs
  pub grown : Grown xs r.table

pub placed : (xs : List (List ℕ)) (a : List ℕ) → Placed xs a (row_intern same_words xs a)
unfolding row_intern
placed [] a = record { item = refl; below = omega arith; first = omega arith; grown = record { rest = a ∷ []; is = refl } }
placed (x ∷ xs) a = go (same_words x a) refl (placed xs a)
  where
    go : (b : Bool) → same_words x a ≡ b → Placed xs a (row_intern same_words xs a)
        → Placed (x ∷ xs) a (cond {A = PlainInterned (List ℕ)} b (record { index = 0; table = x ∷ xs }) (record { index = suc (row_intern same_words xs a).index; table = x ∷ (row_intern same_words xs a).table }))
    go true e p = record { item = words-eq x a e; below = omega arith; first = omega arith; grown = record { rest = []; is = sym (append-nil (x ∷ xs)) } }
    go false e p = record {
      item = p.item;
      below = let h = p.below in omega arith;
      first = let h = p.first in omega arith;
      grown = record { rest = p.grown.rest; is = ap (λ (l : List (List ℕ)). x ∷ l) p.grown.is };
    }

-- ---- the index
pub rows-count : (o : ℕ) (ts : List (List ℕ)) → length (text_rows o ts) ≡ length ts
rows-count o [] = refl
rows-count o (t ∷ ts) = ap suc (rows-count (o + text_size_lem t) ts)

pub row_of_lem : (o : ℕ) (ts : List (List ℕ)) (i : ℕ) (d : Row) → i < length ts → get_or (text_rows o ts) i d ≡ text_row (o + text_offset_lem ts i) (get_or ts i [])
row_of_lem o [] i d h = absurd (omega arith)
row_of_lem o (t ∷ ts) zero d h = rw (add-zero o)
row_of_lem o (t ∷ ts) (suc i) d h = row_of_lem (o + text_size_lem t) ts i d (omega arith) ∙ ap (λ (n : ℕ). text_row n (get_or ts i [])) (add_assoc o (text_size_lem t) (text_offset_lem ts i))

pub rows_more : (o : ℕ) (ts : List (List ℕ)) (t : List ℕ) → text_rows o (ts ++ (t ∷ [])) ≡ text_rows o ts ++ (text_row (o + text_bytes_lem ts) t ∷ [])
rows_more o [] t = rw (add-zero o)
rows_more o (u ∷ ts) t =
    ap (λ (l : List Row). text_row o u ∷ l)
    (rows_more (o + text_size_lem u) ts t ∙ ap (λ (n : ℕ). text_rows (o + text_size_lem u) ts ++ (text_row n t ∷ [])) (add_assoc o (text_size_lem u) (text_bytes_lem ts)))
