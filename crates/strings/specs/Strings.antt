-- The string table (document 01, "Texts"): the bytes of the string section, and an index of its texts, for any content and any counts. The Rust's `StringTable`
-- keeps a hash map; here the index is one more table, with a row for each text.
use Rattle.std.specs.Prelude.{ℕ, ◌+◌, ◌*◌, ◌/◌, ◌%◌, List, [], ◌∷◌, ◌++◌, Bool, cond, ◌&&◌, ltb, leb, eqb, length, take, drop}
use Rattle.std.proofs.lemmas.List.Edits.{sets}
use Rattle.text.specs.Leb128.{encoded}
use Rattle.tables.specs.Table.{row_at, link_at, head_at, append_of, over_of, capacity_of, bucket_of, same_words, walk}
use Rattle.tables.specs.Kinds.{row_of_text, text_of_row}
use Rattle.tables.specs.declared.Row.{Row}
use Rattle.strings.specs.declared.Stored.{Stored}

-- "text: 268,435,456 bytes"
abbrev pub max_bytes : ℕ
max_bytes = 268435456

unfoldable pub text_capacity_of : ℕ → ℕ
text_capacity_of n = cond (ltb n max_bytes) n max_bytes

-- "shortest unsigned LEB128 length, then bytes"
unfoldable pub stored_text : List ℕ → List ℕ
stored_text t = encoded (length t) ++ t

unfoldable pub text_size_lem : List ℕ → ℕ
text_size_lem t = length (encoded (length t)) + length t

-- ── The hash ───────────────────────────────────────────────────────────────────────────────────────────────────────────

-- x carried on by w: a product modulo 1,791,398,085 · 2³² − 1, which is prime
abbrev pub mixed : ℕ → ℕ → ℕ
mixed x w = (x % 4294967296 + w) * 1791398085 + x / 4294967296

abbrev pub four : ℕ → ℕ → ℕ → ℕ → ℕ
four a b c d = a + b * 256 + c * 65536 + d * 16777216

-- every byte counts; four at a time, and what is left at the end one by one
unfoldable pub hash_from : ℕ → List ℕ → ℕ
hash_from x [] = x
hash_from x (a ∷ []) = mixed x a
hash_from x (a ∷ (b ∷ [])) = mixed (mixed x a) b
hash_from x (a ∷ (b ∷ (c ∷ []))) = mixed (mixed (mixed x a) b) c
hash_from x (a ∷ (b ∷ (c ∷ (d ∷ t)))) = hash_from (mixed x (four a b c d)) t

unfoldable pub text_hash : List ℕ → ℕ
text_hash t = hash_from (length t) t % 4294967291

-- ── The index ──────────────────────────────────────────────────────────────────────────────────────────────────────────

-- the row of the text t whose prefix begins at the offset
unfoldable pub text_row : ℕ → List ℕ → Row
text_row offset t = row_of_text (record { offset = offset; start = offset + length (encoded (length t)); len = length t; hash = text_hash t })

-- a row's text is t: hash, length, and then all the bytes are compared
unfoldable pub is_text : List ℕ → List ℕ → Row → Bool
is_text text t r =
    eqb (text_of_row r).hash (text_hash t)
    && (eqb (text_of_row r).len (length t) && same_words (take (length t) (drop (text_of_row r).start text)) t)

unfoldable pub text_at_lem : List ℕ → List ℕ → List ℕ → ℕ → Bool
text_at_lem text strings t i = is_text text t (row_at strings i)

-- the newest row in the bucket of t, as a link
unfoldable pub newest_text : List ℕ → List ℕ → ℕ
newest_text strings t = head_at (capacity_of (length strings)) strings (bucket_of (text_hash t) (capacity_of (length strings)))

-- the number of the row whose text is t among the first n; n where there is none
unfoldable pub find_text : List ℕ → List ℕ → ℕ → List ℕ → ℕ
find_text text strings n t = walk (link_at strings) (text_at_lem text strings t) n n (newest_text strings t)

-- row n, at the head of its hash's bucket
unfoldable pub index_of : ℕ → List ℕ → ℕ → Row → List ℕ
index_of cap strings n r =
    append_of cap strings n r (head_at cap strings (bucket_of (text_of_row r).hash cap)) (bucket_of (text_of_row r).hash cap)

-- ── Storing ────────────────────────────────────────────────────────────────────────────────────────────────────────────

-- what storing answers, and what it leaves
pub record StringsLeft : Type 0 where
  pub got : Stored
  pub text : List ℕ
  pub strings : List ℕ

abbrev pub strings_left : Stored → List ℕ → List ℕ → StringsLeft
strings_left g t s = record { got = g; text = t; strings = s }

-- the offset of the text, and the counts of bytes and of texts after it
abbrev pub text_stored : ℕ → ℕ → ℕ → Stored
text_stored offset bytes count = record { offset = offset; bytes = bytes; count = count }

-- with no room nothing is written: the count of bytes is above its capacity if the text had no room, else the count of texts
unfoldable pub full_of : ℕ → ℕ → ℕ → ℕ → ℕ → Stored
full_of bytes count size limit cap =
    cond (leb (bytes + size) limit) (text_stored bytes bytes (over_of count cap)) (text_stored bytes (over_of bytes limit) count)

-- a new text, at the end of the section and of the index, where both have room
unfoldable pub store_of : List ℕ → List ℕ → ℕ → ℕ → List ℕ → StringsLeft
store_of text strings bytes count t =
    cond (leb (bytes + text_size_lem t) (text_capacity_of (length text)) && ltb count (capacity_of (length strings)))
    (strings_left
    (text_stored bytes (bytes + text_size_lem t) (count + 1))
    (sets text bytes (stored_text t))
    (index_of (capacity_of (length strings)) strings count (text_row bytes t)))
    (strings_left (full_of bytes count (text_size_lem t) (text_capacity_of (length text)) (capacity_of (length strings))) text strings)

-- with the row found at hand
unfoldable pub insert_text_at : List ℕ → List ℕ → ℕ → ℕ → List ℕ → ℕ → StringsLeft
insert_text_at text strings bytes count t i =
    cond (ltb i count) (strings_left (text_stored (text_of_row (row_at strings i)).offset bytes count) text strings) (store_of text strings bytes count t)

-- "A text is stored once"; "An empty text takes offset MAX"
unfoldable pub insert_text_of : List ℕ → List ℕ → ℕ → ℕ → List ℕ → StringsLeft
insert_text_of text strings bytes count t =
    cond (eqb (length t) 0) (strings_left (text_stored 4294967295 bytes count) text strings)
    (insert_text_at text strings bytes count t (find_text text strings count t))
