-- What tables need of the memory that is lent for them: rows and text bytes; and 17's condition.
use Rattle.std.specs.Prelude.{Bool, ◌&&◌, List, [], ◌∷◌, ℕ, ◌+◌, ◌≤◌, length, take, leb}
use Rattle.text.specs.Leb128.{encoded}
use Rattle.model.specs.Rows.{Text}
use Rattle.model.specs.Converter.{Tables}

-- "shortest unsigned LEB128 length, then bytes"
unfoldable pub text_size : Text → ℕ
text_size t = length (encoded (length t)) + length t

abbrev pub text_bytes : List Text → ℕ
text_bytes [] = 0
text_bytes (t ∷ ts) = text_size t + text_bytes ts

-- "its offset is where the prefix begins"
abbrev pub text_offset : List Text → ℕ → ℕ
text_offset ts i = text_bytes (take i ts)

-- "A table's capacity is its lent length": rows, and bytes of texts; the index of the texts is a table too
pub record Capacities : Type 0 where
  pub texts : ℕ
  pub bytes : ℕ
  pub files : ℕ
  pub functions : ℕ
  pub calls : ℕ
  pub ranges : ℕ

-- "at most 16,777,216 rows (text: 268,435,456 bytes)"
pub record Lent (K : Capacities) : Type 0 where
  pub texts : K.texts ≤ 16777216
  pub bytes : K.bytes ≤ 268435456
  pub files : K.files ≤ 16777216
  pub functions : K.functions ≤ 16777216
  pub calls : K.calls ≤ 16777216
  pub ranges : K.ranges ≤ 16777216

-- 17 is "a table would need more rows or bytes after this call than its capacity": this is `false` then
module _ (K : Capacities) where
  unfoldable pub plain_fits? : Tables → Bool
  plain_fits? s =
      leb (length s.texts) K.texts
      && leb (text_bytes s.texts) K.bytes
      && leb (length s.files) K.files
      && leb (length s.functions) K.functions
      && leb (length s.calls) K.calls
      && leb (length s.ranges) K.ranges
