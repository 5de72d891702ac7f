-- Document 01's small worked file, by computation: the bytes of its calls are the 305 bytes that the original wrote; its calls meet what is asked of a list; so these bytes show M1's two frames.
use Prim.Native.Nat.{ℕ}
use mathlib.Core.Path.{◌≡◌, refl, ap, ◌∙◌, subst}
use mathlib.Core.Bool.{true}
use mathlib.Core.Option.{Option, none, some}
use mathlib.Core.List.{List, [], ◌∷◌, ◌++◌, map}
use native.Mathlib.Omega.{arith}
use lib.ListN.{get_or, replicate}
use Rattle.text.specs.Leb128.{encoded_in, encoded}
use Rattle.text.specs.Utf8.{utf8, chars, char_len, Utf8Char, fits, within}
use Rattle.slices.specs.Bytes.{le, word_bytes, table_bytes}
use Rattle.raw.specs.Rows.{version_info_bytes, header_bytes}
use Rattle.raw.specs.Head.{padding}
use Rattle.read_back.proofs.WorkedBytes as original
use Rattle.model.specs.Basics.{◌∈◌}
use Rattle.model.specs.Rows.{MAX, Text, Given}
use Rattle.model.specs.Converter.{Tables, converted}
use Rattle.model.specs.Frames as plain
use Rattle.model.specs.Frames.{frames_at}
use Rattle.model.specs.Counts.{text_size, Capacities, Lent, plain_fits?}
use Rattle.model.specs.Written.{place_range, by_start, as_written}
use Rattle.model.specs.FileWords.{string_section, sections}
use Rattle.model.proofs.Spans.{∈-elim}
use Rattle.model.proofs.Compact.{LineFits, RowFits, GivenFits}
use Rattle.model.proofs.Worked.{plain-setup, trk, pos, ars, prs, line, root-row, inlinee-row, worked, frame, worked-file}
use Rattle.read_back.specs.Bytes.{file_bytes}
use Rattle.read_back.specs.Shown.{with_stand_in, Found}
use Rattle.read_back.proofs.Written.{file-shows}

abbrev bytes : Tables → List ℕ
bytes s = file_bytes (replicate 32 0) 0 (sections (as_written s))

-- THE BYTES ARE THE ORIGINAL'S
pub worked-bytes : bytes (converted plain-setup worked) ≡ original.worked
unfolding encoded_in encoded text_size place_range by_start string_section le word_bytes table_bytes version_info_bytes header_bytes padding file_bytes original.worked
worked-bytes = ap bytes worked-file.tables ∙ refl

-- ── The calls fit ──

empty : {A : Type 0} (P : A → Type 0) (a : A) → a ∈ [] → P a
empty P a i = elim i [ ]

no_text : {A : Type 0} (t : Text) → ◌≡◌ {A = Option Text} none (some t) → A
no_text t e = let bad : ◌≡◌ {A = ℕ} 0 1 = cc in absurd (omega arith)

line-fits : (a : ℕ) (z : Option ℕ) (n : ℕ) (f : Text) → utf8 f ≡ true → LineFits (line a z n f)
unfolding utf8 chars char_len Utf8Char fits within
line-fits a z n f u = record { name = u; directory = refl; srcsrv_name = λ t e. no_text t e; srcsrv_dir = λ t e. no_text t e; revision = λ t e. no_text t e }

root-fits : RowFits root-row
unfolding utf8 chars char_len Utf8Char fits within
root-fits = record { name = refl; language = omega arith; lines = ∈-elim LineFits (line-fits 0x1000 (some 8) 10 ars refl) (∈-elim LineFits (line-fits 0x1008 (some 8) 11 ars refl) (empty LineFits)) }

inlinee-fits : RowFits inlinee-row
unfolding utf8 chars char_len Utf8Char fits within
inlinee-fits = record { name = refl; language = omega arith; lines = ∈-elim LineFits (line-fits 0x1002 (some 4) 50 prs refl) (empty LineFits) }

pub worked-fits : (g : Given) → g ∈ worked → GivenFits g
worked-fits = ∈-elim GivenFits (root-fits, ∈-elim RowFits inlinee-fits (empty RowFits)) (empty GivenFits)

abbrev capacities : Capacities
capacities = record { texts = 6; bytes = 25; files = 2; functions = 2; calls = 1; ranges = 5 }

lent : Lent capacities
lent = record { texts = omega arith; bytes = omega arith; files = omega arith; functions = omega arith; calls = omega arith; ranges = omega arith }

room : plain_fits? capacities (converted plain-setup worked) ≡ true
unfolding plain_fits? text_size encoded_in encoded
room = ap (plain_fits? capacities) worked-file.tables ∙ refl

-- ── What they show ──

-- what follows the bytes is nothing
alone : (l : List ℕ) → l ++ [] ≡ l
alone [] = refl
alone (x ∷ l) = ap (λ (t : List ℕ). x ∷ t) (alone l)

-- M1: the inlinee's frame, then the root's
pub worked-shown : (d : List ℕ) → Found original.worked d 0x1003 (map (with_stand_in d) (frame pos MAX 50 prs ∷ frame trk 0x1000 10 ars ∷ []))
worked-shown d =
    let e : frames_at (converted plain-setup worked) 0x1003 ≡ frame pos MAX 50 prs ∷ frame trk 0x1000 10 ars ∷ [] = ap (λ (l : List (List plain.Frame)). get_or l 2 []) worked-file.frames in
    subst (λ (v : List plain.Frame). Found original.worked d 0x1003 (map (with_stand_in d) v)) e
    (subst (λ (s : List ℕ). Found s d 0x1003 (map (with_stand_in d) (frames_at (converted plain-setup worked) 0x1003))) (alone (bytes (converted plain-setup worked)) ∙ worked-bytes)
    (file-shows plain-setup worked worked-fits capacities lent room (replicate 32 0) 0 refl (omega arith) [] d 0x1003))
