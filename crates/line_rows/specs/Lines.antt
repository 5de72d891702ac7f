-- Line rows as one lent list of rows: document 01, "First over plain number slices; then one thin entry takes the line rows as one lent list of
-- rows". The words that a row is unpacked to, and the
-- columns of numbers that a list of rows stands for.
use Rattle.std.specs.Prelude.{Bool, cond, List, [], ◌∷◌, ◌++◌, ℕ, suc, ◌*◌, ◌/◌, eqb, ltb, length, get_or}
use Rattle.std.proofs.lemmas.List.Edits.{sets}
use Rattle.slices.specs.Slices.{flag_of}
use Rattle.rows.specs.Columns.{Columns, columns, line_fields}
use Rattle.refusals.specs.Refusals.{each, line_texts?}
use Rattle.rows.specs.declared.LineRow.{LineRow}

-- ── A row as words ──

-- a row of zeros
abbrev pub no_line : LineRow
no_line = line_fields [] [] 0

abbrev pub words64 : LineRow → List ℕ
words64 l = l.address ∷ l.size ∷ l.number ∷ []

abbrev pub words32 : LineRow → List ℕ
words32 l =
    flag_of l.has_size ∷ l.name.start ∷ l.name.len ∷ l.directory.start ∷ l.directory.len
    ∷ flag_of l.srcsrv_name.present ∷ l.srcsrv_name.part.start ∷ l.srcsrv_name.part.len
    ∷ flag_of l.srcsrv_dir.present ∷ l.srcsrv_dir.part.start ∷ l.srcsrv_dir.part.len
    ∷ flag_of l.revision.present ∷ l.revision.part.start ∷ l.revision.part.len ∷ []

-- ── All rows as columns ──

unfoldable pub packed : (LineRow → List ℕ) → List LineRow → List ℕ
packed f [] = []
packed f (l ∷ ls) = f l ++ packed f ls

-- the columns that line rows ls stand for, with those of the function rows
abbrev pub line_columns : List ℕ → List ℕ → List LineRow → List ℕ → Columns
line_columns f64 f32 ls t = columns f64 f32 (packed words64 ls) (packed words32 ls) t

-- 14: the texts of all line rows
abbrev pub lines_texts? : List ℕ → List LineRow → Bool
lines_texts? t ls = each (λ (j : ℕ). line_texts? t (get_or ls j no_line)) (length ls)

-- ── Unpacking ──

-- the w words vs of row j into t, where there is room
unfoldable pub put_row : ℕ → List ℕ → ℕ → List ℕ → List ℕ
put_row w t j vs = cond (ltb j (length t / w)) (sets t (j * w) vs) t

unfoldable pub put_lines : ℕ → (LineRow → List ℕ) → List LineRow → ℕ → List ℕ → List ℕ
put_lines w f [] j t = t
put_lines w f (l ∷ ls) j t = put_lines w f ls (suc j) (put_row w t j (f l))

-- t after all rows were unpacked to w words each; as it was where the call is refused
unfoldable pub unpacked_to : ℕ → ℕ → (LineRow → List ℕ) → List LineRow → List ℕ → List ℕ
unpacked_to refused w f ls t = cond (eqb refused 0) (put_lines w f ls 0 t) t
