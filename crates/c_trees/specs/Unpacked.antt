-- What the call over unpacked line rows leaves, for any content and any length.
use Rattle.std.specs.Prelude.{ℕ, ◌*◌, ◌/◌, cond, ◌&&◌, List, eqb, leb, length, take}
use Rattle.slices.specs.Slices.{zeros}
use Rattle.rows.specs.Columns.{columns}
use Rattle.memory.specs.Memory.{Memory}
use Rattle.c_words.specs.Writing.{call_left, tree_call, LinesCallLeft, lines_left_lem}

-- the tree call over the first n rows of what was unpacked into u and v, if it isn't refused; 16 where they hold fewer
unfoldable pub unpacked_call : ℕ → ℕ → List ℕ → Memory → List ℕ → List ℕ → List ℕ → List ℕ → List ℕ → List ℕ → LinesCallLeft
unpacked_call refused n r m s u v f64 f32 t =
    cond (eqb refused 0)
    (cond (leb n (length u / 3) && leb n (length v / 14))
    (lines_left_lem (tree_call r m s (columns f64 f32 (take (n * 3) u) (take (n * 14) v) t)) (zeros u) (zeros v))
    (lines_left_lem (call_left 16 r m s) u v))
    (lines_left_lem (call_left refused r m s) u v)
