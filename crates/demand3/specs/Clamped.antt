-- K5, "COUNTING CLAMPED LINES": "The converter counts such line rows over all accepted trees, each row once, in skipped functions as well, as a 64-bit
-- number it hands out on request. It is 0 after beginning and while closed, and stays at 2^64 − 1 once there." Over every list of calls.
use Rattle.std.specs.Prelude.{◌≡◌, Bool, List, [], ◌∷◌, ℕ, ◌+◌}
use Rattle.model.specs.Rows.{Given, tree_rows, symbol_row}
use Rattle.rows.specs.Clamped.{clamped_rows}
use Rattle.memory.specs.Memory.{Memory}
use Rattle.memory.specs.Record.{while_open, capped, clamped_lines_lem}
use Rattle.demand3.specs.Lists.{Call, run, by_value, beginning}

-- the clamped line rows of an accepted call: a symbol has no lines
abbrev pub clamped_in : Given → ℕ
clamped_in (tree_rows q rs) = clamped_rows (q ∷ rs)
clamped_in (symbol_row y) = 0

-- and of all that count
unfoldable pub clamped_calls : List Given → ℕ
clamped_calls [] = 0
clamped_calls (g ∷ gs) = clamped_in g + clamped_calls gs

-- after every beginning and every list of calls, refused ones included, what is handed out: while open the count over the accepted trees since the
-- beginning, at most 2^64 − 1; while closed 0
abbrev pub ClampedCounted : Type 0
ClampedCounted =
    (id : List ℕ) (arch : ℕ) (f s : Bool) (m : Memory) (calls : List Call)
    → let x = run by_value calls (beginning id arch f s m) in
    clamped_lines_lem x.carrier ≡ while_open x.carrier.«open» (capped (clamped_calls x.counted))
