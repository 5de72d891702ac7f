use Prim.Native.Nat.{ℕ, suc, ◌+◌, ◌<◌, ◌≤◌}
use mathlib.Core.Path.{◌≡◌, refl, sym, ◌∙◌}
use mathlib.Core.List.{List, [], ◌∷◌}
use native.Mathlib.Omega.{arith}
use native.Mathlib.Nat.{add-suc}
use native.Mathlib.Numerals.{add-one}
use lib.ListN.{length, get_or, set, drop}
use lib.Seq.{sets, sets-eq, set_out, drop-cons}
use Rattle.std.proofs.lemmas.Slice.{put_mid-paste}
use Rattle.tables.specs.Table.{row_words}
use Rattle.tables.proofs.set_six.Goals as goal

-- past the end nothing is stored
past : (t : List ℕ) (k : ℕ) (ws : List ℕ) → length t ≤ k → sets t k ws ≡ t
past t k [] h = refl
past t k (w ∷ ws) h = rw (set_out t k w h) (past t (suc k) ws (omega arith))

turn : (t ws : List ℕ) (k i : ℕ) → i < length ws → sets (set t (k + i) (get_or ws i 0)) (k + (i + 1)) (drop (i + 1) ws) ≡ sets t (k + i) (drop i ws)
turn t ws k i h = rw (drop-cons ws i 0, add-one i, add-suc k i)

pub loop-i-preserved : goal.loop-i-preserved
loop-i-preserved c = turn c.loop-i.t (row_words c.args.r) c.args.k0 c.loop-i.i (omega arith) ∙ c.loop-i.invariant

pub returns-then-room-ge6 : goal.returns-then-room-ge6
returns-then-room-ge6 c =
    let a = c.args in
    put_mid-paste a.k0 _ a.t.now _ (row_words a.r) 6 c.copy_from_slice.ensures.after (omega arith) refl
    ∙ sym (sets-eq (row_words a.r) a.t.now a.k0 (omega arith))

pub returns-after-loop-i : goal.returns-after-loop-i
returns-after-loop-i c =
    let a = c.args in
    let l = c.loop-i.auto.t in
    sym (past c.loop-i.t (a.k0 + c.loop-i.i) (drop c.loop-i.i (row_words a.r)) (omega (arith, l))) ∙ c.loop-i.invariant
