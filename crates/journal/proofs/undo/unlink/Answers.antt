use Prim.Native.Nat.{ℕ, suc, ◌+◌, ◌*◌}
use mathlib.Core.Path.{◌≡◌}
use mathlib.Core.List.{List}
use native.Mathlib.Omega.{arith}
use lib.ListN.{set}
use Rattle.tables.specs.Table.{link_at, set_row}
use Rattle.tables.specs.declared.Row.{Row}
use Rattle.tables.proofs.Rows.{zero_is}
use Rattle.journal.specs.Undo.{undo_of, zero_row}
use Rattle.journal.proofs.undo.unlink.Goals as goal

law : (m : ℕ) (t : List ℕ) (n h : ℕ) {l : ℕ} {z : Row} {t₁ t₂ t₃ : List ℕ} → l ≡ link_at t n → t₁ ≡ set t (m * 7 + h) l → z ≡ zero_row → t₂ ≡ set_row t₁ n z → t₃ ≡ set t₂ (n * 7 + 6) 0 → t₃ ≡ undo_of m t n h
unfolding undo_of set_row
law m t n h e e1 z e2 e3 =
    let s : n * 7 + 6 ≡ suc (suc (suc (suc (suc (suc (n * 7)))))) = omega arith in
    rw (e3, e2, z, e1, e, s)

pub returns : goal.returns
returns c =
    let a = c.args in
    law a.cap a.t.now a.n a.h c.link_at-link.ensures c.put.ensures (zero_is c.default.ensures) c.set_row.ensures c.put-2.ensures
