use Prim.Native.Nat.{ℕ, zero, suc, ◌+◌, ◌-◌, ◌<◌, ◌≤◌, min}
use mathlib.Core.Path.{◌≡◌, refl, sym, ap, ◌∙◌}
use mathlib.Core.List.{List, [], ◌∷◌}
use mathlib.Core.Bool.{Bool, true, false}
use native.Mathlib.Omega.{arith}
use native.Mathlib.Nat.{suc-add}
use lib.Dec.{leb}
use lib.ListN.{length, set, length-set, replicate, length-replicate, take, drop, length-take, length-drop}
use lib.Seq.{paste, sets, sets-eq, set_out}
use borrow.Author.Tests.{leb-true, leb-false}
use Rattle.std.proofs.lemmas.Slice.{put_mid-paste}
use Rattle.std.proofs.lemmas.List.{take-replicate}
use Rattle.journal.specs.Undo.{cut_to}
use Rattle.journal.proofs.undo.cut.Goals as goal

-- past the end nothing is stored
past : (t : List ℕ) (k : ℕ) (ws : List ℕ) → length t ≤ k → sets t k ws ≡ t
past t k [] h = refl
past t k (w ∷ ws) h = rw (set_out t k w h) (past t (suc k) ws (omega arith))

more : (m k : ℕ) (t : List ℕ) (a : ℕ) → length t ≤ a + m → sets t a (replicate (m + k) 0) ≡ sets t a (replicate m 0)
more zero k t a h = past t a (replicate (zero + k) 0) (omega arith)
more (suc m) k t a h = rw (suc-add m k) (more m k (set t a 0) (suc a) (rw (length-set t a 0) (omega arith)))

zeroed : (t : List ℕ) (a k : ℕ) → a + k ≤ length t → paste t a (replicate k 0) k ≡ sets t a (replicate k 0)
zeroed t a k h =
    let n : length {A = ℕ} (replicate k 0) ≡ k = length-replicate k 0 in
    sym (sets-eq (replicate k 0) t a (rw n h) ∙ rw (n, take-replicate {X = ℕ} k k 0 (let p : k ≤ k = omega arith in p)))

-- as far as there are bytes, up to e
most : (t : List ℕ) (a n e : ℕ) → e ≡ min (length t) n → a ≤ e → sets t a (replicate (e - a) 0) ≡ sets t a (replicate (n - a) 0)
most t a n e m h = go (leb n (length t)) refl
  where
    go : (b : Bool) → leb n (length t) ≡ b → sets t a (replicate (e - a) 0) ≡ sets t a (replicate (n - a) 0)
    go true p = let q : n ≤ length t = leb-true n (length t) p in let r : e ≡ n = omega (arith, m) in rw r
    go false p =
        let q : length t < n = leb-false n (length t) p in
        let r : e ≡ length t = omega (arith, m) in
        let s : n - a ≡ (e - a) + (n - e) = omega arith in
        rw s (sym (more (e - a) (n - e) t a (omega arith)))

none : (t : List ℕ) (a n : ℕ) → min (length t) n ≤ a → t ≡ sets t a (replicate (n - a) 0)
none t a n h = go (leb n a) refl
  where
    go : (b : Bool) → leb n a ≡ b → t ≡ sets t a (replicate (n - a) 0)
    go true p = let q : n ≤ a = leb-true n a p in let r : n - a ≡ 0 = omega arith in rw r
    go false p = let q : a < n = leb-false n a p in sym (past t a (replicate (n - a) 0) (omega arith))

pub returns-then-to-end : goal.returns-then-to-end
unfolding cut_to
returns-then-to-end c =
    let a = c.args in
    let e = c.min-end.result in
    let fits : length (take (e - a.to) (drop a.to a.text.now)) ≡ e - a.to = rw (length-take, length-drop) (omega arith) in
    put_mid-paste a.to _ a.text.now _ (replicate (e - a.to) 0) (e - a.to) (c.fill.ensures.after (λ y z. z) ∙ ap (λ k. replicate k 0) fits) refl (sym (length-replicate (e - a.to) 0))
    ∙ zeroed a.text.now a.to (e - a.to) (omega arith) ∙ most a.text.now a.to a.n e c.min-end.ensures (omega arith)

pub returns-else-to-end : goal.returns-else-to-end
unfolding cut_to
returns-else-to-end c = none c.args.text.now c.args.to c.args.n (omega arith)
