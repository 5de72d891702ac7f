-- What inserting a row that was there before leaves: the count.
use Prim.Native.Nat.{ℕ, ◌+◌, ◌<◌}
use mathlib.Core.Path.{◌≡◌, refl, ap, ◌∙◌}
use mathlib.Core.List.{List}
use mathlib.Core.Bool.{Bool, true, false, cond}
use lib.Dec.{ltb}
use borrow.Author.Tests.{lt-ltb}
use Rattle.tables.specs.Table.{append_of, over_of, insert_at, insert_of, inserted, left, Left}
use Rattle.tables.specs.declared.Row.{Row}
use Rattle.tables.specs.declared.Inserted.{Inserted}

module _ (t : List ℕ) (n : ℕ) (q : Row) (cap h l i : ℕ) where
  index_is : (insert_at t n q cap h l i).got.index ≡ i
  unfolding insert_at
  index_is = go (ltb i n) (ltb n cap)
    where
      go : (x y : Bool) →
          (cond x (left (inserted i n) t) (cond y (left (inserted i (n + 1)) (append_of cap t n q l h)) (left (inserted i (over_of n cap)) t))).got.index ≡ i
      go true y = refl
      go false true = refl
      go false false = refl

  kept_at : (insert_at t n q cap h l i).got.index < n → (insert_at t n q cap h l i).got.count ≡ n
  unfolding insert_at
  kept_at p = let k : i < n = rw index_is at p in rw (lt-ltb i n k)

pub count_kept : (t : List ℕ) (n : ℕ) (q : Row) {x : Left Inserted} → x ≡ insert_of 1 t n q → x.got.index < n → x.got.count ≡ n
unfolding insert_of
count_kept t n q e h = ap (λ y. y.got.count) e ∙ kept_at t n q _ _ _ _ (rw e at h)
