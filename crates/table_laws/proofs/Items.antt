-- What is found in a list from its head on: by induction where nothing is hit, and to the first place that is. Laws of `intern`: an item that stands in no place is
-- appended, one that stands somewhere is found at its first place, and the list only grows.
use Prim.Native.Nat.{ℕ, zero, suc, ◌+◌, ◌<◌, ◌≤◌}
use mathlib.Core.Path.{◌≡◌, refl, ap}
use mathlib.Core.List.{List, [], ◌∷◌, ◌++◌}
use mathlib.Core.Bool.{Bool, true, false, cond}
use native.Mathlib.Omega.{arith}
use lib.Dec.{ltb}
use lib.ListN.{length, get_or, length-append}
use borrow.Author.Tests.{ltb-true, ltb-false}
use Rattle.table_laws.specs.Plain.{PlainInterned, row_intern, intern_all}

module _ {A : Type 0} (hit : A → Bool) (d : A) where
  pub by_none : (P : List A → Type 0) → P [] → ((x : A) (xs : List A) → hit x ≡ false → P xs → P (x ∷ xs))
      → (xs : List A) → ((i : ℕ) → i < length xs → hit (get_or xs i d) ≡ false) → P xs
  by_none P z s [] h = z
  by_none P z s (x ∷ xs) h = s x xs (h 0 (omega arith)) (by_none P z s xs (λ i p. h (suc i) (omega arith)))

  pub by_found : (P : List A → ℕ → Type 0) → ((x : A) (xs : List A) → hit x ≡ true → P (x ∷ xs) 0) → ((x : A) (xs : List A) (i : ℕ) → hit x ≡ false → P xs i → P (x ∷ xs) (suc i))
      → (xs : List A) (i : ℕ) → i < length xs → hit (get_or xs i d) ≡ true → ((j : ℕ) → j < i → hit (get_or xs j d) ≡ false) → P xs i
  by_found P z s [] i p e h = absurd (omega arith)
  by_found P z s (x ∷ xs) zero p e h = z x xs e
  by_found P z s (x ∷ xs) (suc i) p e h = s x xs i (h 0 (omega arith)) (by_found P z s xs i (omega arith) e (λ j r. h (suc j) (omega arith)))

module _ {A : Type 0} (eq : A → A → Bool) where
  -- x is passed
  abbrev past : A → PlainInterned A → PlainInterned A
  past x r = record { index = suc r.index; table = x ∷ r.table }

  pub intern-none : (xs : List A) (a d : A) → ((i : ℕ) → i < length xs → eq (get_or xs i d) a ≡ false) → row_intern eq xs a ≡ record { index = length xs; table = xs ++ (a ∷ []) }
  unfolding row_intern
  intern-none xs a d = by_none (λ (x : A). eq x a) d (λ (l : List A). row_intern eq l a ≡ record { index = length l; table = l ++ (a ∷ []) }) refl (λ x l e ih. rw e (ap (past x) ih)) xs

  pub intern-found : (xs : List A) (a d : A) (i : ℕ) → i < length xs → eq (get_or xs i d) a ≡ true → ((j : ℕ) → j < i → eq (get_or xs j d) a ≡ false)
      → row_intern eq xs a ≡ record { index = i; table = xs }
  unfolding row_intern
  intern-found xs a d = by_found (λ (x : A). eq x a) d (λ (l : List A) (i : ℕ). row_intern eq l a ≡ record { index = i; table = l }) (λ x l e. rw e) (λ x l i e ih. rw e (ap (past x) ih)) xs

  pub intern-length : (xs : List A) (a : A) → length xs ≤ length (row_intern eq xs a).table
  unfolding row_intern
  intern-length [] a = omega arith
  intern-length (x ∷ xs) a = go (eq x a) (intern-length xs a)
    where
      go : (b : Bool) → length xs ≤ length (row_intern eq xs a).table → suc (length xs) ≤ length (cond {A = PlainInterned A} b (record { index = 0; table = x ∷ xs }) (past x (row_intern eq xs a))).table
      go true h = omega arith
      go false h = omega arith

  pub all-length : (bs xs : List A) → length xs ≤ length (intern_all eq xs bs)
  unfolding intern_all
  all-length [] xs = omega arith
  all-length (a ∷ bs) xs = let p = intern-length xs a in let q = all-length bs (row_intern eq xs a).table in omega arith

pub one_more : {A : Type 0} (xs : List A) (a : A) → length (xs ++ (a ∷ [])) ≡ suc (length xs)
one_more xs a = simp length-append (omega arith)

-- a count that is the length where that is within the capacity, and capacity + 1 where it is not, passes the capacity exactly where the length does
pub exact : {count len cap : ℕ} → (len ≤ cap → count ≡ len) → (cap < len → count ≡ cap + 1) → (cap < count → cap < len) × (cap < len → cap < count)
exact {count} {len} {cap} within beyond = (λ h. go (ltb cap len) refl h, λ h. let e = beyond h in omega arith)
  where
    go : (b : Bool) → ltb cap len ≡ b → cap < count → cap < len
    go true e h = ltb-true _ _ e
    go false e h = let r : len ≤ cap = ltb-false _ _ e in let s = within r in omega arith
