-- A count of the bytes or words at the front of a slice, and of the records that were visited.
use Rattle.std.specs.Prelude.{◌≡◌, ℕ, ◌≤◌, List, length, take}
use Rattle.std.specs.List.{FoldsTo}

-- `&xs[..n]` is in bounds and has n bytes. The second part follows from the first, and spares a caller's `&buf[..n]` a proof.
abbrev pub IsPrefixLen : ℕ → List ℕ → Type 0
IsPrefixLen n xs = (n ≤ length xs) × (n ≡ length (take n xs))

-- n records were visited, one after the other, which took what visits them from its state p to q
abbrev pub Visited : {P A : Type 0} → (P → A → P → Type 0) → P → ℕ → P → Type 0
Visited {P} {A} R p n q = (records : List A) × FoldsTo R p records q × (length records ≡ n)
