-- A count of at most a slice's length is the length of the part that it counts; the checksum of what is still to come; digits.
use Rattle.std.proofs.Common.{◌≡◌, ℕ, ◌+◌, ◌<◌, ◌≤◌, List, length, get_or, drop, sym, add-one, length-append, length-take-le, drop-cons, le-ltb, lt-ltb}
use lib.Seq.{drop-length}
use Rattle.std.specs.Prelude.{◌++◌, ◌∷◌, []}
use Rattle.std.proofs.lemmas.Fn.{FoldsTo-push}
use Rattle.replay.specs.Counts.{IsPrefixLen, Visited}
use Rattle.replay.specs.Sums.{sum_with, sum_with_all, sum_digit}

pub counts : (n : ℕ) (t : List ℕ) → n ≤ length t → IsPrefixLen n t
counts n t h = (h, sym (length-take-le n t h))

-- the checksum h, of which the word v at i makes h'
pub sum_more : (h h' v : ℕ) (s : List ℕ) (i all : ℕ) → h' ≡ sum_with h v → v ≡ get_or s i 0 → i < length s → sum_with_all h (drop i s) ≡ all → sum_with_all h' (drop (i + 1) s) ≡ all
unfolding sum_with_all
sum_more h h' v s i all e w lt p = rw (e, w, add-one i) (rw (drop-cons s i 0 lt) at p)

pub sum_done : (h : ℕ) (s : List ℕ) (i all : ℕ) → i ≡ length s → sum_with_all h (drop i s) ≡ all → h ≡ all
unfolding sum_with_all
sum_done h s i all e p = rw (e, drop-length s) at p

pub low_digit : (d : ℕ) → d < 10 → 48 + d ≡ sum_digit d
low_digit d h = rw (lt-ltb d 10 h)

pub high_digit : (d : ℕ) → 10 ≤ d → 55 + d ≡ sum_digit d
high_digit d h = rw (le-ltb d 10 h)

-- a record more was visited
pub visited : {P A : Type 0} (R : P → A → P → Type 0) (p : P) (n : ℕ) (q : P) (x : A) (u : P) → Visited R p n q → R q x u → Visited R p (n + 1) u
visited R p n q x u (xs, calls, e) r = (xs ++ (x ∷ []), FoldsTo-push R p xs q x u calls r, rw (length-append xs (x ∷ []), e))
