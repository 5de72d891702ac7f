-- What a call of the library says lies inside what it is lent.
use Prim.Native.Nat.{ℕ, ◌+◌, ◌≤◌}
use mathlib.Core.Path.{◌≡◌}
use mathlib.Core.List.{List}
use native.Mathlib.Omega.{arith}
use lib.ListN.{length, take, drop, length-take, length-drop}
use Rattle.listing.specs.declared.Listing.{Listing}
use Rattle.listing.specs.Pieces.{listed_out, list_of}
use Rattle.listing.proofs.Cut.{gets_on}

pub record Inside (piece o : List ℕ) (u w : ℕ) : Type 0 where
  pub used : u ≤ length piece
  pub written : w ≤ length o

pub inside : (file piece out : List ℕ) (l : Listing) {m : Listing} {u w : ℕ} {o : List ℕ} → listed_out m u w o ≡ list_of file l piece out → Inside piece o u w
inside file piece out l e =
    let (on, (a, (b, long))) = gets_on file piece out l in
    record { used = rw (← e) at a; written = rw (← long, ← e) at b }

-- of a part of a piece, from place i on
pub further : (piece : List ℕ) (i n u : ℕ) → i ≤ length piece → u ≤ length (take n (drop i piece)) → i + u ≤ length piece
further piece i n u h l = omega (arith, simp (length-take, length-drop) at l)
