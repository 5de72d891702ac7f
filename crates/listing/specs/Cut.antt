-- HOWEVER INPUT AND OUTPUT ARE CUT, what is printed is the listing.
use Rattle.std.specs.Prelude.{ℕ, ◌+◌, ◌<◌, ◌≤◌, ◌≡◌, List, [], ◌++◌, Bool, true, false, ◌⊎◌, length, take, drop}
use Rattle.printed_lines.specs.Printed.{refused_line}
use Rattle.listing.specs.declared.Listing.{Listing}
use Rattle.symcache.specs.Answers.{Refusal, gives, refuses}
use Rattle.listing.specs.Listing.{Loaded, loaded, too_long, listing_of}
use Rattle.listing.specs.Pieces.{begun_of, waits?, ListedOut, list_of, end_of}

-- the bytes that a call printed
abbrev pub printed_by : ListedOut → List ℕ
printed_by r = take r.written r.out

-- calls after the input has ended, until nothing waits: with any outputs, one after the other, they print these bytes
pub data Drains (file : List ℕ) : Listing → List ℕ → Type 0 where
  done : {l : Listing} → waits? l.waiting ≡ false → Drains file l []
  call : {l : Listing} {w : List ℕ} (out : List ℕ) → Drains file (list_of file l [] out).listing w → Drains file l (printed_by (list_of file l [] out) ++ w)

-- calls with any pieces of the input, of which each takes what the one before it left, and any outputs; then the end. `piece ++ rest` is what is left
-- of the input, of which the call is lent the piece
pub data Prints (file : List ℕ) : Listing → List ℕ → List ℕ → Type 0 where
  end : {l : Listing} {w : List ℕ} → waits? l.waiting ≡ false → Drains file (end_of file l) w → Prints file l [] w
  call : {l : Listing} {w : List ℕ} (piece rest out : List ℕ)
      → Prints file (list_of file l piece out).listing (drop (list_of file l piece out).used piece ++ rest) w
      → Prints file l (piece ++ rest) (printed_by (list_of file l piece out) ++ w)

-- what a program prints that begins, and then prints the refusal or makes such calls
pub data PrintsAll (file : List ℕ) (too-long? : Bool) (input : List ℕ) : List ℕ → Type 0 where
  refused : (r : Refusal) → begun_of file too-long? ≡ refuses r → PrintsAll file too-long? input (refused_line r.number)
  listed : (l : Listing) {w : List ℕ} → begun_of file too-long? ≡ gives l → Prints file l input w → PrintsAll file too-long? input w

-- what was loaded, by its bytes and the mark
abbrev pub loaded_as : List ℕ → Bool → Loaded
loaded_as file true = too_long
loaded_as file false = loaded file

abbrev pub HoweverCut : Type 0
HoweverCut = (file input w : List ℕ) (too-long? : Bool) → PrintsAll file too-long? input w → w ≡ listing_of (loaded_as file too-long?) input

-- a call gets on: it uses the piece up and leaves nothing waiting, or it leaves fewer than 62 bytes of the output. What it says lies inside what it is lent
abbrev pub GetsOn : Type 0
GetsOn =
    (file piece out : List ℕ) (l : Listing) → let r = list_of file l piece out in
    (((r.used ≡ length piece) × (waits? r.listing.waiting ≡ false)) ⊎ (length out < r.written + 62))
    × ((r.used ≤ length piece) × ((r.written ≤ length out) × (length r.out ≡ length out)))
