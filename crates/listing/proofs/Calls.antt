-- A call, line by line: a line of the piece (`list-line`), its end (`list_done`), something that waits (`list_waits`).
use Prim.Native.Nat.{ℕ, suc, ◌+◌, ◌-◌, ◌≤◌}
use mathlib.Core.Path.{◌≡◌, refl, sym, ◌∙◌, ap}
use mathlib.Core.List.{List, [], ◌∷◌}
use mathlib.Core.Bool.{Bool, true, false, cond}
use native.Mathlib.Omega.{arith}
use lib.Dec.{eqb}
use lib.ListN.{length, drop, drop_of_length-le}
use lib.Seq.{drop-nil, drop-drop}
use Rattle.symcache.specs.declared.SymCache.{SymCache}
use Rattle.input_lines.specs.declared.Input.{Input}
use Rattle.input_lines.specs.declared.ReadOn.{ReadOn}
use Rattle.input_lines.specs.Input.{fed, whole_line, line_at_lem, read_on}
use Rattle.input_lines.proofs.Pieces.{read-further}
use Rattle.listing.specs.declared.Waiting.{Waiting}
use Rattle.listing.specs.declared.Waiting.TheVariants as waiting
use Rattle.listing.specs.Pieces.{waits?, waiting_for, PrintedOut, printed_out, print_of, listed_to, list_from}
use Rattle.listing.proofs.Printing.{nothing-printed}

pub none_waits : (w : Waiting) → waits? w ≡ false → w ≡ waiting.Nothing
unfolding waits?
none_waits waiting.Nothing e = refl
none_waits (waiting.Bad n) e = let z : ◌≡◌ {A = ℕ} 0 1 = cc in absurd (omega arith)
none_waits (waiting.Frames a k) e = let z : ◌≡◌ {A = ℕ} 0 1 = cc in absurd (omega arith)

-- nothing waits, and nothing is printed
idle : (file : List ℕ) (c : SymCache) (p : PrintedOut) → waits? p.waiting ≡ false → print_of file waiting.Nothing p.out p.at ≡ p
idle file c p e = sym (nothing-printed file p.out p.at) ∙ ap (λ (w : Waiting). printed_out w p.at p.out) (sym (none_waits p.waiting e))

module _ (file : List ℕ) (c : SymCache) where
  read-line : (s : Input) (p : PrintedOut) (i : ℕ) (bs : List ℕ) → waits? p.waiting ≡ false
      → let r = read_on s i bs in
      list_from file c r.input (print_of file (waiting_for file c r.got) p.out p.at) r.next (drop (r.next - i) bs) ≡ list_from file c s p i bs
  unfolding read_on line_at_lem list_from waiting_for
  read-line s p i [] e = rw (drop-nil {A = ℕ} (i - i), idle file c p e)
  read-line s p i (b ∷ bs) e = rw e (go (read-line (fed s b) p (i + 1) bs e) (eqb b 10))
    where
      further : i + 1 ≤ (read_on (fed s b) (i + 1) bs).next
      further = read-further (fed s b) (i + 1) bs

      one : (i + 1) - i ≡ 1
      one = omega arith

      less : (read_on (fed s b) (i + 1) bs).next - i ≡ suc ((read_on (fed s b) (i + 1) bs).next - (i + 1))
      less = omega (arith, further)

      go : list_from file c (read_on (fed s b) (i + 1) bs).input (print_of file (waiting_for file c (read_on (fed s b) (i + 1) bs).got) p.out p.at)
          (read_on (fed s b) (i + 1) bs).next (drop ((read_on (fed s b) (i + 1) bs).next - (i + 1)) bs)
          ≡ list_from file c (fed s b) p (i + 1) bs
          → (t : Bool)
          → let r = cond t (line_at_lem s (i + 1)) (read_on (fed s b) (i + 1) bs) in
          list_from file c r.input (print_of file (waiting_for file c r.got) p.out p.at) r.next (drop (r.next - i) (b ∷ bs))
          ≡ cond t (list_from file c (whole_line s).input (print_of file (waiting_for file c (whole_line s).got) p.out p.at) (i + 1) bs)
          (list_from file c (fed s b) p (i + 1) bs)
      go h true = rw one
      go h false = rw less h

  pub list-line : (s : Input) (p : PrintedOut) (piece : List ℕ) (i : ℕ) → waits? p.waiting ≡ false
      → let r = read_on s i (drop i piece) in
      list_from file c r.input (print_of file (waiting_for file c r.got) p.out p.at) r.next (drop r.next piece) ≡ list_from file c s p i (drop i piece)
  list-line s p piece i e =
      let r = read_on s i (drop i piece) in
      let h = read-further s i (drop i piece) in
      let n : i + (r.next - i) ≡ r.next = omega arith in
      let d : drop r.next piece ≡ drop (r.next - i) (drop i piece) = ap (λ (m : ℕ). drop m piece) (sym n) ∙ sym (drop-drop (r.next - i) i piece) in
      rw d (read-line s p i (drop i piece) e)

  -- the same of what the calls of a turn answer
  pub list-turn : (s : Input) (p : PrintedOut) (piece : List ℕ) (i : ℕ) (r : ReadOn) (w : Waiting) (q : PrintedOut) → waits? p.waiting ≡ false
      → r ≡ read_on s i (drop i piece) → w ≡ waiting_for file c r.got → q ≡ print_of file w p.out p.at
      → list_from file c r.input q r.next (drop r.next piece) ≡ list_from file c s p i (drop i piece)
  list-turn s p piece i r w q e er ew eq = rw (eq, ew, er) (list-line s p piece i e)

  pub list_done : (s : Input) (p : PrintedOut) (piece : List ℕ) (i : ℕ) → length piece ≤ i → listed_to c s p i ≡ list_from file c s p i (drop i piece)
  unfolding list_from
  list_done s p piece i h = rw (drop_of_length-le piece h)

  pub list_waits : (s : Input) (p : PrintedOut) (bs : List ℕ) (i : ℕ) → waits? p.waiting ≡ true → listed_to c s p i ≡ list_from file c s p i bs
  unfolding list_from
  list_waits s p [] i e = refl
  list_waits s p (b ∷ bs) i e = rw e
