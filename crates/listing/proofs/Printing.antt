-- Printing what waits: nothing where there is no room (`no_room`); a bad line (`bad-printed`); a frame (`frame-printed`); the end of a walk (`end-printed`).
use Prim.Native.Nat.{ℕ, ◌+◌, ◌≤◌}
use mathlib.Core.Path.{◌≡◌, refl, ◌∙◌, ap}
use mathlib.Core.List.{List, [], ◌∷◌}
use mathlib.Core.Option.{none, some}
use mathlib.Core.Bool.{Bool, true, false, cond}
use native.Mathlib.Omega.{arith}
use lib.Dec.{eqb, leb}
use lib.ListN.{length}
use lib.Seq.{sets, length-sets}
use borrow.Author.Tests.{le-leb, leb-true}
use Rattle.symcache.specs.Answers.{gives}
use Rattle.lookup.specs.declared.SourceLocations.{SourceLocations}
use Rattle.lookup.specs.Answers.{Framed}
use Rattle.lookup.specs.Lookup.{stepped}
use Rattle.printed_lines.specs.Printed.{no_frame_line, bad_line, WroteLine, wrote_line, put_line}
use Rattle.printed_lines.proofs.Whole.{frame-length, no_frame-length, bad-length}
use Rattle.listing.specs.declared.Waiting.{Waiting}
use Rattle.listing.specs.declared.Waiting.TheVariants as waiting
use Rattle.listing.specs.Pieces.{frame_in, Turn, turn, frame_line, frame_turns, turns, printed_out, room?, emitted, print_of, bad_printed, last_put, no_more}
use Rattle.listing.proofs.Steps.{turns-step, turns-end}

-- ── A line ──

put-room : (out : List ℕ) (at : ℕ) (line : List ℕ) → length line ≤ 62 → room? out at ≡ true → put_line out at line ≡ wrote_line (at + length line) (sets out at line)
unfolding put_line
put-room out at line h r = let l = leb-true (at + 62) (length out) r in rw (le-leb (at + length line) (length out) (omega arith))

pub put-length : (out : List ℕ) (at : ℕ) (line : List ℕ) → length (put_line out at line).out ≡ length out
unfolding put_line
put-length out at line = go (leb (at + length line) (length out))
  where
    go : (b : Bool) → length (cond b (wrote_line (at + length line) (sets out at line)) (wrote_line at out)).out ≡ length out
    go true = length-sets out at line
    go false = refl

-- ── No room ──

full : (w : Waiting) (ts : List Turn) (out : List ℕ) (at : ℕ) → room? out at ≡ false → printed_out w at out ≡ emitted w ts out at
unfolding emitted
full w [] out at e = rw e
full w (t ∷ ts) out at e = rw e

pub bad_no_room : (number : ℕ) (out : List ℕ) (at : ℕ) → room? out at ≡ false → printed_out (waiting.Bad number) at out ≡ bad_printed number out at
unfolding bad_printed
bad_no_room number out at e = full (waiting.Bad number) (turn (bad_line number) waiting.Nothing ∷ []) out at e

pub no_room : (file : List ℕ) (w : Waiting) (out : List ℕ) (at : ℕ) → room? out at ≡ false → printed_out w at out ≡ print_of file w out at
unfolding print_of
no_room file w out at e = full w (turns file w) out at e

-- ── Nothing waits ──

nothing_left : (out : List ℕ) (at : ℕ) → printed_out waiting.Nothing at out ≡ emitted waiting.Nothing [] out at
unfolding emitted
nothing_left out at = go (room? out at)
  where
    go : (b : Bool) → printed_out waiting.Nothing at out ≡ cond b (printed_out waiting.Nothing at out) (printed_out waiting.Nothing at out)
    go true = refl
    go false = refl

pub nothing-printed : (file out : List ℕ) (at : ℕ) → printed_out waiting.Nothing at out ≡ print_of file waiting.Nothing out at
unfolding print_of turns
nothing-printed file out at = nothing_left out at

-- ── A line that is the last ──

last-printed : (w : Waiting) (line out : List ℕ) (at : ℕ) {n : ℕ} {s : List ℕ} → length line ≤ 62 → room? out at ≡ true → wrote_line n s ≡ put_line out at line
    → printed_out waiting.Nothing n s ≡ emitted w (turn line waiting.Nothing ∷ []) out at
unfolding emitted
last-printed w line out at h r e =
    rw r (ap last_put (e ∙ put-room out at line h r) ∙ nothing_left (sets out at line) (at + length line))

pub bad-printed : (number : ℕ) (out : List ℕ) (at : ℕ) {n : ℕ} {s : List ℕ} → room? out at ≡ true → wrote_line n s ≡ put_line out at (bad_line number)
    → printed_out waiting.Nothing n s ≡ bad_printed number out at
unfolding bad_printed
bad-printed number out at r e = last-printed (waiting.Bad number) (bad_line number) out at (omega (arith, bad-length number)) r e

pub bad-is : (file : List ℕ) (number : ℕ) (out : List ℕ) (at : ℕ) → bad_printed number out at ≡ print_of file (waiting.Bad number) out at
unfolding bad_printed print_of turns
bad-is file number out at = refl

-- ── A frame ──

pub frame-printed : (file : List ℕ) (a : ℕ) (k : SourceLocations) (t : Framed) (out : List ℕ) (at : ℕ) {n : ℕ} {s : List ℕ}
    → stepped file k ≡ gives (some t) → room? out at ≡ true → wrote_line n s ≡ put_line out at (frame_line a k.steps t.frame)
    → print_of file (waiting.Frames a t.next) s n ≡ print_of file (waiting.Frames a k) out at
unfolding print_of emitted
frame-printed file a k t out at {n} {s} e r w =
    let f = t.frame in
    let l : length (frame_line a k.steps f) ≡ 62 = frame-length a k.steps f.location_idx f.function_idx f.line f.file_idx in
    let g = w ∙ put-room out at (frame_line a k.steps f) (omega arith) r in
    rw (turns-step file a k t e, r) (ap (λ (o : WroteLine). emitted (waiting.Frames a t.next) (turns file (waiting.Frames a t.next)) o.out o.next) g)

-- where it lies
pub frame-put : (a number : ℕ) (f : _) (out : List ℕ) (at : ℕ) {n : ℕ} {s : List ℕ} → room? out at ≡ true → wrote_line n s ≡ put_line out at (frame_line a number f)
    → (n ≡ at + 62) × (length s ≡ length out)
frame-put a number f out at {n} {s} r w =
    let l : length (frame_line a number f) ≡ 62 = frame-length a number f.location_idx f.function_idx f.line f.file_idx in
    let g = w ∙ put-room out at (frame_line a number f) (omega arith) r in
    (ap (λ (o : WroteLine). o.next) g ∙ ap (λ (m : ℕ). at + m) l, ap (λ (o : WroteLine). length o.out) g ∙ length-sets out at (frame_line a number f))

-- ── The end of a walk ──

pub end-printed : (file : List ℕ) (a : ℕ) (k : SourceLocations) (out : List ℕ) (at : ℕ) → frame_in (stepped file k) ≡ none → room? out at ≡ true
    → no_more a k.steps out at ≡ print_of file (waiting.Frames a k) out at
unfolding print_of no_more frame_turns emitted
end-printed file a k out at e r = rw (turns-end file a k e) (go (eqb k.steps 0))
  where
    go : (b : Bool)
        → cond b (last_put (put_line out at (no_frame_line a))) (printed_out waiting.Nothing at out)
        ≡ emitted (waiting.Frames a k) (cond b (turn (no_frame_line a) waiting.Nothing ∷ []) []) out at
    go true = last-printed (waiting.Frames a k) (no_frame_line a) out at (omega (arith, no_frame-length a)) r refl
    go false = rw r

pub no_more-length : (a n : ℕ) (out : List ℕ) (at : ℕ) → length (no_more a n out at).out ≡ length out
unfolding no_more
no_more-length a n out at = go (eqb n 0)
  where
    go : (b : Bool)
        → length (cond b (last_put (put_line out at (no_frame_line a))) (printed_out waiting.Nothing at out)).out ≡ length out
    go true = put-length out at (no_frame_line a)
    go false = refl

-- ── The output keeps its length ──

emitted-length : (w : Waiting) (ts : List Turn) (out : List ℕ) (at : ℕ) → length (emitted w ts out at).out ≡ length out
unfolding emitted
emitted-length w [] out at = go (room? out at)
  where
    go : (b : Bool) → length (cond b (printed_out waiting.Nothing at out) (printed_out w at out)).out ≡ length out
    go true = refl
    go false = refl
emitted-length w (t ∷ ts) out at =
    go (emitted-length t.after ts (sets out at t.line) (at + length t.line) ∙ length-sets out at t.line) (room? out at)
  where
    go : length (emitted t.after ts (sets out at t.line) (at + length t.line)).out ≡ length out → (b : Bool)
        → length (cond b (emitted t.after ts (sets out at t.line) (at + length t.line)) (printed_out w at out)).out ≡ length out
    go e true = e
    go e false = refl

pub print_length : (file : List ℕ) (w : Waiting) (out : List ℕ) (at : ℕ) → length (print_of file w out at).out ≡ length out
unfolding print_of
print_length file w out at = emitted-length w (turns file w) out at
