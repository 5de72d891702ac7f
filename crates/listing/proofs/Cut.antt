-- However input and output are cut, what is printed is the listing (`however_cut`); and a call gets on (`gets_on`).
-- What is to come of a listing under way is what waits, and what the rest of the input says. A print (`print-keeps`) and a call (`list-keeps`) move it from
-- what is to come to what is printed. From the beginning on, it is the listing (`to-come-all`).
use Prim.Native.Nat.{ℕ, zero, suc, ◌+◌, ◌-◌, ◌<◌, ◌≤◌}
use mathlib.Core.Path.{◌≡◌, refl, sym, ◌∙◌, ap}
use mathlib.Core.List.{List, [], ◌∷◌, ◌++◌, map, append_assoc, append-nil}
use mathlib.Core.Option.{Option, none, some}
use Rattle.std.proofs.Common.{Some, None, Ok, Err}
use mathlib.Core.Logic.{◌⊎◌, inl, inr, ⊎_elim}
use mathlib.Core.Bool.{Bool, true, false, cond}
use native.Mathlib.Omega.{arith}
use lib.Dec.{eqb}
use lib.ListN.{length, take, drop, length-append}
use lib.Seq.{sets, sets-eq, length-sets, take_at, length-take-le}
use borrow.Author.Tests.{leb-true, leb-false, ne_eqb}
use Rattle.symcache.specs.declared.SymCache.{SymCache}
use Rattle.symcache.specs.Answers.{Refusal, only, Answer, gives, refuses, and_then}
use Rattle.raw.specs.Rows.{max32, is_no_source_location}
use Rattle.symcache.specs.Reader.{parsed, opened, location_in_lem}
use Rattle.symcache.proofs.ReaderLaws.{opened-parsed}
use Rattle.lookup.specs.declared.SourceLocations.{SourceLocations}
use Rattle.lookup.specs.declared.Frame.{Frame}
use Rattle.lookup.specs.Answers.{Framed}
use Rattle.lookup.specs.Lookup.{belongs_to, walk_from_lem, walk_tested, walk_at_lem, step_in_lem, stepped, frames_in}
use Rattle.lookup.proofs.ByMeaning.{by_meaning}
use Rattle.input_lines.specs.declared.Input.{Input}
use Rattle.input_lines.specs.Line.{Got}
use Rattle.input_lines.specs.Input.{input_says, fed, whole_line, at_end}
use Rattle.input_lines.proofs.Pieces.{kept, says, says_all}
use Rattle.printed_lines.specs.Printed.{no_frame_line, bad_line, refused_line}
use Rattle.printed_lines.proofs.Whole.{frame-length, no_frame-length, bad-length}
use Rattle.listing.specs.declared.Waiting.{Waiting}
use Rattle.listing.specs.declared.Waiting.TheVariants as waiting
use Rattle.listing.specs.declared.Listing.{Listing}
use Rattle.listing.specs.Listing.{frames_of, frame_lines, address_lines, line_prints, lines_print, file_prints, listing_of}
use Rattle.listing.specs.Pieces.{listing_start, begun_by, begun_of, waits?, waiting_for, count_in, frame_in, walked, frames_left, Turn, turn, frame_line, frame_turns, turns, PrintedOut, printed_out, room?, emitted, print_of, ListedOut, listed_to, list_from, list_of, end_of}
use Rattle.listing.specs.Cut.{printed_by, Drains, Prints, PrintsAll, loaded_as, HoweverCut, GetsOn}
use Rattle.listing.specs.Cut as cut
use Rattle.listing.proofs.Steps.{a_step, got-frame}
use Rattle.listing.proofs.Calls.{none_waits}

-- ── What is to come ──

text_of : List Turn → List ℕ
text_of [] = []
text_of (t ∷ ts) = t.line ++ text_of ts

-- what waits
waits_text : List ℕ → Waiting → List ℕ
waits_text file w = text_of (turns file w)

-- what lines print
says-text : List ℕ → SymCache → List Got → List ℕ
says-text file c [] = []
says-text file c (g ∷ gs) = waits_text file (waiting_for file c g) ++ says-text file c gs

to_come : List ℕ → SymCache → Waiting → Input → List ℕ → List ℕ
to_come file c w s input = waits_text file w ++ says-text file c (says s input)

-- ── The lines that wait ──

-- each is short enough, and what waits after it are the others
Chained : List ℕ → List Turn → Type 0
Chained file [] = Unit {0}
Chained file (t ∷ ts) = (turns file t.after ≡ ts) × ((length t.line ≤ 62) × Chained file ts)

module _ (file : List ℕ) (a : ℕ) where
  end-chained : (k : SourceLocations) → Chained file (frame_turns a k [])
  unfolding frame_turns Chained turns
  end-chained k = go (eqb k.steps 0)
    where
      go : (b : Bool) → Chained file (cond b (turn (no_frame_line a) waiting.Nothing ∷ []) [])
      go true = (refl, (omega (arith, no_frame-length a), tt))
      go false = tt

  frames-chained : (n : ℕ) (k : SourceLocations) → n ≡ count_in (parsed file) - k.steps → Chained file (frame_turns a k (walked file n k))
  unfolding walked frame_turns Chained turns
  frames-chained zero k h = end-chained k
  frames-chained (suc n) k h = go (frame_in (stepped file k)) refl (λ t e. frames-chained n t.next e)
    where
      go : (o : Option Framed) → frame_in (stepped file k) ≡ o → ((t : Framed) → n ≡ count_in (parsed file) - t.next.steps → Chained file (frame_turns a t.next (walked file n t.next)))
          → Chained file (frame_turns a k (elim o [ none ↦ [] | some t ↦ t ∷ walked file n t.next ]))
      go none e rest = end-chained k
      go (some t) e rest =
          let (less, more) = a_step file k t (got-frame (stepped file k) t e) in
          let m : n ≡ count_in (parsed file) - t.next.steps = omega (arith, h) in
          let f = t.frame in
          let l = frame-length a k.steps f.location_idx f.function_idx f.line f.file_idx in
          (ap (λ (x : ℕ). frame_turns a t.next (walked file x t.next)) (sym m), (omega arith, rest t m))

chained : (file : List ℕ) (w : Waiting) → Chained file (turns file w)
unfolding turns Chained
chained file waiting.Nothing = tt
chained file (waiting.Bad n) = (refl, (omega (arith, bad-length n), tt))
chained file (waiting.Frames a k) = frames-chained file a (count_in (parsed file) - k.steps) k refl

-- ── A print ──

take_put : (out : List ℕ) (at : ℕ) (line : List ℕ) → at + length line ≤ length out → take (at + length line) (sets out at line) ≡ take at out ++ line
take_put out at line h =
    let n : length (take at out ++ line) ≡ at + length line = length-append (take at out) line ∙ ap (λ (m : ℕ). m + length line) (length-take-le at out (omega arith)) in
    ap (take (at + length line)) (sets-eq line out at h) ∙ take_at (take at out ++ line) (drop (at + length line) out) (at + length line) n

-- a print moves what waits to what is printed, inside the output; what still waits has no room
record Moves (file : List ℕ) (w : Waiting) (out : List ℕ) (at : ℕ) (p : PrintedOut) : Type 0 where
  text : take p.at p.out ++ waits_text file p.waiting ≡ take at out ++ waits_text file w
  inside : p.at ≤ length out
  long : length p.out ≡ length out
  stops : waits? p.waiting ≡ true → length out < p.at + 62

no_clash : {A : Type 0} → ◌≡◌ {A = Bool} false true → A
no_clash e = let z : ◌≡◌ {A = ℕ} 0 1 = cc in absurd (omega arith)

emits : (file : List ℕ) (w : Waiting) (ts : List Turn) (out : List ℕ) (at : ℕ) → turns file w ≡ ts → Chained file ts → at ≤ length out → Moves file w out at (emitted w ts out at)
unfolding emitted waits_text text_of Chained turns waits?
emits file w [] out at e q h = go (room? out at) refl
  where
    go : (b : Bool) → room? out at ≡ b → Moves file w out at (cond b (printed_out waiting.Nothing at out) (printed_out w at out))
    go true r = record { text = ap (λ (ts : List Turn). take at out ++ text_of ts) (sym e); inside = h; long = refl; stops = λ f. no_clash f }
    go false r = record { text = refl; inside = h; long = refl; stops = λ f. leb-false (at + 62) (length out) r }
emits file w (t ∷ ts) out at e (q, (short, rest)) h =
    go (room? out at) refl (λ l. emits file t.after ts (sets out at t.line) (at + length t.line) q rest l)
  where
    next : PrintedOut
    next = emitted t.after ts (sets out at t.line) (at + length t.line)

    same : length (sets out at t.line) ≡ length out
    same = length-sets out at t.line

    go : (b : Bool) → room? out at ≡ b → (at + length t.line ≤ length (sets out at t.line) → Moves file t.after (sets out at t.line) (at + length t.line) next)
        → Moves file w out at (cond b next (printed_out w at out))
    go true r f =
        let l = leb-true (at + 62) (length out) r in
        let m = f (omega (arith, same, short)) in
        record {
          text = m.text
              ∙ ap (λ (x : List ℕ). x ++ text_of (turns file t.after)) (take_put out at t.line (omega (arith, short)))
              ∙ append_assoc (take at out) t.line (text_of (turns file t.after))
              ∙ ap (λ (x : List Turn). take at out ++ (t.line ++ text_of x)) q
              ∙ ap (λ (x : List Turn). take at out ++ text_of x) (sym e);
          inside = rw same at m.inside;
          long = m.long ∙ same;
          stops = λ g. rw same at (m.stops g);
        }
    go false r f = record { text = refl; inside = h; long = refl; stops = λ g. leb-false (at + 62) (length out) r }

print_moves : (file : List ℕ) (w : Waiting) (out : List ℕ) (at : ℕ) → at ≤ length out → Moves file w out at (print_of file w out at)
unfolding print_of
print_moves file w out at h = emits file w (turns file w) out at refl (chained file w) h

-- ── A call ──

-- a call moves what is to come to what is printed, from place i of the piece on, of which these bytes are left
record Calls (file : List ℕ) (c : SymCache) (s : Input) (p : PrintedOut) (i : ℕ) (bs : List ℕ) (r : ListedOut) : Type 0 where
  cache : r.listing.cache ≡ c
  text : (rest : List ℕ) → take r.written r.out ++ to_come file c r.listing.waiting r.listing.input (drop (r.used - i) bs ++ rest)
      ≡ take p.at p.out ++ to_come file c p.waiting s (bs ++ rest)
  further : i ≤ r.used
  inside : r.used ≤ i + length bs
  written : r.written ≤ length p.out
  long : length r.out ≡ length p.out
  stops : ((r.used ≡ i + length bs) × (waits? r.listing.waiting ≡ false)) ⊎ (length p.out < r.written + 62)

-- what was printed fits, and what waits has no room
record Fits (p : PrintedOut) : Type 0 where
  at : p.at ≤ length p.out
  full : waits? p.waiting ≡ true → length p.out < p.at + 62

stays : (file : List ℕ) (c : SymCache) (s : Input) (p : PrintedOut) (i : ℕ) (bs : List ℕ) → Fits p → (bs ≡ []) ⊎ (waits? p.waiting ≡ true)
    → Calls file c s p i bs (listed_to c s p i)
stays file c s p i bs f d =
    let z : i - i ≡ 0 = omega arith in
    record {
      cache = refl;
      text = λ rest. ap (λ (n : ℕ). take p.at p.out ++ to_come file c p.waiting s (drop n bs ++ rest)) z;
      further = omega arith;
      inside = omega arith;
      written = f.at;
      long = refl;
      stops = ⊎_elim (λ e. go (waits? p.waiting) refl e) (λ w. inr (f.full w)) d;
    }
  where
    go : (b : Bool) → waits? p.waiting ≡ b → bs ≡ [] → ((i ≡ i + length bs) × (waits? p.waiting ≡ false)) ⊎ (length p.out < p.at + 62)
    go true w e = inr (f.full w)
    go false w e = inl (let l : length bs ≡ 0 = ap length e in omega arith, w)

-- nothing waits
quiet : (file : List ℕ) (w : Waiting) → waits? w ≡ false → waits_text file w ≡ []
unfolding waits_text text_of turns
quiet file w e = rw (none_waits w e)

says-line : (s : Input) (b : ℕ) (bs : List ℕ) → eqb b 10 ≡ true → says s (b ∷ bs) ≡ (whole_line s).got ∷ says (whole_line s).input bs
unfolding says
says-line s b bs e = rw e

says-byte : (s : Input) (b : ℕ) (bs : List ℕ) → eqb b 10 ≡ false → says s (b ∷ bs) ≡ says (fed s b) bs
unfolding says
says-byte s b bs e = rw e

module _ (file : List ℕ) (c : SymCache) where
  -- one byte is taken, where nothing waits
  taken : (s t : Input) (p q : PrintedOut) (i b : ℕ) (bs : List ℕ) (r : ListedOut) → waits? p.waiting ≡ false → length q.out ≡ length p.out
      → ((rest : List ℕ) → take q.at q.out ++ to_come file c q.waiting t rest ≡ take p.at p.out ++ says-text file c (says s (b ∷ rest)))
      → Calls file c t q (i + 1) bs r → Calls file c s p i (b ∷ bs) r
  unfolding to_come
  taken s t p q i b bs r w same moves f =
      let further = f.further in
      let n : r.used - i ≡ suc (r.used - (i + 1)) = omega arith in
      record {
        cache = f.cache;
        text = λ rest. ap (λ (m : ℕ). take r.written r.out ++ to_come file c r.listing.waiting r.listing.input (drop m (b ∷ bs) ++ rest)) n
            ∙ f.text rest ∙ moves (bs ++ rest)
            ∙ ap (λ (x : List ℕ). take p.at p.out ++ (x ++ says-text file c (says s (b ∷ bs ++ rest)))) (sym (quiet file p.waiting w));
        further = omega arith;
        inside = omega (arith, f.inside);
        written = rw same at f.written;
        long = f.long ∙ same;
        stops = ⊎_elim (λ d. inl (omega (arith, d.0), d.1)) (λ d. inr (rw same at d)) f.stops;
      }

  calls : (s : Input) (p : PrintedOut) (i : ℕ) (bs : List ℕ) → Fits p → Calls file c s p i bs (list_from file c s p i bs)
  unfolding list_from to_come says-text
  calls s p i [] f = stays file c s p i [] f (inl refl)
  calls s p i (b ∷ bs) f =
      go (waits? p.waiting) refl (eqb b 10) refl
      (λ g. calls (whole_line s).input (print_of file (waiting_for file c (whole_line s).got) p.out p.at) (i + 1) bs g)
      (calls (fed s b) p (i + 1) bs f)
    where
      w : Waiting
      w = waiting_for file c (whole_line s).got

      q : PrintedOut
      q = print_of file w p.out p.at

      m : Moves file w p.out p.at q
      m = print_moves file w p.out p.at f.at

      fits : Fits q
      fits = record { at = rw m.long m.inside; full = λ g. rw m.long (m.stops g) }

      line : eqb b 10 ≡ true → (rest : List ℕ)
          → take q.at q.out ++ to_come file c q.waiting (whole_line s).input rest ≡ take p.at p.out ++ says-text file c (says s (b ∷ rest))
      line e rest =
          let x = says-text file c (says (whole_line s).input rest) in
          sym (append_assoc (take q.at q.out) (waits_text file q.waiting) x)
          ∙ ap (λ (y : List ℕ). y ++ x) m.text
          ∙ append_assoc (take p.at p.out) (waits_text file w) x
          ∙ ap (λ (gs : List Got). take p.at p.out ++ says-text file c gs) (sym (says-line s b rest e))

      byte : eqb b 10 ≡ false → waits? p.waiting ≡ false → (rest : List ℕ)
          → take p.at p.out ++ to_come file c p.waiting (fed s b) rest ≡ take p.at p.out ++ says-text file c (says s (b ∷ rest))
      byte e h rest =
          ap (λ (y : List ℕ). take p.at p.out ++ (y ++ says-text file c (says (fed s b) rest))) (quiet file p.waiting h)
          ∙ ap (λ (gs : List Got). take p.at p.out ++ says-text file c gs) (sym (says-byte s b rest e))

      go : (t : Bool) → waits? p.waiting ≡ t → (u : Bool) → eqb b 10 ≡ u
          → (Fits q → Calls file c (whole_line s).input q (i + 1) bs (list_from file c (whole_line s).input q (i + 1) bs))
          → Calls file c (fed s b) p (i + 1) bs (list_from file c (fed s b) p (i + 1) bs)
          → Calls file c s p i (b ∷ bs)
          (cond t (listed_to c s p i) (cond u (list_from file c (whole_line s).input q (i + 1) bs) (list_from file c (fed s b) p (i + 1) bs)))
      go true h u e k l = stays file c s p i (b ∷ bs) f (inr h)
      go false h true e k l = taken s (whole_line s).input p q i b bs (list_from file c (whole_line s).input q (i + 1) bs) h m.long (line e) (k fits)
      go false h false e k l = taken s (fed s b) p p i b bs (list_from file c (fed s b) p (i + 1) bs) h refl (byte e h) l

-- ── From a listing to its end ──

-- the first print of a call
begins : (file : List ℕ) (l : Listing) (out : List ℕ) → Moves file l.waiting out 0 (print_of file l.waiting out 0)
begins file l out = print_moves file l.waiting out 0 (omega arith)

drained : (file : List ℕ) {l : Listing} {w : List ℕ} → Drains file l w → w ≡ waits_text file l.waiting
unfolding list_of list_from
drained file {l} (cut.done e) = sym (quiet file l.waiting e)
drained file {l} (cut.call out d) =
    let p = print_of file l.waiting out 0 in
    ap (λ (x : List ℕ). take p.at p.out ++ x) (drained file d) ∙ (begins file l out).text

-- the last line
last-text : (file : List ℕ) (c : SymCache) (g : Got) → waits_text file (waiting_for file c g) ≡ says-text file c (kept g [])
unfolding kept says-text waits_text waiting_for turns text_of
last-text file c (Some (Ok a)) = sym (append-nil (waits_text file (waiting_for file c (Some (Ok a)))))
last-text file c (Some (Err n)) = sym (append-nil (waits_text file (waiting_for file c (Some (Err n)))))
last-text file c None = refl

end-waiting : (file : List ℕ) (l : Listing) → waits? l.waiting ≡ false → (end_of file l).waiting ≡ waiting_for file l.cache (at_end l.input).got
unfolding end_of
end-waiting file l e = rw e

-- a call moves what is to come of the listing to what is printed
call-moves : (file : List ℕ) (l : Listing) (piece out : List ℕ) → let p = print_of file l.waiting out 0 in
    Calls file l.cache l.input p 0 piece (list_of file l piece out)
unfolding list_of
call-moves file l piece out =
    let m = begins file l out in
    calls file l.cache l.input (print_of file l.waiting out 0) 0 piece (record { at = rw m.long m.inside; full = λ g. rw m.long (m.stops g) })

prints : (file : List ℕ) {l : Listing} {input w : List ℕ} → Prints file l input w → w ≡ to_come file l.cache l.waiting l.input input
unfolding to_come says
prints file {l} (cut.end e d) =
    drained file d ∙ ap (waits_text file) (end-waiting file l e) ∙ last-text file l.cache (at_end l.input).got
    ∙ ap (λ (x : List ℕ). x ++ says-text file l.cache (kept (at_end l.input).got [])) (sym (quiet file l.waiting e))
prints file {l} (cut.call piece rest out d) =
    let r = list_of file l piece out in
    let p = print_of file l.waiting out 0 in
    let k = call-moves file l piece out in
    let n : r.used ≡ r.used - 0 = omega arith in
    let x = says-text file l.cache (says l.input (piece ++ rest)) in
    ap (λ (y : List ℕ). printed_by r ++ y) (prints file d)
    ∙ ap (λ (c : SymCache). printed_by r ++ to_come file c r.listing.waiting r.listing.input (drop r.used piece ++ rest)) k.cache
    ∙ ap (λ (m : ℕ). printed_by r ++ to_come file l.cache r.listing.waiting r.listing.input (drop m piece ++ rest)) n
    ∙ k.text rest
    ∙ sym (append_assoc (take p.at p.out) (waits_text file p.waiting) x)
    ∙ ap (λ (y : List ℕ). y ++ x) (begins file l out).text

-- ── What lines print ──

module _ (file : List ℕ) (c : SymCache) (is : opened file ≡ gives c) where
  step_is : (k : SourceLocations) → frame_in (stepped file k) ≡ step_in_lem file c k
  unfolding stepped and_then frame_in
  step_is k = rw (opened-parsed file c is, and_then)

  frames-same : (n : ℕ) (k : SourceLocations) → map (λ (t : Framed). t.frame) (walked file n k) ≡ frames_in file c n k
  unfolding walked frames_in
  frames-same zero k = refl
  frames-same (suc n) k = rw (step_is k, walked) (go (step_in_lem file c k) (λ t. frames-same n t.next))
    where
      go : (o : Option Framed) → ((t : Framed) → map (λ (t : Framed). t.frame) (walked file n t.next) ≡ frames_in file c n t.next)
          → map (λ (t : Framed). t.frame) (elim o [ none ↦ [] | some t ↦ t ∷ walked file n t.next ])
          ≡ elim o [ none ↦ [] | some t ↦ t.frame ∷ frames_in file c n t.next ]
      go none f = refl
      go (some t) f = ap (λ (fs : List Frame). t.frame ∷ fs) (f t)

module _ (file : List ℕ) (a : ℕ) where
  -- after the first frame
  later-lines : (n : ℕ) (k : SourceLocations) → 0 < k.steps → text_of (frame_turns a k (walked file n k)) ≡ frame_lines a k.steps (map (λ (t : Framed). t.frame) (walked file n k))
  unfolding walked frame_turns text_of frame_lines
  later-lines zero k h = rw (ne_eqb k.steps 0 (λ e. omega (arith, e)))
  later-lines (suc n) k h = go (frame_in (stepped file k)) refl (λ t l. later-lines n t.next l)
    where
      go : (o : Option Framed) → frame_in (stepped file k) ≡ o
          → ((t : Framed) → 0 < t.next.steps
          → text_of (frame_turns a t.next (walked file n t.next)) ≡ frame_lines a t.next.steps (map (λ (t : Framed). t.frame) (walked file n t.next)))
          → text_of (frame_turns a k (elim o [ none ↦ [] | some t ↦ t ∷ walked file n t.next ]))
          ≡ frame_lines a k.steps (map (λ (t : Framed). t.frame) (elim o [ none ↦ [] | some t ↦ t ∷ walked file n t.next ]))
      go none e f = rw (ne_eqb k.steps 0 (λ e. omega (arith, e)))
      go (some t) e f =
          let more = (a_step file k t (got-frame (stepped file k) t e)).1 in
          ap (λ (x : List ℕ). frame_line a k.steps t.frame ++ x)
          (f t (omega arith) ∙ ap (λ (m : ℕ). frame_lines a m (map (λ (t : Framed). t.frame) (walked file n t.next))) more)

  -- from the first frame on, or the line that says that there is none
  first-lines : (n : ℕ) (k : SourceLocations) → k.steps ≡ 0 → text_of (frame_turns a k (walked file n k)) ≡ address_lines a (map (λ (t : Framed). t.frame) (walked file n k))
  unfolding walked frame_turns text_of frame_lines address_lines
  first-lines zero k h = rw h (append-nil (no_frame_line a))
  first-lines (suc n) k h = go (frame_in (stepped file k)) refl
    where
      go : (o : Option Framed) → frame_in (stepped file k) ≡ o
          → text_of (frame_turns a k (elim o [ none ↦ [] | some t ↦ t ∷ walked file n t.next ]))
          ≡ address_lines a (map (λ (t : Framed). t.frame) (elim o [ none ↦ [] | some t ↦ t ∷ walked file n t.next ]))
      go none e = rw h (append-nil (no_frame_line a))
      go (some t) e =
          let more = (a_step file k t (got-frame (stepped file k) t e)).1 in
          let one : t.next.steps ≡ 0 + 1 = omega arith in
          ap (λ (m : ℕ). frame_line a m t.frame ++ text_of (frame_turns a t.next (walked file n t.next))) h
          ∙ ap (λ (x : List ℕ). frame_line a 0 t.frame ++ x)
          (later-lines n t.next (omega arith) ∙ ap (λ (m : ℕ). frame_lines a m (map (λ (t : Framed). t.frame) (walked file n t.next))) one)

walk-starts : (file : List ℕ) (c : SymCache) (i : ℕ) → (walk_tested file c i).steps ≡ 0
walk-starts file c i = go (eqb i max32) (is_no_source_location (location_in_lem file c i))
  where
    go : (b d : Bool) → (cond b (walk_from_lem max32) (cond d (walk_from_lem max32) (walk_from_lem i))).steps ≡ 0
    go true d = refl
    go false true = refl
    go false false = refl

module _ (file : List ℕ) (c : SymCache) (is : opened file ≡ gives c) where
  counted : (p : Answer SymCache) (n : ℕ) → p ≡ gives c → n ≡ 0 → count_in p - n ≡ c.num_source_locations
  unfolding count_in
  counted p n e h = rw (e, h) (omega arith)

  address-text : (a : ℕ) → waits_text file (waiting_for file c (Some (Ok a))) ≡ address_lines a (frames_of file c a)
  unfolding waits_text waiting_for turns walk_at_lem frames_of count_in
  address-text a =
      let k = walk_tested file c (belongs_to file c a) in
      let meant = (by_meaning file c is a).find in
      let n : count_in (parsed file) - k.steps ≡ c.num_source_locations = counted (parsed file) k.steps (opened-parsed file c is) (walk-starts file c (belongs_to file c a)) in
      ap (λ (i : ℕ). text_of (frame_turns a (walk_tested file c i) (frames_left file (walk_tested file c i)))) meant
      ∙ first-lines file a (count_in (parsed file) - k.steps) k (walk-starts file c (belongs_to file c a))
      ∙ ap (address_lines a) (frames-same file c is (count_in (parsed file) - k.steps) k ∙ ap (λ (m : ℕ). frames_in file c m k) n)

  line-text : (g : Got) → waits_text file (waiting_for file c g) ≡ line_prints file c g
  unfolding line_prints waits_text waiting_for turns text_of
  line-text (Some (Ok a)) = address-text a
  line-text (Some (Err b)) = append-nil (bad_line b.0)
  line-text None = refl

  lines-text : (gs : List Got) → says-text file c gs ≡ lines_print file c gs
  unfolding says-text lines_print
  lines-text [] = refl
  lines-text (g ∷ gs) = ap (λ (x : List ℕ). x ++ says-text file c gs) (line-text g) ∙ ap (λ (x : List ℕ). line_prints file c g ++ x) (lines-text gs)

-- ── The theorems ──

refused_as : (file input : List ℕ) (n : Refusal) (p : Answer SymCache) → opened file ≡ p → begun_by p ≡ refuses n → refused_line n.number ≡ file_prints file (input_says input) p
unfolding begun_by file_prints
refused_as file input n (gives c) o e = let z : ◌≡◌ {A = ℕ} 0 1 = cc in absurd (omega arith)
refused_as file input n (refuses r) o e = let f : r ≡ n = cc in rw f

listed_as : (file input w : List ℕ) (l : Listing) (p : Answer SymCache) → opened file ≡ p → begun_by p ≡ gives l → Prints file l input w
    → w ≡ file_prints file (input_says input) p
unfolding begun_by file_prints listing_start to_come waits_text turns text_of
listed_as file input w l (gives c) o e d =
    let f : listing_start c ≡ l = cc in
    prints file d
    ∙ ap (λ (m : Listing). to_come file m.cache m.waiting m.input input) (sym f)
    ∙ ap (says-text file c) (says_all input)
    ∙ lines-text file c o (input_says input)
listed_as file input w l (refuses r) o e d = let z : ◌≡◌ {A = ℕ} 0 1 = cc in absurd (omega arith)

pub however_cut : HoweverCut
unfolding begun_of listing_of
however_cut file input w true (cut.refused n e) = let f : only 20 ≡ n = cc in rw (← f)
however_cut file input w true (cut.listed l e d) = let z : ◌≡◌ {A = ℕ} 0 1 = cc in absurd (omega arith)
however_cut file input w false (cut.refused n e) = refused_as file input n (opened file) refl e
however_cut file input w false (cut.listed l e d) = listed_as file input w l (opened file) refl e d

pub gets_on : GetsOn
gets_on file piece out l =
    let k = call-moves file l piece out in
    let m = begins file l out in
    let long = m.long in
    let all : 0 + length piece ≡ length piece = omega arith in
    (⊎_elim (λ d. inl (d.0 ∙ all, d.1)) (λ d. inr (rw long at d)) k.stops, (omega (arith, k.inside), (rw long at k.written, k.long ∙ long)))
