-- What waits, line by line: a frame more (`turns-step`), or none (`turns-end`).
use Prim.Native.Nat.{ℕ, zero, suc, ◌+◌, ◌-◌, ◌<◌}
use mathlib.Core.Path.{◌≡◌, refl, ◌∙◌, ap}
use mathlib.Core.List.{List, [], ◌∷◌}
use mathlib.Core.Option.{Option, none, some}
use mathlib.Core.Bool.{Bool, true, false, cond}
use native.Mathlib.Omega.{arith}
use Rattle.slices.proofs.Cases.{none-some}
use Rattle.symcache.specs.declared.SymCache.{SymCache}
use Rattle.symcache.specs.Answers.{Answer, gives, refuses, and_then}
use Rattle.symcache.specs.Reader.{parsed}
use Rattle.lookup.specs.declared.SourceLocations.{SourceLocations}
use Rattle.lookup.specs.Answers.{Framed}
use Rattle.lookup.specs.Lookup.{ended, framed, step_in_lem, stepped}
use Rattle.lookup.proofs.LookupLaws.{goes_on}
use Rattle.listing.specs.declared.Waiting.TheVariants as waiting
use Rattle.listing.specs.Pieces.{count_in, frame_in, walked, turn, frame_line, frame_turns, turns}

-- what a call of `next` gave
pub got-frame : (p : Answer (Option Framed)) (t : Framed) → frame_in p ≡ some t → p ≡ gives (some t)
unfolding frame_in
got-frame (gives o) t e = rw e
got-frame (refuses r) t e = let z : ◌≡◌ {A = ℕ} 0 1 = cc in absurd (omega arith)

-- a step of a walk: it made fewer than there are locations, and makes one more
abbrev pub Stepped : ℕ → SourceLocations → Framed → Type 0
Stepped n k t = (k.steps < n) × (t.next.steps ≡ k.steps + 1)

step_in : (file : List ℕ) (c : SymCache) (k : SourceLocations) (t : Framed) → step_in_lem file c k ≡ some t → Stepped c.num_source_locations k t
unfolding step_in_lem
step_in file c k t e = go (ended file c k) refl e
  where
    go : (b : Bool) → ended file c k ≡ b → cond b none (some (framed file c k)) ≡ some t → Stepped c.num_source_locations k t
    go true h e = none-some e
    go false h e = let f : framed file c k ≡ t = cc in ((goes_on file c k h).1, rw (← f))

pub a_step : (file : List ℕ) (k : SourceLocations) (t : Framed) → stepped file k ≡ gives (some t) → Stepped (count_in (parsed file)) k t
unfolding stepped and_then count_in
a_step file k t e = go (parsed file) e
  where
    go : (p : Answer SymCache) → and_then p (λ c. gives (step_in_lem file c k)) ≡ gives (some t) → Stepped (count_in p) k t
    go (gives c) e = step_in file c k t (cc)
    go (refuses r) e = let z : ◌≡◌ {A = ℕ} 0 1 = cc in absurd (omega arith)

-- ── A frame more ──

walked_step : (file : List ℕ) (n : ℕ) (k : SourceLocations) (t : Framed) → stepped file k ≡ gives (some t) → walked file (suc n) k ≡ t ∷ walked file n t.next
unfolding walked frame_in
walked_step file n k t e = rw (e, walked)

pub turns-step : (file : List ℕ) (a : ℕ) (k : SourceLocations) (t : Framed) → stepped file k ≡ gives (some t)
    → turns file (waiting.Frames a k) ≡ turn (frame_line a k.steps t.frame) (waiting.Frames a t.next) ∷ turns file (waiting.Frames a t.next)
unfolding turns frame_turns
turns-step file a k t e =
    let h = a_step file k t e in
    let n : count_in (parsed file) - k.steps ≡ suc (count_in (parsed file) - t.next.steps) = omega arith in
    ap (frame_turns a k) (ap (λ (m : ℕ). walked file m k) n ∙ walked_step file (count_in (parsed file) - t.next.steps) k t e)

-- ── None ──

pub turns-end : (file : List ℕ) (a : ℕ) (k : SourceLocations) → frame_in (stepped file k) ≡ none
    → turns file (waiting.Frames a k) ≡ frame_turns a k []
unfolding turns walked
turns-end file a k e = ap (frame_turns a k) (go (count_in (parsed file) - k.steps))
  where
    go : (n : ℕ) → walked file n k ≡ []
    go zero = refl
    go (suc n) = rw (e, walked)
