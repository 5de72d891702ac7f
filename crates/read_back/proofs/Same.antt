-- WHAT IS FOUND IS ONE: a file, a stand-in and an address leave no choice of what is shown.
use Prim.Native.Nat.{ℕ, zero, suc, ◌≤◌}
use mathlib.Core.Path.{◌≡◌, refl, sym, ap, ◌∙◌, subst}
use mathlib.Core.Option.{none, some}
use mathlib.Core.List.{List, ◌∷◌, map}
use native.Mathlib.Omega.{arith}
use lib.ListN.{length}
use Rattle.symcache.specs.declared.SymCache.{SymCache}
use Rattle.lookup.specs.declared.SourceLocations.{SourceLocations}
use Rattle.lookup.specs.declared.Frame.{Frame}
use Rattle.symcache.specs.Answers.{gives}
use Rattle.lookup.specs.Answers.{Framed}
use Rattle.symcache.specs.Reader.{parsed}
use Rattle.lookup.specs.Lookup.{step_in_lem, frames_in}
use Rattle.read_back.specs.Shown.{Shown, shown, Walked, ends, goes, Found}
use Rattle.read_back.proofs.Walks.{step_is}

pub walked_same : {s : List ℕ} {k : SourceLocations} {fs gs : List Frame} → Walked s k fs → Walked s k gs → fs ≡ gs
walked_same (ends e) (ends g) = refl
walked_same (ends e) (goes g v) = let bad : ◌≡◌ {A = ℕ} 0 1 = cc in absurd (omega arith)
walked_same (goes e w) (ends g) = let bad : ◌≡◌ {A = ℕ} 0 1 = cc in absurd (omega arith)
walked_same {s = s} (goes {n = n} {f = f} {fs = fs} e w) (goes {n = m} {f = g} {fs = gs} h v) =
    let t : ◌≡◌ {A = Framed} (record { frame = f; next = n }) (record { frame = g; next = m }) = cc in
    let r : fs ≡ gs = walked_same w (subst (λ (c : SourceLocations). Walked s c gs) (sym (ap (λ (x : Framed). x.next) t)) v) in
    ap (λ (x : Framed). x.frame ∷ fs) t ∙ ap (λ (l : List Frame). g ∷ l) r

pub found-same : {s d : List ℕ} {x : ℕ} {vs us : List Shown} → Found s d x vs → Found s d x us → vs ≡ us
found-same {s = s} {d = d} f g =
    let e : f.cursor ≡ g.cursor = let p = f.looked in let q = g.looked in cc in
    sym f.shows ∙ (ap (map (shown s d)) (walked_same f.walked (subst (λ (c : SourceLocations). Walked s c g.frames) (sym e) g.walked)) ∙ g.shows)

-- however many frames are asked for, from their count on, they are the reader's `frames_in`
pub walked-frames : (s : List ℕ) (c : SymCache) → parsed s ≡ gives c → {k : SourceLocations} {fs : List Frame} → Walked s k fs → (n : ℕ) → length fs ≤ n → frames_in s c n k ≡ fs
unfolding frames_in
walked-frames s c is (ends e) zero h = refl
walked-frames s c is {k = k} (ends e) (suc n) h = let t = step_is s c is k in let g : step_in_lem s c k ≡ none = cc in rw (g, frames_in)
walked-frames s c is (goes e w) zero h = absurd (omega arith)
walked-frames s c is {k = k} (goes {n = m} {f = f} e w) (suc n) h =
    let t = step_is s c is k in
    let g : step_in_lem s c k ≡ some (record { frame = f; next = m }) = cc in
    rw (g, frames_in) (ap (λ (l : List Frame). f ∷ l) (walked-frames s c is w n (omega arith)))
