-- Bytes that lie in a slice are those of the slice from their place on.
use Rattle.std.proofs.Common.{◌≡◌, ℕ, suc, ◌+◌, ◌-◌, ◌<◌, ◌≤◌, zero, List, [], ◌∷◌, ◌++◌, length, take, drop, refl, sym, ap, ap₂, ◌∙◌, arith}
use Rattle.std.proofs.Math.Seq.{take-suc}
use Rattle.std.proofs.lemmas.List.{get_or-drop, length-drop}
use Rattle.slices.specs.Bytes.{bytes_at}
use Rattle.slices.proofs.Bytes.{bytes_at_more}
use Rattle.raw.specs.Cuts.{version_info-cut, header-cut, file-cut, function-cut, location-cut, range_cut}

pub taken : (n : ℕ) (s : List ℕ) (at : ℕ) → at + n ≤ length s → take n (drop at s) ≡ bytes_at n s at
unfolding bytes_at
taken zero s at h = refl
taken (suc n) s at h =
    let l : n < length (drop at s) = simp length-drop (omega arith) in
    take-suc (drop at s) n 0 l ∙ ap₂ (λ (x y : List ℕ). x ++ y) (taken n s at (omega arith)) (ap (λ (b : ℕ). b ∷ []) (get_or-drop at s n 0)) ∙ sym (bytes_at_more n s at)

pub taken_range : (n : ℕ) (s : List ℕ) (at : ℕ) → at + n ≤ length s → take (at + n - at) (drop at s) ≡ bytes_at n s at
taken_range n s at h = let e : at + n - at ≡ n = omega arith in rw e (taken n s at h)

-- what each row says of bytes cut out
pub ruleset cuts = (version_info-cut, header-cut, file-cut, function-cut, location-cut, range_cut)
