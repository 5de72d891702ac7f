use Prim.Native.Nat.{ℕ, ◌+◌, ◌≤◌}
use mathlib.Core.Path.{◌≡◌, ◌∙◌, ap}
use mathlib.Core.List.{List}
use native.Mathlib.Omega.{arith}
use lib.ListN.{length}
use lib.Seq.{sets}
use borrow.Author.Tests.{le-leb}
use Rattle.std.specs.Prelude.{Option}
use Rattle.text.specs.Leb128.{encoded, wrote_leb, written, Written}
use Rattle.slices.proofs.Bytes.{sets_join}
use Rattle.strings.specs.Strings.{stored_text}
use Rattle.strings.proofs.write.Goals as goal

module _ (text : List ℕ) (at start : ℕ) (t : List ℕ) {n : Option ℕ} {text₁ : List ℕ} (p : (start ≡ at + length (encoded (length t))) × (start + length t ≤ length text)) (e : written n text₁ ≡ wrote_leb text at (length t)) where
  prefixed : text₁ ≡ sets text at (encoded (length t))
  unfolding wrote_leb
  prefixed =
      let s = p.0 in
      let k = p.1 in
      let h : at + length (encoded (length t)) ≤ length text = omega arith in
      ap (λ (x : Written). x.bytes) e ∙ rw (le-leb (at + length (encoded (length t))) (length text) h)

  both : {text₂ : List ℕ} → text₂ ≡ sets text₁ start t → text₂ ≡ sets text at (stored_text t)
  unfolding stored_text
  both f = rw (f, prefixed) (sets_join (encoded (length t)) t text at start p.0)

pub returns : goal.returns
returns c =
    let a = c.args in
    both a.text.now a.at a.start a.t.now c.requires c.write_leb128.ensures c.copy.ensures
