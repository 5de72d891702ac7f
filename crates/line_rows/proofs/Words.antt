-- What is stored for a row is its words.
use Prim.Native.Nat.{ℕ, suc, ◌+◌, ◌*◌, ◌/◌, ◌<◌, ◌≤◌}
use mathlib.Core.Path.{◌≡◌, ◌∙◌}
use mathlib.Core.List.{List, [], ◌∷◌}
use native.Mathlib.Omega.{arith}
use native.Mathlib.Numerals.{towards_suc}
use lib.ListN.{length, set}
use Rattle.slices.specs.Slices.{flag_of}
use lib.Seq.{sets}
use borrow.Author.Tests.{lt-ltb, le-ltb}
use Rattle.rows.specs.declared.LineRow.{LineRow}
use Rattle.line_rows.specs.Lines.{words64, words32, put_row}

module _ (w : ℕ) (t : List ℕ) (j : ℕ) (vs : List ℕ) where
  row_in : j < length t / w → sets t (j * w) vs ≡ put_row w t j vs
  unfolding put_row
  row_in h = rw (lt-ltb j (length t / w) h)

  pub row_out : length t / w ≤ j → t ≡ put_row w t j vs
  unfolding put_row
  row_out h = rw (le-ltb j (length t / w) h)

pub three : (t : List ℕ) (k a b c : ℕ) → set (set (set t k a) (k + 1) b) (k + 2) c ≡ sets t k (a ∷ b ∷ c ∷ [])
three t k a b c = simp towards_suc

fourteen : (t : List ℕ) (k a b c d e f g h i l m n o p : ℕ)
    → set (set (set (set (set (set (set (set (set (set (set (set (set (set t k a) (k + 1) b) (k + 2) c) (k + 3) d) (k + 4) e) (k + 5) f) (k + 6) g) (k + 7) h) (k + 8) i) (k + 9) l) (k + 10) m) (k + 11) n) (k + 12) o) (k + 13) p
    ≡ sets t k (a ∷ b ∷ c ∷ d ∷ e ∷ f ∷ g ∷ h ∷ i ∷ l ∷ m ∷ n ∷ o ∷ p ∷ [])
fourteen t k a b c d e f g h i l m n o p =
    let e1 : k + 1 ≡ suc k = omega arith in
    let e2 : k + 2 ≡ suc (suc k) = omega arith in
    let e3 : k + 3 ≡ suc (suc (suc k)) = omega arith in
    let e4 : k + 4 ≡ suc (suc (suc (suc k))) = omega arith in
    let e5 : k + 5 ≡ suc (suc (suc (suc (suc k)))) = omega arith in
    let e6 : k + 6 ≡ suc (suc (suc (suc (suc (suc k))))) = omega arith in
    let e7 : k + 7 ≡ suc (suc (suc (suc (suc (suc (suc k)))))) = omega arith in
    let e8 : k + 8 ≡ suc (suc (suc (suc (suc (suc (suc (suc k))))))) = omega arith in
    let e9 : k + 9 ≡ suc (suc (suc (suc (suc (suc (suc (suc (suc k)))))))) = omega arith in
    let e10 : k + 10 ≡ suc (suc (suc (suc (suc (suc (suc (suc (suc (suc k))))))))) = omega arith in
    let e11 : k + 11 ≡ suc (suc (suc (suc (suc (suc (suc (suc (suc (suc (suc k)))))))))) = omega arith in
    let e12 : k + 12 ≡ suc (suc (suc (suc (suc (suc (suc (suc (suc (suc (suc (suc k))))))))))) = omega arith in
    let e13 : k + 13 ≡ suc (suc (suc (suc (suc (suc (suc (suc (suc (suc (suc (suc (suc k)))))))))))) = omega arith in
    λ x. set (set (set (set (set (set (set (set (set (set (set (set (set (set t k a) (e1 x) b) (e2 x) c) (e3 x) d) (e4 x) e) (e5 x) f) (e6 x) g) (e7 x) h) (e8 x) i) (e9 x) l) (e10 x) m) (e11 x) n) (e12 x) o) (e13 x) p

module _ (t : List ℕ) (j : ℕ) (q : LineRow) where
  pub stored64 : j < length t / 3 → set (set (set t (j * 3) q.address) (j * 3 + 1) q.size) (j * 3 + 2) q.number ≡ put_row 3 t j (words64 q)
  stored64 h = three t (j * 3) q.address q.size q.number ∙ row_in 3 t j (words64 q) h

  pub stored32 : j < length t / 14 → {s n d r : ℕ} → s ≡ flag_of q.has_size → n ≡ flag_of q.srcsrv_name.present → d ≡ flag_of q.srcsrv_dir.present → r ≡ flag_of q.revision.present
      → set (set (set (set (set (set (set (set (set (set (set (set (set (set t (j * 14) s) (j * 14 + 1) q.name.start) (j * 14 + 2) q.name.len) (j * 14 + 3) q.directory.start) (j * 14 + 4) q.directory.len)
      (j * 14 + 5) n) (j * 14 + 6) q.srcsrv_name.part.start) (j * 14 + 7) q.srcsrv_name.part.len) (j * 14 + 8) d) (j * 14 + 9) q.srcsrv_dir.part.start) (j * 14 + 10) q.srcsrv_dir.part.len)
      (j * 14 + 11) r) (j * 14 + 12) q.revision.part.start) (j * 14 + 13) q.revision.part.len
      ≡ put_row 14 t j (words32 q)
  stored32 h {s} {n} {d} {r} a b c f =
      rw (a, b, c, f)
      (fourteen t (j * 14) (flag_of q.has_size) q.name.start q.name.len q.directory.start q.directory.len (flag_of q.srcsrv_name.present) q.srcsrv_name.part.start
      q.srcsrv_name.part.len (flag_of q.srcsrv_dir.present) q.srcsrv_dir.part.start q.srcsrv_dir.part.len (flag_of q.revision.present) q.revision.part.start q.revision.part.len
      ∙ row_in 14 t j (words32 q) h)
