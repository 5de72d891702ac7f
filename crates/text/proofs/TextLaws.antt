-- Texts: where a text that was read lies, and that a stored text reads back. Assumes nothing.
use Prim.Native.Nat.{ℕ, ◌+◌, ◌-◌, ◌^◌, ◌≤◌, ◌<◌}
use mathlib.Core.Path.{◌≡◌, refl, sym, ap, ◌∙◌}
use mathlib.Core.List.{List, [], ◌∷◌, ◌++◌, append_assoc}
use mathlib.Core.Bool.{Bool, true, false, cond, ◌&&◌, false≢true}
use native.Mathlib.Omega.{arith}
use lib.Dec.{leb}
use lib.ListN.{length, take, drop, length-append, length-drop}
use lib.Seq.{take_at, drop_at}
use borrow.Author.Tests.{leb-true, le-leb, lt-leb}
use Rattle.text.specs.Leb128.{well_formed, encoded, number, decoded, Accepted}
use Rattle.text.specs.Utf8.{utf8}
use Rattle.text.specs.Texts.{part, text_after, read_text, bytes_of, text_part}
use Rattle.text.specs.declared.leb128.Leb.{Leb}
use Rattle.std.specs.Prelude.{Option, Some, None}
use Rattle.std.proofs.lemmas.Option.{same_Some}
use Rattle.text.specs.declared.strings.Text.{Text}
use Rattle.text.proofs.Leb128Laws.{decoded-only, decoded-encoded}

-- a well-formed sequence is not empty
formed-length : (p : List ℕ) → well_formed p ≡ true → 0 < length p
unfolding well_formed
formed-length [] w = absurd (false≢true w)
formed-length (b ∷ p) w = omega arith

-- a prefix lies inside the section
pub prefix_within : (s : List ℕ) (at v n : ℕ) → decoded s at ≡ number v n → at + n ≤ length s
prefix_within s at v n e =
    let a : Accepted s at v n = decoded-only s at v n e in
    let l : length s - at ≡ length a.form + length a.rest = sym (length-drop at s) ∙ ap length a.stands ∙ length-append a.form a.rest in
    let f = formed-length a.form a.formed in
    omega (arith, a.size)

-- ---- the answers of `read_text`

pub absent_prefix : (s : List ℕ) (at : ℕ) → None ≡ decoded s at → None ≡ read_text s at
unfolding read_text text_after
absent_prefix s at e = rw (← e)

module _ (s : List ℕ) (at v n : ℕ) (e : number v n ≡ decoded s at) where
  pub absent-cut : length s - (at + n) < v → None ≡ read_text s at
  unfolding read_text text_after
  absent-cut h = rw (← e, lt-leb v (length s - (at + n)) h)

  -- as many bytes as lie between the ends of the part that the code takes
  span : at + n + v - (at + n) ≡ v
  span = omega arith

  -- b is what `is_utf8` answers for them
  pub absent-bytes : {b : Bool} → v ≤ length s - (at + n) → b ≡ utf8 (take (at + n + v - (at + n)) (drop (at + n) s)) → b ≡ false → None ≡ read_text s at
  unfolding read_text text_after
  absent-bytes h u eb = let w : utf8 (take v (drop (at + n) s)) ≡ false = rw span at (sym u ∙ eb) in rw (← e, le-leb v (length s - (at + n)) h, w)

  pub present : {b : Bool} → v ≤ length s - (at + n) → b ≡ utf8 (take (at + n + v - (at + n)) (drop (at + n) s)) → b ≡ true → part (at + n) v ≡ read_text s at
  unfolding read_text text_after
  present h u eb = let w : utf8 (take v (drop (at + n) s)) ≡ true = rw span at (sym u ∙ eb) in rw (← e, le-leb v (length s - (at + n)) h, w)

-- a text that was read lies inside the section
pub text-within : (s : List ℕ) (at start len : ℕ) → read_text s at ≡ part start len → start + len ≤ length s
unfolding read_text text_after
text-within s at start len e = go (decoded s at) refl e
  where
    inside : (v n : ℕ) (t u : Bool) → leb v (length s - (at + n)) ≡ t → at + n ≤ length s → cond (t && u) (part (at + n) v) None ≡ part start len → start + len ≤ length s
    inside v n true true h w f =
        let same = same_Some _ _ f in
        let es : at + n ≡ start = ap (λ (x : Text). x.start) same in
        let el : v ≡ len = ap (λ (x : Text). x.len) same in
        omega (arith, leb-true v (length s - (at + n)) h)
    inside v n true false h w f = absurd (let z : ◌≡◌ {A = ℕ} 0 1 = cc in omega arith)
    inside v n false u h w f = absurd (let z : ◌≡◌ {A = ℕ} 0 1 = cc in omega arith)

    go : (d : Option Leb) → decoded s at ≡ d → text_after s at d ≡ part start len → start + len ≤ length s
    go None ed f = absurd (let z : ◌≡◌ {A = ℕ} 0 1 = cc in omega arith)
    go (Some p) ed f = inside p.value p.len (leb p.value (length s - (at + p.len))) (utf8 (take p.value (drop (at + p.len) s))) refl (prefix_within s at p.value p.len ed) f

-- and it is UTF-8
pub text-utf8 : (s : List ℕ) (at start len : ℕ) → read_text s at ≡ part start len → utf8 (take len (drop start s)) ≡ true
unfolding read_text text_after
text-utf8 s at start len e = go (decoded s at) e
  where
    valid : (v n : ℕ) (t u : Bool) → utf8 (take v (drop (at + n) s)) ≡ u → cond (t && u) (part (at + n) v) None ≡ part start len → utf8 (take len (drop start s)) ≡ true
    valid v n true true h f =
        let same = same_Some _ _ f in
        let es : at + n ≡ start = ap (λ (x : Text). x.start) same in
        let el : v ≡ len = ap (λ (x : Text). x.len) same in
        rw (es, el) at h
    valid v n true false h f = absurd (let z : ◌≡◌ {A = ℕ} 0 1 = cc in omega arith)
    valid v n false u h f = absurd (let z : ◌≡◌ {A = ℕ} 0 1 = cc in omega arith)

    go : (d : Option Leb) → text_after s at d ≡ part start len → utf8 (take len (drop start s)) ≡ true
    go None f = absurd (let z : ◌≡◌ {A = ℕ} 0 1 = cc in omega arith)
    go (Some p) f = valid p.value p.len (leb p.value (length s - (at + p.len))) (utf8 (take p.value (drop (at + p.len) s))) refl f

-- ---- what is stored reads back

pub stored_bytes : (p t q : List ℕ) → take (length t) (drop (length p + length (encoded (length t))) (p ++ (encoded (length t) ++ (t ++ q)))) ≡ t
stored_bytes p t q =
    ap (λ (l : List ℕ). take (length t) l)
    (ap (λ (l : List ℕ). drop (length p + length (encoded (length t))) l) (sym (append_assoc p (encoded (length t)) (t ++ q)))
    ∙ drop_at (p ++ encoded (length t)) (t ++ q) (length p + length (encoded (length t))) (length-append p (encoded (length t))))
    ∙ take_at t q (length t) refl

-- a text stored after its length, at the end of p, reads as exactly that text, whatever stands before and after
pub read-stored : (p t q : List ℕ) → length t < 2 ^ 64 → utf8 t ≡ true → read_text (p ++ (encoded (length t) ++ (t ++ q))) (length p) ≡ part (length p + length (encoded (length t))) (length t)
unfolding read_text text_after
read-stored p t q h u =
    rw
    (decoded-encoded p (t ++ q) (length t) h, stored_bytes p t q, u, le-leb (length t) (length (p ++ (encoded (length t) ++ (t ++ q))) - (length p + length (encoded (length t)))) (simp length-append (omega arith)))

pub part-stored : (p t q : List ℕ) → length t < 2 ^ 64 → utf8 t ≡ true → text_part (p ++ (encoded (length t) ++ (t ++ q))) (length p) ≡ t
unfolding text_part bytes_of
part-stored p t q h u = rw (read-stored p t q h u) (stored_bytes p t q)

-- ---- the answers of `text_part`

pub part-absent : (s : List ℕ) (at : ℕ) → None ≡ read_text s at → [] ≡ text_part s at
unfolding text_part bytes_of
part-absent s at e = rw (← e)

pub part-present : (s : List ℕ) (at start len : ℕ) → part start len ≡ read_text s at → take (start + len - start) (drop start s) ≡ text_part s at
unfolding text_part bytes_of
part-present s at start len e = let k : start + len - start ≡ len = omega arith in rw (← e, k)

-- what the answers of src/strings.rt take
pub ruleset texts = (prefix_within, absent_prefix, absent-cut, absent-bytes, present, text-within, part-absent, part-present)
