-- THE WALK: `next` from the cursor that `lookup` gives finds, frame by frame, what a reader of the words finds, and then the end. For EVERY file's words and EVERY address.
use Prim.Native.Nat.{ℕ, zero, suc, ◌+◌, ◌-◌, ◌≤◌, ◌<◌}
use mathlib.Core.Path.{◌≡◌, refl, sym, ap, ◌∙◌, subst}
use mathlib.Core.Bool.{Bool, true, false, cond, ◌&&◌, ◌||◌}
use mathlib.Core.Logic.{◌⊎◌, inl, inr, ⊎_elim}
use mathlib.Core.Option.{Option, none, some}
use mathlib.Core.List.{List, [], ◌∷◌, ◌++◌, map}
use native.Mathlib.Omega.{arith}
use native.Mathlib.Numerals.{add-one}
use lib.Dec.{ltb, leb, eqb}
use lib.ListN.{length, get_or, get_elem?, get_or-eq_default}
use borrow.Author.Tests.{lt-ltb, le-leb, lt-leb, ltb-true, ltb-false, leb-true, leb-false, eq-eqb, ne_eqb, eqb-true, eqb-false}
use Rattle.slices.proofs.Cases.{lt-or_ge}
use Rattle.raw.specs.declared.SourceLocation.{SourceLocation}
use Rattle.raw.specs.Rows.{max32, is_no_source_location}
use Rattle.text.specs.Texts.{read_text, bytes_of, text_part}
use Rattle.text.specs.declared.strings.Text as text-type
use Rattle.std.specs.Prelude as std
use Rattle.text.proofs.Leb128Laws.{decoded-past}
use Rattle.text.proofs.TextLaws.{absent_prefix, text-within}
use Rattle.symcache.specs.declared.SymCache.{SymCache}
use Rattle.lookup.specs.declared.SourceLocations.{SourceLocations}
use Rattle.lookup.specs.declared.Frame.{Frame}
use Rattle.symcache.specs.Answers.{gives, and_then}
use Rattle.symcache.specs.Reader.{layout_of, parsed}
use Rattle.lookup.specs.Lookup.{found_at, walk_from_lem, walk_at_lem, looked_up_lem, met, entry_of, language_of, file_of_lem, frame_in_lem, ended, step_in_lem, stepped}
use Rattle.symcache.specs.Reader.{location_in_lem, function_in_lem, file_in_lem}
use Rattle.file_texts.specs.Strings.{placed, got_string, or_else, string_of, text_or, name_in, name_of}
use Rattle.search.proofs.SearchLaws.{found-far}
use Rattle.lookup.proofs.LookupLaws.{then-gives, walk-nowhere, walk-empty, walk_begins}
use Rattle.lookup.proofs.ByMeaning.{find_greatest, find_none, by_meaning}
use Rattle.model.specs.Rows.{MAX}
use Rattle.model.specs.Written.{met?}
use Rattle.model.specs.FileWords.{Sections, Ascending}
use Rattle.model.proofs.FileRows as file-rows
use Rattle.model.proofs.FileRows.{text_at, outside}
use Rattle.model.proofs.Sections.{word, shown-file, file-read, function-read, frame-read, follow-words, empty-row, from-words, count-words, lookup_words}
use Rattle.read_back.specs.Bytes.{sections_header, file_bytes, Readable}
use Rattle.read_back.specs.Shown.{part_of, text_shown, ShownFile, file_shown, Shown, shown, name_or, with_empty_name, with_stand_in, Walked, ends, goes, Found}
use Rattle.read_back.proofs.RowsOfWords.{location_of}
use Rattle.read_back.proofs.FileRead.{parsed-file, start-there, opened-file, location-there, function-there, function-outside, file-there, file-outside, section-there, part-there}
use Rattle.read_back.proofs.Once.{Once, Below, not-met, few}

-- ── The indexes met, in any file ──

shift : (a t m e : Bool) → t ≡ true → (a || (t && (m || e))) ≡ ((a || (t && m)) || e)
shift true t m e g = refl
shift false true m e g = refl
shift false false m e g = let bad : ◌≡◌ {A = ℕ} 0 1 = cc in absurd (omega arith)

alone : (a t : Bool) → (a || (t && false)) ≡ a
alone true t = refl
alone false true = refl
alone false false = refl

flip : (m : Bool) (a b : ℕ) → (m || eqb a b) ≡ cond (eqb b a) true m
flip m a b = go (eqb a b) refl m
  where
    go : (t : Bool) → eqb a b ≡ t → (m : Bool) → (m || t) ≡ cond (eqb b a) true m
    go true e true = rw (eq-eqb b a (sym (eqb-true a b e)))
    go true e false = rw (eq-eqb b a (sym (eqb-true a b e)))
    go false e true = rw (ne_eqb b a (λ q. eqb-false a b e (sym q)))
    go false e false = rw (ne_eqb b a (λ q. eqb-false a b e (sym q)))

any-ends : (a b d : Bool) → (a || (b || (d || true))) ≡ true
any-ends true b d = refl
any-ends false true d = refl
any-ends false false true = refl
any-ends false false false = refl

out-ends : (a b : Bool) → (a || (true || b)) ≡ true
out-ends true b = refl
out-ends false b = refl

module _ (s : List ℕ) (c : SymCache) where
  abbrev next : ℕ → ℕ
  next j = (location_in_lem s c j).inlined_into_idx

  -- n steps from j lead to k, all of them from inside the table
  abbrev Leads : ℕ → ℕ → ℕ → Type 0
  Leads zero j k = j ≡ k
  Leads (suc n) j k = (j < c.num_source_locations) × Leads n (next j) k

  leads-on : (n j k : ℕ) → Leads n j k → k < c.num_source_locations → Leads (suc n) j (next k)
  leads-on zero j k p h = (rw p h, ap next p)
  leads-on (suc n) j k p h = (p.0, leads-on n (next j) k p.1 h)

  met-on : (n j k i : ℕ) → Leads n j k → met s c i j (suc n) ≡ (met s c i j n || eqb k i)
  unfolding met
  met-on zero j k i p = alone (eqb j i) (ltb j c.num_source_locations) ∙ ap (λ (v : ℕ). eqb v i) p
  met-on (suc n) j k i p =
      ap (λ (b : Bool). eqb j i || (ltb j c.num_source_locations && b)) (met-on n (next j) k i p.1)
      ∙ shift (eqb j i) (ltb j c.num_source_locations) (met s c i (next j) n) (eqb k i) (lt-ltb j c.num_source_locations p.0)

  -- the cursor k has met the indexes of l, the last one first
  pub record Has (k : SourceLocations) (l : List ℕ) : Type 0 where
    pub leads : Leads k.steps k.first k.current
    pub same : (i : ℕ) → met s c i k.first k.steps ≡ met? i l
    pub size : length l ≡ k.steps
    pub once : Once l
    pub below : Below c.num_source_locations l

  abbrev after : SourceLocations → SourceLocations
  after k = record { first = k.first; current = next k.current; steps = k.steps + 1 }

  pub begins : (i : ℕ) → Has (walk_from_lem i) []
  unfolding met met?
  begins i = record { leads = refl; same = λ j. refl; size = refl; once = tt; below = tt }

  pub goes_on : (k : SourceLocations) (l : List ℕ) → Has k l → met? k.current l ≡ false → k.current < c.num_source_locations → Has (after k) (k.current ∷ l)
  unfolding met?
  goes_on k l h e g = record {
    leads = rw (add-one k.steps) (leads-on k.steps k.first k.current h.leads g);
    same = λ i. rw (add-one k.steps) (met-on k.steps k.first k.current i h.leads ∙ (ap (λ (b : Bool). b || eqb k.current i) (h.same i) ∙ flip (met? i l) k.current i));
    size = rw (add-one k.steps) (ap suc h.size);
    once = (not-met k.current l e, h.once);
    below = (g, h.below);
  }

  ended-met : (k : SourceLocations) (l : List ℕ) → Has k l → met? k.current l ≡ true → ended s c k ≡ true
  unfolding ended
  ended-met k l h e = rw (h.same k.current, e) (any-ends (eqb k.current max32) (leb c.num_source_locations k.current) (leb c.num_source_locations k.steps))

  pub ended-out : (k : SourceLocations) → c.num_source_locations ≤ k.current → ended s c k ≡ true
  unfolding ended
  ended-out k h = rw (le-leb c.num_source_locations k.current h) (out-ends (eqb k.current max32) (leb c.num_source_locations k.steps || met s c k.current k.first k.steps))

  -- there are fewer steps than locations while an index inside the table isn't met
  pub steps-left : (k : SourceLocations) (l : List ℕ) → Has k l → met? k.current l ≡ false → k.current < c.num_source_locations → k.steps < c.num_source_locations
  steps-left k l h e g =
      let f : suc (length l) ≤ c.num_source_locations = few c.num_source_locations (k.current ∷ l) (not-met k.current l e, h.once) (g, h.below) in
      let z = h.size in
      omega arith

  not-ended : c.num_source_locations ≤ max32 → (k : SourceLocations) (l : List ℕ) → Has k l → met? k.current l ≡ false → k.current < c.num_source_locations → ended s c k ≡ false
  unfolding ended
  not-ended m k l h e g =
      let n = c.num_source_locations in
      rw (ne_eqb k.current max32 (λ q. omega arith), lt-leb n k.current g, lt-leb n k.steps (steps-left k l h e g), h.same k.current, e)

  -- ── `next` ──

  module _ (is : parsed s ≡ gives c) where
    pub step_is : (k : SourceLocations) → stepped s k ≡ gives (step_in_lem s c k)
    unfolding stepped
    step_is k = sym (then-gives (parsed s) c (λ (d : SymCache). gives (step_in_lem s d k)) (gives (step_in_lem s c k)) is refl)

    pub stops : (k : SourceLocations) → ended s c k ≡ true → stepped s k ≡ gives none
    unfolding step_in_lem
    stops k e = step_is k ∙ rw e

    pub steps_on : (k : SourceLocations) → ended s c k ≡ false → stepped s k ≡ gives (some (record { frame = frame_in_lem s c k.current; next = after k }))
    unfolding step_in_lem
    steps_on k e = step_is k ∙ rw e

-- ── The words ──

there : {A : Type 0} (xs : List A) (d : A) (i : ℕ) → i < length xs → get_elem? xs i ≡ some (get_or xs i d)
there [] d i h = absurd (omega arith)
there (x ∷ xs) d zero h = refl
there (x ∷ xs) d (suc i) h = there xs d i (omega arith)

module _ (z : Sections) (n : ℕ) (l : List ℕ) (w : ℕ) where
  follow-met : met? w l ≡ true → follow-words (suc n) z l w ≡ []
  unfolding follow-words
  follow-met e = rw (e, follow-words)

  module _ (e : met? w l ≡ false) where
    follow-out : length z.locations ≤ w → follow-words (suc n) z l w ≡ []
    unfolding follow-words
    follow-out h = rw (e, outside z.locations w h, follow-words)

    follow_in : w < length z.locations → follow-words (suc n) z l w ≡ frame-read z (get_or z.locations w []) ∷ follow-words n z (w ∷ l) (word 3 (get_or z.locations w []))
    unfolding follow-words
    follow_in h = rw (e, there z.locations [] w h, follow-words)

-- of ascending starts, as many as are counted are at most x, and the others above
above : (b : ℕ) (ks : List ℕ) → Ascending b ks → (j : ℕ) → j < length ks → b ≤ get_or ks j 0
above b [] a j h = absurd (omega arith)
above b (k ∷ ks) a zero h = a.0
above b (k ∷ ks) a (suc j) h = let r = above (suc k) ks a.1 j (omega arith) in let q = a.0 in omega arith

record Counted (ks : List ℕ) (x n : ℕ) : Type 0 where
  few_of : n ≤ length ks
  low : (j : ℕ) → j < n → get_or ks j 0 ≤ x
  high : (j : ℕ) → n ≤ j → j < length ks → x < get_or ks j 0

counted : (b : ℕ) (ks : List ℕ) (x : ℕ) → Ascending b ks → Counted ks x (count-words ks x)
unfolding count-words
counted b [] x a = record { few_of = omega arith; low = λ j h. absurd (omega arith); high = λ j g h. absurd (omega arith) }
counted b (k ∷ ks) x a = go (leb k x) refl (counted (suc k) ks x a.1)
  where
    go : (t : Bool) → leb k x ≡ t → Counted ks x (count-words ks x) → Counted (k ∷ ks) x (elim t [ true ↦ suc (count-words ks x) | false ↦ 0 ])
    go true e r = record {
      few_of = let f = r.few_of in omega arith;
      low = λ j h. low j h;
      high = λ j g h. high j g h;
    }
      where
        low : (j : ℕ) → j < suc (count-words ks x) → get_or (k ∷ ks) j 0 ≤ x
        low zero h = leb-true k x e
        low (suc j) h = r.low j (omega arith)

        high : (j : ℕ) → suc (count-words ks x) ≤ j → j < length (k ∷ ks) → x < get_or (k ∷ ks) j 0
        high zero g h = absurd (omega arith)
        high (suc j) g h = r.high j (omega arith) (omega arith)
    go false e r = record { few_of = omega arith; low = λ j h. absurd (omega arith); high = λ j g h. let l = above k (k ∷ ks) (omega arith, a.1) j h in omega (arith, leb-false k x e) }

empties : (a b d e : Bool) → (a && (b && (d && e))) ≡ (a && b && d && e)
empties true true d e = refl
empties true false d e = refl
empties false b d e = refl

shown_path : (a b : Shown) → a.name ≡ b.name → a.entry ≡ b.entry → a.language ≡ b.language → a.number ≡ b.number → a.file ≡ b.file → a ≡ b
shown_path a b p q r t u = λ i. record { name = p i; entry = q i; language = r i; number = t i; file = u i }

shown-file-same : (x y : ShownFile) → x.name ≡ y.name → x.directory ≡ y.directory → x.comp_dir ≡ y.comp_dir → x.srcsrv_name ≡ y.srcsrv_name → x.srcsrv_dir ≡ y.srcsrv_dir → x.revision ≡ y.revision → x ≡ y
shown-file-same x y p q r t u v = λ i. record { name = p i; directory = q i; comp_dir = r i; srcsrv_name = t i; srcsrv_dir = u i; revision = v i }

module _ (id : List ℕ) (a : ℕ) (z : Sections) (ok : Readable id a z) (rest d : List ℕ) where
  abbrev F : List ℕ
  F = file_bytes id a z ++ rest

  abbrev c : SymCache
  c = layout_of (sections_header id a z)

  is : parsed F ≡ gives c
  is = parsed-file id a z ok rest

  -- the counts of the header have 32 bits
  few-locations : length z.locations ≤ max32
  few-locations = let (q₀, (q₁, (q₂, (q₃, q₄)))) = ok.numbers in omega arith

  few_bytes : length z.strings ≤ max32
  few_bytes = let (q₀, (q₁, (q₂, (q₃, (q₄, (q₅, q₆)))))) = ok.numbers in omega arith

  -- ── Texts ──

  pub text-is : (w : ℕ) → text_shown F w ≡ text_at z.strings w
  unfolding got_string and_then placed
  text-is w = rw (is, and_then, section-there id a z ok rest) (go (read_text z.strings w) refl)
    where
      go : (t : std.Option text-type.Text) → read_text z.strings w ≡ t → part_of F (gives (placed c.strings t)) ≡ file-rows.shown z.strings t
      go std.None e = refl
      go (std.Some t) e = ap some (part-there id a z ok rest t.start t.len (text-within z.strings w t.start t.len e))

  -- `get_string`: the same, and nothing where it is absent
  pub bytes-is : (w : ℕ) → string_of F w ≡ name_or [] (text_at z.strings w)
  unfolding string_of and_then or_else text_part bytes_of
  bytes-is w = rw (is, and_then, section-there id a z ok rest) (go (read_text z.strings w))
    where
      go : (t : std.Option text-type.Text) → bytes_of z.strings t ≡ name_or [] (file-rows.shown z.strings t)
      go std.None = refl
      go (std.Some t) = refl

  absent-at : text_at z.strings MAX ≡ none
  absent-at = ap (λ (t : std.Option text-type.Text). file-rows.shown z.strings t) (sym (absent_prefix z.strings MAX (decoded-past z.strings MAX few_bytes)))

  text-or : (t : std.Option text-type.Text) → text_or d z.strings t ≡ name_or d (file-rows.shown z.strings t)
  unfolding text_or
  text-or std.None = refl
  text-or (std.Some t) = refl

  -- ── Frames ──

  missing : (i : ℕ) → length z.functions ≤ i → function-read z i ≡ MAX ∷ MAX ∷ MAX ∷ MAX ∷ []
  missing i h = get_or-eq_default z.functions (MAX ∷ MAX ∷ MAX ∷ MAX ∷ []) h

  name-is : (i : ℕ) → name_of F d i ≡ name_or d (text_at z.strings (word 0 (function-read z i)))
  unfolding name_of and_then or_else name_in
  name-is i =
      rw (is, and_then)
      (⊎_elim
      (λ h. rw (function-there id a z ok rest i h, name_in, section-there id a z ok rest) (text-or (read_text z.strings (word 0 (function-read z i)))))
      (λ h. rw (function-outside id a z ok rest i h, name_in, missing i h) (sym (ap (name_or d) absent-at)))
      (lt-or_ge i (length z.functions)))

  entry-is : (i : ℕ) → entry_of (function_in_lem F c i) ≡ word 2 (function-read z i)
  entry-is i =
      ⊎_elim (λ h. ap entry_of (function-there id a z ok rest i h)) (λ h. ap entry_of (function-outside id a z ok rest i h) ∙ sym (ap (word 2) (missing i h))) (lt-or_ge i (length z.functions))

  language-is : (i : ℕ) → language_of (function_in_lem F c i) ≡ word 3 (function-read z i)
  language-is i =
      ⊎_elim (λ h. ap language_of (function-there id a z ok rest i h)) (λ h. ap language_of (function-outside id a z ok rest i h) ∙ sym (ap (word 3) (missing i h))) (lt-or_ge i (length z.functions))

  -- the name by `get_string`, the others by `read_string`
  file-is : (i : ℕ) → file_shown F (file_of_lem (file_in_lem F c i)) ≡ with_empty_name (file-read z i)
  file-is i =
      ⊎_elim
      (λ h. let r = get_or z.files i [] in
      ap (λ (o : Option _). file_shown F (file_of_lem o)) (file-there id a z ok rest i h)
      ∙ (ap some (shown-file-same _ _ (bytes-is (word 2 r)) (text-is (word 1 r)) (text-is (word 0 r)) (text-is (word 3 r)) (text-is (word 4 r)) (text-is (word 5 r)))
      ∙ sym (ap (λ (o : Option (List ℕ)). with_empty_name (shown-file z.strings o)) (there z.files [] i h))))
      (λ h. ap (λ (o : Option _). file_shown F (file_of_lem o)) (file-outside id a z ok rest i h) ∙ sym (ap (λ (o : Option (List ℕ)). with_empty_name (shown-file z.strings o)) (outside z.files i h)))
      (lt-or_ge i (length z.files))

  -- THE FRAME OF A LOCATION
  pub frame-shown : (i : ℕ) → i < length z.locations → shown F d (frame_in_lem F c i) ≡ with_stand_in d (frame-read z (get_or z.locations i []))
  unfolding frame_in_lem
  frame-shown i h =
      let r = get_or z.locations i [] in
      rw (location-there id a z ok rest i h) (shown_path _ _ (name-is (word 2 r)) (entry-is (word 2 r)) (language-is (word 2 r)) refl (file-is (word 0 r)))

  -- ── The walk ──

  record Shows (k : SourceLocations) (vs : List Shown) : Type 0 where
    frames : List Frame
    walked : Walked F k frames
    shows : map (shown F d) frames ≡ vs

  at-end : (k : SourceLocations) → ended F c k ≡ true → Shows k []
  at-end k e = record { frames = []; walked = ends (stops F c is k e); shows = refl }

  one_more : (k : SourceLocations) (vs : List Shown) → ended F c k ≡ false → k.current < length z.locations → Shows (after F c k) vs → Shows k (with_stand_in d (frame-read z (get_or z.locations k.current [])) ∷ vs)
  one_more k vs e h t = record {
    frames = frame_in_lem F c k.current ∷ t.frames;
    walked = goes (steps_on F c is k e) t.walked;
    shows = ap (λ (v : Shown). v ∷ map (shown F d) t.frames) (frame-shown k.current h) ∙ ap (λ (l : List Shown). with_stand_in d (frame-read z (get_or z.locations k.current [])) ∷ l) t.shows;
  }

  abbrev Walks : ℕ → Type 0
  Walks n = (k : SourceLocations) (l : List ℕ) → Has F c k l → length z.locations < n + k.steps → Shows k (map (with_stand_in d) (follow-words n z l k.current))

  walk_more : (n : ℕ) → Walks n → Walks (suc n)
  unfolding layout_of
  walk_more n on k l h g = go (met? k.current l) refl
    where
      inside : met? k.current l ≡ false → (k.current < length z.locations) ⊎ (length z.locations ≤ k.current) → Shows k (map (with_stand_in d) (follow-words (suc n) z l k.current))
      inside e (inl w) =
          rw (follow_in z n l k.current e w)
          (one_more k _ (not-ended F c few-locations k l h e w) w
          (subst (λ (v : ℕ). Shows (after F c k) (map (with_stand_in d) (follow-words n z (k.current ∷ l) v))) (ap (λ (v : SourceLocation). v.inlined_into_idx) (location-there id a z ok rest k.current w))
          (on (after F c k) (k.current ∷ l) (goes_on F c k l h e w) (omega arith))))
      inside e (inr w) = rw (follow-out z n l k.current e w) (at-end k (ended-out F c k w))

      go : (t : Bool) → met? k.current l ≡ t → Shows k (map (with_stand_in d) (follow-words (suc n) z l k.current))
      go true e = rw (follow-met z n l k.current e) (at-end k (ended-met F c k l h e))
      go false e = inside e (lt-or_ge k.current (length z.locations))

  walk_is : (n : ℕ) → Walks n
  unfolding layout_of
  walk_is zero k l h g = let s = h.size in absurd (omega (arith, few (length z.locations) l h.once h.below))
  walk_is (suc n) k l h g = walk_more n (λ k' l' h' g'. walk_is n k' l' h' g') k l h g

  -- ── The lookup ──

  looked-is : (x : ℕ) → looked_up_lem F x ≡ gives (walk_at_lem F c x)
  looked-is x = sym (by_meaning F c (opened-file id a z ok rest) x).walk

  found_by : (x : ℕ) (k : SourceLocations) (vs : List Shown) → k ≡ walk_at_lem F c x → Shows k vs → Found F d x vs
  found_by x k vs e t = record { cursor = k; looked = looked-is x ∙ ap gives (sym e); frames = t.frames; walked = t.walked; shows = t.shows }

  nothing : (x : ℕ) → walk_from_lem max32 ≡ walk_at_lem F c x → Found F d x []
  unfolding layout_of
  nothing x e = found_by x (walk_from_lem max32) [] e (at-end (walk_from_lem max32) (ended-out F c (walk_from_lem max32) few-locations))

  empty-is : (r : List ℕ) → is_no_source_location (location_of r) ≡ empty-row r
  unfolding is_no_source_location
  empty-is r = empties (eqb (word 0 r) MAX) (eqb (word 1 r) MAX) (eqb (word 2 r) MAX) (eqb (word 3 r) MAX)

  from_in : (i : ℕ) → i < length z.locations → from-words z i ≡ cond (empty-row (get_or z.locations i [])) [] (follow-words (suc (length z.locations)) z [] i)
  unfolding from-words
  from_in i h = rw (there z.locations [] i h, from-words)

  from_is : (x i : ℕ) → i ≡ found_at F c x → i < length z.locations → Found F d x (map (with_stand_in d) (from-words z i))
  from_is x i e h = rw (from_in i h) (go (empty-row (get_or z.locations i [])) refl)
    where
      tested : (t : Bool) → empty-row (get_or z.locations i []) ≡ t → is_no_source_location (location_in_lem F c i) ≡ t
      tested t g = ap is_no_source_location (location-there id a z ok rest i h) ∙ (empty-is (get_or z.locations i []) ∙ g)

      small : i ≡ max32 → ⊥
      small q = omega (arith, few-locations)

      go : (t : Bool) → empty-row (get_or z.locations i []) ≡ t → Found F d x (map (with_stand_in d) (cond t [] (follow-words (suc (length z.locations)) z [] i)))
      go true g = nothing x (walk-empty F c x i e small (tested true g))
      go false g = found_by x (walk_from_lem i) _ (walk_begins F c x i e small (tested false g)) (walk_is (suc (length z.locations)) (walk_from_lem i) [] (begins F c i) (omega arith))

  -- WHAT IS FOUND at an address is what the words say
  pub found-words : (x : ℕ) → Found F d x (map (with_stand_in d) (lookup_words z x))
  unfolding lookup_words layout_of
  found-words x = go (ltb MAX x) refl
    where
      low : x ≤ MAX → (n : ℕ) → Counted z.starts x n → Found F d x (map (with_stand_in d) (elim n [ zero ↦ [] | suc i ↦ from-words z (length z.locations - length z.starts + i) ]))
      low h zero q =
          nothing x (walk-nowhere F c x (found_at F c x) refl (find_none F c (opened-file id a z ok rest) x h (λ j g. rw (start-there id a z ok rest j g) (q.high j (omega arith) g))))
      low h (suc i) q =
          let f : suc i ≤ length z.starts = q.few_of in
          let g = ok.fewer in
          from_is x (length z.locations - length z.starts + i)
          (sym (find_greatest F c (opened-file id a z ok rest) x h i f (rw (start-there id a z ok rest i f) (q.low i (omega arith))) (λ j k l. rw (start-there id a z ok rest j l) (q.high j k l))))
          (omega arith)

      go : (t : Bool) → ltb MAX x ≡ t → Found F d x (map (with_stand_in d) (elim t [ true ↦ [] | false ↦ elim (count-words z.starts x) [ zero ↦ [] | suc i ↦ from-words z (length z.locations - length z.starts + i) ] ]))
      go true e = nothing x (walk-nowhere F c x (found_at F c x) refl (sym (found-far F c.source_locations c.num_source_locations c.ranges c.num_ranges x (ltb-true MAX x e))))
      go false e = low (ltb-false MAX x e) (count-words z.starts x) (counted 0 z.starts x ok.ascending)
