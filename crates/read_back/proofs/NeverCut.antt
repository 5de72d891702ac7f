-- NO WALK FROM A LOOKUP IS CUT by the clause on the steps: while it is at an index inside the table that it hasn't met, there are fewer steps than locations.
use Prim.Native.Nat.{ℕ}
use mathlib.Core.Path.{◌≡◌, refl, sym, ◌∙◌, subst}
use mathlib.Core.Bool.{Bool, true, false, cond, ◌||◌}
use mathlib.Core.Logic.{◌↔◌}
use mathlib.Core.Option.{none, some}
use mathlib.Core.List.{List, [], ◌∷◌, map}
use native.Mathlib.Omega.{arith}
use lib.Dec.{leb, eqb}
use borrow.Author.Tests.{lt-leb, leb-false}
use Rattle.raw.specs.Rows.{max32, is_no_source_location}
use Rattle.symcache.specs.declared.SymCache.{SymCache}
use Rattle.symcache.specs.Answers.{Answer, gives, refuses, and_then}
use Rattle.symcache.specs.Reader.{parsed, opened, location_in_lem}
use Rattle.symcache.proofs.ReaderLaws.{opened-parsed}
use Rattle.lookup.specs.declared.SourceLocations.{SourceLocations}
use Rattle.lookup.specs.declared.Frame.{Frame}
use Rattle.lookup.specs.Answers.{Framed}
use Rattle.lookup.specs.Lookup.{belongs_to, walk_from_lem, walk_tested, looked_up_lem, met, frame_in_lem, framed, ended, step_in_lem, stepped}
use Rattle.read_back.specs.Ends.{ends_by_rule?, Reached, from_lookup, step_further, NeverCut, Handed, by_lookup, by_next, NextEndsByRule}
use Rattle.read_back.proofs.Walks.{Has, begins, goes_on, steps-left, step_is, stops, steps_on}

-- ── The clauses ──

-- a clause that holds only where another does adds nothing
adds-nothing : (a b d m : Bool) → (b ≡ false → m ≡ false → d ≡ false) → (a || (b || (d || m))) ≡ (a || (b || m))
adds-nothing true b d m h = refl
adds-nothing false true d m h = refl
adds-nothing false false true true h = refl
adds-nothing false false true false h = h refl refl
adds-nothing false false false m h = refl

none-holds : (a b d m : Bool) → (a || (b || (d || m))) ≡ false → (b ≡ false) × (m ≡ false)
none-holds true b d m e = let bad : ◌≡◌ {A = ℕ} 0 1 = cc in absurd (omega arith)
none-holds false true d m e = let bad : ◌≡◌ {A = ℕ} 0 1 = cc in absurd (omega arith)
none-holds false false true m e = let bad : ◌≡◌ {A = ℕ} 0 1 = cc in absurd (omega arith)
none-holds false false false m e = (refl, e)

abbrev index_of : Frame → ℕ
index_of f = f.location_idx

module _ (s : List ℕ) (c : SymCache) where
  -- at a new index inside the table there are steps left
  by_rule : (k : SourceLocations) (l : List ℕ) → Has s c k l → ended s c k ≡ ends_by_rule? s c k
  unfolding ended ends_by_rule?
  by_rule k l h =
      let n = c.num_source_locations in
      adds-nothing (eqb k.current max32) (leb n k.current) (leb n k.steps) (met s c k.current k.first k.steps)
      (λ inside new. lt-leb n k.steps (steps-left s c k l h (sym (h.same k.current) ∙ new) (leb-false n k.current inside)))

  -- ── A step ──

  step-at : (k : SourceLocations) (t : Framed) → step_in_lem s c k ≡ some t → (ended s c k ≡ false) × (framed s c k ≡ t)
  unfolding step_in_lem
  step-at k t e = go (ended s c k) refl e
    where
      go : (b : Bool) → ended s c k ≡ b → cond b none (some (framed s c k)) ≡ some t → (ended s c k ≡ false) × (framed s c k ≡ t)
      go true g e = let bad : ◌≡◌ {A = ℕ} 0 1 = cc in absurd (omega arith)
      go false g e = (g, cc)

  -- it is made at a new index inside the table, and the frame has that index
  meets-one : (k : SourceLocations) (l : List ℕ) (t : Framed) → Has s c k l → step_in_lem s c k ≡ some t → Has s c t.next (index_of t.frame ∷ l)
  unfolding ended frame_in_lem
  meets-one k l t h e =
      let n = c.num_source_locations in
      let (on, same) = step-at k t e in
      let (inside, new) = none-holds (eqb k.current max32) (leb n k.current) (leb n k.steps) (met s c k.current k.first k.steps) on in
      subst (λ (u : Framed). Has s c u.next (index_of u.frame ∷ l)) same
      (goes_on s c k l h (sym (h.same k.current) ∙ new) (leb-false n k.current inside))

  -- ── Every cursor that is reached ──

  reached_has : {k : SourceLocations} → Reached s c k → (l : List ℕ) × Has s c k l
  reached_has (from_lookup i) = ([], begins s c i)
  reached_has (step_further {k = k} {t = t} r e) = let (l, h) = reached_has r in (index_of t.frame ∷ l, meets-one k l t h e)

-- THE CLAUSE ON THE STEPS ADDS NOTHING
pub never_cut : NeverCut
never_cut s c k r = let (l, h) = reached_has s c r in by_rule s c k l h

-- ── The answers of the calls ──

then-gave : {A B : Type 0} (p : Answer A) (f : A → Answer B) (b : B) → and_then p f ≡ gives b → (a : A) × (p ≡ gives a) × (f a ≡ gives b)
unfolding and_then
then-gave (gives a) f b e = (a, refl, e)
then-gave (refuses r) f b e = let bad : ◌≡◌ {A = ℕ} 0 1 = cc in absurd (omega arith)

-- a lookup begins a walk, at some index
walk_from : (s : List ℕ) (c : SymCache) (j : ℕ) → (i : ℕ) × (walk_tested s c j ≡ walk_from_lem i)
walk_from s c j = go (eqb j max32) (is_no_source_location (location_in_lem s c j))
  where
    go : (a b : Bool) → (i : ℕ) × (cond a (walk_from_lem max32) (cond b (walk_from_lem max32) (walk_from_lem j)) ≡ walk_from_lem i)
    go true b = (max32, refl)
    go false true = (max32, refl)
    go false false = (j, refl)

-- and the file was read
pub looked-from : (s : List ℕ) (x : ℕ) (k : SourceLocations) → looked_up_lem s x ≡ gives k → (c : SymCache) × (parsed s ≡ gives c) × (i : ℕ) × (k ≡ walk_from_lem i)
unfolding looked_up_lem
looked-from s x k e =
    let (c, o, g) = then-gave (opened s) (λ c. gives (walk_tested s c (belongs_to s c x))) k e in
    let (i, w) = walk_from s c (belongs_to s c x) in
    (c, opened-parsed s c o, i, cc)

module _ (s : List ℕ) (c : SymCache) where
  pub looked-reached : (x : ℕ) (k : SourceLocations) → looked_up_lem s x ≡ gives k → Reached s c k
  looked-reached x k e = let (d, is, i, at) = looked-from s x k e in subst (Reached s c) (sym at) (from_lookup i)

  module _ (is : parsed s ≡ gives c) where
    step-gave : (k : SourceLocations) (t : Framed) → stepped s k ≡ gives (some t) → step_in_lem s c k ≡ some t
    step-gave k t e = let g = step_is s c is k in cc

    pub step-reached : (k : SourceLocations) (t : Framed) → Reached s c k → stepped s k ≡ gives (some t) → Reached s c t.next
    step-reached k t r e = step_further r (step-gave k t e)

    -- `next` is at the end exactly where the rule says so
    module _ (k : SourceLocations) (r : Reached s c k) where
      stops-there : ends_by_rule? s c k ≡ true → stepped s k ≡ gives none
      stops-there e = stops s c is k (never_cut s c k r ∙ e)

      pub goes-elsewhere : ends_by_rule? s c k ≡ false → stepped s k ≡ gives (some (framed s c k))
      goes-elsewhere e = steps_on s c is k (never_cut s c k r ∙ e)

      only-there : stepped s k ≡ gives none → ends_by_rule? s c k ≡ true
      only-there e = go (ends_by_rule? s c k) refl
        where
          go : (b : Bool) → ends_by_rule? s c k ≡ b → b ≡ true
          go true g = refl
          go false g = let h = goes-elsewhere g in let bad : ◌≡◌ {A = ℕ} 0 1 = cc in absurd (omega arith)

      pub ends_exactly : (stepped s k ≡ gives none) ↔ (ends_by_rule? s c k ≡ true)
      ends_exactly = (only-there, stops-there)

-- every cursor that the calls hand out is reached, and the indexes of the frames are those it has met
record Carried (s : List ℕ) (fs : List Frame) (k : SourceLocations) : Type 0 where
  tables : SymCache
  accepted : parsed s ≡ gives tables
  reached : Reached s tables k
  has : Has s tables k (map index_of fs)

carried : {s : List ℕ} {fs : List Frame} {k : SourceLocations} → Handed s fs k → Carried s fs k
carried {s = s} (by_lookup x {k = k} e) =
    let (c, is, i, at) = looked-from s x k e in
    record { tables = c; accepted = is; reached = looked-reached s c x k e; has = subst (λ (w : SourceLocations). Has s c w []) (sym at) (begins s c i) }
carried {s = s} (by_next {k = k} {t = t} {fs = fs} h e) =
    let b = carried h in
    record {
      tables = b.tables;
      accepted = b.accepted;
      reached = step-reached s b.tables b.accepted k t b.reached e;
      has = meets-one s b.tables k (map index_of fs) t b.has (step-gave s b.tables b.accepted k t e);
    }

-- `next` ENDS BY THE RULE ALONE
pub next-ends_by_rule : NextEndsByRule
next-ends_by_rule s fs k h =
    let b = carried h in
    record {
      tables = b.tables;
      accepted = b.accepted;
      ends = ends_exactly s b.tables b.accepted k b.reached;
      elsewhere = goes-elsewhere s b.tables b.accepted k b.reached;
      already_met = b.has.same;
    }
