-- What the code finds at a start decides as the machine's loops do.
use mathlib.Core.Path.{◌≡◌, refl, sym, ◌∙◌, ap}
use mathlib.Core.Bool.{Bool, true, false, cond, true≢false, false≢true}
use mathlib.Core.Option.{none, some}
use Prim.Native.Nat.{ℕ}
use Rattle.model.specs.Machine.{unless_held, put_end}
use Rattle.model.specs.Converter.{Setup, input}
use Rattle.raw.specs.Rows.{no_source_location, is_no_source_location}
use Rattle.tables.specs.Ranges.{get_of}
use Rattle.raw.specs.declared.SourceLocation.{SourceLocation}
use Rattle.std.specs.Prelude.{Option as Found, Some, None}
use Rattle.memory.specs.Memory.{Words}
use Rattle.steps.specs.Steps.{put_range, held, vacant, free, over_words}

abbrev found : Words → ℕ → Found SourceLocation
found s a = get_of s.mm.ranges s.st.ranges a

module _ (X : Setup) (a : ℕ) (s : Words) where
  -- `insert_source_location`
  pub put_where_free : (t : Words) {b : Bool} → b ≡ free (found s a) → b ≡ true → t ≡ unless_held input (over_words X) a t s
  unfolding unless_held
  put_where_free t e h = go (found s a) (sym e ∙ h)
    where
      go : (f : Found SourceLocation) → free f ≡ true → ◌≡◌ {A = Words} t (elim (held f) [ none ↦ t | some w ↦ cond (is_no_source_location w) t s ])
      go None h = refl
      go (Some l) h = sym (ap (λ (b : Bool). cond b t s) h)

  pub kept_where_held : (t : Words) {b : Bool} → b ≡ free (found s a) → b ≡ false → s ≡ unless_held input (over_words X) a t s
  unfolding unless_held
  kept_where_held t e h = go (found s a) (sym e ∙ h)
    where
      go : (f : Found SourceLocation) → free f ≡ false → ◌≡◌ {A = Words} s (elim (held f) [ none ↦ t | some w ↦ cond (is_no_source_location w) t s ])
      go None h = absurd (true≢false h)
      go (Some l) h = sym (ap (λ (b : Bool). cond b t s) h)

  -- the empty mapping at an end
  pub end_where_vacant : {b : Bool} → b ≡ vacant (found s a) → b ≡ true → put_range a no_source_location s ≡ put_end input (over_words X) a s
  unfolding put_end
  end_where_vacant e h = go (found s a) (sym e ∙ h)
    where
      go : (f : Found SourceLocation) → vacant f ≡ true → ◌≡◌ {A = Words} (put_range a no_source_location s) (elim (held f) [ none ↦ put_range a no_source_location s | some w ↦ s ])
      go None h = refl
      go (Some l) h = absurd (false≢true h)

  pub kept_where_taken : {b : Bool} → b ≡ vacant (found s a) → b ≡ false → s ≡ put_end input (over_words X) a s
  unfolding put_end
  kept_where_taken e h = go (found s a) (sym e ∙ h)
    where
      go : (f : Found SourceLocation) → vacant f ≡ false → ◌≡◌ {A = Words} s (elim (held f) [ none ↦ put_range a no_source_location s | some w ↦ s ])
      go None h = absurd (true≢false h)
      go (Some l) h = refl
