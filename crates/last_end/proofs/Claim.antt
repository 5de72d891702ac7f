-- Of every list of calls after a beginning: `last-end_unneeded : LastEndUnneeded`.
use mathlib.Core.Path.{◌≡◌, refl, sym, ap, ap₂, ◌∙◌}
use mathlib.Core.Option.{some}
use mathlib.Core.Logic.{⊎_elim}
use mathlib.Core.List.{List}
use Prim.Native.Nat.{ℕ}
use Rattle.slices.proofs.Cases.{none-some, false-true}
use Rattle.raw.specs.declared.SourceLocation.{SourceLocation}
use Rattle.tables.specs.Ranges.{get_of}
use Rattle.std.specs.Prelude.{Option, Some, None}
use Rattle.model.specs.Converter.{Setup, Tables, converted}
use Rattle.model.specs.Written.{as_written}
use Rattle.model.specs.FileWords.{sections}
use Rattle.memory.specs.declared.Converter.{Converter}
use Rattle.memory.specs.Record.{begin_of}
use Rattle.steps.specs.Steps.{held}
use Rattle.serialize.specs.File.{write_answer}
use Rattle.read_back.specs.Bytes.{file_bytes}
use Rattle.demand3.specs.Lists.{Standing, run, by_value, beginning}
use Rattle.demand3.proofs.Interned.{shown, got}
use Rattle.demand3.proofs.OneCall.{lengths_of}
use Rattle.demand3.proofs.EveryList.{Open, every-list}
use Rattle.demand3.proofs.WrittenFile.{write-answers}
use Rattle.last_end.specs.LastEnd.{reference_file, Unneeded, LastEndUnneeded}
use Rattle.last_end.proofs.Starts.{last-end-starts, nothing-added}

-- what is held is found
found : (f : Option SourceLocation) (l : SourceLocation) → held f ≡ some l → (k : SourceLocation) × (f ≡ Some k)
found None l e = none-some e
found (Some k) l e = (k, refl)

pub last-end_unneeded : LastEndUnneeded
unfolding begin_of
last-end_unneeded id arch f s m calls typed o =
    ⊎_elim while_open (λ h. false-true (sym h.closed ∙ o)) (every-list id arch f s m calls typed)
  where
    r : Standing Converter
    r = run by_value calls (beginning id arch f s m)

    b : Converter
    b = (begin_of id arch f s m).0

    X : Setup
    X = record { functions_on = f; symbols_on = s }

    while_open : Open (lengths_of m) b r → Unneeded id arch X r
    while_open h = record {
      is_a_start = λ a e.
          let (l, k) = last-end-starts X r.counted a e in
          found (get_of r.memory.ranges r.carrier.state.ranges a) _ (got r.memory.ranges r.carrier.state.ranges (converted X r.counted).ranges a h.enc.ranges ∙ ap shown k);
      same_file = λ out.
          let i : r.carrier.debug_id ≡ id = ap (λ (c : Converter). c.debug_id) h.began in
          let j : r.carrier.arch ≡ arch = ap (λ (c : Converter). c.arch) h.began in
          let e : file_bytes r.carrier.debug_id r.carrier.arch (sections (as_written (converted X r.counted))) ≡ reference_file id arch X r.counted =
          ap₂ (λ (d : List ℕ) (n : ℕ). file_bytes d n (sections (as_written (converted X r.counted)))) i j
          ∙ ap (λ (t : Tables). file_bytes id arch (sections (as_written t))) (sym (nothing-added X r.counted)) in
          write-answers X r.counted (lengths_of m) r.carrier r.memory h.opened h.enc out ∙ ap (λ (p : List ℕ). write_answer p out) e;
    }
