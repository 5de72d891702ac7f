-- Demand 3 of the exported calls: each leaves what the call by value leaves (`Carried`), so a list of them stands where the same list by value stands (demand3's `Carried`), and there `demand3` holds. What its
-- file shows by value the exported readers show by words (`Cursors`, `Names`).
use mathlib.Core.Path.{◌≡◌, refl, sym, ap, ap₂, subst, ◌∙◌}
use mathlib.Core.Bool.{Bool, true, false, cond}
use mathlib.Core.Option.{Option, none, some}
use mathlib.Core.List.{List, [], ◌++◌}
use Prim.Native.Nat.{ℕ, suc, ◌≤◌, ◌<◌}
use native.Mathlib.Omega.{arith}
use lib.Dec.{leb}
use lib.ListN.{length, take, drop, get_or, replicate, length-map}
use lib.Seq.{take_at}
use borrow.Author.Tests.{le-ltb, leb-true}
use Rattle.c_reading.specs.Reading.{next_call}
use Rattle.slices.specs.Bytes.{bytes_at}
use Rattle.slices.proofs.Bytes.{length_bytes_at}
use Rattle.model.specs.Rows.{Given}
use Rattle.model.specs.Converter.{Setup, converted}
use Rattle.model.specs.Frames.{frames_at}
use Rattle.model.proofs.Gaps.{shown_too}
use Rattle.read_back.specs.Shown.{ShownFile, Shown, shown, with_stand_in, Found}
use Rattle.memory.specs.Memory.{Memory}
use Rattle.memory.specs.declared.Converter.{Converter}
use Rattle.memory.specs.Record.{usable?, begin_of, while_open, capped, clamped_lines_lem}
use Rattle.symbol_call.specs.Calls.{symbol_of}
use Rattle.writer.specs.Calls.{tree_of}
use Rattle.line_rows.specs.Lines.{line_columns}
use Rattle.line_calls.specs.Calls.{lines_of}
use Rattle.serialize.specs.File.{Wrote, wrote, written_file, serialize_of}
use Rattle.demand3.specs.Lists.{Call, tree, lines_tree, symbol, write, outcome, Standing, none_counted, run, by_value, beginning}
use Rattle.demand3.specs.Demand3.{plain_sections, plain_layout, Reopened, file_written}
use Rattle.demand3.specs.Clamped.{clamped_calls}
use Rattle.demand3.proofs.Claim.{demand3}
use Rattle.demand3.proofs.Clamped.{clamped_counted}
use Rattle.demand3.proofs.Carried.{outcome-seen, seen, run-carried}
use Rattle.slices.specs.Slices.{yes}
use Rattle.c_words.specs.Record.{converter_of, Bytes}
use Rattle.c_words.specs.Writing.{begin_call, tree_call, lines_call, symbol_call, clamped_call, serialize_call}
use Rattle.c_words.specs.Record.{len_words}
use Rattle.c_demand3.specs.Walks.{FileByWords, WalkedByCalls, FoundByCalls}
use Rattle.c_demand3.specs.Walks as walks
use Rattle.c_demand3.specs.Lists.{exported, exported_beginning, FileLeft, ExportedDemand3, ExportedClamped}
use Rattle.c_demand3.proofs.Carried.{tree-carried, lines-carried, symbol-carried, begin-carried}
use Rattle.c_demand3.proofs.Cursors.{counts-below, found_by_calls}

-- ── Where a list stands ────────────────────────────────────────────────────────────────────────────────────────────────

-- a standing of the exported calls as one of the calls by value
abbrev standing_of : Standing (List ℕ) → Standing Converter
standing_of = seen converter_of

call-carried : (k : Call) (r : List ℕ) (m : Memory) → outcome-seen converter_of (exported k r m) ≡ by_value k (converter_of r) m
unfolding tree_call lines_call symbol_call serialize_call
call-carried (tree k s) r m = let o = tree_of (converter_of r) m s k in ap (λ (c : Converter). outcome o.code c o.memory) (tree-carried r m s k)
call-carried (lines_tree f64 f32 ls t s u v) r m =
    let k = line_columns f64 f32 ls t in
    let o = (lines_of (converter_of r) m s u v k).called in
    ap (λ (c : Converter). outcome o.code c o.memory) (lines-carried r m s u v k)
call-carried (symbol t address size name) r m =
    let o = symbol_of (converter_of r) m t address size name in
    ap (λ (c : Converter). outcome o.code c o.memory) (symbol-carried r m t address size name)
call-carried (write output) r m = refl

module _ (r id : List ℕ) (arch f s : ℕ) (m : Memory) (long : 20 ≤ length r) (bytes : Bytes id) where
  begun-memory : (begin_call r id arch f s m).memory ≡ (begin_of (bytes_at 32 id 0) arch (yes f) (yes s) m).1
  unfolding begin_call
  begun-memory = rw (le-ltb (length r) 20 long)

  begun-carried : standing_of (exported_beginning r id arch f s m) ≡ beginning (bytes_at 32 id 0) arch (yes f) (yes s) m
  begun-carried = ap₂ (λ (c : Converter) (n : Memory). none_counted c n) (begin-carried r id arch f s m long bytes) begun-memory

  list-carried : (ks : List Call) → standing_of (run exported ks (exported_beginning r id arch f s m)) ≡ run by_value ks (beginning (bytes_at 32 id 0) arch (yes f) (yes s) m)
  list-carried ks = run-carried converter_of by_value exported call-carried ks (exported_beginning r id arch f s m) ∙ ap (run by_value ks) begun-carried

-- ── The count of clamped line rows ─────────────────────────────────────────────────────────────────────────────────────

-- a record's word says whether it is open
handed_out : (r : List ℕ) (gs : List Given) → clamped_lines_lem (converter_of r) ≡ while_open (converter_of r).«open» (capped (clamped_calls gs))
    → clamped_call r ≡ while_open (yes (get_or r 19 0)) (capped (clamped_calls gs))
unfolding clamped_call converter_of
handed_out r gs e = e

pub exported_clamped : ExportedClamped
exported_clamped r id arch f s m ks long bytes =
    let x = run exported ks (exported_beginning r id arch f s m) in
    handed_out x.carrier x.counted
    (subst (λ (y : Standing Converter). clamped_lines_lem y.carrier ≡ while_open y.carrier.«open» (capped (clamped_calls y.counted)))
    (sym (list-carried r id arch f s m long bytes ks)) (clamped_counted (bytes_at 32 id 0) arch (yes f) (yes s) m ks))

-- ── The file ───────────────────────────────────────────────────────────────────────────────────────────────────────────

-- what a write by value that answers 0 leaves
record Whole (out : List ℕ) (o : Wrote) : Type 0 where
  size : length (file_written o) ≡ o.len
  begins : o.output ≡ file_written o ++ drop o.len out
  room : o.len ≤ length out

whole : (c : Converter) (m : Memory) (out : List ℕ) → (serialize_of c m out).code ≡ 0 → Whole out (serialize_of c m out)
unfolding serialize_of
whole c m out z = go (usable? c m) (leb (length F) (length out)) refl z
  where
    F : List ℕ
    F = written_file c m

    front : take (length F) (F ++ drop (length F) out) ≡ F
    front = take_at F (drop (length F) out) (length F) refl

    go : (u b : Bool) → leb (length F) (length out) ≡ b
        → let o = cond u (cond b (wrote 0 (length F) (F ++ drop (length F) out)) (wrote 18 0 out)) (wrote 19 0 out) in o.code ≡ 0 → Whole out o
    go true true e h = record { size = ap length front; begins = ap (λ (x : List ℕ). x ++ drop (length F) out) (sym front); room = leb-true (length F) (length out) e }
    go true false e h = absurd (omega arith)
    go false b e h = absurd (omega arith)

-- what demand 3 says where a list by value stands at y, after a beginning with this debug id and arch number
abbrev Writes : List ℕ → ℕ → Setup → List ℕ → Standing Converter → Type 0
Writes id arch X out y = let o = serialize_of y.carrier y.memory out in o.code ≡ 0 → Reopened id arch X y.counted (file_written o)

-- the file by the exported readers
module _ (id : List ℕ) (arch : ℕ) (X : Setup) (gs : List Given) (file : List ℕ) (size : length id ≡ 32) (o : Reopened id arch X gs file) where
  counts-low : (j : ℕ) → 44 ≤ j → j < 64 → get_or file j 0 < 256
  counts-low j l h = subst (λ (x : List ℕ). get_or x j 0 < 256) (sym o.laid_out) (counts-below id arch (plain_sections X gs) size j l h)

  by_calls : (d : List ℕ) (x : ℕ) (vs : List Shown) → Found file d x vs → FoundByCalls file d x vs
  by_calls d x vs = found_by_calls file d x (plain_layout id arch X gs) vs o.opens counts-low

  -- ── K7 ──

  -- by value at most 42 frames, and so of the plain tables
  plain-few : (x : ℕ) → length (frames_at (converted X gs) x) ≤ 42
  plain-few x =
      let f = o.every_address [] x in
      let e = sym (length-map (frames_at (converted X gs) x) (with_stand_in [])) ∙ ap length (sym f.shows) ∙ length-map f.frames (shown file []) in
      rw e (o.few_frames x f.cursor f.frames f.looked f.walked)

  -- a frame is not the end
  not_end : (w : List ℕ) (v : Option ShownFile) → FileByWords file w v → get_or w 0 0 ≡ 0 → ⊥
  not_end w none e z = omega (arith, e, z)
  not_end w (some t) e z = omega (arith, e.kind, z)

  -- a walk gives as many frames as it gives
  walked-alike : {d k t : List ℕ} {vs ws : List Shown} → WalkedByCalls file d k t vs → WalkedByCalls file d k t ws → length vs ≡ length ws
  walked-alike (walks.ends a e) (walks.ends b f) = refl
  walked-alike {k = k} {t = t} (walks.ends a e) (walks.goes {v} b f w) = absurd (not_end (next_call file k t).slice v.file f.file e)
  walked-alike {k = k} {t = t} (walks.goes {v} a e w) (walks.ends b f) = absurd (not_end (next_call file k t).slice v.file e.file f)
  walked-alike (walks.goes a e v) (walks.goes b f w) = ap suc (walked-alike v w)

  few_by_calls : (d : List ℕ) (x : ℕ) (vs : List Shown) → FoundByCalls file d x vs → length vs ≤ 42
  few_by_calls d x vs f =
      let there = by_calls d x _ (o.every_address d x) in
      let few = plain-few x in
      let e = walked-alike (f.by_lookup (replicate 3 0) (replicate 13 0) (omega arith) (omega arith)).1 (there.by_lookup (replicate 3 0) (replicate 13 0) (omega arith) (omega arith)).1 in
      rw (e ∙ length-map (frames_at (converted X gs) x) (with_stand_in d)) few

file-left : (id : List ℕ) (arch : ℕ) (X : Setup) (x : Standing (List ℕ)) (out l : List ℕ) → length id ≡ 32 → Writes id arch X out (standing_of x)
    → let o = serialize_call x.carrier x.memory out l in o.code ≡ 0 → FileLeft id arch X x.counted out l o
unfolding serialize_call len_words
file-left id arch X x out l size w z =
    let c = converter_of x.carrier in
    let o = serialize_of c x.memory out in
    let file = file_written o in
    let h : Whole out o = whole c x.memory out z in
    let r : Reopened id arch X x.counted file = w z in
    record {
      file = file;
      begins = rw h.size h.begins;
      room = rw h.size h.room;
      len = rw (z, h.size);
      reopened = r;
      few_frames = few_by_calls id arch X x.counted file size r;
      every_address = λ d a. by_calls id arch X x.counted file size r d a _ (r.every_address d a);
      demanded = λ p q rs i n j a k d. by_calls id arch X x.counted file size r d a _ ((r.demanded p q rs i n j a k).frames d);
      symbols_and_gaps = λ p w. shown_too (λ a fs f d. by_calls id arch X x.counted file size r d a _ (f d)) (r.symbols_and_gaps p w);
    }

pub exported-demand3 : ExportedDemand3
exported-demand3 r id arch f s m calls long bytes small typed before after out l e z =
    file-left (bytes_at 32 id 0) arch X (run exported before (exported_beginning r id arch f s m)) out l (length_bytes_at 32 id 0)
    (subst (Writes (bytes_at 32 id 0) arch X out) (sym (list-carried r id arch f s m long bytes before))
    (demand3 (bytes_at 32 id 0) arch (yes f) (yes s) m calls (length_bytes_at 32 id 0) small typed before after out e))
    z
  where
    X : Setup
    X = record { functions_on = yes f; symbols_on = yes s }
