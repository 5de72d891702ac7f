-- `refusals::line_texts` meets its contract: the five tests one after the other.
use mathlib.Core.Bool.{◌&&◌}
use mathlib.Core.Path.{◌≡◌, refl, ◌∙◌}
use Rattle.refusals.specs.Refusals.{readable?, optional?, line_texts?}
use Rattle.refusals.proofs.Laws.{joined-then, joined-else, and_five}
use Rattle.refusals.proofs.line_texts.Goals as goal
use Rattle.refusals.proofs.line_texts.Goals.{then-readable, else-readable, then-readable-2, else-readable-2, then-optional, else-optional}

pub returns-then-optional-2 : goal.returns-then-optional-2
unfolding line_texts?
returns-then-optional-2 c =
    let t = c.args.text.now in
    let l = c.args.l in
    let two : c.if-readable.value ≡ readable? t l.name && readable? t l.directory =
    elim c.if-readable.branch [
      | then-readable w ↦ joined-then c.readable.ensures w.readable-then-readable.ensures w.if-readable.true w.value-is
      | else-readable w ↦ joined-else (readable? t l.directory) c.readable.ensures w.if-readable.false w.value-is
    ] in
    let three : c.if-readable-2.value ≡ (readable? t l.name && readable? t l.directory) && optional? t l.srcsrv_name =
    elim c.if-readable-2.branch [
      | then-readable-2 w ↦ joined-then two w.optional.ensures w.if-readable-2.true w.value-is
      | else-readable-2 w ↦ joined-else (optional? t l.srcsrv_name) two w.if-readable-2.false w.value-is
    ] in
    let four : c.if-optional.value ≡ ((readable? t l.name && readable? t l.directory) && optional? t l.srcsrv_name) && optional? t l.srcsrv_dir =
    elim c.if-optional.branch [
      | then-optional w ↦ joined-then three w.optional-then-optional.ensures w.if-optional.true w.value-is
      | else-optional w ↦ joined-else (optional? t l.srcsrv_dir) three w.if-optional.false w.value-is
    ] in
    joined-then four c.optional-then-optional-2.ensures c.if-optional-2.true refl ∙ and_five (readable? t l.name) (readable? t l.directory) (optional? t l.srcsrv_name) (optional? t l.srcsrv_dir) (optional? t l.revision)

pub returns-else-optional-2 : goal.returns-else-optional-2
unfolding line_texts?
returns-else-optional-2 c =
    let t = c.args.text.now in
    let l = c.args.l in
    let two : c.if-readable.value ≡ readable? t l.name && readable? t l.directory =
    elim c.if-readable.branch [
      | then-readable w ↦ joined-then c.readable.ensures w.readable-then-readable.ensures w.if-readable.true w.value-is
      | else-readable w ↦ joined-else (readable? t l.directory) c.readable.ensures w.if-readable.false w.value-is
    ] in
    let three : c.if-readable-2.value ≡ (readable? t l.name && readable? t l.directory) && optional? t l.srcsrv_name =
    elim c.if-readable-2.branch [
      | then-readable-2 w ↦ joined-then two w.optional.ensures w.if-readable-2.true w.value-is
      | else-readable-2 w ↦ joined-else (optional? t l.srcsrv_name) two w.if-readable-2.false w.value-is
    ] in
    let four : c.if-optional.value ≡ ((readable? t l.name && readable? t l.directory) && optional? t l.srcsrv_name) && optional? t l.srcsrv_dir =
    elim c.if-optional.branch [
      | then-optional w ↦ joined-then three w.optional-then-optional.ensures w.if-optional.true w.value-is
      | else-optional w ↦ joined-else (optional? t l.srcsrv_dir) three w.if-optional.false w.value-is
    ] in
    joined-else (optional? t l.revision) four c.if-optional-2.false refl ∙ and_five (readable? t l.name) (readable? t l.directory) (optional? t l.srcsrv_name) (optional? t l.srcsrv_dir) (optional? t l.revision)
