-- By what waits.
use mathlib.Core.Path.{sym, ◌∙◌, ap}
use lib.ListN.{length}
use Rattle.listing.specs.declared.Waiting.{Waiting}
use Rattle.listing.specs.declared.Waiting.TheVariants as waiting
use Rattle.listing.specs.Pieces.{PrintedOut, print_of}
use Rattle.listing.proofs.Printing.{nothing-printed, bad-is, print_length}
use Rattle.listing.proofs.print.Goals as goal

pub returns-in-Nothing : goal.returns-in-Nothing
returns-in-Nothing c =
    let a = c.args in
    rw c.in-Nothing.is (nothing-printed a.file.now a.out.now a.at)

pub shape_of-out-in-Bad : goal.shape_of-out-in-Bad
shape_of-out-in-Bad c =
    let a = c.args in
    let number = c.in-Bad.number in
    ap (λ (o : PrintedOut). length o.out) (c.print_bad.ensures ∙ bad-is a.file.now number a.out.now a.at) ∙ print_length a.file.now (waiting.Bad c.in-Bad.number) a.out.now a.at

pub returns-in-Bad : goal.returns-in-Bad
returns-in-Bad c =
    let a = c.args in
    c.print_bad.ensures ∙ bad-is a.file.now c.in-Bad.number a.out.now a.at ∙ ap (λ (w : Waiting). print_of a.file.now w a.out.now a.at) (sym c.in-Bad.is)

pub shape_of-out-in-Frames : goal.shape_of-out-in-Frames
shape_of-out-in-Frames c =
    let a = c.args in
    ap (λ (o : PrintedOut). length o.out) c.print_frames.ensures ∙ print_length a.file.now (waiting.Frames c.in-Frames.address c.in-Frames.walk) a.out.now a.at

pub returns-in-Frames : goal.returns-in-Frames
returns-in-Frames c =
    let a = c.args in
    c.print_frames.ensures ∙ ap (λ (w : Waiting). print_of a.file.now w a.out.now a.at) (sym c.in-Frames.is)
