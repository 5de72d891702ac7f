use Prim.Native.Nat.{◌+◌}
use mathlib.Core.Path.{refl, sym, ◌∙◌}
use native.Mathlib.Omega.{arith}
use lib.ListN.{length}
use borrow.Author.Tests.{leb-true}
use Rattle.listing.specs.declared.Waiting.TheVariants as waiting
use Rattle.lookup.specs.Lookup.{stepped}
use Rattle.listing.proofs.Steps.{got-frame}
use Rattle.listing.proofs.Printing.{no_room, frame-printed, frame-put, end-printed}
use Rattle.listing.proofs.print_frames.Goals as goal

pub frames-smaller : goal.frames-smaller
frames-smaller c =
    let r = leb-true (c.frames.at + 62) (length c.frames.out) ((sym c.has_room.ensures ∙ c.frames-test.true)) in
    let (n, e) = (frame-put c.args.address c.frames.walk.steps c.in-Some.field-0.frame c.frames.out c.frames.at ((sym c.has_room.ensures ∙ c.frames-test.true)) c.print_frame-at.ensures) in
    omega arith

pub frames-preserved : goal.frames-preserved
frames-preserved c =
    let a = c.args in (
      ((frame-put c.args.address c.frames.walk.steps c.in-Some.field-0.frame c.frames.out c.frames.at ((sym c.has_room.ensures ∙ c.frames-test.true)) c.print_frame-at.ensures)).1 ∙ c.frames.invariant.0,
      frame-printed a.file.now a.address c.frames.walk c.in-Some.field-0 c.frames.out c.frames.at (got-frame (stepped a.file.now c.frames.walk) c.in-Some.field-0 (sym c.in-Some.ensures)) ((sym c.has_room.ensures ∙ c.frames-test.true)) c.print_frame-at.ensures
          ∙ c.frames.invariant.1,
    )

pub returns-in_default : goal.returns-in_default
returns-in_default c =
    let a = c.args in
    c.no_more_frames.ensures
    ∙ end-printed a.file.now a.address c.frames.walk c.frames.out c.frames.at (sym c.in_default.ensures) (sym c.has_room.ensures ∙ c.frames-test.true)
    ∙ c.frames.invariant.1

pub returns : goal.returns
returns c =
    let a = c.args in
    no_room a.file.now (waiting.Frames a.address c.frames.walk) c.frames.out c.frames.at (sym c.has_room.ensures ∙ c.frames-test.false) ∙ c.frames.invariant.1

pub frames-init : goal.frames-init
frames-init c = (refl, refl)

pub shape_of-out : goal.shape_of-out
shape_of-out c = c.frames.invariant.0
