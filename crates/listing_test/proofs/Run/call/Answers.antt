-- What a call uses and writes lies inside what it is given.
use Rattle.std.proofs.Common.{sym}
use Rattle.std.proofs.lemmas.List.{length-take-le}
use Rattle.listing.proofs.Inside.{inside}
use Rattle.listing_test.proofs.Run.call.Goals as goal

pub slice_bounds-printed-end : goal.slice_bounds-printed-end
slice_bounds-printed-end c = (inside _ _ _ _ c.list-listed.ensures).written

pub slice_bounds-printed-end-2 : goal.slice_bounds-printed-end-2
slice_bounds-printed-end-2 c = sym (length-take-le _ _ (inside _ _ _ _ c.list-listed.ensures).written)

pub returns : goal.returns
returns c = (inside _ _ _ _ c.list-listed.ensures).used
