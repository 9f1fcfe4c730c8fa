use Rattle.store_listing.proofs.Places.{IsOwnBefore}
use Rattle.store_listing.proofs.store_stripes.own_of.Given as goal

abbrev pub invariant-loop-index : goal.invariant-loop-index
invariant-loop-index l = IsOwnBefore l.index l.code l.files.found l.own.found
