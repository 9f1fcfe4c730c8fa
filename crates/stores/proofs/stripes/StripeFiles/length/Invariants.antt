use Rattle.stores.proofs.StripeLemmas.{IsLengthBefore}
use Rattle.stores.proofs.stripes.StripeFiles.length.Given as goal

abbrev pub invariant-loop-found : goal.invariant-loop-found
invariant-loop-found l = IsLengthBefore l.self.found l.found-index l.common
