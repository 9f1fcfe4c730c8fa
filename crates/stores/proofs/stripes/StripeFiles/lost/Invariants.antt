use Rattle.std.proofs.Common.{◌≡◌, ◌&&◌, filter, not, take}
use Rattle.lrc_code.specs.Code.{has_place}
use Rattle.lrc_code.specs.Codes.{tables_of}
use Rattle.lrc_code.specs.Places.{all_places}
use Rattle.stores.specs.Stripes.{has_file}
use Rattle.stores.proofs.stripes.StripeFiles.lost.Given as goal

abbrev pub invariant-loop-index : goal.invariant-loop-index
invariant-loop-index l =
    l.lost.items ≡ filter (λ p. has_place (tables_of l.code) p && not (has_file l.self.found l.length p)) (take l.index all_places)
