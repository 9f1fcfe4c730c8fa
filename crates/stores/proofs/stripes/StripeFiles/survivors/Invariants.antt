use Rattle.std.proofs.Common.{◌≡◌, ◌&&◌}
use Rattle.std.specs.Prelude.{ltb}
use Rattle.lrc_code.specs.declared.places.Place.{Place}
use Rattle.lrc_code.specs.Code.{has_place}
use Rattle.lrc_code.specs.Codes.{tables_of}
use Rattle.lrc_code.specs.Places.{index_of}
use Rattle.lrc_code.specs.Sets.{is_in}
use Rattle.stores.specs.Stripes.{has_file}
use Rattle.stores.proofs.stripes.StripeFiles.survivors.Given as goal

abbrev pub invariant-loop-index : goal.invariant-loop-index
invariant-loop-index l =
    (p : Place) → is_in l.set p
    ≡ (ltb (index_of p) l.index && (has_place (tables_of l.code) p && has_file l.self.found l.length p))
