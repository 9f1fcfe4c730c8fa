use Rattle.std.proofs.Common.{◌∙◌, Bor, List, map, ap, sym}
use Rattle.std.specs.List.{slice_range}
use Rattle.std.proofs.lemmas.List.{take_all}
use Rattle.std.proofs.lemmas.Simd.{map-map}
use Rattle.farm_lists.specs.declared.listing.Record.{Record}
use Rattle.farm_reading.proofs.cutting.piece_of.Goals as goal

pub returns : goal.returns
returns c =
    c.loop-index.invariant
    ∙ ap (map (λ (list : Bor (List Record)). slice_range list.now c.args.first c.args.end))
    (take_all c.loop-index.index c.args.lists.now c.loop-index-test.false)
    ∙ sym (map-map (λ (list : List Record). slice_range list c.args.first c.args.end)
    (λ (list : Bor (List Record)). list.now) c.args.lists.now)
