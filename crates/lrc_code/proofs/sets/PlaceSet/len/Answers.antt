use Rattle.std.proofs.Common.{◌∙◌, ap}
use Rattle.std.specs.List.{count_by}
use Rattle.lrc_code.specs.Places.{all_places}
use Rattle.lrc_code.specs.Sets.{is_in}
use Rattle.lrc_code.proofs.Flags.{flags_counted}
use Rattle.lrc_code.proofs.sets.PlaceSet.len.Goals as goal

pub returns : goal.returns
returns c = c.count_flags.ensures ∙ flags_counted c.self.inside.has c.self.invariant
    ∙ ap (λ s. count_by (is_in s) all_places) c.self.view_is
