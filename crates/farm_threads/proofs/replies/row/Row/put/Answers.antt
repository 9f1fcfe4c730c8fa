use Rattle.std.proofs.Common.{◌∙◌, ap, Some, set, vec_items}
use Rattle.std.specs.Option.{option_map}
use Rattle.std.proofs.lemmas.List.{map-set}
use Rattle.farm_threads.specs.Replies.{entry_of}
use Rattle.farm_threads.proofs.replies.row.Row.put.Goals as goal

pub returns : goal.returns
returns c = map-set (option_map entry_of) (vec_items c.self.inside.cells) c.args.number (Some c.args.reply)
    ∙ ap (λ t. set t c.args.number (Some (entry_of c.args.reply))) c.self.view_is
