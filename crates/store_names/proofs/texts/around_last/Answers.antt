use Rattle.store_names.proofs.Marks.{split_last}
use Rattle.store_names.proofs.texts.around_last.Goals as goal

pub returns : goal.returns
returns c = split_last c.args.mark c.args.text.now _ c.requires c.rsplit_once.ensures.cases
