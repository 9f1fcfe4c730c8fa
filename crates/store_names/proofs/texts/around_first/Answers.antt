use Rattle.std.proofs.lemmas.Str.Pattern.{split_parts}
use Rattle.store_names.proofs.Marks.{split_first}
use Rattle.store_names.proofs.texts.around_first.Goals as goal

pub returns : goal.returns
returns c = split_first c.args.mark c.args.text.now _ (split_parts c.args.mark c.args.text.now _ c.split_once.ensures.cases c.requires)
