use Rattle.std.proofs.Common.{codes}
use Rattle.std.proofs.lemmas.Str.Pattern.{starts_text}
use Rattle.store_names.proofs.temporary.begins_as_unfinished.Goals as goal

pub returns : goal.returns
returns c = starts_text _ (codes ".rebuild-store-") c.args.name.now c.starts_with.ensures.cases
