use Rattle.std.proofs.Common.{codes}
use Rattle.std.proofs.lemmas.Str.Pattern.{ends_text}
use Rattle.store_names.proofs.names.is_second.Goals as goal

pub returns : goal.returns
returns c = ends_text _ (codes ".damaged") c.args.name.now c.ends_with.ensures.cases
