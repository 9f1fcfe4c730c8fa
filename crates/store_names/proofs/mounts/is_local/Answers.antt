use Rattle.std.proofs.Common.{rules, lit<}
use Rattle.std.proofs.lemmas.Iterator.Search.{any_from_yields_List}
use Rattle.std.proofs.lemmas.Iterator.Splits.{YieldsList-from_str_split}
use Rattle.store_names.specs.Mounts.{is_among, of_clients}
use Rattle.store_names.proofs.mounts.is_local.Goals as goal

pub returns : goal.returns
returns c = any_from_yields_List (λ option. is_among option of_clients) _ _ _ c.any.ensures.ran
    (YieldsList-from_str_split 44 c.args.options.now (lit< tt) c.split.ensures.text c.split.ensures.has_more c.split.ensures.pattern)
    (λ x b q k. search rules)
