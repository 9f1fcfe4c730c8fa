use Rattle.std.proofs.Common.{rules, lit<, not}
use Rattle.std.proofs.lemmas.Iterator.Search.{all_from_yields_List}
use Rattle.std.proofs.lemmas.Iterator.Splits.{YieldsList-from_str_split}
use Rattle.store_names.specs.Temporary.{is_unfinished}
use Rattle.store_names.proofs.temporary.is_free.Goals as goal

pub returns : goal.returns
returns c = all_from_yields_List (λ part. not (is_unfinished part)) _ _ _ c.all.ensures.ran
    (YieldsList-from_str_split 47 c.args.path.now (lit< tt) c.split.ensures.text c.split.ensures.has_more c.split.ensures.pattern)
    (λ x b q k. search rules)
