use Rattle.std.proofs.Common.{rules, lit<, not, ◌&&◌, [], codes}
use Rattle.std.specs.Str.{bytes_eq}
use Rattle.std.proofs.lemmas.Iterator.Search.{all_from_yields_List}
use Rattle.std.proofs.lemmas.Iterator.Splits.{YieldsList-from_str_split}
use Rattle.store_names.proofs.names.leads_below.Goals as goal

pub returns : goal.returns
returns c = all_from_yields_List (λ part. not (bytes_eq part []) && not (bytes_eq part (codes ".."))) _ _ _ c.all.ensures.ran
    (YieldsList-from_str_split 47 c.args.name.now (lit< tt) c.split.ensures.text c.split.ensures.has_more c.split.ensures.pattern)
    (λ x b q k. search rules)
