use Rattle.std.proofs.Common.{◌∙◌}
use Rattle.lrc_code.specs.Code.{has_place}
use Rattle.lrc_code.specs.Codes.{tables_of}
use Rattle.lrc_code.proofs.SurvivorLists.{all_survivors}
use Rattle.lrc_code.proofs.fragments.has_all.Goals as goal

pub returns : goal.returns
returns c = c.has_each.ensures ∙ all_survivors (has_place (tables_of c.args.code)) c.args.fragments.now
