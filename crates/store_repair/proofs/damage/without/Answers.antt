use Rattle.std.proofs.Common.{◌∙◌, ap}
use Rattle.std.specs.Prelude.{not, ◌&&◌, ◌||◌}
use Rattle.lrc_code.specs.Code.{has_place}
use Rattle.lrc_code.specs.Codes.{tables_of}
use Rattle.lrc_code.specs.Places.{same_place}
use Rattle.lrc_code.specs.Sets.{is_in}
use Rattle.store_repair.proofs.DamageLemmas.{others_of_others}
use Rattle.store_repair.proofs.damage.without.Goals as goal

pub returns : goal.returns
returns c = λ p.
    let h = has_place (tables_of c.args.code) p in
    c.others-2.ensures p ∙ ap (λ b. h && not b) (c.with.ensures p)
    ∙ ap (λ b. h && not (same_place c.args.place p || b)) (c.others.ensures p)
    ∙ others_of_others h (same_place c.args.place p) (is_in c.args.set p)
