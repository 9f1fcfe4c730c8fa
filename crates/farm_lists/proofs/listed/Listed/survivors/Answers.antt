use Rattle.std.proofs.Common.{◌≡◌, None, subst}
use Rattle.farm_lists.specs.Listed.{ListedRequest, listed_refusal}
use Rattle.farm_lists.proofs.Parts.{at_most_fifteen}
use Rattle.farm_lists.proofs.listed.Listed.survivors.Goals as goal

pub returns-clause-few : goal.returns-clause-few
returns-clause-few c = at_most_fifteen c.args.self.now (subst
    (λ (r : ListedRequest). listed_refusal r ≡ None) c.self.view_is c.self.invariant)
