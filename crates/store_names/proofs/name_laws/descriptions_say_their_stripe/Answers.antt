use Rattle.store_names.proofs.DescriptionLaws.{descriptions_say}
use Rattle.store_names.proofs.name_laws.descriptions_say_their_stripe.Goals as goal

pub returns : goal.returns
returns c = descriptions_say
