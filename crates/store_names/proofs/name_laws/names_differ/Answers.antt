use Rattle.store_names.proofs.Distinct as distinct
use Rattle.store_names.proofs.name_laws.names_differ.Goals as goal

pub returns : goal.returns
returns c = distinct.names_differ c.args.pattern.now c.args.pattern.now.apart
