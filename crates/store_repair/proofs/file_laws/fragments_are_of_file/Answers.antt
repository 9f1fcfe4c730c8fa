use Rattle.store_repair.proofs.EncodingLemmas.{fragments_of_file}
use Rattle.store_repair.proofs.file_laws.fragments_are_of_file.Goals as goal

pub returns : goal.returns
returns c = fragments_of_file
