use Rattle.std.proofs.Common.{rules}
use Rattle.command_line.proofs.words.asked_of_farm.Goals as goal

pub returns-in_ok-from_str-in-Some-2-clause-asked : goal.returns-in_ok-from_str-in-Some-2-clause-asked
returns-in_ok-from_str-in-Some-2-clause-asked c = search rules
