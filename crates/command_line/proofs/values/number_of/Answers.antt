use Rattle.clap.specs.Words.{found_of}
use Rattle.command_line.proofs.CommandLine.{has_number, lacks_number}
use Rattle.command_line.proofs.values.number_of.Goals as goal

pub returns : goal.returns
returns c = record {
  some = has_number (found_of c.args.farm.now) c.args.id.now c.get_one.result c.get_one.ensures.none c.get_one.ensures.value;
  none = lacks_number (found_of c.args.farm.now) c.args.id.now c.get_one.result c.get_one.ensures.value;
}
