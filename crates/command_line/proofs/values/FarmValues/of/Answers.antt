use Rattle.std.proofs.Common.{◌≡◌, ◌∙◌, ap, Some, codes, rules}
use Rattle.clap.specs.Words.{found_of, rows_of, subcommand_rows_of}
use Rattle.command_line.proofs.CommandLine.{joined, no_farm, none_weaker}
use Rattle.command_line.proofs.values.FarmValues.of.Goals as goal

pub returns-in-Some-clause-none : goal.returns-in-Some-clause-none
returns-in-Some-clause-none c =
    let met : subcommand_rows_of c.args.matches.now ≡ Some (codes "farm", rows_of (found_of c.in-Some.farm.now)) =
    joined _ _ _ _ _ (ap Some (search rules) ∙ c.in-Some.ensures.name) c.in-Some.ensures.rows in
    none_weaker c.of_farm.result (no_farm (subcommand_rows_of c.args.matches.now)
    (rows_of (found_of c.in-Some.farm.now)) met) c.of_farm.ensures.none
