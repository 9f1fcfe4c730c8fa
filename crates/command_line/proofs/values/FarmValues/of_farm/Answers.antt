use Rattle.clap.specs.Words.{found_of, rows_of}
use Rattle.command_line.specs.Command.{LacksValues}
use Rattle.command_line.proofs.CommandLine.{none_holds}
use Rattle.command_line.proofs.values.FarmValues.of_farm.Goals as goal

pub returns-in_err-number_of-clause-none : goal.returns-in_err-number_of-clause-none
returns-in_err-number_of-clause-none c =
    let lacks : LacksValues (rows_of (found_of c.args.farm.now)) =
    λ input output workers queue v. c.in_err-number_of.ensures.none workers v.workers_are in
    none_holds _ lacks

pub returns-in_err-number_of-2-clause-none : goal.returns-in_err-number_of-2-clause-none
returns-in_err-number_of-2-clause-none c =
    let lacks : LacksValues (rows_of (found_of c.args.farm.now)) =
    λ input output workers queue v. c.in_err-number_of-2.ensures.none queue v.queue_is in
    none_holds _ lacks
