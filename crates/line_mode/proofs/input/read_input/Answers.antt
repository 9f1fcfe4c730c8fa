use Rattle.std.proofs.lemmas.Result.{err_from_is_err_and}
use Rattle.line_mode.proofs.Reading.{stops_at}
use Rattle.line_mode.proofs.input.read_input.Goals as goal

pub returns-in_err-add_block-in-Ok-clause-fault : goal.returns-in_err-add_block-in-Ok-clause-fault
returns-in_err-add_block-in-Ok-clause-fault g c =
    let (fault, is, same) = err_from_is_err_and c.from_residual.result c.from_residual.ensures.1 in
    rw (is, same) (stops_at _ _ _ c.loop-turn.bytes.items _ c.in_err-add_block-in-Ok.field-0.0 c.loop-turn.invariant.read
    c.in-Ok.ensures.bytes.0 c.in_err-add_block-in-Ok.ensures.fault)
