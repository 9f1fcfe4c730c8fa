use Rattle.std.proofs.Common.{arith}
use Rattle.std.proofs.lemmas.Simd.{get_or-put_chunk_below, get_or-put_chunk_at, get_or-put_chunk_above}
use Rattle.lrc_field.proofs.blocks.store_sixteen.Goals as goal

pub returns-clause-below : goal.returns-clause-below
returns-clause-below c k lt = get_or-put_chunk_below c.args.i c.args.bytes.now c.args.v k 0 lt

pub returns-clause-inside : goal.returns-clause-inside
returns-clause-inside c k lt = get_or-put_chunk_at c.args.i c.args.bytes.now c.args.v k 0 (omega arith) (omega arith)

pub returns-clause-above : goal.returns-clause-above
returns-clause-above c k le = get_or-put_chunk_above c.args.i c.args.bytes.now c.args.v k 0 (omega arith)
