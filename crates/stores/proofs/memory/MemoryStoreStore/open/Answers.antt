use Rattle.std.proofs.Common.{rules, Some, ap, sym}
use Rattle.stores.proofs.memory.MemoryStoreStore.open.Goals as goal

pub returns : goal.returns
returns c = (c.in-Some.bytes.now, sym c.in-Some.ensures, search rules, c.copied.ensures.bytes, ap Some c.in_ok-bytes.ensures.copy)
