use Rattle.stores.specs.Memory.{files_of}
use Rattle.stores.proofs.MemoryLemmas.{exchanged_beside, exchanged_changed, exchanged_elsewhere, exchanged_named, exchanged_placed}
use Rattle.stores.proofs.MemoryLemmas.{exchanged_untouched}
use Rattle.stores.proofs.memory.MemoryStoreStore.replace.Goals as goal

pub returns-clause-untouched : goal.returns-clause-untouched
returns-clause-untouched c =
    exchanged_untouched c.exchange_name.result c.args.stripe.now c.args.place _
    (files_of c.args.self.now) (files_of c.exchange_name.new.self) c.exchange_name.ensures

pub returns-clause-elsewhere : goal.returns-clause-elsewhere
returns-clause-elsewhere c =
    exchanged_elsewhere c.exchange_name.result c.args.stripe.now c.args.place _
    (files_of c.args.self.now) (files_of c.exchange_name.new.self) c.exchange_name.ensures

pub returns-clause-placed : goal.returns-clause-placed
returns-clause-placed c =
    exchanged_placed c.exchange_name.result c.args.stripe.now c.args.place _
    (files_of c.args.self.now) (files_of c.exchange_name.new.self) c.exchange_name.ensures

pub returns-clause-changed : goal.returns-clause-changed
returns-clause-changed c = λ given from fresh before.
    let more = exchanged_changed c.args.stripe.now c.args.place _ given (files_of from) (files_of c.args.self.now) fresh before
    c.exchange_name.result (files_of c.exchange_name.new.self) c.exchange_name.ensures in record {
      after = more.after;
      are = more.are;
      changes = more.changes;
    }

pub returns-clause-beside : goal.returns-clause-beside
returns-clause-beside c =
    exchanged_beside c.exchange_name.result c.args.stripe.now c.args.place _
    (files_of c.args.self.now) (files_of c.exchange_name.new.self) c.exchange_name.ensures

pub returns-clause-named : goal.returns-clause-named
returns-clause-named c =
    exchanged_named c.exchange_name.result c.args.stripe.now c.args.place _
    (files_of c.args.self.now) (files_of c.exchange_name.new.self) c.exchange_name.ensures
