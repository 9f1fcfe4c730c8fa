use Rattle.stores.specs.Memory.{files_of}
use Rattle.stores.proofs.MemoryLemmas.{given_elsewhere, given_kept, given_named, given_others, given_placed, given_untouched}
use Rattle.stores.proofs.memory.MemoryStoreStore.place.Goals as goal

pub returns-clause-untouched : goal.returns-clause-untouched
returns-clause-untouched c =
    given_untouched c.give_name.result c.args.stripe.now c.args.place _
    (files_of c.args.self.now) (files_of c.give_name.new.self) c.give_name.ensures

pub returns-clause-elsewhere : goal.returns-clause-elsewhere
returns-clause-elsewhere c =
    given_elsewhere c.give_name.result c.args.stripe.now c.args.place _
    (files_of c.args.self.now) (files_of c.give_name.new.self) c.give_name.ensures

pub returns-clause-placed : goal.returns-clause-placed
returns-clause-placed c =
    given_placed c.give_name.result c.args.stripe.now c.args.place _
    (files_of c.args.self.now) (files_of c.give_name.new.self) c.give_name.ensures

pub returns-clause-kept : goal.returns-clause-kept
returns-clause-kept c = λ given from is before.
    given_kept c.give_name.result c.args.stripe.now c.args.place _ given (files_of from)
    (files_of c.args.self.now) (files_of c.give_name.new.self) c.give_name.ensures is before

pub returns-clause-others : goal.returns-clause-others
returns-clause-others c =
    given_others c.give_name.result c.args.stripe.now c.args.place _
    (files_of c.args.self.now) (files_of c.give_name.new.self) c.give_name.ensures

pub returns-clause-named : goal.returns-clause-named
returns-clause-named c =
    given_named c.give_name.result c.args.stripe.now c.args.place _
    (files_of c.args.self.now) (files_of c.give_name.new.self) c.give_name.ensures
