use Rattle.std.proofs.Common.{◌≡◌, sym, subst, rules, IfOk, string_bytes}
use Rattle.std.proofs.lemmas.Result.{IfOk-weaker}
use Rattle.store_names.specs.RunFiles.{IsLock, lock_of}
use Rattle.store_names.proofs.Numbers.{lock_is}
use Rattle.store_names.proofs.temporary.lock_name.Goals as goal

pub returns-clause-taken : goal.returns-clause-taken
returns-clause-taken c = λ some more.
    let is : IfOk c.format.result (λ name. string_bytes name ≡ lock_of c.args.index c.args.of) = search rules in
    IfOk-weaker c.format.result (λ name. string_bytes name ≡ lock_of c.args.index c.args.of) (λ name. IsLock (string_bytes name))
    (λ name same. subst IsLock (sym same) (lock_is c.args.index c.args.of some more c.ranges.index.fits c.ranges.of.fits)) is
