use Rattle.std.specs.Prelude.{IfSome}
use Rattle.store_repair.specs.Lengths.{IsConfirmed, IsDigested}
use Rattle.store_repair.proofs.lengths.shown_length.Given as goal

abbrev pub invariant-loop-group : goal.invariant-loop-group
invariant-loop-group g l =
    record {
      digest : IfSome l.by_digest (IsDigested l.code l.stripe.files.found l.stripe.name.now (g.S.Store.listed l.store));
      checks : IfSome l.by_checks (λ len. IfSome (g.S.Store.files l.store) (IsConfirmed l.code len l.stripe.name.now));
    }
