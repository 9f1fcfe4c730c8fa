use Rattle.std.proofs.Common.{subst}
use Rattle.std.specs.Prelude.{Contains}
use Rattle.store_repair.specs.Findings.{named_by}
use Rattle.store_repair.proofs.NamedLemmas.{named_at}
use Rattle.store_repair.proofs.outcomes.is_named.Goals as goal

pub returns-then-names : goal.returns-then-names
returns-then-names c = λ on.
    named_at c.args.findings.now c.loop-finding.finding-index c.finding-item.result c.args.place c.loop-finding-test.true
    (subst (λ f. Contains (named_by f.place) c.args.place) c.finding-item.is (c.names.ensures c.if-names.true))
