use Rattle.std.proofs.Common.{subst}
use Rattle.std.specs.Prelude.{Contains}
use Rattle.store_repair.specs.Findings.{differing_by}
use Rattle.store_repair.proofs.NamedLemmas.{differing_at}
use Rattle.store_repair.proofs.outcomes.is_said_to_differ.Goals as goal

pub returns-then-is_of_checksums : goal.returns-then-is_of_checksums
returns-then-is_of_checksums c = λ on.
    differing_at c.args.findings.now c.loop-finding.finding-index c.finding-item.result c.args.place c.loop-finding-test.true
    (subst (λ f. Contains (differing_by f.reason f.place) c.args.place) c.finding-item.is
    (c.is_of_checksums.ensures c.if-is_of_checksums.true))
