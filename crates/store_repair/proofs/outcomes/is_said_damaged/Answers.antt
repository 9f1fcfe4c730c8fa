use Rattle.std.proofs.Common.{subst}
use Rattle.std.specs.Prelude.{Contains}
use Rattle.store_repair.specs.Scrubbed.{damaged_by}
use Rattle.store_repair.proofs.NamedLemmas.{damaged_at}
use Rattle.store_repair.proofs.outcomes.is_said_damaged.Goals as goal

pub returns-then-is_of_damage : goal.returns-then-is_of_damage
returns-then-is_of_damage c = λ on.
    damaged_at c.args.findings.now c.loop-finding.finding-index c.finding-item.result c.args.place c.loop-finding-test.true
    (subst (λ f. Contains (damaged_by f.reason f.place) c.args.place) c.finding-item.is (c.is_of_damage.ensures c.if-is_of_damage.true))
