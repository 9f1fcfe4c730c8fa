use Rattle.std.proofs.Common.{◌≡◌, ◌+◌, vec_len}
use Rattle.store_reports.proofs.plans.without_refused.Given as goal

abbrev pub invariant-places : goal.invariant-places
invariant-places l = vec_len l.rebuilt + vec_len l.findings ≡ l.place-index + vec_len l.fn.plan.findings
