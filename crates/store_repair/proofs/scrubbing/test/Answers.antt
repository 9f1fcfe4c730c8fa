use Rattle.std.proofs.Common.{◌∙◌, All, subst, sym, true≢false}
use Rattle.std.proofs.lemmas.List.Elements.{All-nil}
use Rattle.lrc_code.specs.Sets.{is_in}
use Rattle.store_repair.specs.Damage.{IsLocated}
use Rattle.store_repair.proofs.scrubbing.test.Goals as goal

pub returns-then-not-is_checked-clause-damaged : goal.returns-then-not-is_checked-clause-damaged
returns-then-not-is_checked-clause-damaged g c = λ at shown whole none.
    let s = c.args.survivors.now in
    subst (All (IsLocated s.code (is_in s.set) at s.length)) (sym none) (All-nil _)

pub returns-then-not-is_checked-clause-silent : goal.returns-then-not-is_checked-clause-silent
returns-then-not-is_checked-clause-silent g c = λ at shown whole is. absurd (true≢false (sym is ∙ c.if-not-is_checked.true))
