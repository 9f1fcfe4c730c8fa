use Rattle.std.proofs.Common.{◌≡◌, ◌∙◌, ap, sym, subst}
use Rattle.farm_threads.specs.declared.replies.ReplyResult.{ReplyResult}
use Rattle.farm_threads.specs.declared.replies.ReplyResult.TheVariants.{Done}
use Rattle.farm_threads.specs.Replies.{Replied, IsRight}
use Rattle.farm_threads.proofs.replies.Reply.into_outcome.Goals as goal

pub returns-in-Done-clause-done : goal.returns-in-Done-clause-done
returns-in-Done-clause-done c =
    let said : c.args.self.result ≡ Done c.in-Done.outcome = ap (λ (r : Replied). r.result) (sym c.self.view_is) ∙ c.in-Done.is in
    let right : IsRight c.args.self.request c.args.self.result =
    subst (λ (r : Replied). IsRight r.request r.result) c.self.view_is c.self.invariant in
    (said, subst (λ (r : ReplyResult). IsRight c.args.self.request r) said right)
