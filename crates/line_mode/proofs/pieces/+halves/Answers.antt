use Rattle.std.proofs.Common.{◌++◌, List, ℕ, arith, drop, length-append, subst, take}
use Rattle.std.proofs.lemmas.List.{length-drop, length-take-le}
use Rattle.line_mode.specs.Replies.{Answers, IsCut}
use Rattle.line_mode.proofs.Cuts.{take-drop_all}
use Rattle.line_mode.proofs.CutReplies.{replies_joined}
use Rattle.line_mode.proofs.pieces.+halves.Goals as goal

pub returns : goal.returns
returns g t c =
    let front : Answers (take c.in-Some.cut c.args.input.now) c.in_ok-replies.replies =
    rw c.in_ok-replies.was at c.join-first.ensures.first in
    let back : Answers (drop c.in-Some.cut c.args.input.now) c.in_ok-second.field-0 =
    subst (λ (rest : List ℕ). Answers rest c.in_ok-second.field-0) (take-drop_all c.args.input.now c.in-Some.cut)
    (rw c.in_ok-second.was at c.join-first.ensures.second) in
    let cut : IsCut c.args.input.now c.in-Some.cut = rw c.in-Some.is at c.cut_of.ensures in
    record {
      replies = front.replies ++ back.replies;
      are_replies = replies_joined c.args.input.now c.in-Some.cut front.replies back.replies cut front.are_replies back.are_replies;
      holds = c.in_ok-append.ensures front.replies back.replies front.holds back.holds;
      few =
          omega (
            arith,
            length-append front.replies back.replies,
            front.few,
            back.few,
            length-take-le c.in-Some.cut c.args.input.now cut.within,
            length-drop c.in-Some.cut c.args.input.now,
          );
    }
