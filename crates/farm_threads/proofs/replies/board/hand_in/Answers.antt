use Rattle.std.proofs.Common.{sym, subst, refl, [], ◌∷◌, ◌++◌, Option}
use Rattle.farm_threads.specs.Boards.{Held, HasHeld, WasNotHeld}
use Rattle.farm_threads.specs.declared.replies.CollectFault.{CollectFault}
use Rattle.farm_threads.proofs.Holding.{holds_more, refused_stays}
use Rattle.farm_threads.proofs.replies.board.hand_in.Goals as goal

pub returns-in-Some : goal.returns-in-Some
returns-in-Some c = λ racks xs was.
    refused_stays racks c.args.board.now c.in-Some.first xs c.args.reply
    (subst (λ (f : Option CollectFault). HasHeld racks c.args.board.now f xs) c.in-Some.is was)

pub returns-in-Ok : goal.returns-in-Ok
returns-in-Ok c = λ racks xs was.
    holds_more racks c.args.board.now c.accept.new.self xs c.args.reply
    (subst (λ (f : Option CollectFault). HasHeld racks c.args.board.now f xs) c.in-None.is was) c.in-Ok.ensures.accepted

pub returns : goal.returns
returns c = λ racks xs was.
    subst (λ (s : Held). WasNotHeld racks s c.in-Err.refused (xs ++ c.args.reply ∷ [])) (sym c.in-Err.ensures.unchanged) (record {
      done = xs;
      reply = c.args.reply;
      rest = [];
      is = refl;
      gathered = subst (λ (f : Option CollectFault). HasHeld racks c.args.board.now f xs) c.in-None.is was;
      refused = c.in-Err.ensures.refused;
    })
