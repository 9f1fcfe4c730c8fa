use Rattle.std.proofs.Common.{◌≡◌, sym, subst, ℕ, List, true}
use Rattle.folders.proofs.GivenAfter.{gives_nothing}
use Rattle.store_folder.proofs.giving.give_name.Goals as goal

pub returns-in_err-link-clause-whenever : goal.returns-in_err-link-clause-whenever
returns-in_err-link-clause-whenever g c = λ taken are off. gives_nothing _ _ _ _

pub returns-clause-whenever : goal.returns-clause-whenever
returns-clause-whenever g c = λ taken are off. c.give_path.ensures.whenever taken off
    (subst (λ (path : List ℕ). taken path ≡ true) (sym c.as_str.ensures.value) (are _ c.in_ok-link.ensures))
