use Rattle.std.proofs.Common.{subst, arith}
use Rattle.std.proofs.lemmas.List.{nil_from_length}
use Rattle.folders.proofs.Runs.{keeps_all, keeps_after}
use Rattle.store_folder.specs.Done.{IsDue}
use Rattle.store_folder.proofs.Done.{due_after, all_done}
use Rattle.store_folder.proofs.syncing.Touched.sync_until_fault.Goals as goal

pub folders-init : goal.folders-init
folders-init g c = record { keeps = keeps_all _ _ _; due = λ path bytes lasting due. due }

pub returns-in_err-sync_names_of-clause-whenever : goal.returns-in_err-sync_names_of-clause-whenever
returns-in_err-sync_names_of-clause-whenever g c = keeps_after _ _ _ _ _ c.folders.invariant.keeps c.sync_names_of.ensures.whenever

pub folders-preserved : goal.folders-preserved
folders-preserved g c = record {
  keeps = keeps_after _ _ _ _ _ c.folders.invariant.keeps c.sync_names_of.ensures.whenever;
  due = λ path bytes lasting due. due_after path bytes c.pop.new.self.items c.in-Some.name _ _ lasting c.in_ok-sync_names_of.ensures.done
      (subst (λ folders. IsDue folders (g.F.Folder.calls c.folders.files) path bytes) c.in-Some.ensures.items
      (c.folders.invariant.due path bytes lasting due));
}

pub returns-clause-whenever : goal.returns-clause-whenever
returns-clause-whenever g c = c.folders.invariant.keeps

pub returns-clause-done : goal.returns-clause-done
returns-clause-done g c = λ path bytes lasting due. all_done path bytes c.folders.self.folders.items _
    (nil_from_length c.folders.self.folders.items (omega (arith, c.in_default.ensures.cases.0, c.folders.self.folders.ok.0)))
    (c.folders.invariant.due path bytes lasting due)
