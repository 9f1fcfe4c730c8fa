use Rattle.std.proofs.lemmas.List.{nil_from_length}
use Rattle.std.proofs.Common.{◌≡◌, length, arith}
use Rattle.std.proofs.lemmas.Bool.Decides.{nat_tests}
use Rattle.folders.proofs.LastNames.{cut, in_folder, in_root, in_this}
use Rattle.folders.proofs.paths.folder_of.Goals as goal

pub returns-in-Some : goal.returns-in-Some
returns-in-Some c =
    let none : length c.in-Some.folder.now ≡ 0 = grind (arith, nat_tests) in
    in_root _ _ _ (nil_from_length c.in-Some.folder.now none) (cut _ _ _ c.in-Some.ensures.cases)

pub returns-in-Some-2 : goal.returns-in-Some-2
returns-in-Some-2 c = in_folder _ _ _ (cut _ _ _ c.in-Some.ensures.cases)

pub returns-in-None : goal.returns-in-None
returns-in-None c = in_this _ c.in-None.ensures.cases
