use Rattle.std.proofs.Common.{◌≡◌, ◌⊎◌, ℕ, List, Option, false}
use Rattle.store_folder.specs.Temporary.{is_temporary}
use Rattle.store_encoding.specs.Encoded.{GivesEach, IsMadeOf, IsThereAt, each_has}
use Rattle.store_encoding.proofs.Encoded.{WaitFrom}
use Rattle.store_encoding.proofs.encoding.descriptions.place_descriptions.Given as goal

abbrev pub invariant-names : goal.invariant-names
invariant-names g l =
    let folder = l.fn.target.folder.now in
    let all = IsMadeOf folder l.names (each_has l.names l.text) in
    let waiting = WaitFrom folder l.names l.text l.name-index in record {
      same : l.target.folder ≡ l.fn.target.folder;
      gives : GivesEach folder l.names (each_has l.names l.text) (g.F.Folder.calls l.fn.files) (g.F.Folder.calls l.files);
      got : (path : List ℕ) (content : Option (List ℕ)) → all path content
          → waiting path content ⊎ (is_temporary path ≡ false → IsThereAt (g.F.Folder.calls l.files) path content);
      rest : (path : List ℕ) (content : Option (List ℕ)) → waiting path content → all path content;
    }
