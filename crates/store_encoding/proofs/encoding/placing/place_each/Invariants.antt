use Rattle.std.proofs.Common.{◌≡◌, ◌⊎◌, ℕ, List, Option, None, false}
use Rattle.store_folder.specs.Temporary.{is_temporary}
use Rattle.store_encoding.specs.Encoded.{GivesEach, IsDueAt, IsMadeOf, contents_of}
use Rattle.store_encoding.proofs.encoding.placing.place_each.Given as goal

abbrev pub invariant-names : goal.invariant-names
invariant-names g l =
    let folder = l.fn.target.folder.now in
    let all = IsMadeOf folder l.fn.names (contents_of l.fn.made.items) in
    let waiting = IsMadeOf folder l.name-iterator.a.rest.now (contents_of l.name-iterator.b.rest.items) in record {
      same : l.target.folder ≡ l.fn.target.folder;
      gives : GivesEach folder l.fn.names (contents_of l.fn.made.items) (g.F.Folder.calls l.fn.files) (g.F.Folder.calls l.files);
      got : l.refused ≡ None → (path : List ℕ) (content : Option (List ℕ)) → all path content
          → waiting path content
          ⊎ (is_temporary path ≡ false → IsDueAt l.touched.folders.items (g.F.Folder.calls l.files) path content);
      rest : (path : List ℕ) (content : Option (List ℕ)) → waiting path content → all path content;
    }
