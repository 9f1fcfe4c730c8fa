use Rattle.std.proofs.Common.{◌≡◌, ℕ, List, false}
use Rattle.store_encoding.specs.Digests.{KeepsDigests}
use Rattle.store_encoding.specs.Own.{has}
use Rattle.store_encoding.specs.Names.{IsPairOf}
use Rattle.store_encoding.specs.Replaced.{AllBut, GivesOnly}
use Rattle.store_encoding.proofs.encoding.replacing.give_names.Given as goal

abbrev pub invariant-names : goal.invariant-names
invariant-names g l =
    let folder = l.fn.target.folder in
    let pairs = IsPairOf folder.now l.names l.others in
    let waiting = IsPairOf folder.now l.name-iterator.a.rest.now l.name-iterator.b.rest.now in record {
      same : l.target.folder ≡ folder;
      sums : KeepsDigests l.others l.fn.target.sums l.target.sums;
      rest_others : (name : List ℕ) → has l.others name ≡ false → has l.name-iterator.b.rest.now name ≡ false;
      gives : GivesOnly pairs (g.F.Folder.calls l.fn.files) (g.F.Folder.calls l.files);
      got : AllBut waiting pairs (g.F.Folder.calls l.fn.files) (g.F.Folder.calls l.files);
      rest : (from to : List ℕ) → waiting from to → pairs from to;
    }
