use Rattle.std.proofs.Common.{String, Global, Bor, ℕ, List, inl, inr, refl, subst}
use Rattle.store_encoding.specs.Encoded.{AreThere, GivesEach, contents_of, each_has}
use Rattle.store_encoding.proofs.Encoded.{are_there_over, each_none, on_ok}
use Rattle.store_encoding.proofs.encoding.ordering.place_stripe.Goals as goal

pub returns-in-Ok-clause-whenever : goal.returns-in-Ok-clause-whenever
returns-in-Ok-clause-whenever g c = let folder = c.args.target.now.folder.now in
    let contents = contents_of c.args.made.items in
    let start = g.F.Folder.calls c.args.files.now in
    let mid = g.F.Folder.calls c.place_fragments.new.files in
    let new = g.F.Folder.calls c.place_descriptions.new.files in record {
      mid = mid;
      fragments = subst (λ (ns : List (String Global)). GivesEach folder ns contents start mid) c.as_slice.ensures.value
          c.place_fragments.ensures.whenever;
      order = inr (subst (λ (ns : List (String Global)). AreThere folder ns contents mid) c.as_slice.ensures.value c.in-Ok.ensures.done);
      descriptions = subst (λ (ns : List (String Global)). GivesEach folder ns (each_has ns c.args.text.now) mid new)
          c.as_slice-in-Ok.ensures.value (subst (λ (f : Bor (List ℕ)). GivesEach f.now c.as_slice-in-Ok.result.now
          (each_has c.as_slice-in-Ok.result.now c.args.text.now) mid new) c.place_fragments.ensures.folder
          c.place_descriptions.ensures.whenever);
    }

pub returns-in-Ok-clause-fragments : goal.returns-in-Ok-clause-fragments
returns-in-Ok-clause-fragments g c = on_ok c.place_descriptions.result _ (are_there_over _ c.args.target.now.folder.now
    c.args.names.now.fragments.items (contents_of c.args.made.items) _ _ c.place_descriptions.ensures.whenever
    (subst (λ (ns : List (String Global)). AreThere c.args.target.now.folder.now ns (contents_of c.args.made.items)
    (g.F.Folder.calls c.place_fragments.new.files)) c.as_slice.ensures.value c.in-Ok.ensures.done))

pub returns-in-Err-clause-whenever : goal.returns-in-Err-clause-whenever
returns-in-Err-clause-whenever g c = record {
  mid = g.F.Folder.calls c.place_fragments.new.files;
  fragments = subst (λ (ns : List (String Global)). GivesEach c.args.target.now.folder.now ns (contents_of c.args.made.items)
      (g.F.Folder.calls c.args.files.now) (g.F.Folder.calls c.place_fragments.new.files)) c.as_slice.ensures.value
      c.place_fragments.ensures.whenever;
  order = inl refl;
  descriptions = each_none _ _ _ _;
}
