use Rattle.std.proofs.Common.{◌≡◌, ◌∙◌, false, sym, subst, ℕ, List}
use Rattle.folders.specs.Files.{IsIn}
use Rattle.store_folder.specs.Temporary.{is_temporary}
use Rattle.store_encoding.proofs.Encoded.{due_placed, given_none, on_ok}
use Rattle.store_encoding.proofs.encoding.placing.place_one.Goals as goal

pub returns-in_default-clause-whenever : goal.returns-in_default-clause-whenever
returns-in_default-clause-whenever g c = given_none _ _ _ _ c.discard_new.ensures.whenever

pub returns-in-Ok-place_new-clause-due : goal.returns-in-Ok-place_new-clause-due
returns-in-Ok-place_new-clause-due g c =
    let named = c.as_str.ensures.value ∙ c.in-Ok.ensures in
    on_ok c.note_placed.result _ (λ lasting. due_placed _ c.as_str.result.now _ _ _ c.in-Ok-place_new.placed (sym named)
    (c.in-Ok-place_new.ensures.placed (subst (λ (p : List ℕ). is_temporary p ≡ false) (sym named) lasting))
    (c.in_ok-note-in-Ok-place_new.ensures.noted c.as_str.result.now
    (subst (IsIn c.folder_of.result.now) (c.as_str-in-Ok-place_new.ensures.value ∙ sym c.as_str.ensures.value) c.folder_of.ensures)))
