use Rattle.std.proofs.Common.{◌≡◌, ap, subst, ◌+◌, ◌∷◌, ◌++◌, [], get_or, map, string_bytes, take}
use Rattle.std.proofs.lemmas.List.{take_more}
use Rattle.lrc_code.specs.declared.places.Place.TheVariants.{X0}
use Rattle.store_names.specs.Folders.{IsFolderOf}
use Rattle.store_names.proofs.Folders.{named, put, skipped, unnamed}
use Rattle.store_names.proofs.disks.stripe_folders.Goals as goal
use Rattle.store_names.proofs.disks.stripe_folders.Goals.{in-Some+in_ok-add, in_default}

pub loop-place-preserved : goal.loop-place-preserved
loop-place-preserved c =
    let p = c.args.pattern.now in
    let code = c.args.code in
    let stripe = c.args.stripe.now in
    let items = c.places-place-items.result.now in
    let i = c.loop-place.place-index in
    let before = map string_bytes c.loop-place.folders.items in
    let place = get_or items i X0 in
    let more : take (i + 1) items ≡ take i items ++ (place ∷ []) = take_more items i X0 c.loop-place-test.true in
    elim c.match-branch-2.branch [
      | in-Some+in_ok-add w ↦ rw (more, ap (λ v. map string_bytes v.items) w.folders-is)
          (put p code stripe (take i items) place (string_bytes w.in-Some.name) w.folder_in.result.now
          (named p code stripe place c.in_ok-name.field-0 c.in_ok-name.ensures w.in-Some.name w.in-Some.is)
          (subst (λ t. IsFolderOf t w.folder_in.result.now) w.as_str.ensures.value w.folder_in.ensures)
          before (map string_bytes w.add.new.folders.items) c.loop-place.invariant w.in_ok-add.ensures)
      | in_default w ↦ rw (more, ap (λ v. map string_bytes v.items) w.folders-is)
          (skipped p code stripe (take i items) place before c.loop-place.invariant
          (unnamed p code stripe place c.in_ok-name.field-0 c.in_ok-name.ensures w.in_default.is))
    ]
