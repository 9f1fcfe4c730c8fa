-- What is on the disk of a store stays there.
use Rattle.std.specs.Prelude.{◌≡◌, ◌⊎◌, ℕ, List, true, false, Option, Some, None, IsSomeAnd}
use Rattle.std.proofs.Common.{◌∙◌, inl, inr, subst, sym}
use Rattle.folders.specs.Calls.{Answered}
use Rattle.folders.specs.Disk.{IsOnDisk}
use Rattle.folders.specs.Kept.{Keeps}
use Rattle.folders.specs.Placed.{WasRefused}
use Rattle.folders.proofs.Staying.{on_disk_over, refused_over}
use Rattle.stores.specs.Kept.{Given, StaysOver}
use Rattle.store_folder.specs.declared.site.Site.{Site}
use Rattle.store_folder.specs.Done.{IsSettled}
use Rattle.store_folder.specs.Kept.{IsKeptIn, IsTemporary}
use Rattle.store_folder.specs.Temporary.{is_temporary}

-- a path that isn't temporary
pub lasts : (path : List ℕ) → is_temporary path ≡ false → IsTemporary path → ⊥
lasts path lasting is = let both : true ≡ false = sym is ∙ lasting in cc

done_over : (given : List ℕ → List ℕ → Type 0) (path : List ℕ) (written : Option (List ℕ)) (old new : List Answered)
    → is_temporary path ≡ false → Keeps IsTemporary given old new
    → WasRefused path old ⊎ IsSomeAnd written (λ bytes. IsOnDisk path bytes old)
    → WasRefused path new ⊎ IsSomeAnd written (λ bytes. IsOnDisk path bytes new)
done_over given path written old new lasting keeps (inl was) = inl (refused_over path keeps.more old new keeps.are was)
done_over given path None old new lasting keeps (inr none) = absurd none
done_over given path (Some bytes) old new lasting keeps (inr held) =
    inr (on_disk_over IsTemporary path bytes (lasts path lasting) keeps.more old new keeps.are keeps.takes held)

-- over a stripe's calls that replace nothing
pub settled_over : (stripe : List ℕ) (given : Given) (old_site new_site : Site) (old new : List Answered)
    → IsKeptIn stripe given old_site new_site old new
    → StaysOver (λ s place written. IsSettled old_site s place written old) (λ s place written. IsSettled new_site s place written new)
settled_over stripe given old_site new_site old new kept s place written is =
    subst (λ site. IsSettled site s place written new) (sym kept.same) (record {
      path = is.path;
      here = is.here;
      lasting = is.lasting;
      done = done_over _ is.path written old new is.lasting kept.keeps is.done;
      listed = is.listed;
    })
