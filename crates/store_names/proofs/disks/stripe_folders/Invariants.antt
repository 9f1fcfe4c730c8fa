use Rattle.std.proofs.Common.{map, string_bytes, take}
use Rattle.store_names.specs.Folders.{AreFoldersAt}
use Rattle.store_names.proofs.disks.stripe_folders.Given as goal

-- the folders of the fragments at the places before this one
abbrev pub invariant-loop-place : goal.invariant-loop-place
invariant-loop-place l =
    AreFoldersAt l.pattern l.code (take l.place-index l.place-items) l.stripe (map string_bytes l.folders.items)
