use Rattle.std.proofs.Common.{◌≡◌, codes, map, string_bytes, take}
use Rattle.store_names.specs.Descriptions.{description_in}
use Rattle.store_names.proofs.descriptions.description_names.Given as goal

-- there is a name for each of the folders so far
abbrev pub invariant-loop-folder : goal.invariant-loop-folder
invariant-loop-folder l = map string_bytes l.names.items
    ≡ map (λ folder. description_in folder l.stripe (codes ".file")) (map string_bytes (take l.folder-index l.folder-items))
