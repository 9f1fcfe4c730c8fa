use Rattle.std.proofs.Common.{◌≡◌, ◌++◌, ◌∷◌, map, string_bytes}
use Rattle.store_names.specs.RunFiles.{kept}
use Rattle.store_names.proofs.temporary.run_named.Given as goal

-- the run has the process, and the letters so far as they are kept
abbrev pub invariant-loop-letter : goal.invariant-loop-letter
invariant-loop-letter l = string_bytes l.run ≡ l.process ++ (64 ∷ map kept l.yielded)
