use Rattle.std.proofs.Common.{◌≡◌, ◌*◌, ℕ, List, length, map, take, Some, option_map}
use Rattle.std.specs.List.{range_with_len}
use Rattle.store_repair.specs.Files.{part}
use Rattle.stores.specs.Shown.{shown_of}
use Rattle.store_repair.proofs.parts.parts_of.Given as goal

abbrev pub invariant-loop-index : goal.invariant-loop-index
invariant-loop-index g l =
    record {
      many : length l.parts.items ≡ l.index;
      parts : (file : List ℕ) → g.S.Fragment.shown l.source ≡ Some file → length file ≡ l.file_bytes
          → map (shown_of (λ p. option_map (λ file. part (take p.file_bytes file) p.from p.many) (g.S.Fragment.shown p.source.now)))
          l.parts.items
          ≡ map Some (map (λ i. part file (i * l.many) l.many) (range_with_len 0 l.index));
    }
