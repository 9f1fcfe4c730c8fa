use Rattle.std.proofs.Common.{◌≡◌, Some, take, map}
use Rattle.lrc_code.specs.Text.{every}
use Rattle.lrc_code.specs.Text.{place_named}
use Rattle.lrc_code.specs.Codes.{tables_of}
use Rattle.farm_lists.proofs.listing.parse_names.Given as goal

abbrev pub invariant-loop-name : goal.invariant-loop-name
invariant-loop-name l = every (map (λ n. place_named (tables_of l.fn.code) n.now) (take l.name-index l.names)) ≡ Some l.places.items
