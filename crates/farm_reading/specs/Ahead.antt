-- The files that are read ahead.
use Rattle.std.specs.Prelude.{◌+◌, ℕ, List, map}
use Rattle.std.specs.String.{string_bytes}
use Rattle.std.proofs.Common.{String, Global}
use Rattle.farm_lists.specs.Listed.{ListedRequest}
use Rattle.farm_lists.specs.Names.{fragment_name}

-- a file's name and limit
abbrev pub named_limit : String Global × ℕ → List ℕ × ℕ
named_limit file = (string_bytes file.0, file.1)

-- the names of a request's listed survivors, and one byte more than is listed
abbrev pub fragment_reads : ListedRequest → List (List ℕ × ℕ)
fragment_reads r = map (λ p. (fragment_name r.stripe p, r.len + 1)) r.survivors
