-- Tests of names.
use Rattle.std.specs.Prelude.{ℕ, List, Bool, not, ◌&&◌, codes, string_bytes}
use Rattle.std.proofs.Common.{String, Global}
use Rattle.std.specs.List.{list_any}
use Rattle.std.specs.Str.{bytes_eq}
use Rattle.store_names.specs.Temporary.{is_free}

-- a name that is none that files have which aren't whole yet, and not that of the digests
abbrev pub is_own : String Global → Bool
is_own name = is_free (string_bytes name) && not (bytes_eq (string_bytes name) (codes "SHA256SUMS"))

abbrev pub has : List (String Global) → List ℕ → Bool
has names bytes = list_any (λ other. bytes_eq (string_bytes other) bytes) names

-- a name that is none of some names, and none of others
abbrev pub shares_none : List (String Global) → List (String Global) → String Global → Bool
shares_none fragments descriptions name = not (has fragments (string_bytes name)) && not (has descriptions (string_bytes name))
