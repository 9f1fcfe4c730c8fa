-- What sums say of files.
use Rattle.std.specs.Prelude.{ℕ, List, Option}
use Rattle.std.specs.BTreeMap.{get_by}
use Rattle.std.specs.Cmp.Lexicographic.{slice_cmp}
use Rattle.std.specs.Ordering.{nat_cmp}
use Rattle.store_records.specs.declared.sums.Sums.{Sums}

-- the digest of the file of a name, where the sums name it
abbrev pub digest_in : Sums → List ℕ → Option (List ℕ)
digest_in sums name = get_by (λ key. slice_cmp nat_cmp name key.items) sums.digests
