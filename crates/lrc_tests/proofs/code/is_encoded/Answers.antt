use Rattle.std.proofs.Common.{rules, ◌≡◌, ℕ, List, length}
use Rattle.std.proofs.lemmas.List.Elements.{All-map}
use Rattle.lrc_tests.proofs.code.is_encoded.Goals as goal

pub encode-requires : goal.encode-requires
encode-requires c = (
  3,
  All-map (λ (xs : List ℕ). length xs ≡ 3) (λ s. s.items) c.in_ok-sources.sources (c.have_length.ensures (search rules)),
)
