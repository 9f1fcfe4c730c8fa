use Rattle.std.proofs.Common.{rules, ◌≡◌, ℕ, List, length}
use Rattle.std.proofs.lemmas.List.Elements.{All-map}
use Rattle.lrc_tests.proofs.code.is_encoded_wide.Goals as goal

pub encode_wide-requires : goal.encode_wide-requires
encode_wide-requires c = (
  1,
  All-map (λ (xs : List ℕ). length xs ≡ 1) (λ s. s.items) c.in_ok-sources.sources (c.have_length.ensures (search rules)),
)
