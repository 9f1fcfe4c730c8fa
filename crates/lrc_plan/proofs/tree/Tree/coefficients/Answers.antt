use Rattle.std.proofs.Common.{◌≡◌, ◌<◌, ◌∙◌, ℕ, List, map, replicate, arith}
use Rattle.std.specs.Int.Bits.{bit_xor}
use Rattle.lrc_field.specs.Field.{times}
use Rattle.std.specs.Int.Bits.{xor_zero_l}
use Rattle.lrc_field.proofs.FieldLaws.{times-one}
use Rattle.lrc_code.proofs.Combinations.{combination-none}
use Rattle.lrc_field.specs.Sums.{combination}
use Rattle.lrc_code.specs.Places.{all_places}
use Rattle.std.proofs.lemmas.Simd.{get_or-replicate}
use Rattle.lrc_plan.proofs.FormLaws.{meaning-lt}
use Rattle.lrc_plan.specs.Tree.{form_of}
use Rattle.lrc_plan.proofs.tree.Tree.coefficients.Goals as goal

from_nothing : (f m o : ℕ) → f ≡ 1 → o ≡ 0 → m < 256 → bit_xor o (times f m) ≡ m
from_nothing f m o e z h = rw (e, z) (xor_zero_l _ ∙ times-one m h)

no_coefficients : (bytes : List ℕ) → combination (replicate 16 0) bytes ≡ 0
no_coefficients bytes = combination-none (replicate 16 0) bytes (λ k lt. get_or-replicate 16 k 0 0 (omega arith))

pub returns : goal.returns
returns g c = λ b h. c.add_coefficients.ensures b ∙ from_nothing _ _ _ c.new.ensures
    (rw c.new-sums.ensures (no_coefficients (map b all_places))) (meaning-lt b h (form_of c.args.self.now))
