-- A factor times what a form gives at each position.
use Rattle.std.proofs.Common.{◌≡◌, ℕ, List, length, get_or, ap, ap₂, sym, ◌∙◌, arith}
use Rattle.std.specs.Int.Bits.{bit_xor}
use Rattle.lrc_field.specs.Field.{times}
use Rattle.lrc_field.specs.Sums.{sums}
use Rattle.lrc_field.proofs.FieldLaws.{times-one, times-xor, times-assoc}
use Rattle.lrc_code.specs.Requests.{Asked}
use Rattle.lrc_code.specs.Sums.{GivesBytes}
use Rattle.lrc_code.proofs.Clearing.{get_or-sums}
use Rattle.lrc_plan.specs.Form.{Form, Scale, Sum, meaning}
use Rattle.lrc_plan.specs.Evaluation.{byte_at, IsValue}
use Rattle.lrc_plan.specs.EvaluationParts.{IsScaledValue}
use Rattle.lrc_plan.proofs.FormLaws.{meaning-lt}

-- one time the value
pub scaled_once : (f : ℕ) (r : Asked) (t : Form) (bytes : List ℕ) → f ≡ 1
    → ((i : ℕ) → GivesBytes (byte_at r i)) → IsScaledValue f r t bytes → IsValue r t bytes
scaled_once f r t bytes e small v = record {
  len = v.len;
  at = λ i h. v.at i h ∙ ap (λ g. times g (meaning (byte_at r i) t)) e ∙ times-one _
      (meaning-lt (byte_at r i) (small i) t);
}

-- a scalar goes into the factor
pub scaled_further : (f c g : ℕ) (r : Asked) (t : Form) (bytes : List ℕ) → g ≡ times f c
    → IsScaledValue g r t bytes → IsScaledValue f r (Scale c t) bytes
scaled_further f c g r t bytes e v = record {
  len = v.len;
  at = λ i h. v.at i h ∙ ap (λ x. times x (meaning (byte_at r i) t)) e ∙ times-assoc f c _;
}

-- the sum of both branches
pub scaled_sum : (f : ℕ) (r : Asked) (s t : Form) (xs ys zs : List ℕ) → IsScaledValue f r s xs
    → IsScaledValue f r t ys → zs ≡ sums xs ys → length zs ≡ r.len → IsScaledValue f r (Sum s t) zs
scaled_sum f r s t xs ys zs v w e len = record {
  len = len;
  at = λ i h. ap (λ bs. get_or bs i 0) e ∙ get_or-sums xs ys i (omega (arith, h, v.len)) (v.len ∙ sym w.len)
      ∙ ap₂ bit_xor (v.at i h) (w.at i h) ∙ sym (times-xor f _ _);
}
