-- Sources that can be encoded.
use Rattle.std.specs.Prelude.{◌≡◌, ℕ, List, length, Some}
use Rattle.lrc_code.specs.declared.codes.Code.{Code as CodeName}
use Rattle.lrc_code.specs.Codes.{data_count}
use Rattle.lrc_code.specs.Encoding.{HaveLength}
use Rattle.lrc_c.specs.Arguments.{code_numbered}

-- as many data fragments as the code has, and room for the parities, all of one length
pub record AreSources (number : ℕ) (sources : List (List ℕ)) (x y z w : ℕ) (code : CodeName) : Type 0 where
  pub code_is : code_numbered number ≡ Some code
  pub count : length sources ≡ data_count code
  pub lengths : HaveLength x sources
  pub py : y ≡ x
  pub p0 : z ≡ x
  pub p1 : w ≡ x
