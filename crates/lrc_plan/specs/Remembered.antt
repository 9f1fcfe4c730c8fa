-- Plans that are remembered.
use Rattle.std.specs.Prelude.{Bool, List}
use Rattle.lrc_code.specs.declared.places.Place.{Place}
use Rattle.lrc_code.specs.declared.codes.Code.{Code}

-- what a plan is the plan for
pub record Known : Type 0 where
  pub code : Code
  pub survivors : List Bool
  pub target : Place
