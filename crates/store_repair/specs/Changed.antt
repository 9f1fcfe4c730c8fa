-- What calls on a stripe of a store leave that may replace fragments, whenever they end.
use Rattle.std.specs.Prelude.{ℕ, List}
use Rattle.lrc_code.specs.declared.codes.Code.{Code as CodeName}
use Rattle.stores.specs.Kept.{Given}
use Rattle.store_repair.specs.Kept.{FitOnly}
use Rattle.stores.specs.Store.{ShownFiles}
use Rattle.stores.specs.Changed.{IsAmong}

-- some of what is given here was, and all else is as `changed` says
pub record ChangesAmong {S : Type 0} (changed : List ℕ → Given → S → S → Type 0) (stripe : List ℕ) (all : Given) (old : S) (new : S)
    : Type 0 where
  pub given : Given
  pub among : IsAmong given all
  pub changes : changed stripe given old new

-- A stripe was given fragments that fit, at places at which something may have been, or none, and all else is as `changed` says.
pub record IsMended {S : Type 0} (changed : List ℕ → Given → S → S → Type 0) (code : CodeName) (stripe : List ℕ) (files : ShownFiles)
    (old : S) (new : S) : Type 0 where
  pub given : Given
  pub fit : FitOnly code stripe files given
  pub changes : changed stripe given old new
