-- The numbers of a stripe's shards.
use Rattle.std.specs.Prelude.{ℕ, List, [], ◌∷◌, Option, filter, position, ◌==◌}
use Rattle.lrc_code.specs.declared.places.Place.{Place}
use Rattle.lrc_code.specs.declared.places.Place.TheVariants.{X0, X1, X2, X3, X4, X5, Y0, Y1, Y2, Y3, Y4, Y5, Px, Py, P0, P1}
use Rattle.lrc_code.specs.declared.codes.Code.{Code as CodeName}
use Rattle.lrc_code.specs.Code.{has_place}
use Rattle.lrc_code.specs.Codes.{tables_of}
use Rattle.lrc_code.specs.Places.{index_of}
use Rattle.store_names.specs.declared.layouts.Layout.{Layout}
use Rattle.store_names.specs.declared.layouts.Layout.TheVariants.{Plain, Groups}

-- the order of the places of a layout
abbrev pub order_of : Layout → List Place
order_of Plain = X0 ∷ X1 ∷ X2 ∷ X3 ∷ X4 ∷ X5 ∷ Y0 ∷ Y1 ∷ Y2 ∷ Y3 ∷ Y4 ∷ Y5 ∷ Px ∷ Py ∷ P0 ∷ P1 ∷ []
order_of Groups = X0 ∷ X1 ∷ X2 ∷ X3 ∷ X4 ∷ X5 ∷ Px ∷ Y0 ∷ Y1 ∷ Y2 ∷ Y3 ∷ Y4 ∷ Y5 ∷ Py ∷ P0 ∷ P1 ∷ []

-- how many of the code's places are before this one in that order; none where the code hasn't it
abbrev pub shard_of : Layout → CodeName → Place → Option ℕ
shard_of layout code place = position (λ other. index_of other == index_of place) (filter (has_place (tables_of code)) (order_of layout))
