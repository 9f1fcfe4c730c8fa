-- Rows of coefficients as trees.
use Rattle.std.specs.Prelude.{◌≡◌, ◌≢◌, ◌≤◌, ◌↔◌, ℕ, Bool, true, Option, Some, None, List, length, map, slice_index, All}
use Rattle.lrc_code.specs.declared.places.Place.{Place}
use Rattle.lrc_code.specs.Places.{index_of, all_places}
use Rattle.lrc_field.specs.Sums.{combination}
use Rattle.lrc_code.specs.Sums.{GivesBytes}
use Rattle.lrc_plan.specs.Form.{Form, meaning}
use Rattle.lrc_plan.specs.Planned.{IsShallow, LeavesSurvive}
use Rattle.lrc_plan.specs.RowPlans.{ReadsSurvivors, rows_with_terms}
use Rattle.lrc_plan.specs.Sums.{MeansRow, some_depth, some_leaf, some_leaf_total, terms}

-- The tree of a row: it means the row's sum of products, and has one leaf for each coefficient other than 0 and no further. There is none
-- where all coefficients are 0.
pub record IsRowTree (row : List ℕ) (tree : Option Form) : Type 0 where
  pub means : MeansRow row all_places tree
  pub leaves : (p : Place) → some_leaf tree p ≡ true → slice_index row (index_of p) ≢ 0
  pub all : (p : Place) → slice_index row (index_of p) ≢ 0 → some_leaf tree p ≡ true
  pub total : some_leaf_total tree ≡ terms row all_places
  pub shallow : some_depth tree ≤ 20

-- the tree of the row, if there is one
abbrev pub IsValueTree : Option (List ℕ) → Option Form → Type 0
IsValueTree None tree = tree ≡ None
IsValueTree (Some row) tree = IsRowTree row tree

-- for the same bytes all rows' sums of products are 0 and all trees mean 0
abbrev pub ZeroTogether : List (List ℕ) → List Form → Type 0
ZeroTogether rows trees = (s : Place → ℕ) → GivesBytes s
    → All (λ row. combination row (map s all_places) ≡ 0) rows ↔ All (λ t. meaning s t ≡ 0) trees

-- the trees of those rows that are not 0 everywhere
pub record AreRowTrees (rows : List (List ℕ)) (trees : List Form) : Type 0 where
  pub means : ZeroTogether rows trees
  pub leaves : (survives : Place → Bool) → All (ReadsSurvivors survives) rows → All (LeavesSurvive survives) trees
  pub shallow : All IsShallow trees
  pub count : length trees ≡ rows_with_terms rows
