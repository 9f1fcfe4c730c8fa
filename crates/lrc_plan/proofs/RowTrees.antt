-- Trees of the rows of a plan.
use Rattle.std.proofs.Common.{◌≡◌, ◌≢◌, ◌<◌, ◌↔◌, ◌+◌, ℕ, suc, Bool, true, false, cond, List, [], ◌∷◌, ◌++◌, Option, Some, None}
use Rattle.std.proofs.Common.{IsNone, All, length, filter, slice_index, refl, sym, ◌∙◌, ap, subst, arith}
use Rattle.std.proofs.Common.{lit<, map, length-append}
use Rattle.std.specs.Prelude.{not, ◌&&◌, ◌==◌, IsSome, IsSomeAnd, count_by, if◌then◌else◌}
use Rattle.std.specs.List.{fold}
use Rattle.std.proofs.lemmas.Bool.{eqb-true, true_from_ne_false}
use Rattle.std.proofs.lemmas.List.Elements.{All-cons, All-nil, All-push, All-pop}
use Rattle.lrc_code.specs.declared.places.Place.{Place}
use Rattle.lrc_code.specs.declared.places.Place.TheVariants.{X0, X1, X2, Y0, Y1, Y2, Px, Py, P0, P1, X3, X4, X5, Y3, Y4, Y5}
use Rattle.lrc_code.specs.declared.codes.Code.{Code as CodeName}
use Rattle.lrc_code.specs.declared.codes.Code.TheVariants.{Narrow, Wide}
use Rattle.lrc_code.specs.Places.{index_of, same_place, group_of, all_places}
use Rattle.lrc_code.specs.Sums.{GivesBytes}
use Rattle.lrc_field.specs.Sums.{combination}
use Rattle.lrc_code.specs.Code.{Code, has_place}
use Rattle.lrc_code.specs.Codes.{tables_of}
use Rattle.lrc_code.proofs.PlaceSums.{same_place-comm, combination-sum_over}
use Rattle.lrc_code.proofs.CodeTables.{own_places}
use Rattle.lrc_code.proofs.Words.{word, word_small, word_apart, word_solves}
use Rattle.lrc_plan.specs.Form.{Form, Leaf, Scale, Sum, meaning, leaf_total}
use Rattle.lrc_plan.specs.PlanParts.{cut}
use Rattle.lrc_code.specs.Groups.{group_coefficient, same_group}
use Rattle.lrc_plan.specs.Planned.{Extends, ExtensionsDiffer, IsLocalTree, IsPlan, IsShallow, IsTargetValue, LeavesSurvive, group_others}
use Rattle.lrc_plan.specs.RowPlans.{IsGroupRow, IsRowPlan, IsRowValue, ReadsSurvivors, rows_with_terms}
use Rattle.lrc_plan.specs.RowTrees.{AreRowTrees, IsRowTree, IsValueTree}
use Rattle.lrc_plan.specs.Sums.{MeansRow, sum_meaning, some_leaf, some_leaf_total, terms}

-- ---- the target's tree

-- a tree that is right leaves no two extensions that differ
right_is_one : (code : Code) (survives : Place → Bool) (target : Place) (t : Form)
    → ((s e : Place → ℕ) → GivesBytes s → Extends code survives s e → meaning s t ≡ e target)
    → IsNone (Some t) ↔ ExtensionsDiffer code survives target
right_is_one code survives target t r =
    (λ n. none_some n, λ (s, d, e, h, x, y, apart). absurd (apart (sym (r s d h x) ∙ r s e h y)))
  where
    none_some : IsNone (Some t) → ExtensionsDiffer code survives target
    none_some n = cc

-- no tree
pub none_value : (code : Code) (survives : Place → Bool) (t : Place) → ExtensionsDiffer code survives t
    → IsTargetValue code survives t None
none_value code survives t d = record { leaves = tt; right = tt; several = (λ n. d, λ x. refl) }

-- the tree of the target's row, or none
pub tree_value : (code : CodeName) (survives : Place → Bool) (t : Place) (row : Option (List ℕ)) (value : Option Form)
    → IsRowValue (tables_of code) survives t row → IsValueTree row value → IsTargetValue (tables_of code) survives t value
tree_value code survives t None value differ is = subst (IsTargetValue (tables_of code) survives t) (sym is)
    (none_value (tables_of code) survives t differ)
tree_value code survives t (Some row) value right tree = given value tree.means tree.leaves
  where
    means : (v : Option Form) → MeansRow row all_places v → (s e : Place → ℕ) → GivesBytes s → Extends (tables_of code) survives s e
        → sum_meaning s v ≡ e t
    means v k s e h x = k s h ∙ sym (combination-sum_over row s) ∙ right.right s e h x

    given : (v : Option Form) → MeansRow row all_places v → ((p : Place) → some_leaf v p ≡ true → slice_index row (index_of p) ≢ 0)
        → IsTargetValue (tables_of code) survives t v
    given None k l = absurd (word_apart code t
        (sym (means None k (word code) (word code) (word_small code)
        (record { bytes = word_small code; solves = word_solves code; kept = λ p h. refl }))))
    given (Some f) k l = record {
      leaves = λ p h. true_from_ne_false (survives p) (λ n. l p h (right.reads p n));
      right = λ s e h x. means (Some f) k s e h x;
      several = right_is_one (tables_of code) survives t f (λ s e h x. means (Some f) k s e h x);
    }

-- ---- the tree of a group's row

-- as many coefficients beside the target's as the group has other members
local_count : (code : CodeName) (t : Place) → IsSome (group_of t)
    → count_by (λ p. not (cut (group_coefficient (tables_of code) (group_of t)) t p == 0)) all_places
    ≡ length (group_others (tables_of code) t)
local_count Narrow X0 h = refl
local_count Narrow X1 h = refl
local_count Narrow X2 h = refl
local_count Narrow Y0 h = refl
local_count Narrow Y1 h = refl
local_count Narrow Y2 h = refl
local_count Narrow Px h = refl
local_count Narrow Py h = refl
local_count Narrow P0 h = cc
local_count Narrow P1 h = cc
local_count Narrow X3 h = refl
local_count Narrow X4 h = refl
local_count Narrow X5 h = refl
local_count Narrow Y3 h = refl
local_count Narrow Y4 h = refl
local_count Narrow Y5 h = refl
local_count Wide X0 h = refl
local_count Wide X1 h = refl
local_count Wide X2 h = refl
local_count Wide Y0 h = refl
local_count Wide Y1 h = refl
local_count Wide Y2 h = refl
local_count Wide Px h = refl
local_count Wide Py h = refl
local_count Wide P0 h = cc
local_count Wide P1 h = cc
local_count Wide X3 h = refl
local_count Wide X4 h = refl
local_count Wide X5 h = refl
local_count Wide Y3 h = refl
local_count Wide Y4 h = refl
local_count Wide Y5 h = refl

-- and it has others
local_some : (code : CodeName) (t : Place) → IsSome (group_of t) → 0 < length (group_others (tables_of code) t)
local_some Narrow X0 h = lit< tt
local_some Narrow X1 h = lit< tt
local_some Narrow X2 h = lit< tt
local_some Narrow Y0 h = lit< tt
local_some Narrow Y1 h = lit< tt
local_some Narrow Y2 h = lit< tt
local_some Narrow Px h = lit< tt
local_some Narrow Py h = lit< tt
local_some Narrow P0 h = cc
local_some Narrow P1 h = cc
local_some Narrow X3 h = lit< tt
local_some Narrow X4 h = lit< tt
local_some Narrow X5 h = lit< tt
local_some Narrow Y3 h = lit< tt
local_some Narrow Y4 h = lit< tt
local_some Narrow Y5 h = lit< tt
local_some Wide X0 h = lit< tt
local_some Wide X1 h = lit< tt
local_some Wide X2 h = lit< tt
local_some Wide Y0 h = lit< tt
local_some Wide Y1 h = lit< tt
local_some Wide Y2 h = lit< tt
local_some Wide Px h = lit< tt
local_some Wide Py h = lit< tt
local_some Wide P0 h = cc
local_some Wide P1 h = cc
local_some Wide X3 h = lit< tt
local_some Wide X4 h = lit< tt
local_some Wide X5 h = lit< tt
local_some Wide Y3 h = lit< tt
local_some Wide Y4 h = lit< tt
local_some Wide Y5 h = lit< tt

-- along the members of a list that pass a test
All-filter : (P Q : Place → Type 0) (q : Place → Bool) (ps : List Place) → All Q ps → ((p : Place) → Q p → q p ≡ true → P p)
    → All P (filter q ps)
All-filter P Q q [] h f = All-nil P
All-filter P Q q (p ∷ ps) h f = at (All-filter P Q q ps (λ k d lt. h (suc k) d (omega arith)) f) (q p) refl
  where
    at : All P (filter q ps) → (b : Bool) → q p ≡ b → All P (cond b (p ∷ filter q ps) (filter q ps))
    at rest true e = All-cons P p (filter q ps) (f p (h 0 p (omega arith)) e) rest
    at rest false e = rest

one_of : (a b : Bool) → a ≡ true → b ≡ true → ◌≡◌ {A = ℕ} (if a && b then 1 else 0) 1
one_of a b h k = ap (λ x. if x && b then 1 else 0) h ∙ ap (λ x. if x then 1 else 0) k

both : (a b : Bool) → (a && b) ≡ true → (a ≡ true) × (b ≡ true)
both true b h = (refl, h)
both false b h = absurd (cc)

-- equal tests count the same
count_from : (p q : Place → Bool) → ((x : Place) → p x ≡ q x) → (a : ℕ) (xs : List Place)
    → fold (λ a x. a + cond (p x) 1 0) a xs ≡ fold (λ a x. a + cond (q x) 1 0) a xs
count_from p q h a [] = refl
count_from p q h a (x ∷ xs) = ap (λ b. fold (λ a y. a + cond (p y) 1 0) (a + cond b 1 0) xs) (h x)
    ∙ count_from p q h (a + cond (q x) 1 0) xs

local_tree : (code : CodeName) (t : Place) (row : List ℕ) (value : Option Form) → IsSome (group_of t)
    → IsGroupRow (tables_of code) t row → IsRowTree row value → IsSomeAnd value (IsLocalTree (tables_of code) t)
local_tree code t row value some is tree = at value moved
  where
    nonzero : (p : Place) → has_place (tables_of code) p ≡ true → (same_group (group_of p) (group_of t) && not (same_place p t)) ≡ true
        → slice_index row (index_of p) ≢ 0
    nonzero p own e z =
        let parts = both (same_group (group_of p) (group_of t)) (not (same_place p t)) e in
        absurd (omega (
          arith,
          sym (one_of (has_place (tables_of code) p) (same_group (group_of p) (group_of t)) own parts.0)
              ∙ sym (ap (λ b. if b then 0 else group_coefficient (tables_of code) (group_of t) p)
              (same_place-comm t p ∙ not_true (same_place p t) parts.1))
              ∙ sym (is p) ∙ z,
        ))
      where
        not_true : (b : Bool) → not b ≡ true → b ≡ false
        not_true true h = absurd (cc)
        not_true false h = refl

    moved : (some_leaf_total value ≡ length (group_others (tables_of code) t))
        × All (λ p. some_leaf value p ≡ true) (group_others (tables_of code) t)
    moved = (
      tree.total ∙ count_from (λ p. not (slice_index row (index_of p) == 0))
          (λ p. not (cut (group_coefficient (tables_of code) (group_of t)) t p == 0))
          (λ p. ap (λ n. not (n == 0)) (is p)) 0 all_places ∙ local_count code t some,
      All-filter (λ p. some_leaf value p ≡ true) (λ p. has_place (tables_of code) p ≡ true)
          (λ p. same_group (group_of p) (group_of t) && not (same_place p t)) (tables_of code).places (own_places code)
          (λ p own e. tree.all p (nonzero p own e)),
    )

    at : (v : Option Form) → (some_leaf_total v ≡ length (group_others (tables_of code) t))
        × All (λ p. some_leaf v p ≡ true) (group_others (tables_of code) t)
        → IsSomeAnd v (IsLocalTree (tables_of code) t)
    at None m = absurd (omega (arith, m.0, local_some code t some))
    at (Some f) m = m

local_value : (code : CodeName) (t : Place) (row : Option (List ℕ)) (value : Option Form) → IsSome (group_of t)
    → IsSomeAnd row (IsGroupRow (tables_of code) t) → IsValueTree row value → IsSomeAnd value (IsLocalTree (tables_of code) t)
local_value code t None value some is tree = absurd (is)
local_value code t (Some row) value some is tree = local_tree code t row value some is tree

-- ---- the trees of checks

some_leaf_of : (f : Form) → 0 < leaf_total f
some_leaf_of (Leaf p) = lit< tt
some_leaf_of (Scale c t) = some_leaf_of t
some_leaf_of (Sum s t) = let one = some_leaf_of s in omega (arith, one)

-- one row more counts where it has terms
count_snoc : (P : List ℕ → Bool) (a : ℕ) (rows : List (List ℕ)) (row : List ℕ)
    → fold (λ a r. a + cond (P r) 1 0) a (rows ++ row ∷ []) ≡ fold (λ a r. a + cond (P r) 1 0) a rows + cond (P row) 1 0
count_snoc P a [] row = refl
count_snoc P a (r ∷ rows) row = count_snoc P (a + cond (P r) 1 0) rows row

-- a row more, and its tree, if it has one
pub more_trees : (rows : List (List ℕ)) (trees : List Form) (row : List ℕ) (t : Form) → AreRowTrees rows trees → IsRowTree row (Some t)
    → AreRowTrees (rows ++ row ∷ []) (trees ++ t ∷ [])
more_trees rows trees row t all one = record {
  means = λ s h. (
    λ a. (let parts = All-pop (λ r. combination r (map s all_places) ≡ 0) (rows ++ row ∷ []) rows (Some row) refl a in
        All-push (λ f. meaning s f ≡ 0) trees t ((all.means s h).0 parts.0) (same s h ∙ parts.1)),
    λ a. (let parts = All-pop (λ f. meaning s f ≡ 0) (trees ++ t ∷ []) trees (Some t) refl a in
        All-push (λ r. combination r (map s all_places) ≡ 0) rows row ((all.means s h).1 parts.0) (sym (same s h) ∙ parts.1)),
  );
  leaves = λ survives h. (let parts = All-pop (ReadsSurvivors survives) (rows ++ row ∷ []) rows (Some row) refl h in
      All-push (LeavesSurvive survives) trees t (all.leaves survives parts.0)
      (λ p l. true_from_ne_false (survives p) (λ n. one.leaves p l (parts.1 p n))));
  shallow = All-push IsShallow trees t all.shallow one.shallow;
  count = length-append trees (t ∷ []) ∙ ap (λ n. n + 1) all.count
      ∙ sym (count_snoc (λ r. not (terms r all_places == 0)) 0 rows row
      ∙ ap (λ b. rows_with_terms rows + cond (not b) 1 0) (some_terms (terms row all_places == 0) refl));
}
  where
    same : (s : Place → ℕ) → GivesBytes s → meaning s t ≡ combination row (map s all_places)
    same s h = one.means s h ∙ sym (combination-sum_over row s)

    some_terms : (b : Bool) → (terms row all_places == 0) ≡ b → (terms row all_places == 0) ≡ false
    some_terms true e =
        let none : terms row all_places ≡ 0 = eqb-true (terms row all_places) 0 e in
        let some : 0 < leaf_total t = some_leaf_of t in
        absurd (omega (arith, none, some, one.total))
    some_terms false e = e

pub same_trees : (rows : List (List ℕ)) (trees : List Form) (row : List ℕ) → AreRowTrees rows trees → IsRowTree row None
    → AreRowTrees (rows ++ row ∷ []) trees
same_trees rows trees row all one = record {
  means = λ s h. (
    λ a. (all.means s h).0 (All-pop (λ r. combination r (map s all_places) ≡ 0) (rows ++ row ∷ []) rows (Some row) refl a).0,
    λ a. All-push (λ r. combination r (map s all_places) ≡ 0) rows row ((all.means s h).1 a)
        (combination-sum_over row s ∙ sym (one.means s h)),
  );
  leaves = λ survives h. all.leaves survives (All-pop (ReadsSurvivors survives) (rows ++ row ∷ []) rows (Some row) refl h).0;
  shallow = all.shallow;
  count = all.count ∙ sym (count_snoc (λ r. not (terms r all_places == 0)) 0 rows row
      ∙ ap (λ n. rows_with_terms rows + cond (not (n == 0)) 1 0) (sym one.total) ∙ more (rows_with_terms rows));
}
  where
    more : (n : ℕ) → n + 0 ≡ n
    more n = omega arith

-- ---- the whole plan

pub tree_plan : (code : CodeName) (survives : Place → Bool) (t : Place) (row : Option (List ℕ)) (checks : List (List ℕ))
    (value : Option Form) (trees : List Form)
    → IsRowPlan (tables_of code) survives t row checks → IsValueTree row value → AreRowTrees checks trees
    → IsPlan (tables_of code) survives t value trees
tree_plan code survives t row checks value trees plan v c = record {
  of_target = tree_value code survives t row value plan.of_target v;
  of_survivors = record {
    leaves = c.leaves survives plan.of_survivors.reads;
    possible = λ s h. (
      λ x. (c.means s h).0 ((plan.of_survivors.possible s h).0 x),
      λ a. (plan.of_survivors.possible s h).1 ((c.means s h).1 a),
    );
  };
  local = λ l. local_value code t row value l.0 (plan.local l) v;
}
