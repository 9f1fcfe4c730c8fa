-- A map that was changed at one key, as files.
use Rattle.std.proofs.Common.{◌≡◌, ◌∙◌, ℕ, Bool, true, false, cond, List, Option, Some, Result, Ok, Err, Vec, Global, refl, ap, option_map}
use Rattle.std.proofs.Common.{take, length, min}
use Rattle.std.proofs.Math.Nat.{min_comm}
use Rattle.std.proofs.lemmas.List.{take_min}
use Rattle.std.specs.BTreeMap as tree
use Rattle.std.specs.BTreeMap.{BTreeMap}
use Rattle.std.specs.Cmp.Lexicographic.{slice_cmp}
use Rattle.std.specs.Result.{OnOk, OnErr}
use Rattle.std.specs.Ordering.{nat_cmp}
use Rattle.std.specs.Str.{bytes_eq}
use Rattle.std.specs.Prelude.{String}
use Rattle.std.specs.String.{string_bytes, string_cmp}
use Rattle.std.proofs.lemmas.Map.Text.{btree_map_updates_text}
use Rattle.farm_shelves.specs.Files.{Files, put}

over_cond : (b : Bool) (x y : Option (Vec ℕ Global)) → option_map (λ v. v.items) (cond b x y)
    ≡ cond b (option_map (λ v. v.items) x) (option_map (λ v. v.items) y)
over_cond true x y = refl
over_cond false x y = refl

pub put_by_updates : (name : List ℕ) (m n : BTreeMap (String Global) (Vec ℕ Global)) (v : Vec ℕ Global)
    → tree.UpdatesBy string_cmp (λ k. slice_cmp nat_cmp name (string_bytes k)) m n (Some v)
    → (let files : Files = λ q. option_map (λ v. v.items) (tree.get_by_text n q) in files)
    ≡ put (λ q. option_map (λ v. v.items) (tree.get_by_text m q)) name v.items
put_by_updates name m n v u = λ i q.
    (ap (option_map (λ v. v.items)) (btree_map_updates_text name m n (Some v) u q)
    ∙ over_cond (bytes_eq name q) (Some v) (tree.get_by_text m q)) i

pub take_least : (n : ℕ) (xs : List ℕ) → take (min (length xs) n) xs ≡ take n xs
take_least n xs = rw (min_comm (length xs) n) (take_min n xs)

-- a file that was put, or that was not, leaves the others
pub put_or_not : {A E : Type 0} (r : Result A E) (old new : Files) (name bytes other : List ℕ)
    → OnOk r (new ≡ put old name bytes) → OnErr r (new ≡ old) → bytes_eq name other ≡ false → new other ≡ old other
put_or_not (Ok x) old new name bytes other ok err apart = ap (λ (f : Files). f other) ok ∙ rw apart refl
put_or_not (Err x) old new name bytes other ok err apart = ap (λ (f : Files). f other) err
