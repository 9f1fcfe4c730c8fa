-- Lists whose every member is there, member by member.
use Rattle.std.proofs.Common.{◌≡◌, ◌<◌, ◌+◌, ◌++◌, ◌∙◌, ℕ, zero, suc, List, [], ◌∷◌, Option, Some, None, length, map, take, get_or, refl}
use Rattle.std.proofs.Common.{ap, arith}
use Rattle.std.specs.Prelude.{option_map, option_and_then}
use Rattle.std.proofs.lemmas.List.{map-append, take_more}
use Rattle.lrc_code.specs.Text.{every}

-- what an `every` that is there is made of
record First {A : Type 0} (x : Option A) (rest : Option (List A)) (all : List A) : Type 0 where
  first : A
  others : List A
  is_first : x ≡ Some first
  are_others : rest ≡ Some others
  whole : all ≡ first ∷ others

first_of : {A : Type 0} (x : Option A) (rest : Option (List A)) (all : List A)
    → option_and_then (λ a. option_map (λ more. a ∷ more) rest) x ≡ Some all → First x rest all
first_of None rest all e = cc
first_of (Some a) None all e = cc
first_of (Some a) (Some more) all e = record { first = a; others = more; is_first = refl; are_others = refl; whole = cc }

put_first : {A : Type 0} (x : Option A) (rest : Option (List A)) (first : A) (others all ys : List A) → x ≡ Some first
    → rest ≡ Some (others ++ ys) → all ≡ first ∷ others
    → option_and_then (λ b. option_map (λ more. b ∷ more) rest) x ≡ Some (all ++ ys)
put_first x rest first others all ys e f w = rw (e, f, w) refl

pub every_push : {A : Type 0} (xs : List (Option A)) (all : List A) (a : A) → every xs ≡ Some all
    → every (xs ++ Some a ∷ []) ≡ Some (all ++ a ∷ [])
every_push [] all a e = let none : all ≡ [] = cc in rw none refl
every_push (x ∷ xs) all a e =
    let f = first_of x (every xs) all e in
    let more = every_push xs f.others a f.are_others in
    put_first x (every (xs ++ Some a ∷ [])) f.first f.others all (a ∷ []) f.is_first more f.whole

pub every_more : {A X : Type 0} (f : X → Option A) (xs : List X) (i : ℕ) (d : X) (all : List A) (a : A) → i < length xs
    → f (get_or xs i d) ≡ Some a
    → every (map f (take i xs)) ≡ Some all → every (map f (take (i + 1) xs)) ≡ Some (all ++ a ∷ [])
every_more f xs i d all a within found e =
    ap (λ ys. every (map f ys)) (take_more xs i d within)
    ∙ ap every (map-append f (take i xs) (get_or xs i d ∷ []))
    ∙ ap (λ y. every (map f (take i xs) ++ y ∷ [])) found
    ∙ every_push (map f (take i xs)) all a e

none_rest : {A : Type 0} (x : Option A) (rest : Option (List A)) → rest ≡ None
    → option_and_then (λ a. option_map (λ more. a ∷ more) rest) x ≡ None
none_rest None rest e = refl
none_rest (Some a) rest e = rw e refl

pub every_none : {A X : Type 0} (f : X → Option A) (xs : List X) (i : ℕ) (d : X) → i < length xs → f (get_or xs i d) ≡ None
    → every (map f xs) ≡ None
every_none f [] i d within none = absurd (omega arith)
every_none f (y ∷ ys) zero d within none = rw none refl
every_none f (y ∷ ys) (suc i) d within none = none_rest (f y) (every (map f ys)) (every_none f ys i d (omega arith) none)
