-- Survivors that words write, word by word.
use Rattle.std.proofs.Common.{◌≡◌, ◌++◌, ◌∙◌, List, [], ◌∷◌, Option, Some, None, map, refl, sym, ap, append_assoc}
use Rattle.std.specs.Option.{option_and_then, option_map}
use Rattle.std.proofs.lemmas.List.{append-nil}
use Rattle.lrc_code.specs.Text.{every}

module _ {X A : Type 0} (f : X → Option A) where
  first_is : (x : X) (a : A) (rest : Option (List A)) → f x ≡ Some a
      → option_and_then (λ b. option_map (λ more. b ∷ more) rest) (f x) ≡ option_map (λ more. a ∷ more) rest
  first_is x a rest e = rw e refl

  -- one more of a list of members
  pub every_step : (x : X) (xs : List X) (a : A) (seen : List A) → f x ≡ Some a
      → option_map (λ more. seen ++ more) (every (map f (x ∷ xs))) ≡ option_map (λ more. (seen ++ a ∷ []) ++ more) (every (map f xs))
  every_step x xs a seen e = ap (option_map (λ more. seen ++ more)) (first_is x a (every (map f xs)) e) ∙ by (every (map f xs))
    where
      by : (rest : Option (List A)) → option_map (λ more. seen ++ more) (option_map (λ more. a ∷ more) rest)
          ≡ option_map (λ more. (seen ++ a ∷ []) ++ more) rest
      by None = refl
      by (Some more) = ap Some (sym (append_assoc seen (a ∷ []) more))

  -- one that isn't there
  pub every_stops : (x : X) (xs : List X) (seen : List A) → f x ≡ None → option_map (λ more. seen ++ more) (every (map f (x ∷ xs))) ≡ None
  every_stops x xs seen e = rw e refl

  -- the last
  pub every_ends : (xs : List X) (seen : List A) → xs ≡ [] → option_map (λ more. seen ++ more) (every (map f xs)) ≡ Some seen
  every_ends xs seen e = rw (e, append-nil seen) refl
