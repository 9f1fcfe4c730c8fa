-- The texts of a pattern round a stripe and a key, taken away one by one.
use Rattle.std.proofs.Common.{◌≡◌, ◌≢◌, ◌∙◌, sym, ap, ℕ, List, ◌++◌, append_assoc, Option, Some, None, MatchOption, Bor}
use Rattle.std.proofs.lemmas.List.{append_cancel_left, append_cancel_right}
use Rattle.std.proofs.lemmas.Option.{none-some}

-- what is before the end of a name is the texts before a stripe, and it
from_the_beginning : (before key between stripe : List ℕ) → ((before ++ key) ++ between) ++ stripe ≡ before ++ (key ++ (between ++ stripe))
from_the_beginning before key between stripe = simp append_assoc

-- what an option without a value says
pub none_given : {A : Type 0} (o : Option A) (P : Type 0) (Q : A → Type 0) → o ≡ None → P → MatchOption o P Q
none_given None P Q is given = given
none_given (Some x) P Q is given = absurd (none-some x (sym is))

-- the text before the key isn't there, or the key
pub lacks_before : (name before key between after rest : List ℕ) → name ≡ rest ++ after → ((more : List ℕ) → rest ≢ before ++ more)
    → (stripe : List ℕ) → name ≢ (((before ++ key) ++ between) ++ stripe) ++ after
lacks_before name before key between after rest is lacks stripe made = lacks (key ++ (between ++ stripe))
    (append_cancel_right rest (((before ++ key) ++ between) ++ stripe) after (sym is ∙ made) ∙ from_the_beginning before key between stripe)

pub lacks_key : (name before key between after rest in_rest : List ℕ) → name ≡ rest ++ after → rest ≡ before ++ in_rest
    → ((more : List ℕ) → in_rest ≢ key ++ more) → (stripe : List ℕ) → name ≢ (((before ++ key) ++ between) ++ stripe) ++ after
lacks_key name before key between after rest in_rest is is_rest lacks stripe made =
    let whole = append_cancel_right rest (((before ++ key) ++ between) ++ stripe) after (sym is ∙ made) in
    lacks (between ++ stripe) (append_cancel_left before in_rest (key ++ (between ++ stripe))
    (sym is_rest ∙ whole ∙ from_the_beginning before key between stripe))

-- a name whose texts before a stripe were all taken away but the last
pub record IsAfterKey (name before key after rest : List ℕ) : Type 0 where
  pub in_rest : List ℕ
  pub in_key : List ℕ
  pub is_name : name ≡ in_rest ++ after
  pub is_rest : in_rest ≡ before ++ in_key
  pub is_key : in_key ≡ key ++ rest

module _ (name before key between after rest : List ℕ) (at : IsAfterKey name before key after rest) where
  pub is_made : (stripe : List ℕ) → rest ≡ between ++ stripe → name ≡ (((before ++ key) ++ between) ++ stripe) ++ after
  is_made stripe is = at.is_name ∙ ap (λ t. t ++ after) (at.is_rest ∙ ap (λ t. before ++ t) (at.is_key ∙ ap (λ t. key ++ t) is)
      ∙ sym (from_the_beginning before key between stripe))

  pub was_made : (stripe : List ℕ) → name ≡ (((before ++ key) ++ between) ++ stripe) ++ after → rest ≡ between ++ stripe
  was_made stripe is =
      let in_rest = append_cancel_right at.in_rest (((before ++ key) ++ between) ++ stripe) after (sym at.is_name ∙ is) in
      let in_key = append_cancel_left before at.in_key (key ++ (between ++ stripe))
      (sym at.is_rest ∙ in_rest ∙ from_the_beginning before key between stripe) in
      append_cancel_left key rest (between ++ stripe) (sym at.is_key ∙ in_key)

  pub found : (o : Option (Bor (List ℕ)))
      → MatchOption o ((stripe : List ℕ) → rest ≢ between ++ stripe) (λ stripe. rest ≡ between ++ stripe.now)
      → MatchOption o ((stripe : List ℕ) → name ≢ (((before ++ key) ++ between) ++ stripe) ++ after)
      (λ stripe. name ≡ (((before ++ key) ++ between) ++ stripe.now) ++ after)
  found None none = λ stripe is. none stripe (was_made stripe is)
  found (Some stripe) is = is_made stripe.now is

-- where the stripe comes first: the key before the text at the end isn't there, or the text before the key
pub lacks_key_at_end : (name before key between after rest : List ℕ) → name ≡ rest ++ after → ((more : List ℕ) → rest ≢ more ++ key)
    → (stripe : List ℕ) → name ≢ (((before ++ stripe) ++ between) ++ key) ++ after
lacks_key_at_end name before key between after rest is lacks stripe made = lacks ((before ++ stripe) ++ between)
    (append_cancel_right rest (((before ++ stripe) ++ between) ++ key) after (sym is ∙ made))

pub lacks_between : (name before key between after rest in_rest : List ℕ) → name ≡ rest ++ after → rest ≡ in_rest ++ key
    → ((more : List ℕ) → in_rest ≢ more ++ between) → (stripe : List ℕ) → name ≢ (((before ++ stripe) ++ between) ++ key) ++ after
lacks_between name before key between after rest in_rest is is_rest lacks stripe made =
    let whole = append_cancel_right rest (((before ++ stripe) ++ between) ++ key) after (sym is ∙ made) in
    lacks (before ++ stripe) (append_cancel_right in_rest ((before ++ stripe) ++ between) key (sym is_rest ∙ whole))

-- and a name of which all but the text before a stripe was taken away from the end
pub record IsBeforeKey (name key between after rest : List ℕ) : Type 0 where
  pub in_rest : List ℕ
  pub in_key : List ℕ
  pub is_name : name ≡ in_rest ++ after
  pub is_rest : in_rest ≡ in_key ++ key
  pub is_key : in_key ≡ rest ++ between

module _ (name before key between after rest : List ℕ) (at : IsBeforeKey name key between after rest) where
  pub is_made_first : (stripe : List ℕ) → rest ≡ before ++ stripe → name ≡ (((before ++ stripe) ++ between) ++ key) ++ after
  is_made_first stripe is = at.is_name ∙ ap (λ t. t ++ after) (at.is_rest ∙ ap (λ t. t ++ key) (at.is_key ∙ ap (λ t. t ++ between) is))

  pub was_made_first : (stripe : List ℕ) → name ≡ (((before ++ stripe) ++ between) ++ key) ++ after → rest ≡ before ++ stripe
  was_made_first stripe is =
      let in_rest = append_cancel_right at.in_rest (((before ++ stripe) ++ between) ++ key) after (sym at.is_name ∙ is) in
      let in_key = append_cancel_right at.in_key ((before ++ stripe) ++ between) key (sym at.is_rest ∙ in_rest) in
      append_cancel_right rest (before ++ stripe) between (sym at.is_key ∙ in_key)

  pub found_first : (o : Option (Bor (List ℕ)))
      → MatchOption o ((stripe : List ℕ) → rest ≢ before ++ stripe) (λ stripe. rest ≡ before ++ stripe.now)
      → MatchOption o ((stripe : List ℕ) → name ≢ (((before ++ stripe) ++ between) ++ key) ++ after)
      (λ stripe. name ≡ (((before ++ stripe.now) ++ between) ++ key) ++ after)
  found_first None none = λ stripe is. none stripe (was_made_first stripe is)
  found_first (Some stripe) is = is_made_first stripe.now is
