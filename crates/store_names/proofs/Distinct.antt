-- Different stripes or places have different names.
use Rattle.std.proofs.Common.{◌≡◌, ◌∙◌, sym, ap, ℕ, Bool, true, false, List, ◌++◌, Some, append_assoc}
use Rattle.std.specs.Prelude.{if◌then◌else◌}
use Rattle.std.proofs.lemmas.List.{append_cancel_left, append_cancel_right}
use Rattle.store_names.specs.declared.patterns.Pattern.{Pattern}
use Rattle.store_names.specs.Patterns.{keeps_apart}
use Rattle.store_names.specs.Names.{name_with}
use Rattle.store_names.specs.Laws.{NamesDiffer}
use Rattle.store_names.proofs.Keys.{key_looks, same_key, same_place}

regroup : (before first between second : List ℕ) → ((before ++ first) ++ between) ++ second ≡ before ++ ((first ++ between) ++ second)
regroup before first between second = simp append_assoc

-- what is between the beginning and the end of a pattern's names
middle_same : (p : Pattern) (s t a b : List ℕ) → name_with p s a ≡ name_with p t b
    → (if p.is_stripe_first then s else a) ++ p.between.now ++ (if p.is_stripe_first then a else s)
    ≡ (if p.is_stripe_first then t else b) ++ p.between.now ++ (if p.is_stripe_first then b else t)
middle_same p s t a b is =
    let before = p.before.now in
    let one = (if p.is_stripe_first then s else a) in
    let two = (if p.is_stripe_first then a else s) in
    let three = (if p.is_stripe_first then t else b) in
    let four = (if p.is_stripe_first then b else t) in
    append_cancel_left before _ _ (sym (regroup before one p.between.now two)
    ∙ append_cancel_right (((before ++ one) ++ p.between.now) ++ two) (((before ++ three) ++ p.between.now) ++ four) p.after.now is
    ∙ regroup before three p.between.now four)

-- the stripes, where the keys are the same
same_in_middle : (is_first : Bool) (between key s t : List ℕ) → (if is_first then s else key) ++ between ++ (if is_first then key else s)
    ≡ (if is_first then t else key) ++ between ++ (if is_first then key else t) → s ≡ t
same_in_middle true between key s t is =
    append_cancel_right s t between (append_cancel_right (s ++ between) (t ++ between) key is)
same_in_middle false between key s t is = append_cancel_left (key ++ between) s t is

pub same_stripe : (p : Pattern) (s t key : List ℕ) → name_with p s key ≡ name_with p t key → s ≡ t
same_stripe p s t key is = same_in_middle p.is_stripe_first p.between.now key s t (middle_same p s t key key is)

pub names_differ : (p : Pattern) → keeps_apart p.naming p.is_stripe_first p.between.now ≡ true → NamesDiffer p
names_differ p apart code s t place other name one two =
    let is : name_with p s one.key ≡ name_with p t two.key = sym one.is ∙ two.is in
    let key : one.key ≡ two.key = same_key p.naming p.is_stripe_first p.between.now one.key two.key s t apart
    (key_looks p.naming p.layout code place one.key one.is_key) (key_looks p.naming p.layout code other two.key two.is_key)
    (middle_same p s t one.key two.key is) in (
      same_stripe p s t one.key (is ∙ ap (name_with p t) (sym key)),
      same_place p.naming p.layout code place other one.key one.is_key (two.is_key ∙ ap (λ k. Some k) (sym key)),
    )
