use Rattle.std.proofs.Common.{◌≡◌, ◌∙◌, sym, ap, refl, subst, ℕ, List, get_or, arith}
use borrow.Author.Count.{below_more}
use Rattle.lrc_code.specs.declared.places.Place.{Place}
use Rattle.lrc_code.specs.declared.places.Place.TheVariants.{X0}
use Rattle.lrc_code.specs.Places.{all_places, index_of}
use Rattle.store_names.specs.Names.{IsMade}
use Rattle.store_names.proofs.AllPlaces.{at_index, index_below}
use Rattle.store_names.proofs.Distinct.{names_differ}
use Rattle.store_names.proofs.patterns.Pattern.read.Goals as goal

pub returns-in-Some-clause-gives : goal.returns-in-Some-clause-gives
returns-in-Some-clause-gives c = λ stripe place is.
    names_differ c.args.self.now c.args.self.now.apart c.args.code c.in-Some.stripe.now stripe _ place c.args.name.now c.in-Some.ensures
    is.made

pub loop-place-preserved : goal.loop-place-preserved
loop-place-preserved c = λ place stripe lt made.
    let none = λ (k : ℕ). (other : Place) (s : List ℕ) → index_of other ≡ k
    → ¬ IsMade c.args.self.now c.args.code s other c.args.name.now in
    let i = c.loop-place.place-index in
    below_more none i (λ k below other s is. c.loop-place.invariant other s (omega arith))
    (λ other s is made. c.in_default.ensures s (subst (λ (q : Place). IsMade c.args.self.now c.args.code s q c.args.name.now)
    (sym (ap (λ n. get_or all_places n X0) (sym is) ∙ at_index other X0)) made))
    (index_of place) lt place stripe refl made

pub returns-clause-gives : goal.returns-clause-gives
returns-clause-gives c = λ stripe place is.
    let below = index_below place in c.loop-place.invariant place stripe (omega arith) is.made
