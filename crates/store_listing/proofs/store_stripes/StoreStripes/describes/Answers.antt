use Rattle.std.proofs.Common.{◌≡◌, ◌∙◌, arith, sym, true}
use Rattle.lrc_code.proofs.PlaceSums.{index_of-lt}
use Rattle.store_listing.specs.Stripes.{IsDescriptionOf, at_place}
use Rattle.store_listing.specs.Votes.{is_there}
use Rattle.store_listing.proofs.Places.{up_to_next}
use Rattle.store_listing.proofs.store_stripes.StoreStripes.describes.Goals as goal

pub loop-index-preserved : goal.loop-index-preserved
loop-index-preserved c = up_to_next (λ p. is_there (at_place c.args.files.now.found p) ≡ true
    → IsDescriptionOf c.args.self.now.described c.args.pattern.now c.args.code c.args.name.now p) c.loop-index.index
    c.nth_place-place.result c.nth_place-place.ensures c.loop-index.invariant
    (c.in_ok-is_description.ensures c.if-not-branch.false)

pub returns : goal.returns
returns c = λ yes. record {
  are_short = sym c.are_short.ensures ∙ c.if-not-are_short.false;
  each = λ p. c.loop-index.invariant p (let below = index_of-lt p in omega (arith, below));
}
