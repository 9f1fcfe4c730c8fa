-- What is counted and what is left to count are all.
use Rattle.std.proofs.Common.{◌≡◌, ◌+◌, count_by}
use Rattle.std.specs.BTreeMap.{values}
use Rattle.lrc_code.specs.declared.codes.Code.TheVariants.{Narrow, Wide}
use Rattle.store_listing.specs.Votes.{says}
use Rattle.store_listing.proofs.stripe_names.StripeNames.by_places.Given as goal

abbrev pub invariant-loop-files : goal.invariant-loop-files
invariant-loop-files l = (l.votes.narrow + count_by (says Narrow l.doubtful_is) l.files-iterator
    ≡ count_by (says Narrow l.doubtful_is) (values l.self.files))
    × (l.votes.wide + count_by (says Wide l.doubtful_is) l.files-iterator
    ≡ count_by (says Wide l.doubtful_is) (values l.self.files))
