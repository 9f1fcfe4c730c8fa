-- A slot is of the rack and the feed that it was made of.
use Rattle.std.proofs.Common.{◌≡◌, ℕ, ◌<◌, List, ap, ◌∙◌, get_or}
use Rattle.std.specs.List.{All}
use Rattle.std.proofs.lemmas.Nat.{div-mul-add, mod-mul-add}
use Rattle.farm_threads.specs.declared.jobs.Job.{Job}
use Rattle.farm_threads.specs.declared.jobs.Job.TheVariants.{Solve, Stop}
use Rattle.farm_threads.specs.Jobs.{IsOfSlot, IsOfFeed}
use Rattle.farm_threads.specs.RunFeeds.{slot_of, slot_rack, slot_feed}

rack_is : (rack feed : ℕ) → feed < 4 → slot_rack (slot_of rack feed) ≡ rack
unfolding slot_of slot_rack
rack_is rack feed few = div-mul-add rack 4 feed few

feed_is : (rack feed : ℕ) → feed < 4 → slot_feed (slot_of rack feed) ≡ feed
unfolding slot_of slot_feed
feed_is rack feed few = mod-mul-add rack 4 feed few

job_of_feed : (rack feed : ℕ) → feed < 4 → (job : Job) → IsOfSlot (slot_of rack feed) job → IsOfFeed rack feed job
job_of_feed rack feed few (Solve slot number request) is =
    (ap slot_rack is ∙ rack_is rack feed few, ap slot_feed is ∙ feed_is rack feed few)
job_of_feed rack feed few Stop is = absurd is

-- the jobs of a feed's slot are that feed's
pub jobs_of_feed : (rack feed : ℕ) → feed < 4 → (jobs : List Job) → All (IsOfSlot (slot_of rack feed)) jobs → All (IsOfFeed rack feed) jobs
jobs_of_feed rack feed few jobs all = λ i d low. job_of_feed rack feed few (get_or jobs i d) (all i d low)
