use Rattle.std.proofs.Common.{◌≡◌, ◌+◌, ◌∙◌, ◌++◌, List, Option, Vec, Global, ℕ, ap, sym, subst, arith, length, map, drop, flat_map, get_or}
use Rattle.lrc_code.specs.declared.outcomes.Outcome.{Outcome}
use Rattle.farm_reports.specs.Named.{named}
use Rattle.farm_lists.specs.Requests.{read_of}
use Rattle.farm_reports.specs.Report.{fragment_digest}
use Rattle.farm_reports.specs.Rows.{FitsFeeds}
use Rattle.farm_reports.specs.Written.{answered_files}
use Rattle.farm_lists.specs.declared.requests.ReadRequest.{ReadRequest}
use Rattle.farm_reports.proofs.MakingAll.{all_zip-at, all_zip-length, files_done, files_step}
use Rattle.farm_reports.proofs.RackDigests.{rack_dropped, rack_first, rack_fits, rack_taken}
use Rattle.farm_reports.proofs.rack_files.make_files.Goals as goal
use Rattle.farm_reports.proofs.rack_files.make_files.Goals.{After-as_slice-outcomes}
use Rattle.farm_reports.proofs.rack_files.make_files.Given.{Over}

-- how many requests each feed has
abbrev counts : List (Vec ReadRequest Global) → List ℕ
counts feeds = map (λ (rs : Vec ReadRequest Global). length rs.items) feeds

-- the digests of the racks after
rest : (g : Over) (c : After-as_slice-outcomes g) → List (Option (List ℕ))
rest g c = flat_map (λ (rack : Vec (ℕ × Outcome) Global). map (λ a. fragment_digest a.1) rack.items)
    (drop (c.loop-rack.rack + 1) c.args.answers.now)

-- the digests that are left begin with the rack's
left_is : (g : Over) (c : After-as_slice-outcomes g) → c.loop-rack.digests_left.now
    ≡ map (λ a. fragment_digest a.1) c.index-answers-rack.result.items ++ rest g c
unfolding rest
left_is g c =
    rack_first c.args.answers.now c.loop-rack.rack c.index-answers-rack.result c.loop-rack.digests_left.now
    (omega (
      arith,
      all_zip-length _ c.args.racks.now c.args.answers.now c.requires.answers,
      c.loop-rack-test.true,
    )) c.index-answers-rack.is c.loop-rack.invariant.left

outcomes_counted : (g : Over) (c : After-as_slice-outcomes g)
    → length c.as_slice-outcomes.result.now ≡ length c.index-answers-rack.result.items
outcomes_counted g c = ap (λ (os : List (ℕ × Outcome)). length os) c.as_slice-outcomes.ensures.value

pub loop-rack-init : goal.loop-rack-init
loop-rack-init g c = record {
  made = ap (map named) c.new-files.ensures.items;
  left = c.as_slice-digests_left.ensures.value ∙ c.in_ok-digests.ensures;
}

pub bounds-answers-rack : goal.bounds-answers-rack
bounds-answers-rack g c = omega (arith, all_zip-length _ c.args.racks.now c.args.answers.now c.requires.answers, c.loop-rack-test.true)

pub split_at-requires : goal.split_at-requires
split_at-requires g c =
    let at = (goal.at.split_at-requires g c).After-as_slice-outcomes in
    rack_fits (rest g at) c.index-answers-rack.result.items (length c.as_slice-outcomes.result.now) c.loop-rack.digests_left.now
    (left_is g at) (outcomes_counted g at)

pub push_rack-requires-clause-answers : goal.push_rack-requires-clause-answers
push_rack-requires-clause-answers g c =
    let fits = all_zip-at (λ (feeds : Vec (Vec ReadRequest Global) Global) (os : Vec (ℕ × Outcome) Global). FitsFeeds (counts feeds.items)
    (map (λ a. a.0) os.items)) c.args.racks.now c.args.answers.now c.loop-rack.rack
    c.index-racks-rack.result c.index-answers-rack.result c.loop-rack-test.true c.requires.answers in
    subst (λ fs. FitsFeeds (counts fs) (map (λ a. a.0) c.as_slice-outcomes.result.now)) (sym c.as_slice.ensures.value)
    (subst (λ os. FitsFeeds (counts c.index-racks-rack.result.items) (map (λ a. a.0) os)) (sym c.as_slice-outcomes.ensures.value)
    (subst (λ (feeds : Vec (Vec ReadRequest Global) Global). FitsFeeds (counts feeds.items)
    (map (λ a. a.0) c.index-answers-rack.result.items)) (sym c.index-racks-rack.is)
    (subst (λ (os : Vec (ℕ × Outcome) Global). FitsFeeds (counts (get_or c.args.racks.now c.loop-rack.rack c.index-racks-rack.result).items)
    (map (λ a. a.0) os.items)) (sym c.index-answers-rack.is) fits)))

pub push_rack-requires-clause-digests : goal.push_rack-requires-clause-digests
push_rack-requires-clause-digests g c =
    let at = (goal.at.push_rack-requires-clause-digests g c).After-as_slice-outcomes in
    rack_taken c.split_at.result.0.now (rest g at) c.index-answers-rack.result.items
    (length c.as_slice-outcomes.result.now) c.loop-rack.digests_left.now (left_is g at) (outcomes_counted g at)
    c.split_at.ensures.front
    ∙ ap (map (λ a. fragment_digest a.1)) (sym c.as_slice-outcomes.ensures.value)

pub loop-rack-preserved : goal.loop-rack-preserved
unfolding rest
loop-rack-preserved g c =
    let at = (goal.at.loop-rack-preserved g c).After-as_slice-outcomes in
    let requests = λ (feeds : List (Vec ReadRequest Global)). map (λ (rs : Vec ReadRequest Global). map read_of rs.items) feeds in
    record {
      made =
          files_step c.args.racks.now c.args.answers.now c.loop-rack.rack c.index-racks-rack.result c.index-answers-rack.result
          (map named c.loop-rack.files.items) (map named c.push_rack.new.files.items) c.loop-rack-test.true
          (all_zip-length _ c.args.racks.now c.args.answers.now c.requires.answers) c.index-racks-rack.is c.index-answers-rack.is
          c.loop-rack.invariant.made
          (c.in_ok-push_rack.ensures
          ∙ ap (λ t. map named c.loop-rack.files.items ++ t)
          (ap (λ fs. answered_files c.loop-rack.rack (requests fs) c.as_slice-outcomes.result.now) c.as_slice.ensures.value
          ∙ ap (λ os. answered_files c.loop-rack.rack (requests c.index-racks-rack.result.items) os) c.as_slice-outcomes.ensures.value));
      left = rack_dropped c.split_at.result.1.now (rest g at) c.index-answers-rack.result.items
          (length c.as_slice-outcomes.result.now) c.loop-rack.digests_left.now (left_is g at) (outcomes_counted g at)
          c.split_at.ensures.back;
    }

pub returns : goal.returns
returns g c =
    files_done c.args.racks.now c.args.answers.now c.loop-rack.rack (map named c.loop-rack.files.items)
    (omega (arith, c.loop-rack-test.false))
    (all_zip-length _ c.args.racks.now c.args.answers.now c.requires.answers) c.loop-rack.invariant.made
