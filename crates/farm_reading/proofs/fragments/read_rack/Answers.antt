use Rattle.std.proofs.Common.{◌≡◌, ◌∙◌, ◌≤◌, Bor, Vec, Global, List, ap, arith, length, map, subst, sym}
use Rattle.farm_reading.specs.Limits.{rack_answers}
use Rattle.std.proofs.lemmas.Simd.{map-map}
use Rattle.farm_lists.specs.Requests.{listed_before_close}
use Rattle.farm_lists.specs.declared.listing.Record.{Record}
use Rattle.farm_reading.specs.Pieces.{record_count, through_close}
use Rattle.farm_reading.specs.Reading.{AreRackReads, orders_rack, rack_read}
use Rattle.farm_reading.proofs.Pieces.{count_few, counts_through, each_few, orders_counted, orders_same, reads_same, requests_same}
use Rattle.farm_reading.proofs.fragments.read_rack.Goals as goal
use Rattle.farm_reading.proofs.fragments.read_rack.Goals.{After-as_slice}

abbrev lent : Bor (List Record) → List Record
lent l = l.now

-- the lists that are read are the rack's up to their closes
the_lists : (g : Rattle.farm_reading.proofs.fragments.read_rack.Given.Over) (c : After-as_slice g)
    → map lent c.as_slice.result.now ≡ map (λ (l : Vec Record Global). through_close l.items) c.args.lists.now
the_lists g c = ap (map lent) c.as_slice.ensures.value ∙ c.in_ok-whole.ensures

-- and their records are few
few : (g : Rattle.farm_reading.proofs.fragments.read_rack.Given.Over) (c : After-as_slice g)
    → record_count (map lent c.as_slice.result.now) ≤ rack_answers
few g c =
    let same = ap record_count (the_lists g c) in
    omega (arith, same, count_few c.args.lists.now c.requires.orders, c.requires.feeds)

pub read_piece-requires-clause-room : goal.read_piece-requires-clause-room
read_piece-requires-clause-room g c κs within = omega (arith, few g c, c.requires.room)

pub read_piece-requires-clause-orders : goal.read_piece-requires-clause-orders
read_piece-requires-clause-orders g c κs within = each_few c.as_slice.result.now c.args.lists.now (the_lists g c) c.requires.orders

pub returns-in_err-read-clause-few : goal.returns-in_err-read-clause-few
returns-in_err-read-clause-few g c = omega (
  arith,
  few g (goal.at.returns-in_err-read-clause-few g c).After-as_slice,
  c.in_err-read.ensures.few,
)

pub returns-clause-few : goal.returns-clause-few
returns-clause-few g c = omega (arith, few g (goal.at.returns-clause-few g c).After-as_slice, c.in_ok-read.ensures.few)

pub returns-clause-read : goal.returns-clause-read
returns-clause-read g c =
    let same = the_lists g (goal.at.returns-clause-read g c).After-as_slice in
    let (reads, are, rose, shown) = c.in_ok-read.ensures.read in (
      reads,
      reads_same c.args.lists.now reads (subst (λ (ls : List (List Record)). AreRackReads ls reads) same are),
      rose,
      λ there e.
          let t = shown there e in (
            t.0 ∙ ap (λ (ls : List (List Record)). orders_rack there ls reads) same ∙ orders_same there c.args.lists.now reads,
            t.1 ∙ ap (λ (ls : List (List Record)). rack_read there ls reads) same ∙ requests_same there c.args.lists.now reads,
          ),
    )

pub returns-clause-orders : goal.returns-clause-orders
returns-clause-orders g c =
    let same = the_lists g (goal.at.returns-clause-orders g c).After-as_slice in
    orders_counted (map lent c.as_slice.result.now) c.in_ok-read.read.0.items c.in_ok-read.ensures.orders
    ∙ ap (map (λ (l : List Record). length (listed_before_close l))) same
    ∙ counts_through c.args.lists.now

pub returns-clause-counted : goal.returns-clause-counted
returns-clause-counted g c =
    let same = the_lists g (goal.at.returns-clause-counted g c).After-as_slice in
    c.in_ok-read.ensures.counted
    ∙ sym (map-map (λ (l : List Record). length (listed_before_close l)) lent c.as_slice.result.now)
    ∙ ap (map (λ (l : List Record). length (listed_before_close l))) same
    ∙ counts_through c.args.lists.now
