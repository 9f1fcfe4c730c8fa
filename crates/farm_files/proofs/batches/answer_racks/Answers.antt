use Rattle.std.proofs.Common.{◌∙◌}
use Rattle.farm_files.proofs.AnsweredRacks.{requests_counted}
use Rattle.farm_files.proofs.batches.answer_racks.Goals as goal

pub returns-clause-answered : goal.returns-clause-answered
returns-clause-answered g c =
    let (reads, are, rose, shown) = c.in_ok-feeds.ensures.read in (
      reads,
      record {
        read = are;
        orders = c.in_ok-feeds.feeds;
        ordered = c.in_ok-feeds.ensures.orders;
        merged = c.in_ok-answers.ensures.answers;
        counted = requests_counted c.in_ok-feeds.requests.items ∙ c.in_ok-feeds.ensures.counted;
        given = shown;
      },
      c.in_ok-answers.ensures.calm ∙ rose,
    )
