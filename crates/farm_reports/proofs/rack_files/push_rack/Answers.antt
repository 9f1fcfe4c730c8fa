use Rattle.std.proofs.Common.{◌≡◌, ◌++◌, ◌∙◌, Vec, Global, map, subst, ap}
use Rattle.std.specs.Prelude.{OnOk}
use Rattle.farm_reports.specs.Named.{named}
use Rattle.farm_lists.specs.Requests.{read_of}
use Rattle.farm_reports.specs.Report.{row_of}
use Rattle.farm_reports.specs.Rows.{rack_rows, rack_shape}
use Rattle.farm_reports.specs.Written.{answered_files, rack_files}
use Rattle.farm_lists.specs.declared.requests.ReadRequest.{ReadRequest}
use Rattle.farm_reports.proofs.MakingAll.{digests_alike}
use Rattle.farm_reports.proofs.rack_files.push_rack.Goals as goal

pub push_rows-requires : goal.push_rows-requires
push_rows-requires c =
    digests_alike (λ r. r.outcome.now) c.as_slice.result.now c.args.answers.now c.args.digests.now
    (ap (map (λ r. r.outcome.now)) c.as_slice.ensures.value ∙ c.in_ok-rows.ensures.outcomes) c.requires.digests

pub returns : goal.returns
returns c =
    let requests = map (λ (rs : Vec ReadRequest Global). map read_of rs.items) c.args.requests.now in
    let rows : map row_of c.as_slice.result.now ≡ rack_rows requests c.args.answers.now =
    ap (map row_of) c.as_slice.ensures.value ∙ c.in_ok-rows.ensures.rows in
    let same : rack_files c.args.rack c.rack_shape-shape.result (map row_of c.as_slice.result.now)
    ≡ answered_files c.args.rack requests c.args.answers.now =
    ap (λ s. rack_files c.args.rack s (map row_of c.as_slice.result.now)) c.rack_shape-shape.ensures
    ∙ ap (rack_files c.args.rack (rack_shape requests)) rows in
    subst (λ files. OnOk c.push_rows.result (map named c.push_rows.new.files.items
    ≡ map named c.args.files.now.items ++ files)) same c.push_rows.ensures
