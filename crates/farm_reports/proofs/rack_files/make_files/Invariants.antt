use Rattle.std.proofs.Common.{◌≡◌, ℕ, take, drop, map, flat_map, Vec, Global}
use Rattle.lrc_code.specs.declared.outcomes.Outcome.{Outcome}
use Rattle.farm_lists.specs.declared.requests.ReadRequest.{ReadRequest}
use Rattle.farm_lists.specs.Requests.{read_of}
use Rattle.farm_reports.specs.Report.{fragment_digest}
use Rattle.farm_reports.specs.Named.{named}
use Rattle.farm_reports.specs.Written.{files_from}
use Rattle.farm_reports.proofs.rack_files.make_files.Given as goal

abbrev pub invariant-loop-rack : goal.invariant-loop-rack
invariant-loop-rack g l =
    record {
      made : map named l.files.items
          ≡ files_from 0 (map (λ (feeds : Vec (Vec ReadRequest Global) Global). map
          (λ (rs : Vec ReadRequest Global). map read_of rs.items) feeds.items) (take l.rack l.racks))
          (map (λ (v : Vec (ℕ × Outcome) Global). v.items) (take l.rack l.answers));
      left : l.digests_left ≡ flat_map (λ (rack : Vec (ℕ × Outcome) Global). map (λ a. fragment_digest a.1) rack.items)
          (drop l.rack l.answers);
    }
