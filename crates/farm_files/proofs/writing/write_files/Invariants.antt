use Rattle.std.proofs.Common.{◌≡◌, take, map, option_map}
use Rattle.farm_shelves.specs.Files.{put_all}
use Rattle.farm_reports.specs.Named.{named}
use Rattle.farm_files.proofs.writing.write_files.Given as goal

abbrev pub invariant-loop-file : goal.invariant-loop-file
invariant-loop-file g l =
    record {
      put : g.O.Shelf.files l.output ≡ option_map (λ old. put_all old (take l.file-index (map named l.files)))
          (g.O.Shelf.files l.fn.output);
      calm : g.O.Shelf.failed l.output ≡ g.O.Shelf.failed l.fn.output;
    }
