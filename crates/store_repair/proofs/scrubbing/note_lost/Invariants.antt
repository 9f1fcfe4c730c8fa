use Rattle.std.proofs.Common.{◌≡◌, ◌<◌, ℕ, get_or}
use Rattle.std.specs.Prelude.{Contains}
use Rattle.lrc_code.specs.declared.places.Place.{Place}
use Rattle.store_repair.specs.Findings.{named}
use Rattle.store_repair.specs.Scrubbed.{said_damaged}
use Rattle.store_repair.proofs.scrubbing.note_lost.Given as goal

abbrev pub invariant-loop-place : goal.invariant-loop-place
invariant-loop-place l =
    record {
      said : said_damaged l.findings.items ≡ said_damaged l.fn.findings.items;
      each : (k : ℕ) (d : Place) → k < l.place-index → Contains (named l.findings.items) (get_or l.place-items k d);
    }
