use Rattle.std.proofs.Common.{◌<◌, ℕ, get_or}
use Rattle.std.specs.Prelude.{Contains}
use Rattle.lrc_code.specs.declared.places.Place.{Place}
use Rattle.store_repair.specs.Findings.{NamesStay, named}
use Rattle.store_repair.proofs.making.note_all.Given as goal

abbrev pub invariant-loop-place : goal.invariant-loop-place
invariant-loop-place l =
    record {
      each : (k : ℕ) (d : Place) → k < l.place-index → Contains (named l.findings.items) (get_or l.places k d);
      stay : NamesStay l.fn.findings.items l.findings.items;
    }
