use Rattle.std.proofs.Common.{◌≡◌, ◌<◌, ◌≤◌, ◌-◌, vec_len}
use Rattle.lrc_code.specs.declared.places.Place.{Place}
use Rattle.lrc_code.specs.Places.{index_of}
use Rattle.lrc_code.specs.Sets.{is_in}
use Rattle.store_repair.specs.Findings.{NamesStay}
use Rattle.store_repair.specs.Opened.{AreFound, AreOpened}
use Rattle.store_repair.specs.Repaired.{IsOpenedOrNamed}
use Rattle.store_repair.specs.Scrubbed.{said_damaged}
use Rattle.store_repair.proofs.opening.open_all.Given as goal

abbrev pub invariant-places : goal.invariant-places
invariant-places g l =
    record {
      bound : vec_len l.fragments ≤ 16;
      said : said_damaged l.findings.items ≡ said_damaged l.fn.findings.items;
      stay : NamesStay l.fn.findings.items l.findings.items;
      named : (p : Place) → index_of p < vec_len l.fragments
          → IsOpenedOrNamed l.fn.code l.fn.stripe.files.found l.fn.length (is_in l.set) l.findings.items p;
      found : AreFound l.fn.code l.fn.stripe.files.found l.fn.length (is_in l.set);
      opened : AreOpened g.S.Survivor.Fragment.shown l.fn.code l.fn.stripe.name.now l.fn.length (g.S.Store.files l.fn.store) l.set
          l.fragments.items;
    }

abbrev pub decreases-places : goal.decreases-places
decreases-places g l = 16 - vec_len l.fragments
