use Rattle.std.proofs.Common.{◌≡◌, length, vec_len}
use Rattle.lrc_code.specs.declared.places.Place.{Place}
use Rattle.lrc_code.specs.Sets.{is_in}
use Rattle.store_repair.specs.Findings.{NamesStay}
use Rattle.store_repair.specs.Opened.{AreFound, AreOpened}
use Rattle.store_repair.specs.Repaired.{IsOpenedOrNamed}
use Rattle.store_repair.specs.Scrubbed.{said_damaged}
use Rattle.store_repair.proofs.opening.open_survivors.Given as goal

abbrev pub invariant-refused : goal.invariant-refused
invariant-refused g l =
    record {
      sixteen : length l.opened.fragments.items ≡ 16;
      long : l.opened.length ≡ l.fn.length;
      said : said_damaged l.findings.items ≡ said_damaged l.fn.findings.items;
      stay : NamesStay l.fn.findings.items l.findings.items;
      named : (p : Place) → IsOpenedOrNamed l.fn.code l.fn.stripe.files.found l.fn.length (is_in l.opened.set) l.findings.items p;
      found : AreFound l.fn.code l.fn.stripe.files.found l.fn.length (is_in l.opened.set);
      opened : AreOpened g.S.Survivor.Fragment.shown l.fn.code l.fn.stripe.name.now l.fn.length (g.S.Store.files l.fn.store)
          l.opened.set l.opened.fragments.items;
    }

abbrev pub decreases-refused : goal.decreases-refused
decreases-refused g l = vec_len l.refused
