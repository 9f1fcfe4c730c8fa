use Rattle.std.proofs.Common.{◌∙◌, subst, sym}
use Rattle.lrc_code.specs.Sets.{is_in}
use Rattle.store_repair.specs.Damage.{AreFits}
use Rattle.store_repair.specs.Mended.{IsConsistency}
use Rattle.store_repair.proofs.SuspectLemmas.{are_suspects}
use Rattle.store_repair.proofs.WindowLemmas.{shown_length}
use Rattle.store_repair.proofs.damage.find_damaged.Goals as goal

pub returns-in-Nowhere : goal.returns-in-Nowhere
returns-in-Nowhere g c = λ at are whole.
    let s = c.args.survivors.now in (
      subst (IsConsistency s.code (is_in s.set) at s.length) c.if-branch.false (c.in_ok-are_consistent.ensures at are whole),
      subst (AreFits s.code (is_in s.set) at s.length) c.in-Nowhere.is (c.in_ok-fits_without_one.ensures at are whole),
    )

pub returns-in-Only : goal.returns-in-Only
returns-in-Only g c = λ at are whole.
    let s = c.args.survivors.now in
    c.damage_beside.ensures at s.length whole are.bytes (sym (shown_length g.F.Fragment.shown s.fragments.now at are) ∙ c.requires)
    (subst (IsConsistency s.code (is_in s.set) at s.length) c.if-branch.false (c.in_ok-are_consistent.ensures at are whole))
    (subst (AreFits s.code (is_in s.set) at s.length) c.in-Only.is (c.in_ok-fits_without_one.ensures at are whole))

pub returns-in-Several : goal.returns-in-Several
returns-in-Several g c = λ at are whole.
    let s = c.args.survivors.now in
    let fits = subst (AreFits s.code (is_in s.set) at s.length) c.in-Several.is (c.in_ok-fits_without_one.ensures at are whole) in
    are_suspects s.code (is_in s.set) at s.length whole are.bytes
    (sym (shown_length g.F.Fragment.shown s.fragments.now at are) ∙ c.requires)
    (subst (IsConsistency s.code (is_in s.set) at s.length) c.if-branch.false (c.in_ok-are_consistent.ensures at are whole))
    c.in-Several.place fits.0 fits.1.0 fits.1.1 c.other_suspects.result _ c.with.ensures c.other_suspects.ensures tt
