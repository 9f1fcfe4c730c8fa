use Rattle.std.proofs.Common.{◌≢◌, ◌∙◌, [], ◌++◌, All, IfSome, refl, subst, sym, false, true≢false}
use Rattle.std.specs.Prelude.{◌⊎◌, Contains, IfNone}
use Rattle.lrc_code.specs.declared.places.Place.{Place}
use Rattle.store_repair.specs.Findings.{AreAllMended, named}
use Rattle.store_repair.specs.Repaired.{IsAccountedFor, IsShownOrAll, MayReplace, OnlyReplaces, SameBeside}
use Rattle.store_repair.proofs.NamedLemmas.{none_mended, settled_later}
use Rattle.store_repair.proofs.WholeLemmas.{is_whole, may_later, replaces_weaker}
use Rattle.lrc_code.specs.Sets.{is_in}
use Rattle.store_repair.specs.Opened.{AreMade}
use Rattle.stores.specs.Store.{AreUntouched}
use Rattle.store_repair.specs.Kept.{given_by}
use Rattle.store_repair.proofs.GivenLemmas.{given_none_mended, given_some_mended}
use Rattle.store_repair.proofs.KeptLemmas.{are_fit, either_after, none_done, none_given, off_with, some_done, some_given}
use Rattle.store_repair.proofs.RepairLemmas.{are_rebuilt, untouched_if, untouched_unless}
use Rattle.store_repair.proofs.SameLemmas.{none_rebuilt, replaces_same, untouched_same}
use Rattle.store_repair.proofs.ShownLemmas.{none_shown, shown_later}
use Rattle.std.proofs.lemmas.Result.{IfOk-from_err}
use Rattle.store_repair.proofs.repairing.repair_stripe.Goals as goal

pub returns-clause-rebuilt : goal.returns-clause-rebuilt
returns-clause-rebuilt g c =
    let made = c.in-Some-made.made in
    let shown = g.S.New.NewFragment.shown in
    let code = c.args.repair.now.code in
    let stripe = c.args.stripe.now.name.now in
    let old = g.S.Store.files c.args.store.now in
    let new = c.put_all.new.store in
    are_rebuilt shown code (is_in made.set) c.in-Some.length stripe made.places.items made.files.items old (g.S.Store.files new)
    c.in_ok-rebuilt.rebuilt.items
    (subst (λ o. IfSome o (λ m. AreMade shown code (is_in m.set) c.in-Some.length stripe old m.places.items m.files.items))
    c.in-Some-made.is c.in_ok-made.ensures.made)
    (λ f. g.met.S.Store.new_shown new f) c.in_ok-rebuilt.ensures.put

pub returns-clause-untouched : goal.returns-clause-untouched
returns-clause-untouched g c =
    let files = g.S.Store.files in
    let r = c.args.repair.now.replace_damaged in
    let s = c.args.stripe.now.name.now in
    let new = files c.put_all.new.store in
    subst (λ old. AreUntouched r s old new) c.make_lost.ensures.same
    (untouched_if r c.in-Some-made.made.is_checked s (files c.make_lost.new.store) new c.put_all.ensures.untouched)

pub returns-clause-unchecked : goal.returns-clause-unchecked
returns-clause-unchecked g c = λ off.
    let files = g.S.Store.files in
    let r = c.args.repair.now.replace_damaged in
    let s = c.args.stripe.now.name.now in
    let new = files c.put_all.new.store in
    subst (λ old. AreUntouched false s old new) c.make_lost.ensures.same
    (untouched_unless r c.in-Some-made.made.is_checked s (files c.make_lost.new.store) new off c.put_all.ensures.untouched)

pub returns-in_err-known-clause-kept : goal.returns-in_err-known-clause-kept
returns-in_err-known-clause-kept g c = λ off.
    none_given g.S.Store.kept g.S.Store.kept_same g.S.Store.settled g.met.S.Store.settled_stays _ _ _ _ _
    (λ given from before. before)

pub returns-in_default-clause-kept : goal.returns-in_default-clause-kept
returns-in_default-clause-kept g c = λ off.
    none_given g.S.Store.kept g.S.Store.kept_same g.S.Store.settled g.met.S.Store.settled_stays _ _ _ _ _
    (λ given from before. before)

pub returns-in_err-made-clause-kept : goal.returns-in_err-made-clause-kept
returns-in_err-made-clause-kept g c = λ off.
    none_given g.S.Store.kept g.S.Store.kept_same g.S.Store.settled g.met.S.Store.settled_stays _ _ _ _ _
    c.make_lost.ensures.kept

pub returns-in_err-note_unknown-clause-kept : goal.returns-in_err-note_unknown-clause-kept
returns-in_err-note_unknown-clause-kept g c = λ off.
    none_given g.S.Store.kept g.S.Store.kept_same g.S.Store.settled g.met.S.Store.settled_stays _ _ _ _ _
    c.make_lost.ensures.kept

pub returns-in_err-settle-clause-kept : goal.returns-in_err-settle-clause-kept
returns-in_err-settle-clause-kept g c = λ off.
    none_given g.S.Store.kept g.S.Store.kept_same g.S.Store.settled g.met.S.Store.settled_stays _ _ _ _ _
    (λ given from before. c.settle.ensures.kept _ given from (c.make_lost.ensures.kept given from before))

pub returns-in_default-made-clause-kept : goal.returns-in_default-made-clause-kept
returns-in_default-made-clause-kept g c = λ off.
    none_given g.S.Store.kept g.S.Store.kept_same g.S.Store.settled g.met.S.Store.settled_stays _ _ _ _ _
    (λ given from before. c.settle.ensures.kept _ given from (c.make_lost.ensures.kept given from before))

pub returns-in_err-discard_all-clause-kept : goal.returns-in_err-discard_all-clause-kept
returns-in_err-discard_all-clause-kept g c = λ off.
    none_given g.S.Store.kept g.S.Store.kept_same g.S.Store.settled g.met.S.Store.settled_stays _ _ _ _ _
    (λ given from before. c.discard_all.ensures.kept _ given from (c.make_lost.ensures.kept given from before))

pub returns-in_err-settle-2-clause-kept : goal.returns-in_err-settle-2-clause-kept
returns-in_err-settle-2-clause-kept g c = λ off.
    none_given g.S.Store.kept g.S.Store.kept_same g.S.Store.settled g.met.S.Store.settled_stays _ _ _ _ _
    (λ given from before. c.settle-then-has_changed.ensures.kept _ given from (c.discard_all.ensures.kept _ given from
    (c.make_lost.ensures.kept given from before)))

pub returns-then-has_changed-clause-kept : goal.returns-then-has_changed-clause-kept
returns-then-has_changed-clause-kept g c = λ off.
    none_given g.S.Store.kept g.S.Store.kept_same g.S.Store.settled g.met.S.Store.settled_stays _ _ _ _ _
    (λ given from before. c.settle-then-has_changed.ensures.kept _ given from (c.discard_all.ensures.kept _ given from
    (c.make_lost.ensures.kept given from before)))

pub returns-in_err-rebuilt-clause-kept : goal.returns-in_err-rebuilt-clause-kept
returns-in_err-rebuilt-clause-kept g c = λ off.
    let made = c.in-Some-made.made in
    let code = c.args.repair.now.code in
    let stripe = c.args.stripe.now.name.now in
    let old = g.S.Store.files c.args.store.now in
    let shown = g.S.New.NewFragment.shown in
    some_given g.S.Store.kept g.S.Store.kept_same g.S.Store.settled g.met.S.Store.settled_stays
    code stripe old c.args.store.now c.put_all.new.store shown (is_in made.set)
    c.in-Some.length made.places.items made.files.items c.make_lost.new.store
    (subst (λ o. IfSome o (λ m. AreMade shown code (is_in m.set) c.in-Some.length stripe old m.places.items m.files.items))
    c.in-Some-made.is c.in_ok-made.ensures.made)
    c.make_lost.ensures.kept (c.put_all.ensures.kept (off_with c.args.repair.now.replace_damaged made.is_checked off))

pub returns-in_err-append-clause-kept : goal.returns-in_err-append-clause-kept
returns-in_err-append-clause-kept g c = λ off.
    let made = c.in-Some-made.made in
    let code = c.args.repair.now.code in
    let stripe = c.args.stripe.now.name.now in
    let old = g.S.Store.files c.args.store.now in
    let shown = g.S.New.NewFragment.shown in
    some_given g.S.Store.kept g.S.Store.kept_same g.S.Store.settled g.met.S.Store.settled_stays
    code stripe old c.args.store.now c.put_all.new.store shown (is_in made.set)
    c.in-Some.length made.places.items made.files.items c.make_lost.new.store
    (subst (λ o. IfSome o (λ m. AreMade shown code (is_in m.set) c.in-Some.length stripe old m.places.items m.files.items))
    c.in-Some-made.is c.in_ok-made.ensures.made)
    c.make_lost.ensures.kept (c.put_all.ensures.kept (off_with c.args.repair.now.replace_damaged made.is_checked off))

pub returns-clause-kept : goal.returns-clause-kept
returns-clause-kept g c = λ off.
    let made = c.in-Some-made.made in
    let code = c.args.repair.now.code in
    let stripe = c.args.stripe.now.name.now in
    let old = g.S.Store.files c.args.store.now in
    let shown = g.S.New.NewFragment.shown in
    some_given g.S.Store.kept g.S.Store.kept_same g.S.Store.settled g.met.S.Store.settled_stays
    code stripe old c.args.store.now c.put_all.new.store shown (is_in made.set)
    c.in-Some.length made.places.items made.files.items c.make_lost.new.store
    (subst (λ o. IfSome o (λ m. AreMade shown code (is_in m.set) c.in-Some.length stripe old m.places.items m.files.items))
    c.in-Some-made.is c.in_ok-made.ensures.made)
    c.make_lost.ensures.kept (c.put_all.ensures.kept (off_with c.args.repair.now.replace_damaged made.is_checked off))

pub returns-clause-replaced : goal.returns-clause-replaced
returns-clause-replaced g c =
    let files = g.S.Store.files in
    let r = c.args.repair.now.replace_damaged in
    let code = c.args.repair.now.code in
    let s = c.args.stripe.now.name.now in
    let found = c.args.stripe.now.files.found in
    let made = c.in-Some-made.made in
    let len = c.in-Some.length in
    let first = c.make_lost.new.findings.items in
    let later = c.put_all.new.later.items in
    let new = files c.put_all.new.store in
    let May = MayReplace r code (is_in made.set) made.is_checked len found in
    subst (λ findings. OnlyReplaces (May findings) s (files c.args.store.now) new) (sym c.in_ok-append.ensures.items)
    (subst (λ old. OnlyReplaces (May (first ++ later)) s old new) c.make_lost.ensures.same
    (replaces_weaker s (May first) (May (first ++ later)) (files c.make_lost.new.store) new
    (may_later r code (is_in made.set) made.is_checked len found first later)
    (subst (λ findings. OnlyReplaces (May findings) s (files c.make_lost.new.store) new) c.as_slice-2.ensures.value
    c.put_all.ensures.replaced)))

pub returns-clause-whole : goal.returns-clause-whole
returns-clause-whole g c = λ reads mended.
    let files = g.S.Store.files in
    let code = c.args.repair.now.code in
    let s = c.args.stripe.now.name.now in
    let made = c.in-Some-made.made in
    let len = c.in-Some.length in
    let places = made.places.items in
    let shown = g.S.New.NewFragment.shown in
    let first = c.make_lost.new.findings.items in
    let later = c.put_all.new.later.items in
    let rebuilt = c.in_ok-rebuilt.rebuilt.items in
    let old = files c.args.store.now in
    let new = files c.put_all.new.store in
    let are = subst (λ o. IfSome o (λ m. AreMade shown code (is_in m.set) len s old m.places.items m.files.items)) c.in-Some-made.is
    c.in_ok-made.ensures.made in
    is_whole shown code (is_in made.set) len s places made.files.items old new first later rebuilt are
    (are_rebuilt shown code (is_in made.set) len s places made.files.items old new rebuilt are
    (λ f. g.met.S.Store.new_shown c.put_all.new.store f) c.in_ok-rebuilt.ensures.put)
    (subst (λ files. SameBeside places s files new) c.make_lost.ensures.same c.put_all.ensures.beside)
    (subst (λ o. IfSome o (λ m. (p : Place) → IsAccountedFor code (is_in m.set) m.places.items first p)) c.in-Some-made.is
    (c.in_ok-made.ensures.all reads))
    (subst (λ findings. All (λ p. Contains rebuilt p ⊎ Contains (named findings ++ named later) p) places) c.as_slice-2.ensures.value
    c.in_ok-rebuilt.ensures.all)
    (subst (λ findings. AreAllMended findings rebuilt) c.in_ok-append.ensures.items mended)

pub returns-in_default-clause-whole : goal.returns-in_default-clause-whole
returns-in_default-clause-whole g c = λ reads mended. absurd (none_mended c.length_or_note.new.findings.items c.of.result.findings.items
    c.of.result.rebuilt.items c.of.ensures.findings c.of.ensures.rebuilt
    (subst (λ o. IfNone o (c.length_or_note.new.findings.items ≢ [])) c.in_default.is c.in_ok-known.ensures.some) mended)

pub returns-in_default-made-clause-whole : goal.returns-in_default-made-clause-whole
returns-in_default-made-clause-whole g c = λ reads mended. absurd (none_mended c.settle.new.findings.items
    c.of-in_default-made.result.findings.items c.of-in_default-made.result.rebuilt.items c.of-in_default-made.ensures.findings
    c.of-in_default-made.ensures.rebuilt
    (c.in_ok-settle.ensures.some (c.in_ok-note_unknown.ensures.some
    (subst (λ o. IfNone o (c.make_lost.new.findings.items ≢ [])) c.in_default-made.is c.in_ok-made.ensures.said))) mended)

pub returns-then-has_changed-clause-whole : goal.returns-then-has_changed-clause-whole
returns-then-has_changed-clause-whole g c = λ reads mended. absurd (none_mended c.settle-then-has_changed.new.findings.items
    c.of-then-has_changed.result.findings.items c.of-then-has_changed.result.rebuilt.items c.of-then-has_changed.ensures.findings
    c.of-then-has_changed.ensures.rebuilt
    (c.in_ok-settle-2.ensures.some (c.in_ok-discard_all.ensures.some
    (subst (λ fs. fs ≢ []) c.as_slice.ensures.value (c.has_changed.ensures c.if-has_changed.true)))) mended)

pub returns-in_default-clause-done : goal.returns-in_default-clause-done
returns-in_default-clause-done g c = λ so settled. none_done g.S.Store.settled _ _ _ _ c.of.result.rebuilt.items c.of.ensures.rebuilt

pub returns-in_default-made-clause-done : goal.returns-in_default-made-clause-done
returns-in_default-made-clause-done g c = λ so settled. none_done g.S.Store.settled _ _ _ _
    c.of-in_default-made.result.rebuilt.items c.of-in_default-made.ensures.rebuilt

pub returns-then-has_changed-clause-done : goal.returns-then-has_changed-clause-done
returns-then-has_changed-clause-done g c = λ so settled. none_done g.S.Store.settled _ _ _ _
    c.of-then-has_changed.result.rebuilt.items c.of-then-has_changed.ensures.rebuilt

pub returns-clause-done : goal.returns-clause-done
returns-clause-done g c = λ so settled.
    let made = c.in-Some-made.made in
    let code = c.args.repair.now.code in
    let stripe = c.args.stripe.now.name.now in
    let old = g.S.Store.files c.args.store.now in
    let shown = g.S.New.NewFragment.shown in
    some_done g.S.Store.settled code stripe old c.put_all.new.store shown (is_in made.set) c.in-Some.length made.places.items
    made.files.items c.in_ok-rebuilt.rebuilt.items
    (subst (λ o. IfSome o (λ m. AreMade shown code (is_in m.set) c.in-Some.length stripe old m.places.items m.files.items))
    c.in-Some-made.is c.in_ok-made.ensures.made)
    (c.in_ok-rebuilt.ensures.done (either_after g.S.Store.kept g.S.Store.kept_same g.S.Store.apart g.met.S.Store.kept_apart
    c.args.repair.now.replace_damaged made.is_checked stripe c.args.store.now c.make_lost.new.store c.make_lost.ensures.kept so)
    (settled_later _ c.make_lost.new.findings.items c.put_all.new.later.items c.in_ok-append.ensures.items settled))

pub returns-in_default-clause-shown : goal.returns-in_default-clause-shown
returns-in_default-clause-shown g c = λ reads. none_shown (g.S.Store.listed c.args.store.now c.args.stripe.now.name.now) _ _
    c.of.result.rebuilt.items c.of.result.findings.items c.of.ensures.rebuilt

pub returns-in_default-made-clause-shown : goal.returns-in_default-made-clause-shown
returns-in_default-made-clause-shown g c = λ reads. none_shown (g.S.Store.listed c.args.store.now c.args.stripe.now.name.now) _ _
    c.of-in_default-made.result.rebuilt.items c.of-in_default-made.result.findings.items c.of-in_default-made.ensures.rebuilt

pub returns-then-has_changed-clause-shown : goal.returns-then-has_changed-clause-shown
returns-then-has_changed-clause-shown g c = λ reads. none_shown (g.S.Store.listed c.args.store.now c.args.stripe.now.name.now) _ _
    c.of-then-has_changed.result.rebuilt.items c.of-then-has_changed.result.findings.items c.of-then-has_changed.ensures.rebuilt

pub returns-clause-shown : goal.returns-clause-shown
returns-clause-shown g c = λ reads.
    let made = c.in-Some-made.made in
    let code = c.args.repair.now.code in
    let stripe = c.args.stripe.now.name.now in
    let len = c.in-Some.length in
    let old = g.S.Store.files c.args.store.now in
    let new = g.S.Store.files c.put_all.new.store in
    let shown = g.S.New.NewFragment.shown in
    let listed = g.S.Store.listed c.args.store.now stripe in
    let first = c.make_lost.new.findings.items in
    let later = c.put_all.new.later.items in
    let rebuilt = c.in_ok-rebuilt.rebuilt.items in
    let places = made.places.items in
    let are = subst (λ o. IfSome o (λ m. AreMade shown code (is_in m.set) len stripe old m.places.items m.files.items)) c.in-Some-made.is
    c.in_ok-made.ensures.made in
    subst (λ findings. IsShownOrAll listed code (is_in made.set) rebuilt findings) (sym c.in_ok-append.ensures.items)
    (shown_later listed code (is_in made.set) shown stripe places made.files.items new rebuilt first later are.lengths
    c.in_ok-rebuilt.ensures.put
    (subst (λ findings. All (λ p. Contains rebuilt p ⊎ Contains (named findings ++ named later) p) places) c.as_slice-2.ensures.value
    c.in_ok-rebuilt.ensures.all)
    (subst (λ o. IfSome o (λ m. IsShownOrAll listed code (is_in m.set) m.places.items first)) c.in-Some-made.is
    (c.in_ok-made.ensures.shown reads)))

pub returns-in_err-known-clause-changed : goal.returns-in_err-known-clause-changed
returns-in_err-known-clause-changed g c =
    given_none_mended g.S.Store.kept g.S.Store.changed g.S.Store.kept_same g.met.S.Store.changed_then _ _ _ _
    (g.S.Store.changed_same _ _) _
    (λ given from before. before)

pub returns-in_default-clause-changed : goal.returns-in_default-clause-changed
returns-in_default-clause-changed g c =
    given_none_mended g.S.Store.kept g.S.Store.changed g.S.Store.kept_same g.met.S.Store.changed_then _ _ _ _
    (g.S.Store.changed_same _ _) _
    (λ given from before. before)

pub returns-in_err-made-clause-changed : goal.returns-in_err-made-clause-changed
returns-in_err-made-clause-changed g c =
    given_none_mended g.S.Store.kept g.S.Store.changed g.S.Store.kept_same g.met.S.Store.changed_then _ _ _ _
    (g.S.Store.changed_same _ _) _
    c.make_lost.ensures.kept

pub returns-in_err-note_unknown-clause-changed : goal.returns-in_err-note_unknown-clause-changed
returns-in_err-note_unknown-clause-changed g c =
    given_none_mended g.S.Store.kept g.S.Store.changed g.S.Store.kept_same g.met.S.Store.changed_then _ _ _ _
    (g.S.Store.changed_same _ _) _
    c.make_lost.ensures.kept

pub returns-in_err-settle-clause-changed : goal.returns-in_err-settle-clause-changed
returns-in_err-settle-clause-changed g c =
    given_none_mended g.S.Store.kept g.S.Store.changed g.S.Store.kept_same g.met.S.Store.changed_then _ _ _ _
    (g.S.Store.changed_same _ _) _
    (λ given from before. c.settle.ensures.kept _ given from (c.make_lost.ensures.kept given from before))

pub returns-in_default-made-clause-changed : goal.returns-in_default-made-clause-changed
returns-in_default-made-clause-changed g c =
    given_none_mended g.S.Store.kept g.S.Store.changed g.S.Store.kept_same g.met.S.Store.changed_then _ _ _ _
    (g.S.Store.changed_same _ _) _
    (λ given from before. c.settle.ensures.kept _ given from (c.make_lost.ensures.kept given from before))

pub returns-in_err-discard_all-clause-changed : goal.returns-in_err-discard_all-clause-changed
returns-in_err-discard_all-clause-changed g c =
    given_none_mended g.S.Store.kept g.S.Store.changed g.S.Store.kept_same g.met.S.Store.changed_then _ _ _ _
    (g.S.Store.changed_same _ _) _
    (λ given from before. c.discard_all.ensures.kept _ given from (c.make_lost.ensures.kept given from before))

pub returns-in_err-settle-2-clause-changed : goal.returns-in_err-settle-2-clause-changed
returns-in_err-settle-2-clause-changed g c =
    given_none_mended g.S.Store.kept g.S.Store.changed g.S.Store.kept_same g.met.S.Store.changed_then _ _ _ _
    (g.S.Store.changed_same _ _) _
    (λ given from before. c.settle-then-has_changed.ensures.kept _ given from (c.discard_all.ensures.kept _ given from
    (c.make_lost.ensures.kept given from before)))

pub returns-then-has_changed-clause-changed : goal.returns-then-has_changed-clause-changed
returns-then-has_changed-clause-changed g c =
    given_none_mended g.S.Store.kept g.S.Store.changed g.S.Store.kept_same g.met.S.Store.changed_then _ _ _ _
    (g.S.Store.changed_same _ _) _
    (λ given from before. c.settle-then-has_changed.ensures.kept _ given from (c.discard_all.ensures.kept _ given from
    (c.make_lost.ensures.kept given from before)))

pub returns-in_err-rebuilt-clause-changed : goal.returns-in_err-rebuilt-clause-changed
returns-in_err-rebuilt-clause-changed g c =
    let made = c.in-Some-made.made in
    let code = c.args.repair.now.code in
    let stripe = c.args.stripe.now.name.now in
    let old = g.S.Store.files c.args.store.now in
    let shown = g.S.New.NewFragment.shown in
    given_some_mended g.S.Store.kept g.S.Store.changed g.S.Store.kept_same g.met.S.Store.changed_then stripe code old c.args.store.now
    (g.S.Store.changed_same stripe c.args.store.now) (given_by shown made.places.items made.files.items) c.make_lost.new.store
    c.put_all.new.store (are_fit shown code (is_in made.set) c.in-Some.length stripe old made.places.items made.files.items
    (subst (λ o. IfSome o (λ m. AreMade shown code (is_in m.set) c.in-Some.length stripe old m.places.items m.files.items))
    c.in-Some-made.is c.in_ok-made.ensures.made))
    c.make_lost.ensures.kept c.put_all.ensures.changed

pub returns-in_err-append-clause-changed : goal.returns-in_err-append-clause-changed
returns-in_err-append-clause-changed g c =
    let made = c.in-Some-made.made in
    let code = c.args.repair.now.code in
    let stripe = c.args.stripe.now.name.now in
    let old = g.S.Store.files c.args.store.now in
    let shown = g.S.New.NewFragment.shown in
    given_some_mended g.S.Store.kept g.S.Store.changed g.S.Store.kept_same g.met.S.Store.changed_then stripe code old c.args.store.now
    (g.S.Store.changed_same stripe c.args.store.now) (given_by shown made.places.items made.files.items) c.make_lost.new.store
    c.put_all.new.store (are_fit shown code (is_in made.set) c.in-Some.length stripe old made.places.items made.files.items
    (subst (λ o. IfSome o (λ m. AreMade shown code (is_in m.set) c.in-Some.length stripe old m.places.items m.files.items))
    c.in-Some-made.is c.in_ok-made.ensures.made))
    c.make_lost.ensures.kept c.put_all.ensures.changed

pub returns-clause-changed : goal.returns-clause-changed
returns-clause-changed g c =
    let made = c.in-Some-made.made in
    let code = c.args.repair.now.code in
    let stripe = c.args.stripe.now.name.now in
    let old = g.S.Store.files c.args.store.now in
    let shown = g.S.New.NewFragment.shown in
    given_some_mended g.S.Store.kept g.S.Store.changed g.S.Store.kept_same g.met.S.Store.changed_then stripe code old c.args.store.now
    (g.S.Store.changed_same stripe c.args.store.now) (given_by shown made.places.items made.files.items) c.make_lost.new.store
    c.put_all.new.store (are_fit shown code (is_in made.set) c.in-Some.length stripe old made.places.items made.files.items
    (subst (λ o. IfSome o (λ m. AreMade shown code (is_in m.set) c.in-Some.length stripe old m.places.items m.files.items))
    c.in-Some-made.is c.in_ok-made.ensures.made))
    c.make_lost.ensures.kept c.put_all.ensures.changed

pub returns-in_err-rebuilt-clause-untouched : goal.returns-in_err-rebuilt-clause-untouched
returns-in_err-rebuilt-clause-untouched g c =
    let files = g.S.Store.files in
    let r = c.args.repair.now.replace_damaged in
    let s = c.args.stripe.now.name.now in
    let new = files c.put_all.new.store in
    subst (λ old. AreUntouched r s old new) c.make_lost.ensures.same
    (untouched_if r c.in-Some-made.made.is_checked s (files c.make_lost.new.store) new c.put_all.ensures.untouched)

pub returns-in_err-append-clause-untouched : goal.returns-in_err-append-clause-untouched
returns-in_err-append-clause-untouched g c =
    let files = g.S.Store.files in
    let r = c.args.repair.now.replace_damaged in
    let s = c.args.stripe.now.name.now in
    let new = files c.put_all.new.store in
    subst (λ old. AreUntouched r s old new) c.make_lost.ensures.same
    (untouched_if r c.in-Some-made.made.is_checked s (files c.make_lost.new.store) new c.put_all.ensures.untouched)

pub returns-in_err-known-clause-unchecked : goal.returns-in_err-known-clause-unchecked
returns-in_err-known-clause-unchecked g c = IfOk-from_err _ _ c.from_residual.ensures.0

pub returns-in_err-known-clause-checked : goal.returns-in_err-known-clause-checked
returns-in_err-known-clause-checked g c = IfOk-from_err _ _ c.from_residual.ensures.0

pub returns-in_err-known-clause-replaced : goal.returns-in_err-known-clause-replaced
returns-in_err-known-clause-replaced g c = IfOk-from_err _ _ c.from_residual.ensures.0

pub returns-in_err-known-clause-whole : goal.returns-in_err-known-clause-whole
returns-in_err-known-clause-whole g c = λ _. IfOk-from_err _ _ c.from_residual.ensures.0

pub returns-in_err-known-clause-shown : goal.returns-in_err-known-clause-shown
returns-in_err-known-clause-shown g c = λ _. IfOk-from_err _ _ c.from_residual.ensures.0

pub returns-in_err-known-clause-rebuilt : goal.returns-in_err-known-clause-rebuilt
returns-in_err-known-clause-rebuilt g c = IfOk-from_err _ _ c.from_residual.ensures.0

pub returns-in_err-known-clause-done : goal.returns-in_err-known-clause-done
returns-in_err-known-clause-done g c = λ _. IfOk-from_err _ _ c.from_residual.ensures.0

pub returns-in_err-made-clause-unchecked : goal.returns-in_err-made-clause-unchecked
returns-in_err-made-clause-unchecked g c = IfOk-from_err _ _ c.from_residual-in_err-made.ensures.0

pub returns-in_err-made-clause-checked : goal.returns-in_err-made-clause-checked
returns-in_err-made-clause-checked g c = IfOk-from_err _ _ c.from_residual-in_err-made.ensures.0

pub returns-in_err-made-clause-replaced : goal.returns-in_err-made-clause-replaced
returns-in_err-made-clause-replaced g c = IfOk-from_err _ _ c.from_residual-in_err-made.ensures.0

pub returns-in_err-made-clause-whole : goal.returns-in_err-made-clause-whole
returns-in_err-made-clause-whole g c = λ _. IfOk-from_err _ _ c.from_residual-in_err-made.ensures.0

pub returns-in_err-made-clause-shown : goal.returns-in_err-made-clause-shown
returns-in_err-made-clause-shown g c = λ _. IfOk-from_err _ _ c.from_residual-in_err-made.ensures.0

pub returns-in_err-made-clause-rebuilt : goal.returns-in_err-made-clause-rebuilt
returns-in_err-made-clause-rebuilt g c = IfOk-from_err _ _ c.from_residual-in_err-made.ensures.0

pub returns-in_err-made-clause-done : goal.returns-in_err-made-clause-done
returns-in_err-made-clause-done g c = λ _. IfOk-from_err _ _ c.from_residual-in_err-made.ensures.0

pub returns-in_err-note_unknown-clause-unchecked : goal.returns-in_err-note_unknown-clause-unchecked
returns-in_err-note_unknown-clause-unchecked g c = IfOk-from_err _ _ c.from_residual-in_err-note_unknown.ensures.0

pub returns-in_err-note_unknown-clause-checked : goal.returns-in_err-note_unknown-clause-checked
returns-in_err-note_unknown-clause-checked g c = IfOk-from_err _ _ c.from_residual-in_err-note_unknown.ensures.0

pub returns-in_err-note_unknown-clause-replaced : goal.returns-in_err-note_unknown-clause-replaced
returns-in_err-note_unknown-clause-replaced g c = IfOk-from_err _ _ c.from_residual-in_err-note_unknown.ensures.0

pub returns-in_err-note_unknown-clause-whole : goal.returns-in_err-note_unknown-clause-whole
returns-in_err-note_unknown-clause-whole g c = λ _. IfOk-from_err _ _ c.from_residual-in_err-note_unknown.ensures.0

pub returns-in_err-note_unknown-clause-shown : goal.returns-in_err-note_unknown-clause-shown
returns-in_err-note_unknown-clause-shown g c = λ _. IfOk-from_err _ _ c.from_residual-in_err-note_unknown.ensures.0

pub returns-in_err-note_unknown-clause-rebuilt : goal.returns-in_err-note_unknown-clause-rebuilt
returns-in_err-note_unknown-clause-rebuilt g c = IfOk-from_err _ _ c.from_residual-in_err-note_unknown.ensures.0

pub returns-in_err-note_unknown-clause-done : goal.returns-in_err-note_unknown-clause-done
returns-in_err-note_unknown-clause-done g c = λ _. IfOk-from_err _ _ c.from_residual-in_err-note_unknown.ensures.0

pub returns-in_err-settle-clause-unchecked : goal.returns-in_err-settle-clause-unchecked
returns-in_err-settle-clause-unchecked g c = IfOk-from_err _ _ c.from_residual-in_err-settle.ensures.0

pub returns-in_err-settle-clause-checked : goal.returns-in_err-settle-clause-checked
returns-in_err-settle-clause-checked g c = IfOk-from_err _ _ c.from_residual-in_err-settle.ensures.0

pub returns-in_err-settle-clause-replaced : goal.returns-in_err-settle-clause-replaced
returns-in_err-settle-clause-replaced g c = IfOk-from_err _ _ c.from_residual-in_err-settle.ensures.0

pub returns-in_err-settle-clause-whole : goal.returns-in_err-settle-clause-whole
returns-in_err-settle-clause-whole g c = λ _. IfOk-from_err _ _ c.from_residual-in_err-settle.ensures.0

pub returns-in_err-settle-clause-shown : goal.returns-in_err-settle-clause-shown
returns-in_err-settle-clause-shown g c = λ _. IfOk-from_err _ _ c.from_residual-in_err-settle.ensures.0

pub returns-in_err-settle-clause-rebuilt : goal.returns-in_err-settle-clause-rebuilt
returns-in_err-settle-clause-rebuilt g c = IfOk-from_err _ _ c.from_residual-in_err-settle.ensures.0

pub returns-in_err-settle-clause-done : goal.returns-in_err-settle-clause-done
returns-in_err-settle-clause-done g c = λ _. IfOk-from_err _ _ c.from_residual-in_err-settle.ensures.0

pub returns-in_err-discard_all-clause-unchecked : goal.returns-in_err-discard_all-clause-unchecked
returns-in_err-discard_all-clause-unchecked g c = IfOk-from_err _ _ c.from_residual-in_err-discard_all.ensures.0

pub returns-in_err-discard_all-clause-checked : goal.returns-in_err-discard_all-clause-checked
returns-in_err-discard_all-clause-checked g c = IfOk-from_err _ _ c.from_residual-in_err-discard_all.ensures.0

pub returns-in_err-discard_all-clause-replaced : goal.returns-in_err-discard_all-clause-replaced
returns-in_err-discard_all-clause-replaced g c = IfOk-from_err _ _ c.from_residual-in_err-discard_all.ensures.0

pub returns-in_err-discard_all-clause-whole : goal.returns-in_err-discard_all-clause-whole
returns-in_err-discard_all-clause-whole g c = λ _. IfOk-from_err _ _ c.from_residual-in_err-discard_all.ensures.0

pub returns-in_err-discard_all-clause-shown : goal.returns-in_err-discard_all-clause-shown
returns-in_err-discard_all-clause-shown g c = λ _. IfOk-from_err _ _ c.from_residual-in_err-discard_all.ensures.0

pub returns-in_err-discard_all-clause-rebuilt : goal.returns-in_err-discard_all-clause-rebuilt
returns-in_err-discard_all-clause-rebuilt g c = IfOk-from_err _ _ c.from_residual-in_err-discard_all.ensures.0

pub returns-in_err-discard_all-clause-done : goal.returns-in_err-discard_all-clause-done
returns-in_err-discard_all-clause-done g c = λ _. IfOk-from_err _ _ c.from_residual-in_err-discard_all.ensures.0

pub returns-in_err-settle-2-clause-unchecked : goal.returns-in_err-settle-2-clause-unchecked
returns-in_err-settle-2-clause-unchecked g c = IfOk-from_err _ _ c.from_residual-in_err-settle-2.ensures.0

pub returns-in_err-settle-2-clause-checked : goal.returns-in_err-settle-2-clause-checked
returns-in_err-settle-2-clause-checked g c = IfOk-from_err _ _ c.from_residual-in_err-settle-2.ensures.0

pub returns-in_err-settle-2-clause-replaced : goal.returns-in_err-settle-2-clause-replaced
returns-in_err-settle-2-clause-replaced g c = IfOk-from_err _ _ c.from_residual-in_err-settle-2.ensures.0

pub returns-in_err-settle-2-clause-whole : goal.returns-in_err-settle-2-clause-whole
returns-in_err-settle-2-clause-whole g c = λ _. IfOk-from_err _ _ c.from_residual-in_err-settle-2.ensures.0

pub returns-in_err-settle-2-clause-shown : goal.returns-in_err-settle-2-clause-shown
returns-in_err-settle-2-clause-shown g c = λ _. IfOk-from_err _ _ c.from_residual-in_err-settle-2.ensures.0

pub returns-in_err-settle-2-clause-rebuilt : goal.returns-in_err-settle-2-clause-rebuilt
returns-in_err-settle-2-clause-rebuilt g c = IfOk-from_err _ _ c.from_residual-in_err-settle-2.ensures.0

pub returns-in_err-settle-2-clause-done : goal.returns-in_err-settle-2-clause-done
returns-in_err-settle-2-clause-done g c = λ _. IfOk-from_err _ _ c.from_residual-in_err-settle-2.ensures.0

pub returns-in_err-rebuilt-clause-unchecked : goal.returns-in_err-rebuilt-clause-unchecked
returns-in_err-rebuilt-clause-unchecked g c = IfOk-from_err _ _ c.from_residual-in_err-rebuilt.ensures.0

pub returns-in_err-rebuilt-clause-checked : goal.returns-in_err-rebuilt-clause-checked
returns-in_err-rebuilt-clause-checked g c = IfOk-from_err _ _ c.from_residual-in_err-rebuilt.ensures.0

pub returns-in_err-rebuilt-clause-replaced : goal.returns-in_err-rebuilt-clause-replaced
returns-in_err-rebuilt-clause-replaced g c = IfOk-from_err _ _ c.from_residual-in_err-rebuilt.ensures.0

pub returns-in_err-rebuilt-clause-whole : goal.returns-in_err-rebuilt-clause-whole
returns-in_err-rebuilt-clause-whole g c = λ _. IfOk-from_err _ _ c.from_residual-in_err-rebuilt.ensures.0

pub returns-in_err-rebuilt-clause-shown : goal.returns-in_err-rebuilt-clause-shown
returns-in_err-rebuilt-clause-shown g c = λ _. IfOk-from_err _ _ c.from_residual-in_err-rebuilt.ensures.0

pub returns-in_err-rebuilt-clause-rebuilt : goal.returns-in_err-rebuilt-clause-rebuilt
returns-in_err-rebuilt-clause-rebuilt g c = IfOk-from_err _ _ c.from_residual-in_err-rebuilt.ensures.0

pub returns-in_err-rebuilt-clause-done : goal.returns-in_err-rebuilt-clause-done
returns-in_err-rebuilt-clause-done g c = λ _. IfOk-from_err _ _ c.from_residual-in_err-rebuilt.ensures.0

pub returns-in_err-append-clause-unchecked : goal.returns-in_err-append-clause-unchecked
returns-in_err-append-clause-unchecked g c = IfOk-from_err _ _ c.from_residual-in_err-append.ensures.0

pub returns-in_err-append-clause-checked : goal.returns-in_err-append-clause-checked
returns-in_err-append-clause-checked g c = IfOk-from_err _ _ c.from_residual-in_err-append.ensures.0

pub returns-in_err-append-clause-replaced : goal.returns-in_err-append-clause-replaced
returns-in_err-append-clause-replaced g c = IfOk-from_err _ _ c.from_residual-in_err-append.ensures.0

pub returns-in_err-append-clause-whole : goal.returns-in_err-append-clause-whole
returns-in_err-append-clause-whole g c = λ _. IfOk-from_err _ _ c.from_residual-in_err-append.ensures.0

pub returns-in_err-append-clause-shown : goal.returns-in_err-append-clause-shown
returns-in_err-append-clause-shown g c = λ _. IfOk-from_err _ _ c.from_residual-in_err-append.ensures.0

pub returns-in_err-append-clause-rebuilt : goal.returns-in_err-append-clause-rebuilt
returns-in_err-append-clause-rebuilt g c = IfOk-from_err _ _ c.from_residual-in_err-append.ensures.0

pub returns-in_err-append-clause-done : goal.returns-in_err-append-clause-done
returns-in_err-append-clause-done g c = λ _. IfOk-from_err _ _ c.from_residual-in_err-append.ensures.0

pub returns-in_err-known-clause-untouched : goal.returns-in_err-known-clause-untouched
returns-in_err-known-clause-untouched g c = untouched_same _ _ _ _ refl

pub returns-in_default-clause-untouched : goal.returns-in_default-clause-untouched
returns-in_default-clause-untouched g c = untouched_same _ _ _ _ refl

pub returns-in_default-clause-unchecked : goal.returns-in_default-clause-unchecked
returns-in_default-clause-unchecked g c = λ _. untouched_same _ _ _ _ refl

pub returns-in_default-clause-checked : goal.returns-in_default-clause-checked
returns-in_default-clause-checked g c = λ is. absurd (true≢false (sym is ∙ c.of.ensures.checked))

pub returns-in_default-clause-replaced : goal.returns-in_default-clause-replaced
returns-in_default-clause-replaced g c = replaces_same _ _ _ _ refl

pub returns-in_default-clause-rebuilt : goal.returns-in_default-clause-rebuilt
returns-in_default-clause-rebuilt g c = none_rebuilt _ _ _ _ _ _ _ c.of.ensures.rebuilt

pub returns-in_err-made-clause-untouched : goal.returns-in_err-made-clause-untouched
returns-in_err-made-clause-untouched g c = untouched_same _ _ _ _ (c.make_lost.ensures.same)

pub returns-in_err-note_unknown-clause-untouched : goal.returns-in_err-note_unknown-clause-untouched
returns-in_err-note_unknown-clause-untouched g c = untouched_same _ _ _ _ (c.make_lost.ensures.same)

pub returns-in_err-settle-clause-untouched : goal.returns-in_err-settle-clause-untouched
returns-in_err-settle-clause-untouched g c = untouched_same _ _ _ _ (c.settle.ensures.same ∙ c.make_lost.ensures.same)

pub returns-in_default-made-clause-untouched : goal.returns-in_default-made-clause-untouched
returns-in_default-made-clause-untouched g c = untouched_same _ _ _ _ (c.settle.ensures.same ∙ c.make_lost.ensures.same)

pub returns-in_default-made-clause-unchecked : goal.returns-in_default-made-clause-unchecked
returns-in_default-made-clause-unchecked g c = λ _. untouched_same _ _ _ _ (c.settle.ensures.same ∙ c.make_lost.ensures.same)

pub returns-in_default-made-clause-checked : goal.returns-in_default-made-clause-checked
returns-in_default-made-clause-checked g c = λ is. absurd (true≢false (sym is ∙ c.of-in_default-made.ensures.checked))

pub returns-in_default-made-clause-replaced : goal.returns-in_default-made-clause-replaced
returns-in_default-made-clause-replaced g c = replaces_same _ _ _ _ (c.settle.ensures.same ∙ c.make_lost.ensures.same)

pub returns-in_default-made-clause-rebuilt : goal.returns-in_default-made-clause-rebuilt
returns-in_default-made-clause-rebuilt g c = none_rebuilt _ _ _ _ _ _ _ c.of-in_default-made.ensures.rebuilt

pub returns-in_err-discard_all-clause-untouched : goal.returns-in_err-discard_all-clause-untouched
returns-in_err-discard_all-clause-untouched g c = untouched_same _ _ _ _ (c.discard_all.ensures.same ∙ c.make_lost.ensures.same)

pub returns-in_err-settle-2-clause-untouched : goal.returns-in_err-settle-2-clause-untouched
returns-in_err-settle-2-clause-untouched g c =
    untouched_same _ _ _ _ (c.settle-then-has_changed.ensures.same ∙ c.discard_all.ensures.same ∙ c.make_lost.ensures.same)

pub returns-then-has_changed-clause-untouched : goal.returns-then-has_changed-clause-untouched
returns-then-has_changed-clause-untouched g c =
    untouched_same _ _ _ _ (c.settle-then-has_changed.ensures.same ∙ c.discard_all.ensures.same ∙ c.make_lost.ensures.same)

pub returns-then-has_changed-clause-unchecked : goal.returns-then-has_changed-clause-unchecked
returns-then-has_changed-clause-unchecked g c =
    λ _. untouched_same _ _ _ _ (c.settle-then-has_changed.ensures.same ∙ c.discard_all.ensures.same ∙ c.make_lost.ensures.same)

pub returns-then-has_changed-clause-checked : goal.returns-then-has_changed-clause-checked
returns-then-has_changed-clause-checked g c = λ is. absurd (true≢false (sym is ∙ c.of-then-has_changed.ensures.checked))

pub returns-then-has_changed-clause-replaced : goal.returns-then-has_changed-clause-replaced
returns-then-has_changed-clause-replaced g c =
    replaces_same _ _ _ _ (c.settle-then-has_changed.ensures.same ∙ c.discard_all.ensures.same ∙ c.make_lost.ensures.same)

pub returns-then-has_changed-clause-rebuilt : goal.returns-then-has_changed-clause-rebuilt
returns-then-has_changed-clause-rebuilt g c = none_rebuilt _ _ _ _ _ _ _ c.of-then-has_changed.ensures.rebuilt
