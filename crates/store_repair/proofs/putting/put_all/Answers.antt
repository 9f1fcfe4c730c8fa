use Rattle.std.specs.Prelude.{◌&&◌, Contains}
use Rattle.std.proofs.Common.{◌≡◌, ◌∙◌, ◌<◌, ◌+◌, ℕ, [], ◌∷◌, ◌++◌, ◌≤◌, All, true, false}
use Rattle.std.proofs.Common.{ap, arith, get_or, inl, length, refl, rules, subst, sym, vec_len}
use Rattle.std.proofs.lemmas.List.{get_or_default}
use Rattle.std.proofs.lemmas.List.Elements.{Contains-append_left, Contains-get_or, Contains-push}
use Rattle.lrc_code.specs.declared.places.Place.{Place}
use Rattle.lrc_code.specs.Places.{same_place}
use Rattle.lrc_code.specs.Sets.{is_in}
use Rattle.store_repair.specs.Findings.{named}
use Rattle.store_repair.specs.Kept.{given_by}
use Rattle.store_repair.specs.Opened.{IsPutOf}
use Rattle.store_repair.specs.Repaired.{MayReplace, is_silent, replaces}
use Rattle.store_repair.proofs.GivenLemmas.{AreGivenFrom, among_quiet, given_next, given_none}
use Rattle.store_repair.proofs.KeptLemmas.{all_beside, all_more, all_over, beside_either, given_here}
use Rattle.store_repair.proofs.PutLemmas.{IsSaid, asked, beside_at, beside_trans, replaces_at, replaces_trans, said_left, said_more}
use Rattle.store_repair.proofs.RepairLemmas.{far_before, far_more, off_too, popped_before, popped_last, put_before, put_more}
use Rattle.store_repair.proofs.RepairLemmas.{untouched_trans, untouched_weaker}
use Rattle.store_repair.proofs.putting.put_all.Goals as goal

pub returns-in_err-put_one-clause-untouched : goal.returns-in_err-put_one-clause-untouched
returns-in_err-put_one-clause-untouched g c =
    let r = c.args.repair.now.replace_damaged in
    let checked = c.args.known.now.is_checked in
    let s = c.args.stripe.now.name.now in
    let files = g.S.Store.files in
    let old = files c.args.store.now in
    let now = files c.files.store in
    let next = files c.put_one.new.store in
    let way = replaces c.way_of-way.result in
    let places = c.args.made.places.items in
    let p = c.index-place.result.now in
    let may = MayReplace r c.args.repair.now.code (is_in c.args.known.now.survivors) checked c.args.known.now.length
    c.args.stripe.now.files.found c.args.known.now.findings.now in
    let on : way ≡ true → (r && checked) ≡ true =
    λ e. asked r c.args.repair.now.code (is_in c.args.known.now.survivors) checked c.args.known.now.length c.args.stripe.now.files.found
    c.args.known.now.findings.now p (c.way_of-way.ensures.replaced e) in
    untouched_trans (r && checked) s old now next c.files.invariant.untouched
    (untouched_weaker way (r && checked) s now next on c.put_one.ensures.untouched)

pub returns-in_err-put_one-clause-replaced : goal.returns-in_err-put_one-clause-replaced
returns-in_err-put_one-clause-replaced g c =
    let r = c.args.repair.now.replace_damaged in
    let checked = c.args.known.now.is_checked in
    let s = c.args.stripe.now.name.now in
    let files = g.S.Store.files in
    let old = files c.args.store.now in
    let now = files c.files.store in
    let next = files c.put_one.new.store in
    let way = replaces c.way_of-way.result in
    let places = c.args.made.places.items in
    let p = c.index-place.result.now in
    let may = MayReplace r c.args.repair.now.code (is_in c.args.known.now.survivors) checked c.args.known.now.length
    c.args.stripe.now.files.found c.args.known.now.findings.now in
    let on : way ≡ true → (r && checked) ≡ true =
    λ e. asked r c.args.repair.now.code (is_in c.args.known.now.survivors) checked c.args.known.now.length c.args.stripe.now.files.found
    c.args.known.now.findings.now p (c.way_of-way.ensures.replaced e) in
    replaces_trans may s old now next c.files.invariant.replaced
    (replaces_at may s way p now next c.way_of-way.ensures.replaced c.put_one.ensures.untouched c.put_one.ensures.elsewhere)

pub returns-in_err-put_one-clause-beside : goal.returns-in_err-put_one-clause-beside
returns-in_err-put_one-clause-beside g c =
    let r = c.args.repair.now.replace_damaged in
    let checked = c.args.known.now.is_checked in
    let s = c.args.stripe.now.name.now in
    let files = g.S.Store.files in
    let old = files c.args.store.now in
    let now = files c.files.store in
    let next = files c.put_one.new.store in
    let way = replaces c.way_of-way.result in
    let places = c.args.made.places.items in
    let p = c.index-place.result.now in
    let may = MayReplace r c.args.repair.now.code (is_in c.args.known.now.survivors) checked c.args.known.now.length
    c.args.stripe.now.files.found c.args.known.now.findings.now in
    let on : way ≡ true → (r && checked) ≡ true =
    λ e. asked r c.args.repair.now.code (is_in c.args.known.now.survivors) checked c.args.known.now.length c.args.stripe.now.files.found
    c.args.known.now.findings.now p (c.way_of-way.ensures.replaced e) in
    let made = c.args.made.files.items in
    let shown = g.S.New.NewFragment.shown in
    let n = vec_len c.pop.new.self in
    let file = c.in-Some.file in
    let more = c.in-Some.ensures.cases in
    let few = c.files.invariant.few in
    let less : n < length made = omega (arith, more, few) in
    let long : length c.pop.new.self.items ≡ n = sym c.pop.new.self.ok.0 in
    let even : length made ≡ length places = c.requires.lengths in
    let here : (d : Place) → get_or places n d ≡ p =
    λ d. get_or_default places n d p (omega (arith, less, even))
    ∙ ap (λ k. get_or places k p) (sym c.len.ensures) ∙ sym c.index-place.ensures in
    let own : Contains places p =
    subst (Contains places) (here p) (Contains-get_or places n p (omega (arith, less, even))) in
    beside_trans places s old now next c.files.invariant.beside (beside_at places s p now next own c.put_one.ensures.elsewhere)

pub returns-in_err-put_one-clause-kept : goal.returns-in_err-put_one-clause-kept
returns-in_err-put_one-clause-kept g c =
    let r = c.args.repair.now.replace_damaged in
    let checked = c.args.known.now.is_checked in
    let s = c.args.stripe.now.name.now in
    let files = g.S.Store.files in
    let old = files c.args.store.now in
    let now = files c.files.store in
    let next = files c.put_one.new.store in
    let way = replaces c.way_of-way.result in
    let places = c.args.made.places.items in
    let p = c.index-place.result.now in
    let may = MayReplace r c.args.repair.now.code (is_in c.args.known.now.survivors) checked c.args.known.now.length
    c.args.stripe.now.files.found c.args.known.now.findings.now in
    let on : way ≡ true → (r && checked) ≡ true =
    λ e. asked r c.args.repair.now.code (is_in c.args.known.now.survivors) checked c.args.known.now.length c.args.stripe.now.files.found
    c.args.known.now.findings.now p (c.way_of-way.ensures.replaced e) in
    let made = c.args.made.files.items in
    let shown = g.S.New.NewFragment.shown in
    let n = vec_len c.pop.new.self in
    let file = c.in-Some.file in
    let more = c.in-Some.ensures.cases in
    let few = c.files.invariant.few in
    let less : n < length made = omega (arith, more, few) in
    let long : length c.pop.new.self.items ≡ n = sym c.pop.new.self.ok.0 in
    let even : length made ≡ length places = c.requires.lengths in
    let here : (d : Place) → get_or places n d ≡ p =
    λ d. get_or_default places n d p (omega (arith, less, even))
    ∙ ap (λ k. get_or places k p) (sym c.len.ensures) ∙ sym c.index-place.ensures in
    let same : (k : ℕ) (e : _) → k < n + 1 → get_or c.files.left.items k e ≡ get_or made k e =
    λ k e lt. c.files.invariant.same k e (omega (arith, lt, more)) in
    let last = popped_last c.files.left.items c.pop.new.self.items made file n c.in-Some.ensures.items long same in
    λ off from before. c.put_one.ensures.kept (off_too way (r && checked) on off) (given_by shown places made) from
    (given_here shown places made n p file c.requires.apart even less here last) (c.files.invariant.kept off from before)

pub returns-in_err-put_one-clause-changed : goal.returns-in_err-put_one-clause-changed
returns-in_err-put_one-clause-changed g c =
    let r = c.args.repair.now.replace_damaged in
    let checked = c.args.known.now.is_checked in
    let s = c.args.stripe.now.name.now in
    let files = g.S.Store.files in
    let old = files c.args.store.now in
    let now = files c.files.store in
    let next = files c.put_one.new.store in
    let way = replaces c.way_of-way.result in
    let places = c.args.made.places.items in
    let p = c.index-place.result.now in
    let may = MayReplace r c.args.repair.now.code (is_in c.args.known.now.survivors) checked c.args.known.now.length
    c.args.stripe.now.files.found c.args.known.now.findings.now in
    let on : way ≡ true → (r && checked) ≡ true =
    λ e. asked r c.args.repair.now.code (is_in c.args.known.now.survivors) checked c.args.known.now.length c.args.stripe.now.files.found
    c.args.known.now.findings.now p (c.way_of-way.ensures.replaced e) in
    let made = c.args.made.files.items in
    let shown = g.S.New.NewFragment.shown in
    let n = vec_len c.pop.new.self in
    let file = c.in-Some.file in
    let more = c.in-Some.ensures.cases in
    let few = c.files.invariant.few in
    let less : n < length made = omega (arith, more, few) in
    let long : length c.pop.new.self.items ≡ n = sym c.pop.new.self.ok.0 in
    let even : length made ≡ length places = c.requires.lengths in
    let here : (d : Place) → get_or places n d ≡ p =
    λ d. get_or_default places n d p (omega (arith, less, even))
    ∙ ap (λ k. get_or places k p) (sym c.len.ensures) ∙ sym c.index-place.ensures in
    let same : (k : ℕ) (e : _) → k < n + 1 → get_or c.files.left.items k e ≡ get_or made k e =
    λ k e lt. c.files.invariant.same k e (omega (arith, lt, more)) in
    let last = popped_last c.files.left.items c.pop.new.self.items made file n c.in-Some.ensures.items long same in
    λ from before. (given_next g.S.Store.changed s (given_by shown places made) places n p (shown file) from c.files.store
    c.put_one.new.store c.requires.apart (omega (arith, less, even)) here
    (given_here shown places made n p file c.requires.apart even less here last)
    c.put_one.ensures.changed (subst (λ m. AreGivenFrom g.S.Store.changed s (given_by shown places made) places m from c.files.store)
    (omega (arith, more)) (c.files.invariant.changed from before))).some

pub returns-in_err-push-clause-changed : goal.returns-in_err-push-clause-changed
returns-in_err-push-clause-changed g c =
    let r = c.args.repair.now.replace_damaged in
    let checked = c.args.known.now.is_checked in
    let s = c.args.stripe.now.name.now in
    let files = g.S.Store.files in
    let old = files c.args.store.now in
    let now = files c.files.store in
    let next = files c.put_one.new.store in
    let way = replaces c.way_of-way.result in
    let places = c.args.made.places.items in
    let p = c.index-place.result.now in
    let may = MayReplace r c.args.repair.now.code (is_in c.args.known.now.survivors) checked c.args.known.now.length
    c.args.stripe.now.files.found c.args.known.now.findings.now in
    let on : way ≡ true → (r && checked) ≡ true =
    λ e. asked r c.args.repair.now.code (is_in c.args.known.now.survivors) checked c.args.known.now.length c.args.stripe.now.files.found
    c.args.known.now.findings.now p (c.way_of-way.ensures.replaced e) in
    let made = c.args.made.files.items in
    let shown = g.S.New.NewFragment.shown in
    let n = vec_len c.pop.new.self in
    let file = c.in-Some.file in
    let more = c.in-Some.ensures.cases in
    let few = c.files.invariant.few in
    let less : n < length made = omega (arith, more, few) in
    let long : length c.pop.new.self.items ≡ n = sym c.pop.new.self.ok.0 in
    let even : length made ≡ length places = c.requires.lengths in
    let here : (d : Place) → get_or places n d ≡ p =
    λ d. get_or_default places n d p (omega (arith, less, even))
    ∙ ap (λ k. get_or places k p) (sym c.len.ensures) ∙ sym c.index-place.ensures in
    let same : (k : ℕ) (e : _) → k < n + 1 → get_or c.files.left.items k e ≡ get_or made k e =
    λ k e lt. c.files.invariant.same k e (omega (arith, lt, more)) in
    let last = popped_last c.files.left.items c.pop.new.self.items made file n c.in-Some.ensures.items long same in
    λ from before. (given_next g.S.Store.changed s (given_by shown places made) places n p (shown file) from c.files.store
    c.put_one.new.store c.requires.apart (omega (arith, less, even)) here
    (given_here shown places made n p file c.requires.apart even less here last)
    c.put_one.ensures.changed (subst (λ m. AreGivenFrom g.S.Store.changed s (given_by shown places made) places m from c.files.store)
    (omega (arith, more)) (c.files.invariant.changed from before))).some

pub returns-in_err-push-clause-untouched : goal.returns-in_err-push-clause-untouched
returns-in_err-push-clause-untouched g c =
    let r = c.args.repair.now.replace_damaged in
    let checked = c.args.known.now.is_checked in
    let s = c.args.stripe.now.name.now in
    let files = g.S.Store.files in
    let old = files c.args.store.now in
    let now = files c.files.store in
    let next = files c.put_one.new.store in
    let way = replaces c.way_of-way.result in
    let places = c.args.made.places.items in
    let p = c.index-place.result.now in
    let may = MayReplace r c.args.repair.now.code (is_in c.args.known.now.survivors) checked c.args.known.now.length
    c.args.stripe.now.files.found c.args.known.now.findings.now in
    let on : way ≡ true → (r && checked) ≡ true =
    λ e. asked r c.args.repair.now.code (is_in c.args.known.now.survivors) checked c.args.known.now.length c.args.stripe.now.files.found
    c.args.known.now.findings.now p (c.way_of-way.ensures.replaced e) in
    untouched_trans (r && checked) s old now next c.files.invariant.untouched
    (untouched_weaker way (r && checked) s now next on c.put_one.ensures.untouched)

pub returns-in_err-push-clause-replaced : goal.returns-in_err-push-clause-replaced
returns-in_err-push-clause-replaced g c =
    let r = c.args.repair.now.replace_damaged in
    let checked = c.args.known.now.is_checked in
    let s = c.args.stripe.now.name.now in
    let files = g.S.Store.files in
    let old = files c.args.store.now in
    let now = files c.files.store in
    let next = files c.put_one.new.store in
    let way = replaces c.way_of-way.result in
    let places = c.args.made.places.items in
    let p = c.index-place.result.now in
    let may = MayReplace r c.args.repair.now.code (is_in c.args.known.now.survivors) checked c.args.known.now.length
    c.args.stripe.now.files.found c.args.known.now.findings.now in
    let on : way ≡ true → (r && checked) ≡ true =
    λ e. asked r c.args.repair.now.code (is_in c.args.known.now.survivors) checked c.args.known.now.length c.args.stripe.now.files.found
    c.args.known.now.findings.now p (c.way_of-way.ensures.replaced e) in
    replaces_trans may s old now next c.files.invariant.replaced
    (replaces_at may s way p now next c.way_of-way.ensures.replaced c.put_one.ensures.untouched c.put_one.ensures.elsewhere)

pub returns-in_err-push-clause-beside : goal.returns-in_err-push-clause-beside
returns-in_err-push-clause-beside g c =
    let r = c.args.repair.now.replace_damaged in
    let checked = c.args.known.now.is_checked in
    let s = c.args.stripe.now.name.now in
    let files = g.S.Store.files in
    let old = files c.args.store.now in
    let now = files c.files.store in
    let next = files c.put_one.new.store in
    let way = replaces c.way_of-way.result in
    let places = c.args.made.places.items in
    let p = c.index-place.result.now in
    let may = MayReplace r c.args.repair.now.code (is_in c.args.known.now.survivors) checked c.args.known.now.length
    c.args.stripe.now.files.found c.args.known.now.findings.now in
    let on : way ≡ true → (r && checked) ≡ true =
    λ e. asked r c.args.repair.now.code (is_in c.args.known.now.survivors) checked c.args.known.now.length c.args.stripe.now.files.found
    c.args.known.now.findings.now p (c.way_of-way.ensures.replaced e) in
    let made = c.args.made.files.items in
    let shown = g.S.New.NewFragment.shown in
    let n = vec_len c.pop.new.self in
    let file = c.in-Some.file in
    let more = c.in-Some.ensures.cases in
    let few = c.files.invariant.few in
    let less : n < length made = omega (arith, more, few) in
    let long : length c.pop.new.self.items ≡ n = sym c.pop.new.self.ok.0 in
    let even : length made ≡ length places = c.requires.lengths in
    let here : (d : Place) → get_or places n d ≡ p =
    λ d. get_or_default places n d p (omega (arith, less, even))
    ∙ ap (λ k. get_or places k p) (sym c.len.ensures) ∙ sym c.index-place.ensures in
    let own : Contains places p =
    subst (Contains places) (here p) (Contains-get_or places n p (omega (arith, less, even))) in
    beside_trans places s old now next c.files.invariant.beside (beside_at places s p now next own c.put_one.ensures.elsewhere)

pub returns-in_err-push-clause-kept : goal.returns-in_err-push-clause-kept
returns-in_err-push-clause-kept g c =
    let r = c.args.repair.now.replace_damaged in
    let checked = c.args.known.now.is_checked in
    let s = c.args.stripe.now.name.now in
    let files = g.S.Store.files in
    let old = files c.args.store.now in
    let now = files c.files.store in
    let next = files c.put_one.new.store in
    let way = replaces c.way_of-way.result in
    let places = c.args.made.places.items in
    let p = c.index-place.result.now in
    let may = MayReplace r c.args.repair.now.code (is_in c.args.known.now.survivors) checked c.args.known.now.length
    c.args.stripe.now.files.found c.args.known.now.findings.now in
    let on : way ≡ true → (r && checked) ≡ true =
    λ e. asked r c.args.repair.now.code (is_in c.args.known.now.survivors) checked c.args.known.now.length c.args.stripe.now.files.found
    c.args.known.now.findings.now p (c.way_of-way.ensures.replaced e) in
    let made = c.args.made.files.items in
    let shown = g.S.New.NewFragment.shown in
    let n = vec_len c.pop.new.self in
    let file = c.in-Some.file in
    let more = c.in-Some.ensures.cases in
    let few = c.files.invariant.few in
    let less : n < length made = omega (arith, more, few) in
    let long : length c.pop.new.self.items ≡ n = sym c.pop.new.self.ok.0 in
    let even : length made ≡ length places = c.requires.lengths in
    let here : (d : Place) → get_or places n d ≡ p =
    λ d. get_or_default places n d p (omega (arith, less, even))
    ∙ ap (λ k. get_or places k p) (sym c.len.ensures) ∙ sym c.index-place.ensures in
    let same : (k : ℕ) (e : _) → k < n + 1 → get_or c.files.left.items k e ≡ get_or made k e =
    λ k e lt. c.files.invariant.same k e (omega (arith, lt, more)) in
    let last = popped_last c.files.left.items c.pop.new.self.items made file n c.in-Some.ensures.items long same in
    λ off from before. c.put_one.ensures.kept (off_too way (r && checked) on off) (given_by shown places made) from
    (given_here shown places made n p file c.requires.apart even less here last) (c.files.invariant.kept off from before)

pub files-preserved-in-Continue-branch-2 : goal.files-preserved-in-Continue-branch-2
files-preserved-in-Continue-branch-2 g c =
    let r = c.args.repair.now.replace_damaged in
    let checked = c.args.known.now.is_checked in
    let s = c.args.stripe.now.name.now in
    let files = g.S.Store.files in
    let old = files c.args.store.now in
    let now = files c.files.store in
    let next = files c.put_one.new.store in
    let way = replaces c.way_of-way.result in
    let places = c.args.made.places.items in
    let p = c.index-place.result.now in
    let may = MayReplace r c.args.repair.now.code (is_in c.args.known.now.survivors) checked c.args.known.now.length
    c.args.stripe.now.files.found c.args.known.now.findings.now in
    let on : way ≡ true → (r && checked) ≡ true =
    λ e. asked r c.args.repair.now.code (is_in c.args.known.now.survivors) checked c.args.known.now.length c.args.stripe.now.files.found
    c.args.known.now.findings.now p (c.way_of-way.ensures.replaced e) in
    let made = c.args.made.files.items in
    let shown = g.S.New.NewFragment.shown in
    let n = vec_len c.pop.new.self in
    let file = c.in-Some.file in
    let more = c.in-Some.ensures.cases in
    let few = c.files.invariant.few in
    let less : n < length made = omega (arith, more, few) in
    let long : length c.pop.new.self.items ≡ n = sym c.pop.new.self.ok.0 in
    let even : length made ≡ length places = c.requires.lengths in
    let here : (d : Place) → get_or places n d ≡ p =
    λ d. get_or_default places n d p (omega (arith, less, even))
    ∙ ap (λ k. get_or places k p) (sym c.len.ensures) ∙ sym c.index-place.ensures in
    let same : (k : ℕ) (e : _) → k < n + 1 → get_or c.files.left.items k e ≡ get_or made k e =
    λ k e lt. c.files.invariant.same k e (omega (arith, lt, more)) in
    let last = popped_last c.files.left.items c.pop.new.self.items made file n c.in-Some.ensures.items long same in
    let own : Contains places p =
    subst (Contains places) (here p) (Contains-get_or places n p (omega (arith, less, even))) in
    let before = named c.args.known.now.findings.now in
    let later = named c.put_one.new.findings.items in
    let far = λ (i : ℕ) (d : Place) (lt : i < length c.files.put.items) (k : ℕ) (d2 : Place) (small : k < n + 1).
    c.files.invariant.far i d lt k d2 (omega (arith, small, more)) in
    let some = (c.files.invariant.changed c.args.store.now (g.S.Store.changed_same s c.args.store.now)).some in
    let beside = beside_either s p ((r && checked) ≡ false) (g.S.Store.apart c.args.store.now) (g.S.Store.got_name c.files.store)
    (g.S.Store.got_name c.put_one.new.store) (λ off. c.put_one.ensures.others (off_too way (r && checked) on off))
    (λ apart. c.put_one.ensures.beside
    (g.met.S.Store.changed_apart s some.given c.args.store.now c.files.store some.changes apart)) in
    record {
      untouched = untouched_trans (r && checked) s old now next c.files.invariant.untouched
          (untouched_weaker way (r && checked) s now next on c.put_one.ensures.untouched);
      replaced = replaces_trans may s old now next c.files.invariant.replaced
          (replaces_at may s way p now next c.way_of-way.ensures.replaced c.put_one.ensures.untouched c.put_one.ensures.elsewhere);
      beside = beside_trans places s old now next c.files.invariant.beside (beside_at places s p now next own c.put_one.ensures.elsewhere);
      all = subst (λ put. (k : ℕ) (d : Place) → n ≤ k → k < length places → IsSaid before put later (get_or places k d))
          (sym c.in_ok-push.ensures.items)
          (said_more before places n p c.files.put.items (c.files.put.items ++ (p ∷ [])) (named c.files.later.items) later here
          (λ q. Contains-append_left c.files.put.items (p ∷ []) q) c.in_ok-put_one.ensures.grows (inl (Contains-push c.files.put.items p))
          (λ k d le. c.files.invariant.all k d (omega (arith, le, more))));
      kept = λ off from before. c.put_one.ensures.kept (off_too way (r && checked) on off) (given_by shown places made) from
          (given_here shown places made n p file c.requires.apart even less here last) (c.files.invariant.kept off from before);
      changed = λ from before. given_next g.S.Store.changed s (given_by shown places made) places n p (shown file) from c.files.store
          c.put_one.new.store c.requires.apart (omega (arith, less, even)) here
          (given_here shown places made n p file c.requires.apart even less here last)
          c.put_one.ensures.changed (subst (λ m. AreGivenFrom g.S.Store.changed s (given_by shown places made) places m from c.files.store)
          (omega (arith, more)) (c.files.invariant.changed from before));
      places = refl;
      few = omega (arith, more, few);
      same = popped_before c.files.left.items c.pop.new.self.items made file n c.in-Some.ensures.items long same;
      done = λ so. subst (All (λ q. g.S.Store.got_name c.put_one.new.store s q (given_by shown places made q)))
          (sym c.in_ok-push.ensures.items)
          (all_more s (given_by shown places made) places n p c.files.put.items (g.S.Store.got_name c.files.store)
          (g.S.Store.got_name c.put_one.new.store) here far (beside so) (c.files.invariant.done so) (shown file)
          (given_here shown places made n p file c.requires.apart even less here last)
          (c.in_ok-put_one.ensures.named c.if-branch.true));
      put = subst (All (IsPutOf shown places made s next)) (sym c.in_ok-push.ensures.items)
          (put_more shown places made s now next n p file c.files.put.items c.requires.apart even less here last
          c.put_one.ensures.elsewhere c.files.invariant.put far (c.in_ok-put_one.ensures.put c.if-branch.true));
      far = subst (All (λ q. (k : ℕ) (d : Place) → k < n → same_place (get_or places k d) q ≡ false)) (sym c.in_ok-push.ensures.items)
          (far_more shown places made s now next n p file c.files.put.items c.requires.apart even less here last
          c.put_one.ensures.elsewhere c.files.invariant.put far);
    }

pub files-preserved : goal.files-preserved
files-preserved g c =
    let r = c.args.repair.now.replace_damaged in
    let checked = c.args.known.now.is_checked in
    let s = c.args.stripe.now.name.now in
    let files = g.S.Store.files in
    let old = files c.args.store.now in
    let now = files c.files.store in
    let next = files c.put_one.new.store in
    let way = replaces c.way_of-way.result in
    let places = c.args.made.places.items in
    let p = c.index-place.result.now in
    let may = MayReplace r c.args.repair.now.code (is_in c.args.known.now.survivors) checked c.args.known.now.length
    c.args.stripe.now.files.found c.args.known.now.findings.now in
    let on : way ≡ true → (r && checked) ≡ true =
    λ e. asked r c.args.repair.now.code (is_in c.args.known.now.survivors) checked c.args.known.now.length c.args.stripe.now.files.found
    c.args.known.now.findings.now p (c.way_of-way.ensures.replaced e) in
    let made = c.args.made.files.items in
    let shown = g.S.New.NewFragment.shown in
    let n = vec_len c.pop.new.self in
    let file = c.in-Some.file in
    let more = c.in-Some.ensures.cases in
    let few = c.files.invariant.few in
    let less : n < length made = omega (arith, more, few) in
    let long : length c.pop.new.self.items ≡ n = sym c.pop.new.self.ok.0 in
    let even : length made ≡ length places = c.requires.lengths in
    let here : (d : Place) → get_or places n d ≡ p =
    λ d. get_or_default places n d p (omega (arith, less, even))
    ∙ ap (λ k. get_or places k p) (sym c.len.ensures) ∙ sym c.index-place.ensures in
    let same : (k : ℕ) (e : _) → k < n + 1 → get_or c.files.left.items k e ≡ get_or made k e =
    λ k e lt. c.files.invariant.same k e (omega (arith, lt, more)) in
    let last = popped_last c.files.left.items c.pop.new.self.items made file n c.in-Some.ensures.items long same in
    let own : Contains places p =
    subst (Contains places) (here p) (Contains-get_or places n p (omega (arith, less, even))) in
    let before = named c.args.known.now.findings.now in
    let later = named c.put_one.new.findings.items in
    let far = λ (i : ℕ) (d : Place) (lt : i < length c.files.put.items) (k : ℕ) (d2 : Place) (small : k < n + 1).
    c.files.invariant.far i d lt k d2 (omega (arith, small, more)) in
    let some = (c.files.invariant.changed c.args.store.now (g.S.Store.changed_same s c.args.store.now)).some in
    let beside = beside_either s p ((r && checked) ≡ false) (g.S.Store.apart c.args.store.now) (g.S.Store.got_name c.files.store)
    (g.S.Store.got_name c.put_one.new.store) (λ off. c.put_one.ensures.others (off_too way (r && checked) on off))
    (λ apart. c.put_one.ensures.beside
    (g.met.S.Store.changed_apart s some.given c.args.store.now c.files.store some.changes apart)) in
    record {
      untouched = untouched_trans (r && checked) s old now next c.files.invariant.untouched
          (untouched_weaker way (r && checked) s now next on c.put_one.ensures.untouched);
      replaced = replaces_trans may s old now next c.files.invariant.replaced
          (replaces_at may s way p now next c.way_of-way.ensures.replaced c.put_one.ensures.untouched c.put_one.ensures.elsewhere);
      beside = beside_trans places s old now next c.files.invariant.beside (beside_at places s p now next own c.put_one.ensures.elsewhere);
      all = said_more before places n p c.files.put.items c.files.put.items (named c.files.later.items) later here (λ q h. h)
          c.in_ok-put_one.ensures.grows
          (said_left before (is_silent c.way_of-way.result) c.files.put.items later p c.way_of-way.ensures.silent
          (c.in_ok-put_one.ensures.said c.if-branch.false))
          (λ k d le. c.files.invariant.all k d (omega (arith, le, more)));
      kept = λ off from before. c.put_one.ensures.kept (off_too way (r && checked) on off) (given_by shown places made) from
          (given_here shown places made n p file c.requires.apart even less here last) (c.files.invariant.kept off from before);
      changed = λ from before. given_next g.S.Store.changed s (given_by shown places made) places n p (shown file) from c.files.store
          c.put_one.new.store c.requires.apart (omega (arith, less, even)) here
          (given_here shown places made n p file c.requires.apart even less here last)
          c.put_one.ensures.changed (subst (λ m. AreGivenFrom g.S.Store.changed s (given_by shown places made) places m from c.files.store)
          (omega (arith, more)) (c.files.invariant.changed from before));
      places = refl;
      few = omega (arith, more, few);
      same = popped_before c.files.left.items c.pop.new.self.items made file n c.in-Some.ensures.items long same;
      done = λ so. all_beside s (given_by shown places made) places n p c.files.put.items (g.S.Store.got_name c.files.store)
          (g.S.Store.got_name c.put_one.new.store) here far (beside so) (c.files.invariant.done so);
      put = put_before shown places made s now next n p file c.files.put.items c.requires.apart even less here last
          c.put_one.ensures.elsewhere c.files.invariant.put far;
      far = far_before shown places made s now next n p file c.files.put.items c.requires.apart even less here last
          c.put_one.ensures.elsewhere c.files.invariant.put far;
    }

pub returns-clause-put : goal.returns-clause-put
returns-clause-put g c =
    let made = c.args.made in
    subst (λ files. All (IsPutOf g.S.New.NewFragment.shown made.places.items made.files.items c.args.stripe.now.name.now files)
    c.files.put.items) (sym c.settle.ensures.same) c.files.invariant.put

pub returns-clause-all : goal.returns-clause-all
returns-clause-all g c = λ k d lt.
    let before = named c.args.known.now.findings.now in
    let places = c.args.made.places.items in
    subst (λ later. IsSaid before c.files.put.items later (get_or places k d)) (sym c.in_ok-settle.ensures.named)
    (c.files.invariant.all k d (let none = c.in_default.ensures.cases in omega (arith, none)) lt)

pub returns-clause-done : goal.returns-clause-done
returns-clause-done g c = λ so settled.
    all_over c.args.stripe.now.name.now
    (given_by g.S.New.NewFragment.shown c.args.made.places.items c.args.made.files.items) c.files.put.items
    (g.S.Store.got_name c.files.store) (g.S.Store.settled c.settle.new.store) (c.in_ok-settle.ensures.done settled)
    (c.files.invariant.done so)

pub returns-in_err-settle-clause-changed : goal.returns-in_err-settle-clause-changed
returns-in_err-settle-clause-changed g c = λ from before. among_quiet g.S.Store.kept g.S.Store.changed g.S.Store.kept_same
    g.met.S.Store.changed_then _ _ from _ _ (c.settle.ensures.kept _) (c.files.invariant.changed from before).some

pub returns-clause-changed : goal.returns-clause-changed
returns-clause-changed g c = λ from before. among_quiet g.S.Store.kept g.S.Store.changed g.S.Store.kept_same
    g.met.S.Store.changed_then _ _ from _ _ (c.settle.ensures.kept _) (c.files.invariant.changed from before).some

pub returns-in_err-settle-clause-kept : goal.returns-in_err-settle-clause-kept
returns-in_err-settle-clause-kept g c = λ off from before. c.settle.ensures.kept _ _ from (c.files.invariant.kept off from before)

pub returns-clause-kept : goal.returns-clause-kept
returns-clause-kept g c = λ off from before. c.settle.ensures.kept _ _ from (c.files.invariant.kept off from before)

pub files-init : goal.files-init
files-init g c = record {
  untouched = search rules;
  replaced = search rules;
  beside = search rules;
  all = search rules;
  kept = λ off from before. before;
  changed = λ from before. given_none g.S.Store.changed _ _ _ _ from _ before;
  places = search rules;
  few = search rules;
  same = search rules;
  done = search rules;
  put = search rules;
  far = search rules;
}
