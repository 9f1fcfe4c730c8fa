use Rattle.std.specs.Prelude.{◌⊎◌, Contains}
use Rattle.std.proofs.Common.{◌≡◌, All, inl, inr, refl, subst, true}
use Rattle.std.proofs.lemmas.List.Elements.{All-contains}
use Rattle.lrc_code.specs.Sets.{is_in}
use Rattle.store_repair.specs.Findings.{named}
use Rattle.store_repair.proofs.planning.planned.Goals as goal

pub returns-clause-all : goal.returns-clause-all
returns-clause-all g c = λ reads p has out.
    let lost = c.in_ok-lost.lost in
    let new = named c.note_all.new.findings.items in
    let own : is_in c.to_be_rebuilt-among.result p ≡ true = rw (c.to_be_rebuilt-among.ensures.all reads p, has, out) refl in
    elim (c.in_ok-lost.ensures.all p (record { of_code = has; lost = out; own = own })) as
    (λ _. Contains lost.determined.items p ⊎ Contains new p) [
      | inl is ↦ inl is
      | inr is ↦ inr (All-contains (Contains new) lost.several.items p
          (subst (All (Contains new)) c.as_slice.ensures.value c.in_ok-note_all.ensures.named) is)
    ]

pub returns-clause-absent : goal.returns-clause-absent
returns-clause-absent g c = λ p isnt has out.
    let lost = c.in_ok-lost.lost in
    let new = named c.note_all.new.findings.items in
    let own = c.to_be_rebuilt-among.ensures.absent p has out isnt in
    elim (c.in_ok-lost.ensures.all p (record { of_code = has; lost = out; own = own })) as
    (λ _. Contains lost.determined.items p ⊎ Contains new p) [
      | inl is ↦ inl is
      | inr is ↦ inr (All-contains (Contains new) lost.several.items p
          (subst (All (Contains new)) c.as_slice.ensures.value c.in_ok-note_all.ensures.named) is)
    ]
