use Rattle.std.proofs.Common.{◌≡◌, ℕ, refl, sym, ◌∙◌, subst}
use Rattle.lrc_code.specs.declared.places.Place.TheVariants.{Px, Py, P0, P1}
use Rattle.lrc_code.specs.Codes.{tables_of}
use Rattle.lrc_code.proofs.PlaceSums.{index_of-eq}
use Rattle.lrc_c.specs.Arguments.{code_numbered}
use Rattle.lrc_c.specs.Updated.{IsUpdated}
use Rattle.lrc_c.proofs.Exports.{same_code}
use Rattle.lrc_c.proofs.UpdateLaws.{is_updated, parities_own}
use Rattle.lrc_c.proofs.updating.lrc_update_into.Goals as goal

pub returns-clause-done : goal.returns-clause-done
returns-clause-done c = λ d p h.
    let difference = c.args.difference.now in
    let own = c.in-Some.own in
    let changed = c.in-Some-data_place.changed in
    let of_place = c.in-Some-data_place.ensures in
    let of_code = parities_own own in
    let by = c.coefficients_of-coefficients.ensures in
    let code = tables_of own in
    let same_place = index_of-eq p changed (h.place_is ∙ sym of_place.0) in
    let same = same_code (code_numbered c.args.code) own d (sym c.code_numbered.ensures ∙ c.in-Some.is) h.code_is in
    subst (λ x. (◌≡◌ {A = ℕ} 0 0) × IsUpdated (tables_of x) p difference Px c.args.px.now c.update.new.parity
    × IsUpdated (tables_of x) p difference Py c.args.py.now c.update-2.new.parity
    × IsUpdated (tables_of x) p difference P0 c.args.p0.now c.update-3.new.parity
    × IsUpdated (tables_of x) p difference P1 c.args.p1.now c.update-4.new.parity) (sym same)
    (subst (λ q. (◌≡◌ {A = ℕ} 0 0) × IsUpdated code q difference Px c.args.px.now c.update.new.parity
    × IsUpdated code q difference Py c.args.py.now c.update-2.new.parity
    × IsUpdated code q difference P0 c.args.p0.now c.update-3.new.parity
    × IsUpdated code q difference P1 c.args.p1.now c.update-4.new.parity) (sym same_place) (
      refl,
      is_updated code changed Px _ difference _ _ of_place.1 of_code.0 by.of_px c.update.ensures.given c.update.ensures.absent,
      is_updated code changed Py _ difference _ _ of_place.1 of_code.1 by.of_py c.update-2.ensures.given c.update-2.ensures.absent,
      is_updated code changed P0 _ difference _ _ of_place.1 of_code.2 by.of_p0 c.update-3.ensures.given c.update-3.ensures.absent,
      is_updated code changed P1 _ difference _ _ of_place.1 of_code.3 by.of_p1 c.update-4.ensures.given c.update-4.ensures.absent,
    ))

pub returns-clause-refused : goal.returns-clause-refused
returns-clause-refused c = λ none. absurd (none c.in-Some.own c.in-Some-data_place.changed (record {
  code_is = sym c.code_numbered.ensures ∙ c.in-Some.is;
  place_is = c.in-Some-data_place.ensures.0;
  of_code = c.in-Some-data_place.ensures.1;
  is_data = c.in-Some-data_place.ensures.2;
  px = c.if-not-is_room.ensures.0 refl;
  py = c.if-not-is_room-2.ensures.0 refl;
  p0 = c.if-not-is_room-3.ensures.0 refl;
  p1 = c.if-not-is_room-4.ensures.0 refl;
}))
