-- Pairs of two rows, and what they are wanted for.
use Rattle.std.proofs.Common.{◌≡◌, ◌<◌, ℕ, Bool, List, length, Option, Some, None, ap, sym, subst, ◌∙◌, arith}
use Rattle.std.specs.Borrow.{Bor}
use Rattle.lrc_field.specs.Combined.{sum_at}
use Rattle.lrc_field.specs.declared.terms.Term.{Term}
use Rattle.lrc_field.specs.declared.pairs.Pair.{Pair}
use Rattle.lrc_field.specs.Pairs.{first_sum_at, second_sum_at, ArePairsOf}
use Rattle.lrc_field.specs.Sums.{combination, column}
use Rattle.lrc_field.specs.Terms.{AreTermsOf, HaveRoom}
use Rattle.lrc_code.specs.declared.codes.Code.{Code as CodeName}
use Rattle.lrc_code.specs.declared.places.Place.{Place}
use Rattle.lrc_c.specs.Windows.{AreCouple, AreSums, HasRoom, HaveRooms}
use Rattle.lrc_c.specs.declared.windows.Couple.{Couple}
use Rattle.lrc_c.specs.declared.rebuilding_many.Target.{Target}
use Rattle.lrc_c.specs.declared.rebuilding_many.Target.TheVariants as target
use Rattle.lrc_c.specs.declared.rebuilding_many.Aim.{Aim}
use Rattle.lrc_c.specs.declared.rebuilding_many.Aim.TheVariants as aim
use Rattle.lrc_c.specs.RebuiltMany.{ArePairsOfBoth, IsAimed, IsReady, IsWantedOf}

-- two rooms without pairs
pub alone : (len : ℕ) (c : Couple) (a b : ℕ) → HasRoom len c.first a → HasRoom len c.second b → length c.pairs.now ≡ 0
    → HaveRooms len c a b
alone len c a b first second none = record { first = first; second = second; pairs = λ some. absurd (omega (arith, none, some)) }

-- two rooms in which nothing is wanted
pub nothing : (len : ℕ) (c : Couple) (a b : ℕ) → c.first ≡ None → c.second ≡ None → length c.pairs.now ≡ 0 → HaveRooms len c a b
nothing len c a b first second none =
    alone len c a b (subst (λ w. HasRoom len w a) (sym first) tt) (subst (λ w. HasRoom len w b) (sym second) tt) none

-- the pairs of two rows whose terms are wanted
pub couple : (len : ℕ) (xss : List (List ℕ)) (firsts seconds : List ℕ) (ts us : Bor (List Term)) (ps : List Pair) (a b : ℕ)
    → AreTermsOf firsts xss len ts.now → AreTermsOf seconds xss len us.now → ArePairsOf firsts seconds xss len ps → a ≡ len → b ≡ len
    → AreCouple len (Some ts) (Some us) a b ps
couple len xss firsts seconds ts us ps a b t u p ra rb = record {
  room = p.room;
  first_room = ra;
  second_room = rb;
  first = λ i. t.sums i ∙ sym (p.first_sums i);
  second = λ i. u.sums i ∙ sym (p.second_sums i);
}

module _ (code : CodeName) (survives : Place → Bool) (at : List (List ℕ)) (len : ℕ) where
  -- the room of a target whose combination is wanted
  room_is : (room : ℕ) (t : Target) (row : List ℕ) (ts : List Term) → IsReady code survives len t room
      → IsAimed code survives at len t (aim.Sums row) ts → room ≡ len
  room_is room target.Nothing row ts ready aimed = absurd (cc aimed)
  room_is room (target.Lost p) row ts ready aimed = ready.1

  -- and its terms
  terms_are : (t : Target) (row : List ℕ) (ts : List Term) → IsAimed code survives at len t (aim.Sums row) ts → AreTermsOf row at len ts
  terms_are target.Nothing row ts aimed = absurd (cc aimed)
  terms_are (target.Lost p) row ts aimed = aimed.1

  -- what is wanted of a target has its room
  pub has_room : (room : ℕ) (t : Target) (a : Aim) (ts : List Term) (w : Option (Bor (List Term))) → IsReady code survives len t room
      → IsAimed code survives at len t a ts → IsWantedOf a ts w → HasRoom len w room
  has_room room t a ts None ready aimed want = tt
  has_room room t aim.Nothing ts (Some us) ready aimed want = absurd (cc want)
  has_room room t aim.Several ts (Some us) ready aimed want = absurd (cc want)
  has_room room t (aim.Sums row) ts (Some us) ready aimed want =
      (subst (λ vs. HaveRoom len vs) (sym want) (terms_are t row ts aimed).room, room_is room t row ts ready aimed)

  -- the sums of a row's terms
  sums_of : (row : List ℕ) (ts : List Term) (w : Option (Bor (List Term))) (f : ℕ → ℕ) → IsWantedOf (aim.Sums row) ts w
      → AreTermsOf row at len ts → ((i : ℕ) → f i ≡ combination row (column at i)) → AreSums w f
  sums_of row ts None f want t h = tt
  sums_of row ts (Some us) f want t h = λ i. ap (λ vs. sum_at vs i) want ∙ t.sums i ∙ sym (h i)

  -- the pairs of two targets' combinations are of what is wanted
  pub couple_of : (a b : ℕ) (t u : Target) (one other : Aim) (ts us : List Term) (v w : Option (Bor (List Term))) (ps : List Pair)
      → IsReady code survives len t a → IsReady code survives len u b → IsAimed code survives at len t one ts
      → IsAimed code survives at len u other us → IsWantedOf one ts v → IsWantedOf other us w → ArePairsOfBoth one other at len ps
      → 0 < length ps → AreCouple len v w a b ps
  couple_of a b t u aim.Nothing other ts us v w ps ra rb aa ab wa wb none some = absurd (omega (arith, none, some))
  couple_of a b t u aim.Several other ts us v w ps ra rb aa ab wa wb none some = absurd (omega (arith, none, some))
  couple_of a b t u (aim.Sums row) aim.Nothing ts us v w ps ra rb aa ab wa wb none some = absurd (omega (arith, none, some))
  couple_of a b t u (aim.Sums row) aim.Several ts us v w ps ra rb aa ab wa wb none some = absurd (omega (arith, none, some))
  couple_of a b t u (aim.Sums row) (aim.Sums second) ts us v w ps ra rb aa ab wa wb pairs some =
      let p = pairs some in record {
        room = p.room;
        first_room = room_is a t row ts ra aa;
        second_room = room_is b u second us rb ab;
        first = sums_of row ts v (first_sum_at ps) wa (terms_are t row ts aa) p.first_sums;
        second = sums_of second us w (second_sum_at ps) wb (terms_are u second us ab) p.second_sums;
      }
