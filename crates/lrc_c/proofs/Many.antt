-- What is answered of several targets.
use Rattle.std.proofs.Common.{◌≡◌, ℕ, ◌<◌, List, [], ◌∷◌, get_or, length, Bool, true, false, Option, Some, None, refl, ap, sym}
use Rattle.std.proofs.Common.{◌∙◌, subst, arith, All}
use Rattle.std.specs.Borrow.{Bor}
use Rattle.lrc_field.specs.declared.terms.Term.{Term}
use Rattle.lrc_code.specs.declared.places.Place.{Place}
use Rattle.lrc_code.specs.declared.codes.Code.{Code as CodeName}
use Rattle.lrc_code.specs.Code.{AreBytes}
use Rattle.lrc_code.specs.Codes.{tables_of}
use Rattle.lrc_code.specs.Sets.{is_in}
use Rattle.lrc_code.proofs.PlaceSums.{index_of-eq, index_of-lt}
use Rattle.lrc_plan.specs.RowPlans.{AreCheckRows}
use Rattle.lrc_c.specs.declared.rebuilding.Answer.{Answer}
use Rattle.lrc_c.specs.declared.rebuilding.Answer.TheVariants as answer
use Rattle.lrc_c.specs.declared.rebuilding_many.Target.{Target}
use Rattle.lrc_c.specs.declared.rebuilding_many.Target.TheVariants as target
use Rattle.lrc_c.specs.declared.rebuilding_many.Aim.{Aim}
use Rattle.lrc_c.specs.declared.rebuilding_many.Aim.TheVariants as aim
use Rattle.lrc_plan.specs.Stripes.{AreWhole, at_place, AreZeroRows}
use Rattle.lrc_c.specs.Arguments.{code_numbered, is_set}
use Rattle.lrc_c.specs.Combined.{IsWritten}
use Rattle.lrc_c.specs.Windows.{IsSomeWritten}
use Rattle.lrc_c.specs.Rebuilt.{status_of, IsAnswerAt}
use Rattle.lrc_c.specs.RebuiltMany.{target_at, AreAllAsked, AreFourReady, AreFourTargets}
use Rattle.lrc_c.specs.RebuiltMany.{IsAimed, IsAnswered, IsAsked, IsPlanned, IsReady, IsTargetOf, IsTargetAnswered, IsWantedOf, status_at}
use Rattle.lrc_c.proofs.EncodeLemmas.{parity}
use Rattle.lrc_c.proofs.Exports.{set_is, whole_is}
use Rattle.lrc_plan.proofs.Stripes.{contradiction, rebuilt, several}

module _ (code : CodeName) (survives : Place → Bool) (at : List (List ℕ)) (len : ℕ) (whole : AreWhole code survives at len)
    (small : All AreBytes at) (sixteen : length at ≡ 16) (checks : List (List ℕ))
    (of_survivors : AreCheckRows (tables_of code) survives checks)
    (some : 0 < len) where
  lost_answered : (possible : Bool) (p : Place) (a : Aim) (ts : List Term) (w : Option (Bor (List Term))) (out : List ℕ) (room : ℕ)
      → (possible ≡ true → AreZeroRows checks at len) → (possible ≡ false → ¬ AreZeroRows checks at len)
      → IsReady code survives len (target.Lost p) room → IsPlanned code survives at len p a ts → IsWantedOf a ts w
      → (possible ≡ true → IsSomeWritten w out len) → length out ≡ room
      → (x : Answer) × (status_at a possible ≡ status_of x) × IsAnswerAt (tables_of code) survives (at_place at) len p x out
  lost_answered b p aim.Nothing ts w out room hy hn ready plan want done long = absurd (plan refl)
  lost_answered true p aim.Several ts w out room hy hn ready plan want done long =
      (answer.Several, refl, several code survives at len whole small sixteen checks of_survivors (hy refl) p ready.0.of_code some plan)
  lost_answered false p aim.Several ts w out room hy hn ready plan want done long =
      (answer.Contradiction, refl, contradiction code survives at len whole small sixteen checks of_survivors (hn refl))
  lost_answered true p (aim.Sums row) ts None out room hy hn ready plan want done long = absurd (want refl)
  lost_answered true p (aim.Sums row) ts (Some us) out room hy hn ready plan want done long = (
    answer.Rebuilt,
    refl,
    rebuilt code survives at len whole small sixteen checks of_survivors (hy refl) p ready.0.of_code row out plan.0
        (parity row at len ts out plan.1 (long ∙ ready.1) (subst (λ vs. IsWritten vs out len) want (done refl))),
  )
  lost_answered false p (aim.Sums row) ts w out room hy hn ready plan want done long =
      (answer.Contradiction, refl, contradiction code survives at len whole small sixteen checks of_survivors (hn refl))

  -- a target's status and room, from its plan, the checks and what was written
  pub target_answered : (possible : Bool) (t : Target) (a : Aim) (ts : List Term) (w : Option (Bor (List Term))) (out : List ℕ)
      (room status : ℕ) → (possible ≡ true → AreZeroRows checks at len) → (possible ≡ false → ¬ AreZeroRows checks at len)
      → IsReady code survives len t room → IsAimed code survives at len t a ts → IsWantedOf a ts w
      → (possible ≡ true → IsSomeWritten w out len) → length out ≡ room → status ≡ status_at a possible
      → IsTargetAnswered code survives at len t status out
  target_answered possible target.Nothing a ts w out room status hy hn ready plan want done long e = e ∙ ap (λ x. status_at x possible) plan
  target_answered possible (target.Lost p) a ts w out room status hy hn ready plan want done long e =
      let x = lost_answered possible p a ts w out room hy hn ready plan want done long in (x.0, e ∙ x.1, x.2)

-- a number's, from its target's
pub answered : (code : CodeName) (survives : Place → Bool) (at : List (List ℕ)) (len number status : ℕ) (out : List ℕ) (room : ℕ)
    (t : Target)
    → IsTargetOf code survives len number room t → IsTargetAnswered code survives at len t status out
    → IsAnswered code survives at len number status out
answered code survives at len number status out room target.Nothing e given = record {
  nothing = λ n. given;
  target = λ p i. (let lt = index_of-lt p in absurd (omega (arith, lt, i, e)));
}
answered code survives at len number status out room (target.Lost q) e given = record {
  nothing = λ n. (let lt = index_of-lt q in let i = e.0 in absurd (omega (arith, lt, i, n)));
  target = λ p i. subst (λ r. (a : Answer) × (status ≡ status_of a) × IsAnswerAt (tables_of code) survives (at_place at) len r a out)
      (index_of-eq q p (e.0 ∙ sym i)) given;
}

-- a number's target is ready
ready_of : (code : CodeName) (survives : Place → Bool) (len number room : ℕ) (t : Target) → IsTargetOf code survives len number room t
    → IsReady code survives len t room
ready_of code survives len number room target.Nothing e = tt
ready_of code survives len number room (target.Lost p) e = (e.1, e.2)

pub four_ready : (code : CodeName) (survives : Place → Bool) (len : ℕ) (numbers : List ℕ) (a b c d : ℕ) (targets : List Target)
    → AreFourTargets code survives len numbers (a ∷ b ∷ c ∷ d ∷ []) targets → AreFourReady code survives len targets a b c d
four_ready code survives len numbers a b c d targets h = record {
  first = ready_of code survives len (get_or numbers 0 0) a (target_at targets 0) h.first;
  second = ready_of code survives len (get_or numbers 1 0) b (target_at targets 1) h.second;
  third = ready_of code survives len (get_or numbers 2 0) c (target_at targets 2) h.third;
  fourth = ready_of code survives len (get_or numbers 3 0) d (target_at targets 3) h.fourth;
}

-- a target is asked for
asked_of : (code : CodeName) (survives : Place → Bool) (len number room : ℕ) (t : Target) → IsTargetOf code survives len number room t
    → IsAsked code survives len number room
asked_of code survives len number room target.Nothing e = λ n. absurd (n e)
asked_of code survives len number room (target.Lost p) e = λ n. (p, e.0, e.1, e.2)

-- and so are four
pub four_asked : (code : CodeName) (mask : ℕ) (set : List Bool) (at : List (List ℕ)) (len number : ℕ) (numbers : List ℕ) (a b c d : ℕ)
    (targets : List Target) → ((p : Place) → is_in set p ≡ is_set mask p) → code_numbered number ≡ Some code → 0 < len
    → AreWhole code (is_in set) at len → AreFourTargets code (is_in set) len numbers (a ∷ b ∷ c ∷ d ∷ []) targets
    → AreAllAsked number mask at len numbers a b c d code
four_asked code mask set at len number numbers a b c d targets same is some whole h = record {
  code_is = is;
  some = some;
  whole = whole_is mask set code at len same whole;
  first = asked (get_or numbers 0 0) a (target_at targets 0) h.first;
  second = asked (get_or numbers 1 0) b (target_at targets 1) h.second;
  third = asked (get_or numbers 2 0) c (target_at targets 2) h.third;
  fourth = asked (get_or numbers 3 0) d (target_at targets 3) h.fourth;
}
  where
    asked : (n room : ℕ) (t : Target) → IsTargetOf code (is_in set) len n room t → IsAsked code (is_set mask) len n room
    asked n room t x = subst (λ s. IsAsked code s len n room) (set_is mask set same) (asked_of code (is_in set) len n room t x)
