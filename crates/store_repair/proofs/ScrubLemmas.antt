-- What findings say of damage.
use Rattle.std.proofs.Common.{◌≡◌, ◌≢◌, ◌∙◌, ℕ, List, [], ◌∷◌, ◌++◌, Bool, Option, None, Some, ap, arith, length, length-append, sym}
use Rattle.std.proofs.Common.{All, append-nil, append_assoc}
use Rattle.std.specs.Prelude.{IfSome}
use Rattle.lrc_code.specs.declared.places.Place.{Place}
use Rattle.lrc_code.specs.declared.codes.Code.{Code as CodeName}
use Rattle.lrc_code.specs.Codes.{tables_of}
use Rattle.lrc_code.specs.Sets.{is_in}
use Rattle.lrc_plan.specs.Stripes.{at_place, AreWhole, IsPossible}
use Rattle.store_repair.specs.Damage.{IsLocated}
use Rattle.store_repair.specs.Opened.{AreOpened}
use Rattle.store_repair.specs.Scrubbed.{AreOfOneStripe, damaged_by, IsDamagedFragment, said_damaged}
use Rattle.stores.specs.Shown.{AreShown}
use Rattle.stores.specs.Store.{Files, ShownFiles}
use Rattle.store_repair.specs.declared.outcomes.Finding.{Finding}
use Rattle.store_repair.proofs.OpenedLemmas.{are_from, are_shown, are_whole, at}

-- a finding more
pub said_push : (xs : List Finding) (f : Finding) → said_damaged (xs ++ (f ∷ [])) ≡ said_damaged xs ++ damaged_by f.reason f.place
said_push [] f = append-nil (damaged_by f.reason f.place)
said_push (x ∷ xs) f = ap (λ ps. damaged_by x.reason x.place ++ ps) (said_push xs f)
    ∙ sym (append_assoc (damaged_by x.reason x.place) (said_damaged xs) (damaged_by f.reason f.place))

pub push_some : {A : Type 0} (xs : List A) (x : A) → xs ++ (x ∷ []) ≢ []
push_some xs x e = absurd (let long = length-append xs (x ∷ []) in let none = ap length e in omega (arith, long, none))

-- one that says of no fragment that it is damaged
pub same_said : (old new more : List Place) → new ≡ old ++ more → more ≡ [] → new ≡ old
same_said old new more e none = e ∙ ap (λ ps. old ++ ps) none ∙ append-nil old

module _ {F : Type 0} (shown : F → Option (List ℕ)) (code : CodeName) (stripe : List ℕ) (len : ℕ) (set : List Bool)
    (fragments : List (Option F)) (sixteen : length fragments ≡ 16) where
  -- what is said of fragments that were opened is said of those under their names
  pub damaged_fragments : (files : ShownFiles) → AreOpened shown code stripe len files set fragments → (ps : List Place)
      → ((xs : List (List ℕ)) → AreShown shown fragments xs → AreWhole code (is_in set) xs len
      → All (IsLocated code (is_in set) xs len) ps)
      → IfSome files (λ old. All (IsDamagedFragment code (is_in set) len stripe old) ps)
  damaged_fragments None opened ps are = tt
  damaged_fragments (Some old) opened ps are = λ k d lt. (
    at shown code stripe len old set fragments sixteen opened,
    are_from shown code stripe len old set fragments sixteen opened,
    are (at shown code stripe len old set fragments sixteen opened)
        (are_shown shown code stripe len old set fragments sixteen opened)
        (are_whole shown code stripe len old set fragments sixteen opened) k d lt,
  )

  pub of_one_stripe : (files : ShownFiles) → AreOpened shown code stripe len files set fragments
      → ((xs : List (List ℕ)) → AreShown shown fragments xs → AreWhole code (is_in set) xs len
      → IsPossible (tables_of code) (is_in set) (at_place xs) len)
      → IfSome files (AreOfOneStripe code (is_in set) len stripe)
  of_one_stripe None opened possible = tt
  of_one_stripe (Some old) opened possible =
      let xs = at shown code stripe len old set fragments sixteen opened in
      let found = possible xs (are_shown shown code stripe len old set fragments sixteen opened)
      (are_whole shown code stripe len old set fragments sixteen opened) in (
        found.0,
        found.1.in_code,
        λ p there. are_from shown code stripe len old set fragments sixteen opened p there
            ∙ ap Some (sym (found.1.kept p there)),
      )

-- nothing is said
pub none_said : (files : ShownFiles) (P : Files → Place → Type 0) (ps : List Place) → ps ≡ [] → IfSome files (λ old. All (P old) ps)
none_said None P ps e = tt
none_said (Some old) P ps e = λ k d lt. absurd (let none = ap length e in omega (arith, lt, none))
