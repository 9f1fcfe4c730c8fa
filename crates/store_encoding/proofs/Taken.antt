-- Paths that are taken away.
use Rattle.std.proofs.Common.{◌≡◌, ◌<◌, ◌≤◌, inl, inr, refl, ◌∙◌, ℕ, List, [], ◌∷◌, ◌++◌, length, suc, get_or, Bool, true, Option, None}
use Rattle.std.proofs.Common.{zero, sym, subst, arith}
use Rattle.std.proofs.Common.{string_bytes, String, Global}
use Rattle.std.proofs.lemmas.List.{get_or_append_left, length-append}
use Rattle.std.proofs.Math.Seq.{get_or-append_seam}
use Rattle.folders.specs.Calls.{Answered, remove, sync_folder}
use Rattle.folders.specs.Given.{Remove}
use Rattle.folders.proofs.GivenAfter.{remove_front}
use Rattle.folders.proofs.Runs.{keeps_after, keeps_all, keeps_quiet}
use Rattle.folders.specs.Given.{IsNewAt}
use Rattle.store_folder.specs.Written.{Puts, PutsOne}
use Rattle.store_folder.proofs.Written.{puts_after, puts_weaker}
use Rattle.store_encoding.specs.Names.{IsNamed, path_of}
use Rattle.store_encoding.specs.Replaced.{Goes, IsSums}
use Rattle.store_encoding.specs.Taken.{AreTaken, GoesFrom, GoesOf, IsOneOf, IsTakenOut, KeepsRest}
use Rattle.store_encoding.specs.declared.encoding.stripe_files.StripeFiles.{StripeFiles}

is_longer : (front : List (String Global)) (last : String Global) (k : ℕ) → k ≤ length front → k < length (front ++ last ∷ [])
is_longer front last k below = subst (λ (n : ℕ). k < n) (sym (length-append front (last ∷ []))) (omega (arith, below))

-- the paths before the last one, and the last one
pub before_last : (taken : List ℕ → Bool) (front : List (String Global)) (last : String Global) → AreTaken taken (front ++ last ∷ [])
    → AreTaken taken front × (taken (string_bytes last) ≡ true)
before_last taken front last are = (
  λ k d below. subst (λ (path : String Global). taken (string_bytes path) ≡ true) (get_or_append_left front (last ∷ []) d k below)
      (are k d (is_longer front last k (omega (arith, below)))),
  subst (λ (path : String Global). taken (string_bytes path) ≡ true) (get_or-append_seam front last [] last)
      (are (length front) last (is_longer front last (length front) (omega (arith)))),
)

-- each path that a run takes away
pub rest_after : (old mid new : List Answered) → KeepsRest old mid → KeepsRest mid new → KeepsRest old new
rest_after old mid new first second taken removed =
    let later = second taken removed in
    keeps_after (λ path. taken path ≡ true) (λ path bytes. ⊥) old mid new
    (first taken (remove_front (λ path. taken path ≡ true) later.more mid (subst (Remove (λ path. taken path ≡ true)) later.are removed)))
    later

pub rest_none : (calls : List Answered) → KeepsRest calls calls
rest_none calls taken removed = keeps_all (λ path. taken path ≡ true) (λ path bytes. ⊥) calls

pub rest_removed : (path : List ℕ) (ok : Bool) (old new : List Answered) → new ≡ (remove path, ok) ∷ old → KeepsRest old new
rest_removed path ok old new is taken removed =
    let at = subst (Remove (λ path. taken path ≡ true)) is removed in
    keeps_quiet (λ path. taken path ≡ true) (λ path bytes. ⊥) (remove path) ok old new is (λ w. at.0)

pub rest_synced : (folder : List ℕ) (ok : Bool) (old new : List Answered) → new ≡ (sync_folder folder, ok) ∷ old → KeepsRest old new
rest_synced folder ok old new is taken removed =
    keeps_quiet (λ path. taken path ≡ true) (λ path bytes. ⊥) (sync_folder folder) ok old new is (λ w. tt)

-- ---- paths that go, one after another

one_before : (front : List (String Global)) (last : String Global) (path : List ℕ) → IsOneOf front path → IsOneOf (front ++ last ∷ []) path
one_before [] last path none = absurd none
one_before (one ∷ front) last path (inl here) = inl here
one_before (one ∷ front) last path (inr more) = inr (one_before front last path more)

one_last : (front : List (String Global)) (last : String Global) (path : List ℕ) → path ≡ string_bytes last
    → IsOneOf (front ++ last ∷ []) path
one_last [] last path here = inl here
one_last (one ∷ front) last path here = inr (one_last front last path here)

-- paths of which the last is gone
pub one_left : (all front : List (String Global)) (last : String Global) → all ≡ front ++ last ∷ [] → (path : List ℕ) → IsOneOf front path
    → IsOneOf all path
one_left all front last is path one = subst (λ (l : List (String Global)). IsOneOf l path) (sym is) (one_before front last path one)

pub last_goes : (paths all front : List (String Global)) (last : String Global) (text : List ℕ) → all ≡ front ++ last ∷ []
    → text ≡ string_bytes last → ((path : List ℕ) → IsOneOf all path → IsOneOf paths path) → (old mid new : List Answered)
    → Puts (GoesFrom paths) old mid → PutsOne text None mid new → Puts (GoesFrom paths) old new
last_goes paths all front last text is named among old mid new first second = puts_after (GoesFrom paths) old mid new first
    (puts_weaker (IsNewAt text None) (GoesFrom paths) (λ path content one. (
      among path (subst (λ (l : List (String Global)). IsOneOf l path) (sym is) (one_last front last path (one.0 ∙ named))),
      one.1,
    )) mid new second)

-- one more path, of a name among some names
pub path_added : (folder : List ℕ) (names all front : List (String Global)) (last name : String Global) → all ≡ front ++ last ∷ []
    → string_bytes last ≡ path_of folder name → IsNamed folder names (path_of folder name)
    → ((path : List ℕ) → IsOneOf front path → IsNamed folder names path) → (path : List ℕ) → IsOneOf all path → IsNamed folder names path
path_added folder names all front last name is named among before path one =
    added front (subst (λ (l : List (String Global)). IsOneOf l path) is one) before where
      added : (some : List (String Global)) → IsOneOf (some ++ last ∷ []) path
          → ((p : List ℕ) → IsOneOf some p → IsNamed folder names p) → IsNamed folder names path
      added [] (inl here) had = subst (λ (p : List ℕ). IsNamed folder names p) (sym (here ∙ named)) among
      added [] (inr none) had = absurd none
      added (other ∷ some) (inl here) had = had path (inl here)
      added (other ∷ some) (inr more) had = added some more (λ p there. had p (inr there))

-- the path of a name at an index
pub named_at : (folder : List ℕ) (names : List (String Global)) (index : ℕ) (d : String Global) → index < length names
    → IsNamed folder names (path_of folder (get_or names index d))
named_at folder [] index d below = absurd (omega (arith, below))
named_at folder (name ∷ names) zero d below = inl refl
named_at folder (name ∷ names) (suc index) d below = inr (named_at folder names index d (omega (arith, below)))

pub goes_named : (folder : List ℕ) (paths names : List (String Global)) → ((path : List ℕ) → IsOneOf paths path → IsNamed folder names path)
    → (old new : List Answered) → Puts (GoesFrom paths) old new → Puts (GoesOf folder names) old new
goes_named folder paths names among old new run = puts_weaker (GoesFrom paths) (GoesOf folder names) (λ path content one. (
  among path one.0,
  one.1,
)) old new run

-- the names of a stripe's descriptions, and then of its fragments
pub descriptions_go : (folder : List ℕ) (files : StripeFiles) (here : List ℕ) (names : List (String Global)) → here ≡ folder
    → names ≡ files.descriptions.items → (old new : List Answered) → Puts (GoesOf here names) old new → Puts (Goes folder files) old new
descriptions_go folder files here names same are old new run = puts_weaker (GoesOf here names) (Goes folder files) (λ path content one. (
  inr (subst (λ (f : List ℕ). IsNamed f files.descriptions.items path) same
      (subst (λ (l : List (String Global)). IsNamed here l path) are one.0)),
  one.1,
)) old new run

pub fragments_go : (folder : List ℕ) (files : StripeFiles) (here : List ℕ) (names : List (String Global)) → here ≡ folder
    → names ≡ files.fragments.items → (old new : List Answered) → Puts (GoesOf here names) old new → Puts (Goes folder files) old new
fragments_go folder files here names same are old new run = puts_weaker (GoesOf here names) (Goes folder files) (λ path content one. (
  inl (subst (λ (f : List ℕ). IsNamed f files.fragments.items path) same
      (subst (λ (l : List (String Global)). IsNamed here l path) are one.0)),
  one.1,
)) old new run

-- ---- the digests that are left, and then names that go

module _ (folder : List ℕ) (text : Option (List ℕ)) (descriptions fragments : List (String Global)) where
  abbrev Out : List ℕ → Option (List ℕ) → Type 0
  Out = IsTakenOut folder text descriptions fragments

  pub sums_out : (old new : List Answered) → Puts (IsSums folder text) old new → Puts Out old new
  sums_out old new run = puts_weaker (IsSums folder text) Out (λ path content sums. inl sums) old new run

  pub descriptions_out : (here : List ℕ) → here ≡ folder → (old mid new : List Answered) → Puts Out old mid
      → Puts (GoesOf here descriptions) mid new → Puts Out old new
  descriptions_out here same old mid new first second = puts_after Out old mid new first
      (puts_weaker (GoesOf here descriptions) Out (λ path content goes. inr (inl (
        subst (λ (f : List ℕ). IsNamed f descriptions path) same goes.0,
        goes.1,
      ))) mid new second)

  pub fragments_out : (here : List ℕ) → here ≡ folder → (old mid new : List Answered) → Puts Out old mid
      → Puts (GoesOf here fragments) mid new → Puts Out old new
  fragments_out here same old mid new first second = puts_after Out old mid new first
      (puts_weaker (GoesOf here fragments) Out (λ path content goes. inr (inr (
        subst (λ (f : List ℕ). IsNamed f fragments path) same goes.0,
        goes.1,
      ))) mid new second)
