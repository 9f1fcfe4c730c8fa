-- Files that get their names one after the other.
use Rattle.std.proofs.Common.{◌≡◌, ◌∙◌, ◌⊎◌, ◌<◌, ◌≤◌, ◌+◌, inl, inr, refl, sym, ap, subst, ℕ, suc, List, [], ◌∷◌, Bool, true, false}
use Rattle.std.proofs.Common.{Option, Some, None, arith, drop, drop-cons, get_or, length}
use Rattle.std.proofs.lemmas.List.{drop_all}
use Rattle.std.proofs.Common.{String, Global, Result, Ok, Err}
use Rattle.std.specs.Prelude.{IsSomeAnd, OnOk, is_some}
use Rattle.std.specs.Result.{result_err}
use Rattle.folders.specs.Calls.{Answered}
use Rattle.folders.specs.Kept.{Keeps}
use Rattle.folders.specs.Disk.{HasWhole}
use Rattle.folders.specs.Placed.{IsGiven}
use Rattle.folders.proofs.Runs.{keeps_after, keeps_all, keeps_weaker}
use Rattle.folders.proofs.Staying.{on_disk_over, refused_over}
use Rattle.store_folder.specs.Done.{HasFolderOf, HaveFoldersOf, IsDue}
use Rattle.store_folder.specs.Kept.{GivesOne, IsTemporary, KeepsEach}
use Rattle.store_folder.specs.Placed.{IsPlacedAt}
use Rattle.store_folder.specs.Stays.{lasts}
use Rattle.store_folder.specs.Temporary.{is_temporary}
use Rattle.store_folder.proofs.Done.{due_over}
use Rattle.store_folder.proofs.Kept.{later}
use Rattle.store_encoding.specs.Encoded.{AreDone, AreThere, GivesEach, IsDueAt, IsMadeOf, IsThereAt, each_has}
use Rattle.store_encoding.specs.Names.{path_of}
use Rattle.stores.specs.declared.store.Placed.{Placed as PlacedName}
use Rattle.stores.specs.declared.store.Placed.TheVariants as outcome

module _ (folder : List ℕ) (names : List (String Global)) (contents : List (Option (List ℕ))) where
  pub each_none : (calls : List Answered) → GivesEach folder names contents calls calls
  each_none calls = keeps_all IsTemporary _ calls

  -- one of the files
  pub each_one : (path : List ℕ) (content : Option (List ℕ)) (old new : List Answered) → IsMadeOf folder names contents path content
      → GivesOne path content old new → GivesEach folder names contents old new
  each_one path content old new of gives = keeps_weaker IsTemporary (IsGiven path content new) _
      (λ p bytes is. (
        subst (λ (q : List ℕ). IsMadeOf folder names contents q (Some bytes)) (sym is.here)
            (subst (λ c. IsMadeOf folder names contents path c) is.whole of),
        is.synced,
      )) old new gives

  -- none
  pub each_quiet : (old new : List Answered) → KeepsEach old new → GivesEach folder names contents old new
  each_quiet old new keeps = keeps_weaker IsTemporary (λ path bytes. ⊥) _ (λ path bytes none. absurd none) old new keeps

  -- calls after others
  pub each_after : (old mid new : List Answered) → GivesEach folder names contents old mid → GivesEach folder names contents mid new
      → GivesEach folder names contents old new
  each_after old mid new first second = keeps_after IsTemporary _ old mid new
      (keeps_weaker IsTemporary _ _ (λ path bytes is. (is.0, later bytes second.more mid new second.are is.1)) old mid first) second

-- what is due stays so over calls that take nothing away
pub due_at_over : (given : List ℕ → List ℕ → Type 0) (path : List ℕ) (content : Option (List ℕ)) (folders more : List (String Global))
    (old new : List Answered) → is_temporary path ≡ false → HaveFoldersOf folders more → Keeps IsTemporary given old new
    → IsDueAt folders old path content → IsDueAt more new path content
due_at_over given path content folders more old new lasting had keeps (inl was) =
    inl (refused_over path keeps.more old new keeps.are was)
due_at_over given path None folders more old new lasting had keeps (inr due) = absurd due
due_at_over given path (Some bytes) folders more old new lasting had keeps (inr due) =
    inr (due_over given path bytes folders more old new lasting (had path) keeps due)

-- names were written to the disk
pub there_at : (path : List ℕ) (content : Option (List ℕ)) (folders : List (String Global)) (old new : List Answered)
    → is_temporary path ≡ false → KeepsEach old new → AreDone folders old new → IsDueAt folders old path content
    → IsThereAt new path content
there_at path content folders old new lasting keeps done (inl was) = inl (refused_over path keeps.more old new keeps.are was)
there_at path None folders old new lasting keeps done (inr due) = absurd due
there_at path (Some bytes) folders old new lasting keeps done (inr due) = inr (done path bytes lasting due)

pub there_over : (given : List ℕ → List ℕ → Type 0) (path : List ℕ) (content : Option (List ℕ)) (old new : List Answered)
    → is_temporary path ≡ false → Keeps IsTemporary given old new → IsThereAt old path content → IsThereAt new path content
there_over given path content old new lasting keeps (inl was) = inl (refused_over path keeps.more old new keeps.are was)
there_over given path None old new lasting keeps (inr held) = absurd held
there_over given path (Some bytes) old new lasting keeps (inr held) =
    inr (on_disk_over IsTemporary path bytes (lasts path lasting) keeps.more old new keeps.are keeps.takes held)

pub are_there_over : (given : List ℕ → List ℕ → Type 0) (folder : List ℕ) (names : List (String Global))
    (contents : List (Option (List ℕ))) (old new : List Answered) → Keeps IsTemporary given old new → AreThere folder names contents old
    → AreThere folder names contents new
are_there_over given folder names contents old new keeps there path content of lasting =
    there_over given path content old new lasting keeps (there path content of lasting)

-- no file got a path
pub given_none : (to : List ℕ) (content : Option (List ℕ)) (old new : List Answered) → KeepsEach old new → GivesOne to content old new
given_none to content old new keeps = keeps_weaker IsTemporary (λ path bytes. ⊥) _ (λ path bytes none. absurd none) old new keeps

pub on_ok : {T E : Type 0} (r : Result T E) (P : Type 0) → P → OnOk r P
on_ok (Ok x) P is = is
on_ok (Err e) P is = tt

due_some : (path : List ℕ) (content : Option (List ℕ)) (folders : List (String Global)) (calls : List Answered)
    → IsSomeAnd content (λ bytes. HasWhole path bytes calls) → HasFolderOf path folders → IsSomeAnd content (IsDue folders calls path)
due_some path None folders calls has in_one = absurd has
due_some path (Some bytes) folders calls has in_one = inr (has, in_one)

-- a file that was to get a path, whose folder is noted
pub due_placed : (path to : List ℕ) (content : Option (List ℕ)) (folders : List (String Global)) (calls : List Answered)
    (is : PlacedName) → path ≡ to → IsPlacedAt to content calls is → HasFolderOf to folders → IsDueAt folders calls path content
due_placed path to content folders calls outcome.Placed same has in_one =
    subst (λ (p : List ℕ). IsDueAt folders calls p content) (sym same) (inr (due_some to content folders calls has in_one))
due_placed path to content folders calls outcome.IsThere same was in_one =
    subst (λ (p : List ℕ). IsDueAt folders calls p content) (sym same) (inl was)

pub same_made : (folder : List ℕ) (names others : List (String Global)) (contents other : List (Option (List ℕ))) → names ≡ others
    → contents ≡ other → (path : List ℕ) (content : Option (List ℕ)) → IsMadeOf folder names contents path content
    → IsMadeOf folder others other path content
same_made folder names others contents other is are path content made =
    subst (λ cs. IsMadeOf folder others cs path content) are (subst (λ ns. IsMadeOf folder ns contents path content) is made)

-- the first of the files that wait, or another
module _ (folder : List ℕ) (name : String Global) (own : Option (List ℕ)) (names all : List (String Global))
    (contents every : List (Option (List ℕ))) (is : all ≡ name ∷ names) (are : every ≡ own ∷ contents) (path : List ℕ)
    (content : Option (List ℕ)) where
  abbrev IsOwn : Type 0
  IsOwn = (path ≡ path_of folder name) × (content ≡ own)

  pub made_first : IsMadeOf folder all every path content → IsOwn ⊎ IsMadeOf folder names contents path content
  made_first made = let at : IsMadeOf folder (name ∷ names) (own ∷ contents) path content =
      same_made folder all (name ∷ names) every (own ∷ contents) is are path content made in at

  pub made_one : IsOwn ⊎ IsMadeOf folder names contents path content → IsMadeOf folder all every path content
  made_one one = let at : IsMadeOf folder (name ∷ names) (own ∷ contents) path content = one in
      same_made folder (name ∷ names) all (own ∷ contents) every (sym is) (sym are) path content at

pub none_wait : (folder : List ℕ) (names : List (String Global)) (contents : List (Option (List ℕ))) → (names ≡ []) ⊎ (contents ≡ [])
    → (path : List ℕ) (content : Option (List ℕ)) → IsMadeOf folder names contents path content → ⊥
none_wait folder [] contents empty path content made = made
none_wait folder (name ∷ names) [] empty path content made = made
none_wait folder (name ∷ names) (own ∷ contents) (inl empty) path content made = absurd (cc)
none_wait folder (name ∷ names) (own ∷ contents) (inr empty) path content made = absurd (cc)

-- what is due at one path is due at another one that is the same
pub due_same : (path to : List ℕ) (content own : Option (List ℕ)) (folders : List (String Global)) (calls : List Answered) → path ≡ to
    → content ≡ own → (is_temporary to ≡ false → IsDueAt folders calls to own) → is_temporary path ≡ false
    → IsDueAt folders calls path content
due_same path to content own folders calls same is due lasting =
    subst (λ (p : List ℕ). IsDueAt folders calls p content) (sym same) (subst (IsDueAt folders calls to) (sym is)
    (due (subst (λ (p : List ℕ). is_temporary p ≡ false) same lasting)))

pub not_none : {A : Type 0} (o : Option A) (is : Bool) → is ≡ is_some o → is ≡ true → o ≡ None → ⊥
not_none None is so on none = let both : true ≡ false = sym on ∙ so in cc
not_none (Some x) is so on none = let both : Some x ≡ None = none in cc

pub is_none : {A : Type 0} (o : Option A) (is : Bool) → is ≡ is_some o → is ≡ false → o ≡ None
is_none None is so off = refl
is_none (Some x) is so off = absurd (let both : false ≡ true = sym off ∙ so in cc)

pub if_no_error : {T E : Type 0} (r : Result T E) (P : Type 0) → result_err r ≡ None → OnOk r P → P
if_no_error (Ok x) P none is = is
if_no_error (Err e) P none is = absurd (let both : Some e ≡ None = none in cc)

pub on_ok_then : {T E : Type 0} (r : Result T E) (P Q : Type 0) → OnOk r P → (P → Q) → OnOk r Q
on_ok_then (Ok x) P Q is leads = leads is
on_ok_then (Err e) P Q is leads = tt

-- a file got a path after calls that gave none
pub after_quiet : (to : List ℕ) (content own : Option (List ℕ)) (old mid new : List Answered) → own ≡ content → KeepsEach old mid
    → GivesOne to own mid new → GivesOne to content old new
after_quiet to content own old mid new is keeps gives = subst (λ c. GivesOne to c old new) is
    (keeps_after IsTemporary (IsGiven to own new) old mid new
    (keeps_weaker IsTemporary (λ path bytes. ⊥) _ (λ path bytes none. absurd none) old mid keeps) gives)

-- what is there at one path is there at another one that is the same
pub there_same : (path to : List ℕ) (content own : Option (List ℕ)) (calls : List Answered) → path ≡ to → content ≡ own
    → (is_temporary to ≡ false → IsThereAt calls to own) → is_temporary path ≡ false → IsThereAt calls path content
there_same path to content own calls same is there lasting =
    subst (λ (p : List ℕ). IsThereAt calls p content) (sym same) (subst (IsThereAt calls to) (sym is)
    (there (subst (λ (p : List ℕ). is_temporary p ≡ false) same lasting)))

-- ---- descriptions, one after the other

next_of : (names : List (String Global)) (k : ℕ) (d name : String Global) → k < length names → name ≡ get_or names k d
    → drop k names ≡ name ∷ drop (k + 1) names
next_of names k d name lt is =
    drop-cons names k d lt ∙ ap (λ n. n ∷ drop (suc k) names) (sym is)
    ∙ ap (λ m. name ∷ drop m names) {x = suc k} {y = k + 1} (omega arith)

module _ (folder : List ℕ) (names : List (String Global)) (text : List ℕ) where
  -- those from an index on
  abbrev pub WaitFrom : ℕ → List ℕ → Option (List ℕ) → Type 0
  WaitFrom k = IsMadeOf folder (drop k names) (each_has (drop k names) text)

  module _ (k : ℕ) (d name : String Global) (lt : k < length names) (is : name ≡ get_or names k d) (path : List ℕ)
      (content : Option (List ℕ)) where
    pub wait_first : WaitFrom k path content → ((path ≡ path_of folder name) × (content ≡ Some text)) ⊎ WaitFrom (k + 1) path content
    wait_first = made_first folder name (Some text) (drop (k + 1) names) (drop k names) (each_has (drop (k + 1) names) text)
        (each_has (drop k names) text) (next_of names k d name lt is)
        (ap (λ (ns : List (String Global)). each_has ns text) (next_of names k d name lt is)) path content

    pub wait_one : ((path ≡ path_of folder name) × (content ≡ Some text)) ⊎ WaitFrom (k + 1) path content → WaitFrom k path content
    wait_one = made_one folder name (Some text) (drop (k + 1) names) (drop k names) (each_has (drop (k + 1) names) text)
        (each_has (drop k names) text) (next_of names k d name lt is)
        (ap (λ (ns : List (String Global)). each_has ns text) (next_of names k d name lt is)) path content

  pub wait_none : (k : ℕ) → length names ≤ k → (path : List ℕ) (content : Option (List ℕ)) → WaitFrom k path content → ⊥
  wait_none k le path content waits =
      none_wait folder (drop k names) (each_has (drop k names) text) (inl (drop_all k names le)) path content waits
