-- Files that get the names of others.
use Rattle.std.proofs.Common.{◌≡◌, ◌⊎◌, inl, inr, ℕ, List, [], ◌∷◌, ◌++◌, Bool, true, false, Option, None, refl, sym, ◌∙◌, ap, subst}
use Rattle.std.proofs.Common.{String, Global, string_bytes}
use Rattle.folders.specs.Calls.{Answered}
use Rattle.folders.specs.Given.{AreGiven, Gives, IsAbsent, IsNewAt, IsPair, LeadThere, NothingNew, RenameOwn}
use Rattle.folders.specs.Kept.{IsSound}
use Rattle.folders.specs.Worlds.{World, IsLawful}
use Rattle.folders.proofs.GivenAfter.{gives_after, gives_nothing, gives_weaker, own_front}
use Rattle.folders.proofs.KeptGiven.{keeps_gives}
use Rattle.folders.proofs.NewFiles.{lost_gives}
use Rattle.folders.proofs.Runs.{at_last, lawful_front}
use Rattle.store_folder.specs.Kept.{IsTemporary, KeepsEach}
use Rattle.store_folder.specs.Temporary.{AreTaken, is_temporary}
use Rattle.store_folder.specs.Written.{Puts, PutsOne}
use Rattle.store_folder.proofs.Written.{puts_weaker}
use Rattle.store_encoding.specs.Names.{CanGive, IsNamed, IsPairOf, Replaces, path_of}
use Rattle.store_encoding.specs.Replaced.{AllBut, AllGot, GivesOnly, HasItsFile, IsGivenTo, IsRun}
use Rattle.store_encoding.specs.Taken.{GoesOf}
use Rattle.store_encoding.specs.declared.encoding.stripe_files.StripeFiles.{StripeFiles}
use Rattle.store_encoding.proofs.Names.{can_some}
use Rattle.store_encoding.proofs.HaveGot.{got_over, got_since, got_there, had_none, had_seen}

pub is_temporary_not : (b : Bool) → b ≡ false → b ≡ true → ⊥
is_temporary_not b off on = let both : true ≡ false = sym on ∙ off in absurd (cc)

-- ---- runs one after another

pub kept_gives : (gives : List ℕ → List ℕ → Type 0) (old new : List Answered) → KeepsEach old new → GivesOnly gives old new
kept_gives gives old new run = keeps_gives IsTemporary gives NothingNew old new run

pub gives_none : (gives : List ℕ → List ℕ → Type 0) (calls : List Answered) → GivesOnly gives calls calls
gives_none gives calls = gives_nothing IsTemporary gives NothingNew calls

pub some_give : (gives some : List ℕ → List ℕ → Type 0) → ((from to : List ℕ) → some from to → gives from to) → (old new : List Answered)
    → GivesOnly some old new → GivesOnly gives old new
some_give gives some more old new run =
    gives_weaker some gives NothingNew NothingNew more (λ path content none. none) IsTemporary old new run

pub gives_then : (gives some : List ℕ → List ℕ → Type 0) → CanGive gives → ((from to : List ℕ) → some from to → gives from to)
    → (old mid new : List Answered) → GivesOnly gives old mid → GivesOnly some mid new → GivesOnly gives old new
gives_then gives some can more old mid new first second = gives_after IsTemporary gives NothingNew some NothingNew more
    (λ path content none. none) (λ from to gets. is_temporary_not _ (can.lasting from to (more from to gets)))
    (λ from between to before after. can.apart from between to before (more between to after)) (λ from to content gets none. none)
    old mid new first second

pub same_pair : (path other one another : List ℕ) → path ≡ one → other ≡ another → (old new : List Answered)
    → GivesOnly (IsPair path other) old new → GivesOnly (IsPair one another) old new
same_pair path other one another is is_other old new run =
    subst (λ (p : List ℕ). GivesOnly (IsPair p another) old new) is
    (subst (λ (p : List ℕ). GivesOnly (IsPair path p) old new) is_other run)

pub same_given : (path other one another : List ℕ) → path ≡ one → other ≡ another → (calls : List Answered)
    → IsGivenTo path other calls → IsGivenTo one another calls
same_given path other one another is is_other calls given =
    subst (λ (p : List ℕ). IsGivenTo p another calls) is (subst (λ (p : List ℕ). IsGivenTo path p calls) is_other given)

-- the path of a name, as its parts are known
pub path_is : (folder here : List ℕ) (name : String Global) (text : List ℕ) → here ≡ folder → text ≡ string_bytes name
    → here ++ 47 ∷ text ≡ path_of folder name
path_is folder here name text same is =
    ap (λ (f : List ℕ). f ++ 47 ∷ text) same ∙ ap (λ (t : List ℕ). folder ++ 47 ∷ t) is

-- ---- how a run may have gone

pub at_end : (gives : List ℕ → List ℕ → Type 0) (puts : List ℕ → Option (List ℕ) → Type 0) (old new : List Answered)
    → Gives IsTemporary gives puts old new → (w : World) → IsRun gives w old new
    → IsSound IsTemporary w new × AreGiven IsTemporary gives puts w old new
at_end gives puts old new run w went =
    subst (λ (calls : List Answered). IsSound IsTemporary w calls × AreGiven IsTemporary gives puts w old calls) (sym run.are)
    (at_last (λ calls. IsLawful w calls → IsSound IsTemporary w calls × AreGiven IsTemporary gives puts w old calls) run.more old
    (run.whenever w went.sound went.own_renamed went.own) (subst (IsLawful w) run.are went.lawful))

module _ (gives some : List ℕ → List ℕ → Type 0) (more : (from to : List ℕ) → some from to → gives from to) (w : World)
    (old mid new : List Answered) where
  -- up to a moment
  pub run_front : (next : List ℕ → List ℕ → Type 0) (puts : List ℕ → Option (List ℕ) → Type 0) → Gives IsTemporary next puts mid new
      → IsRun gives w old new → IsRun some w old mid
  run_front next puts second went = record {
    sound = went.sound;
    own_renamed = own_front w second.more mid (subst (RenameOwn w) second.are went.own_renamed);
    own = λ from to gets. went.own from to (more from to gets);
    lawful = lawful_front w second.more mid (subst (IsLawful w) second.are went.lawful);
  }

  -- and since then
  pub run_since : IsSound IsTemporary w mid → IsRun gives w old new → IsRun some w mid new
  run_since sound went = record {
    sound = sound;
    own_renamed = went.own_renamed;
    own = λ from to gets. went.own from to (more from to gets);
    lawful = went.lawful;
  }

-- ---- paths that have got files

-- one that has got a file keeps it
pub keeps_got : (gives some : List ℕ → List ℕ → Type 0) → CanGive gives → ((from to : List ℕ) → some from to → gives from to)
    → (old mid new : List Answered) → GivesOnly gives old mid → GivesOnly some mid new → (w : World) → IsRun gives w old new
    → (from to : List ℕ) → gives from to → w.ours to ≡ true → HasItsFile gives w old mid from to → HasItsFile gives w old new from to
keeps_got gives some can more old mid new first second w went from to gets ours (inl none) = inl none
keeps_got gives some can more old mid new first second w went from to gets ours (inr got) =
    let front = run_front gives gives (λ p q is. is) w old mid new some NothingNew second went in
    let at_mid = at_end gives NothingNew old mid first w front in
    let at_new = at_end some NothingNew mid new second w (run_since gives some more w old mid new at_mid.0 went) in
    inr (got_over IsTemporary gives NothingNew w old mid at_mid.1 some NothingNew more new at_new.1
    (λ p q is. went.own p q (more p q is)) (λ p q is. is_temporary_not _ (can.lasting p q (more p q is)))
    (λ p q r before after. can.apart p q r before (more q r after)) (λ p q content is no. no) to ours
    (is_temporary_not _ (can.lasting_too from to gets)) (λ content no. no) got)

-- one that has got a file since a moment
pub got_later : (gives some : List ℕ → List ℕ → Type 0) → CanGive gives → ((from to : List ℕ) → some from to → gives from to)
    → (old mid new : List Answered) → GivesOnly gives old mid → GivesOnly some mid new → (w : World) → IsRun gives w old new
    → (from to : List ℕ) → some from to → HasItsFile some w mid new from to → HasItsFile gives w old new from to
got_later gives some can more old mid new first second w went from to gets got =
    let front = run_front gives gives (λ p q is. is) w old mid new some NothingNew second went in
    let at_mid = at_end gives NothingNew old mid first w front in
    let at_new = at_end some NothingNew mid new second w (run_since gives some more w old mid new at_mid.0 went) in
    let is = more from to gets in elim got [
      | inl none ↦ inl (sym (had_seen IsTemporary gives NothingNew w old mid at_mid.1 from (went.own from to is)
          (is_temporary_not _ (can.lasting from to is)) (λ p before. can.apart p from to before is) (λ content no. no)) ∙ none)
      | inr has ↦ inr (got_since IsTemporary gives NothingNew w old mid at_mid.1 some NothingNew more new at_new.1
          (λ p q so. went.own p q (more p q so)) (λ p q so. is_temporary_not _ (can.lasting p q (more p q so)))
          (λ p q r before after. can.apart p q r before (more q r after)) (λ p q content so no. no) to has)
    ]

-- the last one that has got a file
got_last : (gives : List ℕ → List ℕ → Type 0) → CanGive gives → (old new : List Answered) → GivesOnly gives old new → (path other : List ℕ)
    → gives path other → IsGivenTo path other new → (w : World) → IsRun gives w old new → w.ours other ≡ true
    → HasItsFile gives w old new path other
got_last gives can old new run path other gets given w went ours =
    let at_new = at_end gives NothingNew old new run w went in
    let our_path = went.own path other gets in
    let lasting = is_temporary_not _ (can.lasting path other gets) in elim given [
      | inl absent ↦ inl (had_none IsTemporary gives NothingNew w old new at_new.1 path our_path lasting
          (λ p before. can.apart p path other before gets) (λ content no. no) (absent w went.lawful our_path))
      | inr leads ↦ let led = leads w went.lawful went.own_renamed our_path ours in
          inr (got_there IsTemporary gives NothingNew w old new at_new.1 path our_path lasting
          (λ p before. can.apart p path other before gets) (λ content no. no) other gets led.0 led.1)
    ]

-- one more has got its file
pub all_step : (gives rest rest_next : List ℕ → List ℕ → Type 0) → CanGive gives → (path other : List ℕ) → gives path other
    → ((from to : List ℕ) → rest from to → IsPair path other from to ⊎ rest_next from to) → (old mid new : List Answered)
    → GivesOnly gives old mid → GivesOnly (IsPair path other) mid new → IsGivenTo path other new → AllBut rest gives old mid
    → AllBut rest_next gives old new
all_step gives rest rest_next can path other is next old mid new first second given all w went from to gets ours =
    let pair_gives = λ (p q : List ℕ) (pair : IsPair path other p q). subst (λ (x : List ℕ). gives x q) (sym pair.0)
    (subst (λ (y : List ℕ). gives path y) (sym pair.1) is) in
    let run = gives_then gives (IsPair path other) can pair_gives old mid new first second in
    let front = run_front gives gives (λ p q so. so) w old mid new (IsPair path other) NothingNew second went in
    elim (all w front from to gets ours) [
      | inl waits ↦ elim (next from to waits) [
        | inr later ↦ inl later
        | inl here ↦ inr (subst (λ (p : List ℕ). HasItsFile gives w old new p to) (sym here.0)
            (subst (λ (q : List ℕ). HasItsFile gives w old new path q) (sym here.1)
            (got_last gives can old new run path other is given w went (subst (λ (q : List ℕ). w.ours q ≡ true) here.1 ours))))
      ]
      | inr has ↦ inr (keeps_got gives (IsPair path other) can pair_gives old mid new first second w went from to gets ours has)
    ]

-- none is still to get one
pub all_last : (gives rest : List ℕ → List ℕ → Type 0) (old new : List Answered) → ((from to : List ℕ) → rest from to → ⊥)
    → AllBut rest gives old new → AllGot gives old new
all_last gives rest old new none all w went from to gets ours = elim (all w went from to gets ours) [
  | inl waits ↦ absurd (none from to waits)
  | inr has ↦ has
]

-- ---- pairs of names that are gone through

module _ (folder : List ℕ) (name other : String Global) (names others all all_others : List (String Global)) (is : all ≡ name ∷ names)
    (are_others : all_others ≡ other ∷ others) (from to : List ℕ) where
  pub pair_first : IsPairOf folder all all_others from to
      → IsPair (path_of folder name) (path_of folder other) from to ⊎ IsPairOf folder names others from to
  pair_first pair = let at : IsPairOf folder (name ∷ names) (other ∷ others) from to =
      subst (λ (l : List (String Global)). IsPairOf folder (name ∷ names) l from to) are_others
      (subst (λ (l : List (String Global)). IsPairOf folder l all_others from to) is pair) in at

  pub pair_one : IsPair (path_of folder name) (path_of folder other) from to ⊎ IsPairOf folder names others from to
      → IsPairOf folder all all_others from to
  pair_one pair = let at : IsPairOf folder (name ∷ names) (other ∷ others) from to = pair in
      subst (λ (l : List (String Global)). IsPairOf folder l all_others from to) (sym is)
      (subst (λ (l : List (String Global)). IsPairOf folder (name ∷ names) l from to) (sym are_others) at)

pub no_pair : (folder : List ℕ) (names others : List (String Global)) → (names ≡ []) ⊎ (others ≡ []) → (from to : List ℕ)
    → IsPairOf folder names others from to → ⊥
no_pair folder [] others none from to pair = pair
no_pair folder (name ∷ names) [] none from to pair = pair
no_pair folder (name ∷ names) (other ∷ others) (inl none) from to pair = absurd (cc)
no_pair folder (name ∷ names) (other ∷ others) (inr none) from to pair = absurd (cc)

-- the same lists of names, as their parts are known
pub same_pairs : (folder here : List ℕ) (names some others some_others : List (String Global)) → here ≡ folder → some ≡ names
    → some_others ≡ others → (from to : List ℕ) → IsPairOf here some some_others from to → IsPairOf folder names others from to
same_pairs folder here names some others some_others same is is_other from to pair =
    subst (λ (f : List ℕ). IsPairOf f names others from to) same
    (subst (λ (l : List (String Global)). IsPairOf here l others from to) is
    (subst (λ (l : List (String Global)). IsPairOf here some l from to) is_other pair))

-- ---- a stripe's fragments and then its descriptions

got_more : (gives some : List ℕ → List ℕ → Type 0) → ((from to : List ℕ) → some from to → gives from to) → (w : World)
    (old new : List Answered) (from to : List ℕ) → HasItsFile some w old new from to → HasItsFile gives w old new from to
got_more gives some more w old new from to (inl none) = inl none
got_more gives some more w old new from to (inr got) = inr (record {
  seen = (got.seen.0, more got.seen.0 to got.seen.1, got.seen.2);
  left = (got.left.0, more got.left.0 to got.left.1, got.left.2);
})

pub all_joined : (first last : List ℕ → List ℕ → Type 0) → CanGive (λ from to. first from to ⊎ last from to)
    → (old given mid new : List Answered) → GivesOnly first old given → GivesOnly first given mid → GivesOnly last mid new
    → AllGot first old given → AllGot last mid new → AllGot (λ from to. first from to ⊎ last from to) old new
all_joined first last can old given mid new gives gone gives_last got got_last_ones w went from to gets ours =
    let both : List ℕ → List ℕ → Type 0 = λ p q. first p q ⊎ last p q in
    let one = some_give both first (λ p q is. inl is) old given gives in
    let two = gives_then both first can (λ p q is. inl is) old given mid one gone in
    let at_mid = run_front both both (λ p q is. is) w old mid new last NothingNew gives_last went in
    let at_given = run_front both first (λ p q is. inl is) w old given mid first NothingNew gone at_mid in
    elim gets [
      | inl is ↦ keeps_got both last can (λ p q so. inr so) old mid new two gives_last w went from to (inl is) ours
          (keeps_got both first can (λ p q so. inl so) old given mid one gone w at_mid from to (inl is) ours
          (got_more both first (λ p q so. inl so) w old given from to (got w at_given from to is ours)))
      | inr is ↦ got_later both last can (λ p q so. inr so) old mid new two gives_last w went from to is
          (got_last_ones w (run_since both last (λ p q so. inr so) w old mid new
          (at_end both NothingNew old mid two w at_mid).0 went) from to is ours)
    ]

-- ---- one path and another

-- calls that change no path but temporary ones, and then a file given
pub kept_then : (path other : List ℕ) → CanGive (IsPair path other) → (old mid new : List Answered) → KeepsEach old mid
    → GivesOnly (IsPair path other) mid new → GivesOnly (IsPair path other) old new
kept_then path other can old mid new first second = gives_then (IsPair path other) (IsPair path other) can (λ p q is. is) old mid new
    (kept_gives (IsPair path other) old mid first) second

-- and then a path taken away to which one was to be given that isn't there
pub lost_then : (path other here : List ℕ) → here ≡ path → CanGive (IsPair path other) → (old mid new : List Answered)
    → KeepsEach old mid → IsAbsent here mid → PutsOne other None mid new → GivesOnly (IsPair path other) old new
lost_then path other here same can old mid new first absent second = kept_then path other can old mid new first
    (lost_gives IsTemporary path other mid new (subst (λ (p : List ℕ). IsAbsent p mid) same absent) second)

-- the path of one name goes
pub one_goes : (folder : List ℕ) (name : String Global) (names : List (String Global)) → names ≡ name ∷ [] → (old new : List Answered)
    → Puts (GoesOf folder names) old new → PutsOne (path_of folder name) None old new
one_goes folder name names is old new run = puts_weaker (GoesOf folder names) (IsNewAt (path_of folder name) None)
    (λ path content goes. (one path (subst (λ (l : List (String Global)). IsNamed folder l path) is goes.0), goes.1)) old new run where
      one : (path : List ℕ) → IsNamed folder (name ∷ []) path → path ≡ path_of folder name
      one path (inl here) = here
      one path (inr none) = absurd none

-- a name that was given, by a path and another one as these are known
module _ (path other here there : List ℕ) (is : here ≡ path) (is_other : there ≡ other) (can : CanGive (IsPair path other)) where
  off : is_temporary here ≡ false
  off = ap is_temporary is ∙ can.lasting path other (refl, refl)

  pub name_given : (old mid new : List Answered) → KeepsEach old mid
      → ((taken : List ℕ → Bool) → AreTaken taken → taken here ≡ false
      → Gives (λ p. taken p ≡ true) (IsPair here there) NothingNew mid new) → GivesOnly (IsPair path other) old new
  name_given old mid new kept gives = kept_then path other can old mid new kept
      (same_pair here there path other is is_other mid new (gives is_temporary (λ p temporary. temporary) off))

  pub lead_given : (calls : List Answered)
      → (is_temporary here ≡ false → is_temporary there ≡ false → LeadThere here there calls) → IsGivenTo path other calls
  lead_given calls leads = inr (subst (λ (p : List ℕ). LeadThere p other calls) is
      (subst (λ (p : List ℕ). LeadThere here p calls) is_other (leads off
      (ap is_temporary is_other ∙ can.lasting_too path other (refl, refl)))))

-- ---- names that are gone through: this one and the other one are the next of those that are left
module _ (folder here : List ℕ) (name other : String Global) (some some_others names others all all_others : List (String Global))
    (text text_of_other : List ℕ) (same : here ≡ folder) (is : all ≡ name ∷ names) (are_others : all_others ≡ other ∷ others)
    (named : text ≡ string_bytes name) (other_named : text_of_other ≡ string_bytes other)
    (can : CanGive (IsPairOf folder some some_others))
    (rest : (from to : List ℕ) → IsPairOf folder all all_others from to → IsPairOf folder some some_others from to) where
  abbrev pub Pair : List ℕ → List ℕ → Type 0
  Pair = IsPair (path_of folder name) (path_of folder other)

  pair_of : (from to : List ℕ) → Pair from to → IsPairOf folder some some_others from to
  pair_of from to pair = rest from to (pair_one folder name other names others all all_others is are_others from to (inl pair))

  pub rest_of : (from to : List ℕ) → IsPairOf folder names others from to → IsPairOf folder some some_others from to
  rest_of from to pair = rest from to (pair_one folder name other names others all all_others is are_others from to (inr pair))

  name_path : here ++ 47 ∷ text ≡ path_of folder name
  name_path = path_is folder here name text same named

  other_path : here ++ 47 ∷ text_of_other ≡ path_of folder other
  other_path = path_is folder here other text_of_other same other_named

  -- the next can be given
  pub can_next : CanGive (IsPair (here ++ 47 ∷ text) (here ++ 47 ∷ text_of_other))
  can_next = can_some (IsPairOf folder some some_others) (IsPair (here ++ 47 ∷ text) (here ++ 47 ∷ text_of_other))
      (λ from to pair. pair_of from to (pair.0 ∙ name_path, pair.1 ∙ other_path)) can

  step_of : (mid new : List Answered) → GivesOnly (IsPair (here ++ 47 ∷ text) (here ++ 47 ∷ text_of_other)) mid new → GivesOnly Pair mid new
  step_of mid new step = same_pair (here ++ 47 ∷ text) (here ++ 47 ∷ text_of_other) (path_of folder name) (path_of folder other)
      name_path other_path mid new step

  -- and then all before it, and it, are
  pub next_gives : (old mid new : List Answered) → GivesOnly (IsPairOf folder some some_others) old mid
      → GivesOnly (IsPair (here ++ 47 ∷ text) (here ++ 47 ∷ text_of_other)) mid new
      → GivesOnly (IsPairOf folder some some_others) old new
  next_gives old mid new first step =
      gives_then (IsPairOf folder some some_others) Pair can pair_of old mid new first (step_of mid new step)

  pub next_got : (old mid new : List Answered) → GivesOnly (IsPairOf folder some some_others) old mid
      → GivesOnly (IsPair (here ++ 47 ∷ text) (here ++ 47 ∷ text_of_other)) mid new
      → IsGivenTo (here ++ 47 ∷ text) (here ++ 47 ∷ text_of_other) new
      → AllBut (IsPairOf folder all all_others) (IsPairOf folder some some_others) old mid
      → AllBut (IsPairOf folder names others) (IsPairOf folder some some_others) old new
  next_got old mid new first step given got = all_step (IsPairOf folder some some_others) (IsPairOf folder all all_others)
      (IsPairOf folder names others) can (path_of folder name) (path_of folder other)
      (pair_of (path_of folder name) (path_of folder other) (refl, refl))
      (λ from to pair. pair_first folder name other names others all all_others is are_others from to pair) old mid new first
      (step_of mid new step) (same_given (here ++ 47 ∷ text) (here ++ 47 ∷ text_of_other) (path_of folder name) (path_of folder other)
      name_path other_path new given) got

-- ---- the files of a stripe
module _ (folder : List ℕ) (files others : StripeFiles) (can : CanGive (Replaces folder files others)) where
  abbrev pub Fragments : List ℕ → List ℕ → Type 0
  Fragments = IsPairOf folder files.fragments.items others.fragments.items

  abbrev pub Descriptions : List ℕ → List ℕ → Type 0
  Descriptions = IsPairOf folder files.descriptions.items others.descriptions.items

  -- lists of names that are those of its fragments, or of its descriptions
  module _ (here : List ℕ) (some some_others : List (String Global)) (same : here ≡ folder) where
    pub fragments_can : some ≡ files.fragments.items → some_others ≡ others.fragments.items → CanGive (IsPairOf here some some_others)
    fragments_can is is_other = can_some (Replaces folder files others) (IsPairOf here some some_others)
        (λ from to pair. inl (same_pairs folder here files.fragments.items some others.fragments.items some_others same is is_other
        from to pair)) can

    pub descriptions_can : some ≡ files.descriptions.items → some_others ≡ others.descriptions.items
        → CanGive (IsPairOf here some some_others)
    descriptions_can is is_other = can_some (Replaces folder files others) (IsPairOf here some some_others)
        (λ from to pair. inr (same_pairs folder here files.descriptions.items some others.descriptions.items some_others same is is_other
        from to pair)) can

  pub fragments_given : (old new : List Answered) → GivesOnly Fragments old new → GivesOnly (Replaces folder files others) old new
  fragments_given old new run = some_give (Replaces folder files others) Fragments (λ from to pair. inl pair) old new run

  pub fragments_then : (old mid new : List Answered) → GivesOnly Fragments old mid → GivesOnly Fragments mid new
      → GivesOnly (Replaces folder files others) old new
  fragments_then old mid new first second = gives_then (Replaces folder files others) Fragments can (λ from to pair. inl pair) old mid new
      (fragments_given old mid first) second

  pub descriptions_then : (old given mid new : List Answered) → GivesOnly Fragments old given → GivesOnly Fragments given mid
      → GivesOnly Descriptions mid new → GivesOnly (Replaces folder files others) old new
  descriptions_then old given mid new first second last = gives_then (Replaces folder files others) Descriptions can
      (λ from to pair. inr pair) old mid new (fragments_then old given mid first second) last

  pub all_given : (old given mid new : List Answered) → GivesOnly Fragments old given → GivesOnly Fragments given mid
      → GivesOnly Descriptions mid new → AllGot Fragments old given → AllGot Descriptions mid new
      → AllGot (Replaces folder files others) old new
  all_given old given mid new first second last got got_too = all_joined Fragments Descriptions can old given mid new first second last
      got got_too

  pub same_run : (here : List ℕ) (some names some_others names_of_others : List (String Global)) → here ≡ folder → some ≡ names
      → some_others ≡ names_of_others → (old new : List Answered) → GivesOnly (IsPairOf here some some_others) old new
      → GivesOnly (IsPairOf folder names names_of_others) old new
  same_run here some names some_others names_of_others same is is_other old new run =
      some_give (IsPairOf folder names names_of_others) (IsPairOf here some some_others)
      (same_pairs folder here names some names_of_others some_others same is is_other) old new run

  pub same_got : (here : List ℕ) (some names some_others names_of_others : List (String Global)) → here ≡ folder → some ≡ names
      → some_others ≡ names_of_others → (old new : List Answered) → AllGot (IsPairOf here some some_others) old new
      → AllGot (IsPairOf folder names names_of_others) old new
  same_got here some names some_others names_of_others same is is_other old new got =
      subst (λ (f : List ℕ). AllGot (IsPairOf f names names_of_others) old new) same
      (subst (λ (l : List (String Global)). AllGot (IsPairOf here l names_of_others) old new) is
      (subst (λ (l : List (String Global)). AllGot (IsPairOf here some l) old new) is_other got))
