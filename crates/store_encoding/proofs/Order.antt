-- The order in which files are replaced.
use Rattle.std.proofs.Common.{◌≡◌, ◌⊎◌, inl, inr, ℕ, List, ◌++◌, true, Option, Some, None, option_map, sym, ◌∙◌, ap, subst}
use Rattle.std.proofs.Common.{IfSome, IsSome}
use Rattle.std.proofs.lemmas.List.{append_assoc}
use Rattle.folders.specs.Calls.{Answered}
use Rattle.folders.specs.Disk.{IsOnDisk}
use Rattle.folders.specs.Files.{Files, under}
use Rattle.folders.specs.Given.{AreGiven, Gives, HasGot, Nothing, NothingNew, RenameOwn}
use Rattle.folders.specs.Kept.{AtEach, IsSound}
use Rattle.folders.specs.Worlds.{World, IsLawful}
use Rattle.folders.proofs.GivenAfter.{gives_after, gives_weaker, own_front}
use Rattle.folders.proofs.Runs.{at_last, each_after, each_given, each_weaker}
use Rattle.store_folder.specs.Kept.{IsTemporary}
use Rattle.store_folder.specs.Written.{Puts}
use Rattle.store_encoding.specs.Names.{AreApart, IsFileOf, Replaces, sums_path}
use Rattle.store_encoding.specs.Replaced.{AllGot, GivesOnly, Goes, HasBoth, HasNew, HasOld, IsNewOf, IsRun, IsSums, ReplacesFile}
use Rattle.store_encoding.specs.Replaced.{SaysOthers}
use Rattle.store_records.specs.declared.sums.Sums.{Sums}
use Rattle.store_encoding.specs.declared.encoding.stripe_files.StripeFiles.{StripeFiles}
use Rattle.store_encoding.proofs.HaveGot.{got_over, had_left, had_seen}
use Rattle.store_encoding.proofs.Names.{replaces_named}
use Rattle.store_encoding.proofs.Replaced.{at_end, is_temporary_not, run_front, run_since}

-- what is at a path that leads to a whole file
at_path : (files : Files) (path bytes : List ℕ) (file : ℕ) → files.named path ≡ Some file → files.bytes file ≡ bytes
    → under files path ≡ Some bytes
at_path files path bytes file leads is =
    ap (λ (o : Option ℕ). option_map files.bytes o) leads ∙ ap (λ (b : List ℕ). Some b) is

text_there : (path : List ℕ) (text : Option (List ℕ)) (calls : List Answered) → IfSome text (λ bytes. IsOnDisk path bytes calls)
    → IsSome text → (w : World) → IsLawful w calls → w.ours path ≡ true
    → (under (w.seen calls) path ≡ text) × (under (w.left calls) path ≡ text)
text_there path None calls held some w lawful ours = absurd (cc)
text_there path (Some bytes) calls held some w lawful ours = let here = held w lawful ours in (
  at_path (w.seen calls) path bytes here.whole.file here.whole.leads here.whole.seen,
  at_path (w.left calls) path bytes here.whole.file here.leads here.whole.left,
)

module _ (folder : List ℕ) (files others : StripeFiles) where
  abbrev pub Pairs : List ℕ → List ℕ → Type 0
  Pairs = Replaces folder files others

  -- ---- nothing gets a name, and the stripe's files go
  pub replaces_none : (sums : Sums) (old new : List Answered) → Puts (Goes folder files) old new
      → ReplacesFile folder files others sums old new
  replaces_none sums old new run = record {
    text = None;
    says = tt;
    gives = gives_weaker Nothing Pairs (Goes folder files) (IsNewOf folder None files) (λ from to none. absurd none)
        (λ path content goes. inr goes) IsTemporary old new run;
    more = run.more;
    are = run.are;
    order = λ w sound own_renamed own. each_weaker
        (λ calls. IsLawful w calls → IsSound IsTemporary w calls × AreGiven IsTemporary Nothing (Goes folder files) w old calls)
        (λ calls. IsLawful w calls
        → HasOld folder files w old calls ⊎ HasNew folder files w old calls ⊎ HasBoth folder files others None w old calls)
        (λ calls holds lawful. let found = (holds lawful).1 in inl (λ path ours lasting no_file. (
          had_seen IsTemporary Nothing (Goes folder files) w old calls found path ours (is_temporary_not _ lasting) (λ p none. none)
              (λ content goes. no_file goes.0),
          had_left IsTemporary Nothing (Goes folder files) w old calls found path ours (is_temporary_not _ lasting) (λ p none. none)
              (λ content goes. no_file goes.0),
        ))) run.more old (run.whenever w sound own_renamed (λ from to none. absurd none));
  }

  module _ (are : AreApart folder files others) (text : Option (List ℕ)) where
    abbrev Early : List Answered → List Answered → Type 0
    Early old new = Gives IsTemporary Pairs (IsSums folder text) old new

    not_sums : (path : List ℕ) → IsFileOf folder files path → (content : Option (List ℕ)) → IsSums folder text path content → ⊥
    not_sums path is content sums = are.sums (subst (IsFileOf folder files) sums.0 is)

    new_at : (w : World) (old calls : List Answered) → AreGiven IsTemporary Pairs (IsSums folder text) w old calls
        → HasNew folder files w old calls
    new_at w old calls given path ours is =
        let lasting = is_temporary_not _ (are.lasting path is) in
        let none = λ (p : List ℕ) (gets : Pairs p path). are.apart path is (replaces_named folder files others p path gets).1 in (
          had_seen IsTemporary Pairs (IsSums folder text) w old calls given path ours lasting none (not_sums path is),
          had_left IsTemporary Pairs (IsSums folder text) w old calls given path ours lasting none (not_sums path is),
        )

    each_early : (w : World) (more old : List Answered)
        → AtEach (λ calls. IsLawful w calls → IsSound IsTemporary w calls × AreGiven IsTemporary Pairs (IsSums folder text) w old calls)
        more old
        → AtEach (λ calls. IsLawful w calls
        → HasOld folder files w old calls ⊎ HasNew folder files w old calls ⊎ HasBoth folder files others text w old calls) more old
    each_early w more old each = each_weaker
        (λ calls. IsLawful w calls → IsSound IsTemporary w calls × AreGiven IsTemporary Pairs (IsSums folder text) w old calls)
        (λ calls. IsLawful w calls
        → HasOld folder files w old calls ⊎ HasNew folder files w old calls ⊎ HasBoth folder files others text w old calls)
        (λ calls holds lawful. inr (inl (new_at w old calls (holds lawful).1))) more old each

    all_new : (old new : List Answered) → Early old new → Gives IsTemporary Pairs (IsNewOf folder text files) old new
    all_new old new run = gives_weaker Pairs Pairs (IsSums folder text) (IsNewOf folder text files) (λ from to gets. gets)
        (λ path content sums. inl sums) IsTemporary old new run

    -- ---- the stripe's files don't go
    pub replaces_early : (sums : Sums) → SaysOthers files others sums text → (old new : List Answered) → Early old new
        → ReplacesFile folder files others sums old new
    replaces_early sums says old new run = record {
      text = text;
      says = says;
      gives = all_new old new run;
      more = run.more;
      are = run.are;
      order = λ w sound own_renamed own. each_early w run.more old (run.whenever w sound own_renamed own);
    }

    -- ---- each name has its file, and then the stripe's go
    module _ (w : World) (old mid calls : List Answered) (own : (from to : List ℕ) → Pairs from to → w.ours from ≡ true)
        (lawful : IsLawful w mid) (given : AreGiven IsTemporary Pairs (IsSums folder text) w old mid)
        (got : (from to : List ℕ) → Pairs from to → w.ours to ≡ true → (under (w.seen old) from ≡ None) ⊎ HasGot Pairs w old mid to)
        (sums : IfSome text (λ bytes. IsOnDisk (sums_path folder) bytes mid))
        (next : AreGiven IsTemporary Nothing (Goes folder files) w mid calls) where
      still_got : (from to : List ℕ) → Pairs from to → w.ours to ≡ true
          → (under (w.seen old) from ≡ None) ⊎ HasGot Pairs w old mid to
          → (under (w.seen old) from ≡ None) ⊎ HasGot Pairs w old calls to
      still_got from to gets ours (inl none) = inl none
      still_got from to gets ours (inr has) =
          let named = replaces_named folder files others from to gets in
          inr (got_over IsTemporary Pairs (IsSums folder text) w old mid given Nothing (Goes folder files) (λ p q none. absurd none)
          calls next (λ p q none. absurd none) (λ p q none. absurd none) (λ p q r before none. none) (λ p q content none. absurd none)
          to ours (is_temporary_not _ (are.lasting_too to named.1)) (λ content goes. are.apart to goes.0 named.1) has)

      still_there : w.ours (sums_path folder) ≡ true → IsSome text
          → (under (w.seen calls) (sums_path folder) ≡ text) × (under (w.left calls) (sums_path folder) ≡ text)
      still_there ours some =
          let at_mid = text_there (sums_path folder) text mid sums some w lawful ours in
          let lasting = is_temporary_not _ are.sums_lasting in (
            had_seen IsTemporary Nothing (Goes folder files) w mid calls next (sums_path folder) ours lasting (λ p none. none)
                (λ content goes. are.sums goes.0) ∙ at_mid.0,
            had_left IsTemporary Nothing (Goes folder files) w mid calls next (sums_path folder) ours lasting (λ p none. none)
                (λ content goes. are.sums goes.0) ∙ at_mid.1,
          )

      both_at : HasBoth folder files others text w old calls
      both_at = record {
        got = λ from to gets ours. still_got from to gets ours (got from to gets ours);
        sums = still_there;
      }

    pub replaces_all : (before : Sums) → SaysOthers files others before text → (old mid new : List Answered) → Early old mid
        → AllGot Pairs old mid → IfSome text (λ bytes. IsOnDisk (sums_path folder) bytes mid) → Puts (Goes folder files) mid new
        → ReplacesFile folder files others before old new
    replaces_all before says old mid new early got sums last =
        let later = last.more in let more = early.more in
        let again = subst (λ (calls : List Answered). (w : World) → IsSound IsTemporary w calls → RenameOwn w new
        → ((from to : List ℕ) → Nothing from to → w.ours from ≡ true)
        → AtEach (λ so. IsLawful w so → IsSound IsTemporary w so × AreGiven IsTemporary Nothing (Goes folder files) w calls so) later calls)
        early.are last.whenever in
        let got_here = subst (AllGot Pairs old) early.are got in
        let sums_here = subst (λ (calls : List Answered). IfSome text (λ bytes. IsOnDisk (sums_path folder) bytes calls)) early.are sums in
        record {
          text = text;
          says = says;
          gives = gives_after IsTemporary Pairs (IsNewOf folder text files) Nothing (Goes folder files) (λ from to none. absurd none)
              (λ path content goes. inr goes) (λ from to none. absurd none) (λ from between to before none. none)
              (λ from to content none. absurd none) old mid new (all_new old mid early) last;
          more = later ++ more;
          are = last.are ∙ ap (λ (calls : List Answered). later ++ calls) early.are ∙ sym (append_assoc later more old);
          order = λ w sound own_renamed own.
              let own_mid : RenameOwn w (more ++ old) =
              subst (RenameOwn w) early.are (own_front w later mid (subst (RenameOwn w) last.are own_renamed)) in
              let each = early.whenever w sound (subst (RenameOwn w) (sym early.are) own_mid) own in
              each_after (λ calls. IsLawful w calls
              → HasOld folder files w old calls ⊎ HasNew folder files w old calls ⊎ HasBoth folder files others text w old calls)
              later more old (each_early w more old each)
              (each_given w
              (λ calls. HasOld folder files w old calls ⊎ HasNew folder files w old calls ⊎ HasBoth folder files others text w old calls)
              later (more ++ old) (λ lawful.
              let at_mid = at_last (λ calls. IsLawful w calls
              → IsSound IsTemporary w calls × AreGiven IsTemporary Pairs (IsSums folder text) w old calls) more old each lawful in
              let went : IsRun Pairs w old (more ++ old) =
              record { sound = sound; own_renamed = own_mid; own = own; lawful = lawful } in
              each_weaker (λ calls. IsLawful w calls
              → IsSound IsTemporary w calls × AreGiven IsTemporary Nothing (Goes folder files) w (more ++ old) calls)
              (λ calls. IsLawful w calls
              → HasOld folder files w old calls ⊎ HasNew folder files w old calls ⊎ HasBoth folder files others text w old calls)
              (λ calls holds so. inr (inr (both_at w old (more ++ old) calls own lawful at_mid.1 (got_here w went) sums_here
              (holds so).1))) later (more ++ old) (again w at_mid.0 own_renamed (λ from to none. absurd none))));
        }

-- ---- runs as their parts are known

pub given_early : (folder : List ℕ) (files others : StripeFiles) (text : Option (List ℕ)) (old new : List Answered)
    → GivesOnly (Replaces folder files others) old new → Gives IsTemporary (Replaces folder files others) (IsSums folder text) old new
given_early folder files others text old new run = gives_weaker (Replaces folder files others) (Replaces folder files others) NothingNew
    (IsSums folder text) (λ from to gets. gets) (λ path content none. absurd none) IsTemporary old new run

pub sums_after : (folder : List ℕ) (files others : StripeFiles) (text : Option (List ℕ)) (here : List ℕ) → here ≡ folder
    → (old mid new : List Answered) → GivesOnly (Replaces folder files others) old mid → Puts (IsSums here text) mid new
    → Gives IsTemporary (Replaces folder files others) (IsSums folder text) old new
sums_after folder files others text here same old mid new first second = gives_after IsTemporary (Replaces folder files others)
    (IsSums folder text) Nothing (IsSums folder text) (λ from to none. absurd none) (λ path content sums. sums)
    (λ from to none. absurd none) (λ from between to before none. none) (λ from to content none. absurd none) old mid new
    (given_early folder files others text old mid first)
    (subst (λ (f : List ℕ). Puts (IsSums f text) mid new) same second)

-- files that were got before the digests were written
pub got_after : (folder : List ℕ) (files others : StripeFiles) → AreApart folder files others → (text : Option (List ℕ)) (here : List ℕ)
    → here ≡ folder → (old mid new : List Answered) → GivesOnly (Replaces folder files others) old mid → Puts (IsSums here text) mid new
    → AllGot (Replaces folder files others) old mid → AllGot (Replaces folder files others) old new
got_after folder files others are text here same old mid new first second got w went from to gets ours =
    let pairs = Replaces folder files others in
    let wrote = subst (λ (f : List ℕ). Puts (IsSums f text) mid new) same second in
    let front = run_front pairs pairs (λ p q is. is) w old mid new Nothing (IsSums folder text) wrote went in
    let at_mid = at_end pairs NothingNew old mid first w front in
    let since = run_since pairs Nothing (λ p q none. absurd none) w old mid new at_mid.0 went in
    let at_new = at_end Nothing (IsSums folder text) mid new wrote w since in
    let named = (replaces_named folder files others from to gets).1 in elim (got w front from to gets ours) [
      | inl none ↦ inl none
      | inr has ↦ inr (got_over IsTemporary pairs NothingNew w old mid at_mid.1 Nothing (IsSums folder text) (λ p q none. absurd none)
          new at_new.1 (λ p q none. absurd none) (λ p q none. absurd none) (λ p q r before none. none) (λ p q content none. absurd none)
          to ours (is_temporary_not _ (are.lasting_too to named))
          (λ content sums. are.sums_too (subst (IsFileOf folder others) sums.0 named)) has)
    ]

pub sums_there : (folder here : List ℕ) → here ≡ folder → (text : Option (List ℕ)) (calls : List Answered)
    → IfSome text (λ bytes. IsOnDisk (sums_path here) bytes calls) → IfSome text (λ bytes. IsOnDisk (sums_path folder) bytes calls)
sums_there folder here same text calls held =
    subst (λ (f : List ℕ). IfSome text (λ bytes. IsOnDisk (sums_path f) bytes calls)) same held

pub same_goes : (folder here : List ℕ) → here ≡ folder → (files : StripeFiles) (old new : List Answered) → Puts (Goes here files) old new
    → Puts (Goes folder files) old new
same_goes folder here same files old new run = subst (λ (f : List ℕ). Puts (Goes f files) old new) same run
