-- Files get another path too, in place of what has that.
use Rattle.std.proofs.Common.{◌≡◌, ◌⊎◌, inl, inr, ℕ, suc, List, [], ◌∷◌, ◌++◌, length, Bool, true, false, Option, option_map}
use Rattle.std.proofs.Common.{refl, sym, ◌∙◌, ap, subst}
use Rattle.folders.specs.Calls.{Call, Answered, make, sync, link, link_again, rename, rename_again, remove, sync_folder, same_file, absent}
use Rattle.folders.specs.Files.{Files, IsIn}
use Rattle.folders.specs.Worlds.{World, IsLawful, IsStep, MayChange, is_closed}
use Rattle.folders.specs.Kept.{AtEach, IsSound, AreClosed}
use Rattle.folders.specs.Given.{NothingNew, AreGiven, Gives, HasOneOf, IsPair, LeadThere, RenameOwn}
use Rattle.folders.specs.Exchanged.{seen_at}
use Rattle.folders.proofs.Exchanges.{Stays}
use Rattle.folders.proofs.Links.{same_or_other}
use Rattle.folders.proofs.Runs.{at_last, each_weaker}
use Rattle.folders.proofs.Steps.{same_map, same_under, stays_closed}

-- ---- one call

-- a call that leads no path elsewhere but temporary ones, and makes no file
abbrev pub LeadsNone : (List ℕ → Type 0) → Call → Type 0
LeadsNone temporary (make p) = ⊥
LeadsNone temporary (sync f bytes) = Unit {0}
LeadsNone temporary (link f to) = ⊥
LeadsNone temporary (link_again from to) = temporary to
LeadsNone temporary (rename f from to) = ⊥
LeadsNone temporary (rename_again from to) = ⊥
LeadsNone temporary (remove p) = temporary p
LeadsNone temporary (sync_folder p) = Unit {0}
LeadsNone temporary (same_file p other) = Unit {0}
LeadsNone temporary (absent p) = Unit {0}

makes_none : (temporary : List ℕ → Type 0) (call : Call) → LeadsNone temporary call → (p : List ℕ) → call ≡ make p → ⊥
makes_none temporary (make q) none p is = absurd none
makes_none temporary (sync f bytes) none p is = absurd (cc)
makes_none temporary (link f to) none p is = absurd none
makes_none temporary (link_again from to) none p is = absurd (cc)
makes_none temporary (rename f from to) none p is = absurd none
makes_none temporary (rename_again from to) none p is = absurd none
makes_none temporary (remove q) none p is = absurd (cc)
makes_none temporary (sync_folder q) none p is = absurd (cc)
makes_none temporary (same_file q other) none p is = absurd (cc)
makes_none temporary (absent q) none p is = absurd (cc)

is_other : (temporary : List ℕ → Type 0) (p q : List ℕ) → (temporary p → ⊥) → temporary q → p ≡ q → ⊥
is_other temporary p q lasting is same = lasting (subst temporary (sym same) is)

named_still : (temporary : List ℕ → Type 0) (w : World) (shown old new : Files) (n : ℕ) (call : Call) → LeadsNone temporary call
    → MayChange w.ours shown n call old new → (p : List ℕ) → w.ours p ≡ true → (temporary p → ⊥) → new.named p ≡ old.named p
named_still temporary w shown old new n (make q) none may p ours lasting = absurd none
named_still temporary w shown old new n (sync f bytes) none may p ours lasting = may p ours (λ no. no)
named_still temporary w shown old new n (link f to) none may p ours lasting = absurd none
named_still temporary w shown old new n (link_again from to) none may p ours lasting = may.0 p ours (is_other temporary p to lasting none)
named_still temporary w shown old new n (rename f from to) none may p ours lasting = absurd none
named_still temporary w shown old new n (rename_again from to) none may p ours lasting = absurd none
named_still temporary w shown old new n (remove q) none may p ours lasting = may.0 p ours (is_other temporary p q lasting none)
named_still temporary w shown old new n (sync_folder q) none may p ours lasting = may p ours (λ no. no)
named_still temporary w shown old new n (same_file q other) none may p ours lasting = may p ours (λ no. no)
named_still temporary w shown old new n (absent q) none may p ours lasting = may p ours (λ no. no)

stay_next : (w : World) (before : List Answered) (call : Call) (ok : Bool) (calls : List Answered) → ((p : List ℕ) → call ≡ make p → ⊥)
    → IsStep w call ok calls → Stays w before calls → Stays w before ((call, ok) ∷ calls)
stay_next w before call ok calls makes step stays f closed =
    let was = stays f closed in
    let still : is_closed f ((call, ok) ∷ calls) ≡ true = stays_closed call ok calls f (λ p is. absurd (makes p is)) was.0 in
    (still, (step.seen_bytes f was.0 still ∙ was.1.0, step.left_bytes f was.0 still ∙ was.1.1))

-- ---- where paths lead

-- a path leads where it led, or where one was seen to lead whose file it was to get
abbrev pub LeadsAs : (List ℕ → List ℕ → Type 0) → Files → Files → Files → List ℕ → Type 0
LeadsAs gives shown old new path =
    (new.named path ≡ old.named path) ⊎ ((from : List ℕ) × gives from path × (new.named path ≡ shown.named from))

pub record AreLed (temporary : List ℕ → Type 0) (gives : List ℕ → List ℕ → Type 0) (w : World) (before calls : List Answered) : Type 0 where
  pub seen : (path : List ℕ) → w.ours path ≡ true → (temporary path → ⊥)
      → LeadsAs gives (w.seen before) (w.seen before) (w.seen calls) path
  pub left : (path : List ℕ) → w.ours path ≡ true → (temporary path → ⊥)
      → LeadsAs gives (w.seen before) (w.left before) (w.left calls) path
  pub bytes : Stays w before calls

led_on : (gives : List ℕ → List ℕ → Type 0) (shown old mid new : Files) (path : List ℕ) → new.named path ≡ mid.named path
    → LeadsAs gives shown old mid path → LeadsAs gives shown old new path
led_on gives shown old mid new path same (inl had) = inl (same ∙ had)
led_on gives shown old mid new path same (inr got) = inr (got.0, got.1, same ∙ got.2)

module _ (temporary : List ℕ → Type 0) (gives : List ℕ → List ℕ → Type 0) (w : World) (before : List Answered) where
  pub led_first : AreLed temporary gives w before before
  led_first = record {
    seen = λ path ours lasting. inl refl;
    left = λ path ours lasting. inl refl;
    bytes = λ f closed. (closed, (refl, refl));
  }

  pub led_next : (call : Call) (ok : Bool) (calls : List Answered) → LeadsNone temporary call → IsStep w call ok calls
      → AreLed temporary gives w before calls → AreLed temporary gives w before ((call, ok) ∷ calls)
  led_next call ok calls none step led =
      let next : List Answered = (call, ok) ∷ calls in
      let n = suc (length calls) in record {
        seen = λ path ours lasting. led_on gives (w.seen before) (w.seen before) (w.seen calls) (w.seen next) path
            (named_still temporary w (w.seen calls) (w.seen calls) (w.seen next) n call none step.seen path ours lasting)
            (led.seen path ours lasting);
        left = λ path ours lasting. led_on gives (w.seen before) (w.left before) (w.left calls) (w.left next) path
            (named_still temporary w (w.seen calls) (w.left calls) (w.left next) n call none step.left path ours lasting)
            (led.left path ours lasting);
        bytes = stay_next w before call ok calls (makes_none temporary call none) step led.bytes;
      }

  -- a link is renamed over a path, of what is seen or of what a crash leaves
  module _ (from by to : List ℕ) (given : gives from to) (is_by : temporary by) (our_by : w.ours by ≡ true) (ok : Bool)
      (calls : List Answered) (leads : (w.seen calls).named by ≡ (w.seen before).named from)
      (step : IsStep w (rename_again by to) ok calls) (led : AreLed temporary gives w before calls) where
    renamed : (old mid new : Files) → MayChange w.ours (w.seen calls) (suc (length calls)) (rename_again by to) mid new
        → (path : List ℕ) → w.ours path ≡ true → (temporary path → ⊥) → LeadsAs gives (w.seen before) old mid path
        → LeadsAs gives (w.seen before) old new path
    renamed old mid new may path ours lasting was = elim (same_or_other path to) [
      | inr other ↦ led_on gives (w.seen before) old mid new path (may.0 path ours (λ is. elim is [
        | inl at_by ↦ is_other temporary path by lasting is_by at_by
        | inr at_to ↦ other at_to
      ])) was
      | inl same ↦ elim (may.1 (subst (λ (p : List ℕ). w.ours p ≡ true) same ours) our_by) [
        | inl stays ↦ led_on gives (w.seen before) old mid new path (ap new.named same ∙ stays ∙ ap mid.named (sym same)) was
        | inr gets ↦ inr (from, subst (gives from) (sym same) given, ap new.named same ∙ gets ∙ leads)
      ]
    ]

    none_made : (p : List ℕ) → rename_again by to ≡ make p → ⊥
    none_made p is = absurd (cc)

    pub led_renamed : AreLed temporary gives w before ((rename_again by to, ok) ∷ calls)
    led_renamed = let next : List Answered = (rename_again by to, ok) ∷ calls in record {
      seen = λ path ours lasting. renamed (w.seen before) (w.seen calls) (w.seen next) step.seen path ours lasting
          (led.seen path ours lasting);
      left = λ path ours lasting. renamed (w.left before) (w.left calls) (w.left next) step.left path ours lasting
          (led.left path ours lasting);
      bytes = stay_next w before (rename_again by to) ok calls none_made step led.bytes;
    }

  -- ---- so paths have what they had, or what others were seen to have
  module _ (own : (from to : List ℕ) → gives from to → w.ours from ≡ true) (last : (from to : List ℕ) → gives from to → temporary from → ⊥)
      (sound : IsSound temporary w before) (calls : List Answered) (led : AreLed temporary gives w before calls) where
    closed : (old new : Files) → AreClosed temporary w before old
        → ((path : List ℕ) → w.ours path ≡ true → (temporary path → ⊥) → LeadsAs gives (w.seen before) old new path)
        → AreClosed temporary w calls new
    closed old new in_old leads path f ours lasting at = elim (leads path ours lasting) [
      | inl had ↦ (led.bytes f (in_old path f ours lasting (sym had ∙ at))).0
      | inr got ↦ (led.bytes f (sound.seen got.0 f (own got.0 path got.1) (last got.0 path got.1) (sym got.2 ∙ at))).0
    ]

    has : (old new : Files) → AreClosed temporary w before old → ((f : ℕ) → is_closed f before ≡ true → new.bytes f ≡ old.bytes f)
        → (path : List ℕ) → w.ours path ≡ true → (temporary path → ⊥) → LeadsAs gives (w.seen before) old new path
        → HasOneOf gives NothingNew (w.seen before) old new path
    has old new in_old bytes path ours lasting (inl had) =
        inl (same_under old new path had (λ f at. bytes f (in_old path f ours lasting at)))
    has old new in_old bytes path ours lasting (inr got) = inr (inl (
      got.0,
      got.1,
      ap (λ (o : Option ℕ). option_map new.bytes o) got.2 ∙ same_map new.bytes old.bytes ((w.seen before).named got.0)
          (λ f at. bytes f (sound.seen got.0 f (own got.0 path got.1) (last got.0 path got.1) at)),
    ))

    stays_there : (path : List ℕ) → w.ours path ≡ true → (temporary path → ⊥) → ((from : List ℕ) → gives from path → ⊥)
        → LeadsAs gives (w.seen before) (w.seen before) (w.seen calls) path
        → seen_at (w.seen calls) (w.left calls) path ≡ seen_at (w.seen before) (w.left before) path
    stays_there path ours lasting none (inl had) =
        ap (λ (o : Option ℕ). option_map (w.left calls).bytes o) had
        ∙ same_map (w.left calls).bytes (w.left before).bytes ((w.seen before).named path)
        (λ f at. (led.bytes f (sound.seen path f ours lasting at)).1.1)
    stays_there path ours lasting none (inr got) = absurd (none got.0 got.1)

    pub led_sound : IsSound temporary w calls
    led_sound = record {
      seen = closed (w.seen before) (w.seen calls) sound.seen led.seen;
      left = closed (w.left before) (w.left calls) sound.left led.left;
    }

    pub led_given : AreGiven temporary gives NothingNew w before calls
    led_given = record {
      seen = λ path ours lasting. has (w.seen before) (w.seen calls) sound.seen (λ f at. (led.bytes f at).1.0) path ours lasting
          (led.seen path ours lasting);
      left = λ path ours lasting. has (w.left before) (w.left calls) sound.left (λ f at. (led.bytes f at).1.1) path ours lasting
          (led.left path ours lasting);
      still = λ path ours lasting none none_new. stays_there path ours lasting none (led.seen path ours lasting);
    }

-- ---- runs

-- a run after each of whose calls paths lead so
pub record Leads (temporary : List ℕ → Type 0) (gives : List ℕ → List ℕ → Type 0) (old new : List Answered) : Type 0 where
  pub more : List Answered
  pub are : new ≡ more ++ old
  pub whenever : (w : World) → RenameOwn w new → ((from to : List ℕ) → gives from to → w.ours from ≡ true)
      → AtEach (λ calls. IsLawful w calls → AreLed temporary gives w old calls) more old

module _ (temporary : List ℕ → Type 0) (gives : List ℕ → List ℕ → Type 0) where
  pub leads_none : (calls : List Answered) → Leads temporary gives calls calls
  leads_none calls = record {
    more = [];
    are = refl;
    whenever = λ w own_renamed own lawful. led_first temporary gives w calls;
  }

  pub leads_more : (call : Call) (ok : Bool) (old mid new : List Answered) → LeadsNone temporary call → new ≡ (call, ok) ∷ mid
      → Leads temporary gives old mid → Leads temporary gives old new
  leads_more call ok old mid new none is run = record {
    more = (call, ok) ∷ run.more;
    are = is ∙ ap (λ (calls : List Answered). (call, ok) ∷ calls) run.are;
    whenever = λ w own_renamed own.
        let each = run.whenever w (subst (RenameOwn w) is own_renamed).1 own in (
          λ lawful. led_next temporary gives w old call ok (run.more ++ old) none lawful.1
              (at_last (λ calls. IsLawful w calls → AreLed temporary gives w old calls) run.more old each lawful.0),
          each,
        );
  }

  -- a file gets a link, which is renamed over a path
  module _ (from by to : List ℕ) (given : gives from to) (is_by : temporary by) where
    pub leads_renamed : (ok : Bool) (old mid new : List Answered) → mid ≡ (link_again from by, true) ∷ old
        → new ≡ (rename_again by to, ok) ∷ mid → Leads temporary gives old new
    leads_renamed ok old mid new links renames =
        let whole : new ≡ (rename_again by to, ok) ∷ (link_again from by, true) ∷ old =
        renames ∙ ap (λ (calls : List Answered). (rename_again by to, ok) ∷ calls) links in record {
          more = (rename_again by to, ok) ∷ (link_again from by, true) ∷ [];
          are = whole;
          whenever = λ w own_renamed own.
              let our_by : w.ours by ≡ true = (subst (RenameOwn w) whole own_renamed).0 in
              let linked = λ (lawful : IsLawful w ((link_again from by, true) ∷ old)).
              led_next temporary gives w old (link_again from by) true old is_by lawful.1 (led_first temporary gives w old) in (
                λ lawful. led_renamed temporary gives w old from by to given is_by our_by ok ((link_again from by, true) ∷ old)
                    ((lawful.0.1.done refl our_by (own from to given)).1) lawful.1 (linked lawful.0),
                (linked, λ lawful. led_first temporary gives w old),
              );
        }

  -- so it gives the files
  pub leads_gives : ((from to : List ℕ) → gives from to → temporary from → ⊥) → (old new : List Answered)
      → Leads temporary gives old new → Gives temporary gives NothingNew old new
  leads_gives last old new run = record {
    more = run.more;
    are = run.are;
    whenever = λ w sound own_renamed own. each_weaker (λ calls. IsLawful w calls → AreLed temporary gives w old calls)
        (λ calls. IsLawful w calls → IsSound temporary w calls × AreGiven temporary gives NothingNew w old calls)
        (λ calls led lawful. let is = led lawful in (
          led_sound temporary gives w old own last sound calls is,
          led_given temporary gives w old own last sound calls is,
        )) run.more old (run.whenever w own_renamed own);
  }

-- ---- one path that gets the file of another one

pub lasts : (temporary : List ℕ → Bool) (path other : List ℕ) → temporary path ≡ false → (from to : List ℕ) → IsPair path other from to
    → temporary from ≡ true → ⊥
lasts temporary path other off from to is on =
    let both : true ≡ false = sym on ∙ ap temporary is.0 ∙ off in absurd (cc)

module _ (temporary : List ℕ → Bool) (path by other : List ℕ) (off : temporary path ≡ false) (on : temporary by ≡ true)
    (old : List Answered) where
  abbrev IsTemporary : List ℕ → Type 0
  IsTemporary p = temporary p ≡ true

  abbrev Pair : List ℕ → List ℕ → Type 0
  Pair = IsPair path other

  all_leads : (new : List Answered) → Leads IsTemporary Pair old new → Gives IsTemporary Pair NothingNew old new
  all_leads new run = leads_gives IsTemporary Pair (lasts temporary path other off) old new run

  -- the link couldn't be made
  pub gives_no_link : (new : List Answered) → new ≡ (link_again path by, false) ∷ old → Gives IsTemporary Pair NothingNew old new
  gives_no_link new is = all_leads new (leads_more IsTemporary Pair (link_again path by) false old old new on is
      (leads_none IsTemporary Pair old))

  taken : (mid renamed new : List Answered) (ok : Bool) (last : Bool) → mid ≡ (link_again path by, true) ∷ old
      → renamed ≡ (rename_again by other, ok) ∷ mid → new ≡ (remove by, last) ∷ renamed → Leads IsTemporary Pair old new
  taken mid renamed new ok last links renames takes = leads_more IsTemporary Pair (remove by) last old renamed new on takes
      (leads_renamed IsTemporary Pair path by other (refl, refl) on ok old mid renamed links renames)

  -- it was made, and taken away again
  pub gives_taken : (mid renamed new : List Answered) (ok : Bool) (last : Bool) → mid ≡ (link_again path by, true) ∷ old
      → renamed ≡ (rename_again by other, ok) ∷ mid → new ≡ (remove by, last) ∷ renamed → Gives IsTemporary Pair NothingNew old new
  gives_taken mid renamed new ok last links renames takes = all_leads new (taken mid renamed new ok last links renames takes)

  -- and the names in a folder were to be written to the disk
  pub gives_named : (folder : List ℕ) (mid renamed gone new : List Answered) (ok last named : Bool)
      → mid ≡ (link_again path by, true) ∷ old → renamed ≡ (rename_again by other, ok) ∷ mid → gone ≡ (remove by, last) ∷ renamed
      → new ≡ (sync_folder folder, named) ∷ gone → Gives IsTemporary Pair NothingNew old new
  gives_named folder mid renamed gone new ok last named links renames takes names = all_leads new
      (leads_more IsTemporary Pair (sync_folder folder) named old gone new tt names (taken mid renamed gone ok last links renames takes))

-- ---- once it is done
module _ (path by other folder : List ℕ) (not_path : by ≡ path → ⊥) (not_other : by ≡ other → ⊥) (inside : IsIn folder other)
    (last : Bool) (old : List Answered) where
  abbrev was_linked : List Answered
  was_linked = (link_again path by, true) ∷ old

  abbrev was_renamed : List Answered
  was_renamed = (rename_again by other, true) ∷ was_linked

  abbrev was_removed : List Answered
  was_removed = (remove by, last) ∷ was_renamed

  abbrev was_named : List Answered
  was_named = (sync_folder folder, true) ∷ was_removed

  module _ (w : World) (lawful : IsLawful w was_named) (own : RenameOwn w was_named) (our_path : w.ours path ≡ true)
      (our_other : w.ours other ≡ true) where
    our_by : w.ours by ≡ true
    our_by = own.1.1.0

    got : (w.seen was_renamed).named other ≡ (w.seen was_linked).named path
    got = lawful.0.0.1.done refl our_other our_by ∙ (lawful.0.0.0.1.done refl our_by our_path).1
        ∙ sym (lawful.0.0.0.1.seen.0 path our_path (λ is. not_path (sym is)))

    both : (w.seen was_renamed).named other ≡ (w.seen was_renamed).named path
    both = elim (same_or_other path other) [
      | inl same ↦ ap (w.seen was_renamed).named (sym same)
      | inr apart ↦ got ∙ sym (lawful.0.0.1.seen.0 path our_path (λ is. elim is [
        | inl at_by ↦ not_path (sym at_by)
        | inr at_other ↦ apart at_other
      ]))
    ]

    still : (p : List ℕ) → w.ours p ≡ true → (by ≡ p → ⊥) → (w.seen was_named).named p ≡ (w.seen was_renamed).named p
    still p ours apart = lawful.1.seen p ours (λ no. no) ∙ lawful.0.1.seen.0 p ours (λ is. apart (sym is))

    seen_there : (w.seen was_named).named other ≡ (w.seen was_named).named path
    seen_there = still other our_other not_other ∙ both ∙ sym (still path our_path not_path)

    left_there : (w.left was_named).named other ≡ (w.seen was_named).named path
    left_there = lawful.1.done refl other our_other inside ∙ seen_there

  pub leads_there : LeadThere path other was_named
  leads_there w lawful own our_path our_other = (
    seen_there w lawful own our_path our_other,
    left_there w lawful own our_path our_other,
  )

pub lead_there : (path by other folder : List ℕ) (last : Bool) (old mid renamed removed new : List Answered) → (by ≡ path → ⊥)
    → (by ≡ other → ⊥) → IsIn folder other → mid ≡ (link_again path by, true) ∷ old → renamed ≡ (rename_again by other, true) ∷ mid
    → removed ≡ (remove by, last) ∷ renamed → new ≡ (sync_folder folder, true) ∷ removed → LeadThere path other new
lead_there path by other folder last old mid renamed removed new not_path not_other inside links renames takes names =
    let whole : new ≡ (sync_folder folder, true) ∷ (remove by, last) ∷ (rename_again by other, true) ∷ (link_again path by, true) ∷ old =
    names ∙ ap (λ (calls : List Answered). (sync_folder folder, true) ∷ calls) takes
    ∙ ap (λ (calls : List Answered). (sync_folder folder, true) ∷ (remove by, last) ∷ calls) renames
    ∙ ap (λ (calls : List Answered). (sync_folder folder, true) ∷ (remove by, last) ∷ (rename_again by other, true) ∷ calls) links in
    subst (LeadThere path other) (sym whole) (leads_there path by other folder not_path not_other inside last old)
