-- One path gets a new file in place of what it has, or goes.
use Rattle.std.proofs.Common.{◌≡◌, ◌⊎◌, inl, inr, ℕ, suc, List, [], ◌∷◌, ◌++◌, length, Bool, true, false, Option, Some, None}
use Rattle.std.proofs.Common.{IfSome, IsSome, option_map, refl, sym, ◌∙◌, ap, subst}
use Rattle.folders.specs.Calls.{Call, Answered, make, sync, rename, remove, absent}
use Rattle.folders.specs.Disk.{HasWhole}
use Rattle.folders.specs.Files.{Files, under}
use Rattle.folders.specs.Worlds.{World, IsLawful, MayChange, is_closed}
use Rattle.folders.specs.Kept.{AtEach, IsSound, AreClosed}
use Rattle.folders.specs.Exchanged.{seen_at}
use Rattle.folders.specs.Given.{AreGiven, Gives, HasOneOf, IsAbsent, IsNewAt, IsPair, Nothing, NothingNew}
use Rattle.folders.specs.Placed.{HasPath}
use Rattle.folders.proofs.Exchanges.{HasFile, file_synced, renamed_whole, some_bytes}
use Rattle.folders.proofs.GivenAfter.{gives_after, given_nothing}
use Rattle.folders.proofs.KeptGiven.{keeps_gives}
use Rattle.folders.proofs.Links.{same_or_other}
use Rattle.folders.proofs.Runs.{keeps_quiet, lawful_front}
use Rattle.folders.proofs.Steps.{same_map, same_under, stays_closed}

-- ---- a call that changes one path and temporary ones, and makes no file
module _ (temporary : List ℕ → Type 0) (call : Call) (ok : Bool) (at : List ℕ) (content : Option (List ℕ)) (calls : List Answered)
    (none_made : (p : List ℕ) → call ≡ make p → ⊥)
    (others : (w : World) (shown old new : Files) (n : ℕ) → MayChange w.ours shown n call old new → (p : List ℕ) → w.ours p ≡ true
    → (temporary p → ⊥) → (p ≡ at → ⊥) → new.named p ≡ old.named p) where
  abbrev next : List Answered
  next = (call, ok) ∷ calls

  -- the path leads where it led, or has that, of which nothing can be appended to
  abbrev Gets : Files → Files → Type 0
  Gets old new =
      (new.named at ≡ old.named at) ⊎ ((under new at ≡ content) × ((f : ℕ) → new.named at ≡ Some f → is_closed f next ≡ true))

  module _ (w : World) (lawful : IsLawful w next) (sound : IsSound temporary w calls)
      (gets_seen : w.ours at ≡ true → Gets (w.seen calls) (w.seen next))
      (gets_left : w.ours at ≡ true → Gets (w.left calls) (w.left next)) where
    stays : (f : ℕ) → is_closed f calls ≡ true → is_closed f next ≡ true
    stays f closed = stays_closed call ok calls f (λ p is. absurd (none_made p is)) closed

    named_seen : (p : List ℕ) → w.ours p ≡ true → (temporary p → ⊥) → (p ≡ at → ⊥) → (w.seen next).named p ≡ (w.seen calls).named p
    named_seen = others w (w.seen calls) (w.seen calls) (w.seen next) (suc (length calls)) lawful.1.seen

    named_left : (p : List ℕ) → w.ours p ≡ true → (temporary p → ⊥) → (p ≡ at → ⊥) → (w.left next).named p ≡ (w.left calls).named p
    named_left = others w (w.seen calls) (w.left calls) (w.left next) (suc (length calls)) lawful.1.left

    closed_next : (old new : Files) → AreClosed temporary w calls old
        → ((p : List ℕ) → w.ours p ≡ true → (temporary p → ⊥) → (p ≡ at → ⊥) → new.named p ≡ old.named p)
        → (w.ours at ≡ true → Gets old new) → AreClosed temporary w next new
    closed_next old new in_old named gets path f ours lasting leads = elim (same_or_other path at) [
      | inr other ↦ stays f (in_old path f ours lasting (sym (named path ours lasting other) ∙ leads))
      | inl same ↦ elim (gets (subst (λ (p : List ℕ). w.ours p ≡ true) same ours)) [
        | inl kept ↦ stays f (in_old path f ours lasting (ap old.named same ∙ sym kept ∙ ap new.named (sym same) ∙ leads))
        | inr got ↦ got.1 f (ap new.named (sym same) ∙ leads)
      ]
    ]

    sound_next : IsSound temporary w next
    sound_next = record {
      seen = closed_next (w.seen calls) (w.seen next) sound.seen named_seen gets_seen;
      left = closed_next (w.left calls) (w.left next) sound.left named_left gets_left;
    }

    module _ (gives : List ℕ → List ℕ → Type 0) (puts : List ℕ → Option (List ℕ) → Type 0) (is_put : puts at content) where
      one_next : (old new : Files) → AreClosed temporary w calls old
          → ((f : ℕ) → is_closed f calls ≡ true → is_closed f next ≡ true → new.bytes f ≡ old.bytes f)
          → ((p : List ℕ) → w.ours p ≡ true → (temporary p → ⊥) → (p ≡ at → ⊥) → new.named p ≡ old.named p)
          → (w.ours at ≡ true → Gets old new) → (path : List ℕ) → w.ours path ≡ true → (temporary path → ⊥)
          → HasOneOf gives puts (w.seen calls) old new path
      one_next old new in_old bytes named gets path ours lasting =
          let had = λ (same : new.named path ≡ old.named path). same_under old new path same (λ f leads.
          let closed = in_old path f ours lasting leads in bytes f closed (stays f closed)) in
          elim (same_or_other path at) [
            | inr other ↦ inl (had (named path ours lasting other))
            | inl same ↦ elim (gets (subst (λ (p : List ℕ). w.ours p ≡ true) same ours)) [
              | inl kept ↦ inl (had (ap new.named same ∙ kept ∙ ap old.named (sym same)))
              | inr got ↦ inr (inr (
                content,
                subst (λ (p : List ℕ). puts p content) (sym same) is_put,
                ap (λ (p : List ℕ). under new p) same ∙ got.0,
              ))
            ]
          ]

      still_next : (path : List ℕ) → w.ours path ≡ true → (temporary path → ⊥) → ((c : Option (List ℕ)) → puts path c → ⊥)
          → seen_at (w.seen next) (w.left next) path ≡ seen_at (w.seen calls) (w.left calls) path
      still_next path ours lasting none_put = elim (same_or_other path at) [
        | inl same ↦ absurd (none_put content (subst (λ (p : List ℕ). puts p content) (sym same) is_put))
        | inr other ↦ ap (λ (o : Option ℕ). option_map (w.left next).bytes o) (named_seen path ours lasting other)
            ∙ same_map (w.left next).bytes (w.left calls).bytes ((w.seen calls).named path) (λ f leads.
            let closed = sound.seen path f ours lasting leads in lawful.1.left_bytes f closed (stays f closed))
      ]

      given_next : AreGiven temporary gives puts w calls next
      given_next = record {
        seen = one_next (w.seen calls) (w.seen next) sound.seen lawful.1.seen_bytes named_seen gets_seen;
        left = one_next (w.left calls) (w.left next) sound.left lawful.1.left_bytes named_left gets_left;
        still = λ path ours lasting none none_put. still_next path ours lasting none_put;
      }

  gives_one : (gives : List ℕ → List ℕ → Type 0) (puts : List ℕ → Option (List ℕ) → Type 0) → puts at content
      → ((w : World) → IsLawful w next → w.ours at ≡ true → Gets (w.seen calls) (w.seen next) × Gets (w.left calls) (w.left next))
      → Gives temporary gives puts calls next
  gives_one gives puts is_put gets = record {
    more = (call, ok) ∷ [];
    are = refl;
    whenever = λ w sound own_renamed own. (
      λ lawful. (
        sound_next w lawful sound (λ ours. (gets w lawful ours).0) (λ ours. (gets w lawful ours).1),
        given_next w lawful sound (λ ours. (gets w lawful ours).0) (λ ours. (gets w lawful ours).1) gives puts is_put,
      ),
      λ lawful. (sound, given_nothing temporary gives puts w calls),
    );
  }

-- ---- a path goes

none_led : (o : Option ℕ) (f : ℕ) → o ≡ None → o ≡ Some f → ⊥
none_led o f none leads = let both : None ≡ Some f = sym none ∙ leads in absurd (cc)

module _ (temporary : List ℕ → Type 0) (path : List ℕ) (ok : Bool) (old : List Answered) where
  no_make : (p : List ℕ) → remove path ≡ make p → ⊥
  no_make p is = absurd (cc)

  goes : (mid new : Files) → (new.named path ≡ mid.named path) ⊎ (new.named path ≡ None)
      → (new.named path ≡ mid.named path)
      ⊎ ((under new path ≡ None) × ((f : ℕ) → new.named path ≡ Some f → is_closed f ((remove path, ok) ∷ old) ≡ true))
  goes mid new (inl same) = inl same
  goes mid new (inr none) = inr (
    ap (λ (o : Option ℕ). option_map new.bytes o) none,
    λ f leads. absurd (none_led (new.named path) f none leads),
  )

  pub gives_removed : (new : List Answered) → new ≡ (remove path, ok) ∷ old → Gives temporary Nothing (IsNewAt path None) old new
  gives_removed new is = subst (Gives temporary Nothing (IsNewAt path None) old) (sym is)
      (gives_one temporary (remove path) ok path None old no_make (λ w shown mid last n may p ours lasting other. may.0 p ours other)
      Nothing (IsNewAt path None) (refl, refl) (λ w lawful ours. (
        goes (w.seen old) (w.seen ((remove path, ok) ∷ old)) (lawful.1.seen.1 ours),
        goes (w.left old) (w.left ((remove path, ok) ∷ old)) (lawful.1.left.1 ours),
      )))

-- ---- a path gets a file that is on the disk

some_file : (m n : ℕ) → Some m ≡ Some n → m ≡ n
some_file m n same = cc

module _ (temporary : List ℕ → Type 0) (file : ℕ) (written : Option (List ℕ)) (from to : List ℕ) (is_from : temporary from) where
  no_made : (p : List ℕ) → rename file from to ≡ make p → ⊥
  no_made p is = absurd (cc)

  gets : (all : List ℕ) → written ≡ Some all → (ok : Bool) (calls : List Answered) (mid new : Files) → is_closed file calls ≡ true
      → new.bytes file ≡ all → (new.named to ≡ mid.named to) ⊎ (new.named to ≡ Some file)
      → (new.named to ≡ mid.named to)
      ⊎ ((under new to ≡ written) × ((f : ℕ) → new.named to ≡ Some f → is_closed f ((rename file from to, ok) ∷ calls) ≡ true))
  gets all whole ok calls mid new closed has (inl same) = inl same
  gets all whole ok calls mid new closed has (inr leads) = inr (
    ap (λ (o : Option ℕ). option_map new.bytes o) leads ∙ ap (λ (b : List ℕ). Some b) has ∙ sym whole,
    λ f there. subst (λ (n : ℕ). is_closed n calls ≡ true) (some_file file f (sym leads ∙ there)) closed,
  )

  renamed : (all : List ℕ) → written ≡ Some all → (ok : Bool) (calls : List Answered) → HasFile file all calls
      → Gives temporary Nothing (IsNewAt to written) calls ((rename file from to, ok) ∷ calls)
  renamed all whole ok calls has = gives_one temporary (rename file from to) ok to written calls no_made
      (λ w shown mid last n may p ours lasting other. may.0 p ours (λ is. elim is [
        | inl at_from ↦ lasting (subst temporary (sym at_from) is_from)
        | inr at_to ↦ other at_to
      ])) Nothing (IsNewAt to written) (refl, refl) (λ w lawful ours. let was = has w lawful.0 in (
        gets all whole ok calls (w.seen calls) (w.seen ((rename file from to, ok) ∷ calls)) was.0
            (lawful.1.seen_bytes file was.0 was.0 ∙ was.1.0) (lawful.1.seen.1 ours),
        gets all whole ok calls (w.left calls) (w.left ((rename file from to, ok) ∷ calls)) was.0
            (lawful.1.left_bytes file was.0 was.0 ∙ was.1.1) (lawful.1.left.1 ours),
      ))

  pub gives_unwritten : (old new : List Answered) → new ≡ (sync file written, false) ∷ old
      → Gives temporary Nothing (IsNewAt to written) old new
  gives_unwritten old new is = keeps_gives temporary Nothing (IsNewAt to written) old new
      (keeps_quiet temporary Nothing (sync file written) false old new is (λ w. tt))

  pub gives_over : IsSome written → (ok : Bool) (old mid new : List Answered) → mid ≡ (sync file written, true) ∷ old
      → new ≡ (rename file from to, ok) ∷ mid → Gives temporary Nothing (IsNewAt to written) old new
  gives_over some ok old mid new synced renames =
      let all = some_bytes written some in
      let has : HasFile file all.0 mid = subst (HasFile file all.0) (sym synced) (file_synced file all.0 written old all.1) in
      gives_after temporary Nothing (IsNewAt to written) Nothing (IsNewAt to written) (λ p q none. none) (λ p c put. put)
      (λ p q none. absurd none) (λ p q r none. absurd none) (λ p q c none. absurd none) old mid new
      (keeps_gives temporary Nothing (IsNewAt to written) old mid
      (keeps_quiet temporary Nothing (sync file written) true old mid synced (λ w. tt)))
      (subst (Gives temporary Nothing (IsNewAt to written) mid) (sym renames) (renamed all.0 all.1 ok mid has))

-- and has it
pub over_whole : (file : ℕ) (written : Option (List ℕ)) (from to : List ℕ) (old mid new : List Answered)
    → mid ≡ (sync file written, true) ∷ old → new ≡ (rename file from to, true) ∷ mid → HasPath to written new
over_whole file written from to old mid new synced renames = has written refl where
  has : (o : Option (List ℕ)) → written ≡ o → IfSome o (λ all. HasWhole to all new)
  has None same = tt
  has (Some all) same =
      let has_mid = subst (HasFile file all) (sym synced) (file_synced file all written old same) in
      subst (HasWhole to all) (sym renames) (renamed_whole file all from to mid has_mid)

-- ---- a path goes to which a file was to be given that isn't there

-- what is seen at a path of which was asked whether nothing is there
pub absent_now : (path : List ℕ) (old new : List Answered) → new ≡ (absent path, true) ∷ old → IsAbsent path new
absent_now path old new is = subst (IsAbsent path) (sym is) (λ w lawful ours.
    lawful.1.seen path ours (λ none. none) ∙ lawful.1.done refl ours)

module _ (temporary : List ℕ → Type 0) (path other : List ℕ) where
  lost_one : (shown old new : Files) → shown.named path ≡ None → (p : List ℕ) → HasOneOf Nothing (IsNewAt other None) shown old new p
      → HasOneOf (IsPair path other) NothingNew shown old new p
  lost_one shown old new none p (inl same) = inl same
  lost_one shown old new none p (inr (inl got)) = absurd got.1
  lost_one shown old new none p (inr (inr put)) = inr (inl (
    path,
    (refl, put.1.0),
    put.2 ∙ put.1.1 ∙ sym (ap (λ (o : Option ℕ). option_map old.bytes o) none),
  ))

  lost_given : (w : World) (mid new : List Answered) → (w.seen mid).named path ≡ None
      → AreGiven temporary Nothing (IsNewAt other None) w mid new → AreGiven temporary (IsPair path other) NothingNew w mid new
  lost_given w mid new none are = record {
    seen = λ p ours lasting. lost_one (w.seen mid) (w.seen mid) (w.seen new) none p (are.seen p ours lasting);
    left = λ p ours lasting. lost_one (w.seen mid) (w.left mid) (w.left new) none p (are.left p ours lasting);
    still = λ p ours lasting none_given none_put. are.still p ours lasting (λ q no. no)
        (λ c put. none_given path (refl, put.0));
  }

  pub lost_gives : (mid new : List Answered) → IsAbsent path mid → Gives temporary Nothing (IsNewAt other None) mid new
      → Gives temporary (IsPair path other) NothingNew mid new
  lost_gives mid new none run = record {
    more = run.more;
    are = run.are;
    whenever = λ w sound own_renamed own. lost w (own path other (refl, refl)) run.more
        (run.whenever w sound own_renamed (λ p q no. absurd no));
  } where
    lost : (w : World) → w.ours path ≡ true → (more : List Answered)
        → AtEach (λ calls. IsLawful w calls → IsSound temporary w calls × AreGiven temporary Nothing (IsNewAt other None) w mid calls)
        more mid
        → AtEach (λ calls. IsLawful w calls → IsSound temporary w calls × AreGiven temporary (IsPair path other) NothingNew w mid calls)
        more mid
    lost w ours [] each = λ lawful. let found = each lawful in (found.0, lost_given w mid mid (none w lawful ours) found.1)
    lost w ours (call ∷ more) each = (
      λ lawful. let found = each.0 lawful in (
        found.0,
        lost_given w mid (call ∷ more ++ mid) (none w (lawful_front w (call ∷ more) mid lawful) ours) found.1,
      ),
      lost w ours more each.1,
    )
