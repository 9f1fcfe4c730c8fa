-- A new file gets the path of another one, which a second path keeps.
use Rattle.std.proofs.Common.{◌≡◌, ◌⊎◌, inl, inr, ℕ, suc, List, ◌∷◌, length, Bool, true, false, Option, Some, None, option_map}
use Rattle.std.proofs.Common.{IfSome, IsSome, refl, sym, ◌∙◌, ap, subst}
use Rattle.folders.specs.Calls.{Call, Answered, make, sync, link, link_again, rename, rename_again, remove, sync_folder, same_file, absent}
use Rattle.folders.specs.Files.{Files, under, IsIn}
use Rattle.folders.specs.Worlds.{World, IsLawful, IsStep, MayChange, is_closed}
use Rattle.folders.specs.Kept.{IsSound, AreClosed}
use Rattle.folders.specs.Placed.{HasPath}
use Rattle.folders.specs.Disk.{HasWhole}
use Rattle.folders.specs.Exchanged.{seen_at, IsExchanged, AreExchanged, LeadToOne, WasAsked}
use Rattle.folders.proofs.Links.{same_or_other}
use Rattle.folders.proofs.Steps.{equal, same_map, same_under, stays_closed}
use Rattle.std.proofs.lemmas.Bool.{or_left}

-- the calls before the path is given away
abbrev pub Prepares : List ℕ → List ℕ → Call → Type 0
Prepares path second (make p) = ⊥
Prepares path second (sync f bytes) = Unit {0}
Prepares path second (link f to) = ⊥
Prepares path second (link_again from to) = (from ≡ path) × (to ≡ second)
Prepares path second (rename f from to) = ⊥
Prepares path second (rename_again from to) = ⊥
Prepares path second (remove p) = ⊥
Prepares path second (sync_folder p) = Unit {0}
Prepares path second (same_file p other) = Unit {0}
Prepares path second (absent p) = Unit {0}

makes_none : (path second : List ℕ) (call : Call) → Prepares path second call → (p : List ℕ) → call ≡ make p → ⊥
makes_none path second (make q) prepares p is = absurd prepares
makes_none path second (sync f bytes) prepares p is = absurd (cc)
makes_none path second (link f to) prepares p is = absurd prepares
makes_none path second (link_again from to) prepares p is = absurd (cc)
makes_none path second (rename f from to) prepares p is = absurd prepares
makes_none path second (rename_again from to) prepares p is = absurd prepares
makes_none path second (remove q) prepares p is = absurd prepares
makes_none path second (sync_folder q) prepares p is = absurd (cc)
makes_none path second (same_file q other) prepares p is = absurd (cc)
makes_none path second (absent q) prepares p is = absurd (cc)

-- the second path leads where it led, or, if nothing was seen there, where the first one was seen to lead
abbrev pub Second : List ℕ → List ℕ → Files → Files → Files → Type 0
Second path second shown old new =
    (new.named second ≡ old.named second) ⊎ ((shown.named second ≡ None) × (new.named second ≡ shown.named path))

-- a file that could not be appended to has its bytes
abbrev pub Stays : World → List Answered → List Answered → Type 0
Stays w before calls =
    (f : ℕ) → is_closed f before ≡ true
    → (is_closed f calls ≡ true) × (((w.seen calls).bytes f ≡ (w.seen before).bytes f) × ((w.left calls).bytes f ≡ (w.left before).bytes f))

-- what is so until the path is given away
pub record IsReady (temporary : List ℕ → Type 0) (path second : List ℕ) (w : World) (before calls : List Answered) : Type 0 where
  pub sound : IsSound temporary w calls
  pub seen : (p : List ℕ) → w.ours p ≡ true → (p ≡ second → ⊥) → (w.seen calls).named p ≡ (w.seen before).named p
  pub left : (p : List ℕ) → w.ours p ≡ true → (p ≡ second → ⊥) → (w.left calls).named p ≡ (w.left before).named p
  pub seen_second : Second path second (w.seen before) (w.seen before) (w.seen calls)
  pub left_second : Second path second (w.seen before) (w.left before) (w.left calls)
  pub bytes : Stays w before calls

module _ (temporary : List ℕ → Type 0) (path second : List ℕ) (w : World) (our_path : w.ours path ≡ true)
    (our_second : w.ours second ≡ true) (not_path : temporary path → ⊥) (not_second : temporary second → ⊥)
    (apart : path ≡ second → ⊥) (before : List Answered) where
  pub ready_first : IsSound temporary w before → IsReady temporary path second w before before
  ready_first sound = record {
    sound = sound;
    seen = λ p ours other. refl;
    left = λ p ours other. refl;
    seen_second = inl refl;
    left_second = inl refl;
    bytes = λ f closed. (closed, (refl, refl));
  }

  -- one more call, of what is seen or of what a crash leaves
  named_next : (shown old new : Files) (n : ℕ) (call : Call) → Prepares path second call → MayChange w.ours shown n call old new
      → (p : List ℕ) → w.ours p ≡ true → (p ≡ second → ⊥) → new.named p ≡ old.named p
  named_next shown old new n (make q) prepares may p ours other = absurd prepares
  named_next shown old new n (sync f bytes) prepares may p ours other = may p ours (λ none. none)
  named_next shown old new n (link f to) prepares may p ours other = absurd prepares
  named_next shown old new n (link_again from to) prepares may p ours other = may.0 p ours (λ is. other (is ∙ prepares.1))
  named_next shown old new n (rename f from to) prepares may p ours other = absurd prepares
  named_next shown old new n (rename_again from to) prepares may p ours other = absurd prepares
  named_next shown old new n (remove q) prepares may p ours other = absurd prepares
  named_next shown old new n (sync_folder q) prepares may p ours other = may p ours (λ none. none)
  named_next shown old new n (same_file q to) prepares may p ours other = may p ours (λ none. none)
  named_next shown old new n (absent q) prepares may p ours other = may p ours (λ none. none)

  moved : (first old mid new : Files) → new.named second ≡ mid.named second → Second path second first old mid
      → Second path second first old new
  moved first old mid new is (inl same) = inl (is ∙ same)
  moved first old mid new is (inr leads) = inr (leads.0, is ∙ leads.1)

  none_first : (first shown : Files) → shown.named second ≡ None → Second path second first first shown → first.named second ≡ None
  none_first first shown none (inl same) = sym same ∙ none
  none_first first shown none (inr leads) = leads.0

  second_next : (first shown old mid new : Files) (n : ℕ) (call : Call) → Prepares path second call → MayChange w.ours shown n call mid new
      → shown.named path ≡ first.named path → Second path second first first shown → Second path second first old mid
      → Second path second first old new
  second_next first shown old mid new n (make q) prepares may at in_shown was = absurd prepares
  second_next first shown old mid new n (sync f bytes) prepares may at in_shown was = moved first old mid new
      (may second our_second (λ none. none)) was
  second_next first shown old mid new n (link f to) prepares may at in_shown was = absurd prepares
  second_next first shown old mid new n (link_again from to) prepares may at in_shown was =
      elim (may.1 (subst (λ (p : List ℕ). w.ours p ≡ true) (sym prepares.1) our_second)
      (subst (λ (p : List ℕ). w.ours p ≡ true) (sym prepares.0) our_path)) [
        | inl stays ↦ moved first old mid new (ap new.named (sym prepares.1) ∙ stays ∙ ap mid.named prepares.1) was
        | inr leads ↦ inr (
          none_first first shown (ap shown.named (sym prepares.1) ∙ leads.0) in_shown,
          ap new.named (sym prepares.1) ∙ leads.1 ∙ ap shown.named prepares.0 ∙ at,
        )
      ]
  second_next first shown old mid new n (rename f from to) prepares may at in_shown was = absurd prepares
  second_next first shown old mid new n (rename_again from to) prepares may at in_shown was = absurd prepares
  second_next first shown old mid new n (remove q) prepares may at in_shown was = absurd prepares
  second_next first shown old mid new n (sync_folder q) prepares may at in_shown was = moved first old mid new
      (may second our_second (λ none. none)) was
  second_next first shown old mid new n (same_file q to) prepares may at in_shown was = moved first old mid new
      (may second our_second (λ none. none)) was
  second_next first shown old mid new n (absent q) prepares may at in_shown was = moved first old mid new
      (may second our_second (λ none. none)) was

  bytes_next : (call : Call) (ok : Bool) (calls : List Answered) → ((p : List ℕ) → call ≡ make p → ⊥) → IsStep w call ok calls
      → Stays w before calls → Stays w before ((call, ok) ∷ calls)
  bytes_next call ok calls makes step stays f closed =
      let was = stays f closed in
      let still : is_closed f ((call, ok) ∷ calls) ≡ true = stays_closed call ok calls f (λ p is. absurd (makes p is)) was.0 in
      (still, (step.seen_bytes f was.0 still ∙ was.1.0, step.left_bytes f was.0 still ∙ was.1.1))

  some_is : (a : Option ℕ) (f : ℕ) (b : Option ℕ) → a ≡ b → a ≡ Some f → b ≡ Some f
  some_is a f b same leads = sym same ∙ leads

  -- what our paths lead to stays closed
  closed_next : (call : Call) (ok : Bool) (calls : List Answered) (shown mid new : Files) → ((p : List ℕ) → call ≡ make p → ⊥)
      → AreClosed temporary w calls mid → AreClosed temporary w calls shown
      → ((p : List ℕ) → w.ours p ≡ true → (p ≡ second → ⊥) → new.named p ≡ mid.named p)
      → (new.named second ≡ mid.named second) ⊎ (new.named second ≡ shown.named path)
      → AreClosed temporary w ((call, ok) ∷ calls) new
  closed_next call ok calls shown mid new makes in_mid in_shown named at_second p f ours lasting leads = stays_closed call ok calls f
      (λ q is. absurd (makes q is)) (elim (same_or_other p second) [
        | inr other ↦ in_mid p f ours lasting (sym (named p ours other) ∙ leads)
        | inl is ↦ elim at_second [
          | inl stays ↦ in_mid p f ours lasting (ap mid.named is ∙ sym stays ∙ ap new.named (sym is) ∙ leads)
          | inr moves ↦ in_shown path f our_path not_path (sym moves ∙ ap new.named (sym is) ∙ leads)
        ]
      ])

  at_second_next : (shown mid new : Files) (n : ℕ) (call : Call) → Prepares path second call → MayChange w.ours shown n call mid new
      → (new.named second ≡ mid.named second) ⊎ (new.named second ≡ shown.named path)
  at_second_next shown mid new n (make q) prepares may = absurd prepares
  at_second_next shown mid new n (sync f bytes) prepares may = inl (may second our_second (λ none. none))
  at_second_next shown mid new n (link f to) prepares may = absurd prepares
  at_second_next shown mid new n (link_again from to) prepares may =
      elim (may.1 (subst (λ (p : List ℕ). w.ours p ≡ true) (sym prepares.1) our_second)
      (subst (λ (p : List ℕ). w.ours p ≡ true) (sym prepares.0) our_path)) [
        | inl stays ↦ inl (ap new.named (sym prepares.1) ∙ stays ∙ ap mid.named prepares.1)
        | inr leads ↦ inr (ap new.named (sym prepares.1) ∙ leads.1 ∙ ap shown.named prepares.0)
      ]
  at_second_next shown mid new n (rename f from to) prepares may = absurd prepares
  at_second_next shown mid new n (rename_again from to) prepares may = absurd prepares
  at_second_next shown mid new n (remove q) prepares may = absurd prepares
  at_second_next shown mid new n (sync_folder q) prepares may = inl (may second our_second (λ none. none))
  at_second_next shown mid new n (same_file q to) prepares may = inl (may second our_second (λ none. none))
  at_second_next shown mid new n (absent q) prepares may = inl (may second our_second (λ none. none))

  pub ready_next : (call : Call) (ok : Bool) (calls : List Answered) → Prepares path second call → IsStep w call ok calls
      → IsReady temporary path second w before calls → IsReady temporary path second w before ((call, ok) ∷ calls)
  ready_next call ok calls prepares step ready =
      let next : List Answered = (call, ok) ∷ calls in
      let n = suc (length calls) in
      let makes = makes_none path second call prepares in
      let seen_same = named_next (w.seen calls) (w.seen calls) (w.seen next) n call prepares step.seen in
      let left_same = named_next (w.seen calls) (w.left calls) (w.left next) n call prepares step.left in
      record {
        sound = record {
          seen = closed_next call ok calls (w.seen calls) (w.seen calls) (w.seen next) makes ready.sound.seen ready.sound.seen seen_same
              (at_second_next (w.seen calls) (w.seen calls) (w.seen next) n call prepares step.seen);
          left = closed_next call ok calls (w.seen calls) (w.left calls) (w.left next) makes ready.sound.left ready.sound.seen left_same
              (at_second_next (w.seen calls) (w.left calls) (w.left next) n call prepares step.left);
        };
        seen = λ p ours other. seen_same p ours other ∙ ready.seen p ours other;
        left = λ p ours other. left_same p ours other ∙ ready.left p ours other;
        seen_second = second_next (w.seen before) (w.seen calls) (w.seen before) (w.seen calls) (w.seen next) n call prepares step.seen
            (ready.seen path our_path apart) ready.seen_second ready.seen_second;
        left_second = second_next (w.seen before) (w.seen calls) (w.left before) (w.left calls) (w.left next) n call prepares step.left
            (ready.seen path our_path apart) ready.seen_second ready.left_second;
        bytes = bytes_next call ok calls makes step ready.bytes;
      }

  -- ---- what is exchanged, of what is seen or of what a crash leaves: the first files, those that were seen then, and these
  module _ (written : Option (List ℕ)) (shown old new : Files) (in_old : AreClosed temporary w before old)
      (in_shown : AreClosed temporary w before shown)
      (bytes : (f : ℕ) → is_closed f before ≡ true → new.bytes f ≡ old.bytes f) where
    -- a path that leads where it led
    had : (p : List ℕ) → w.ours p ≡ true → (temporary p → ⊥) → new.named p ≡ old.named p → under new p ≡ under old p
    had p ours lasting same = same_under old new p same (λ f leads. bytes f (in_old p f ours lasting leads))

    -- the second path leads where the first one was seen to lead
    kept : new.named second ≡ shown.named path → under new second ≡ seen_at shown old path
    kept leads = ap (λ (o : Option ℕ). option_map new.bytes o) leads
        ∙ same_map new.bytes old.bytes (shown.named path) (λ f at. bytes f (in_shown path f our_path not_path at))

    beside : Second path second shown old new
        → (under new second ≡ under old second) ⊎ ((shown.named second ≡ None) × (under new second ≡ seen_at shown old path))
    beside (inl same) = inl (had second our_second not_second same)
    beside (inr leads) = inr (leads.0, kept leads.1)

    pub exchanged_none : new.named path ≡ old.named path → Second path second shown old new
        → IsExchanged written path second shown old new
    exchanged_none same at_second = record { at = inl (had path our_path not_path same); beside = beside at_second }

    pub exchanged_all : (file : ℕ) (all : List ℕ) → written ≡ Some all → new.named path ≡ Some file
        → new.bytes file ≡ all → new.named second ≡ shown.named path → Second path second shown old new
        → IsExchanged written path second shown old new
    exchanged_all file all whole leads has at_kept at_second = record {
      at = inr (record {
        bytes = all;
        whole = whole;
        here = ap (λ (o : Option ℕ). option_map new.bytes o) leads ∙ ap (λ (b : List ℕ). Some b) has;
        kept = kept at_kept;
      });
      beside = beside at_second;
    }

  -- the file that is seen at a path that leads where it led has what a crash left of it
  still_at : (calls : List Answered) → AreClosed temporary w before (w.seen before)
      → ((f : ℕ) → is_closed f before ≡ true → (w.left calls).bytes f ≡ (w.left before).bytes f) → (p : List ℕ) → w.ours p ≡ true
      → (temporary p → ⊥) → (w.seen calls).named p ≡ (w.seen before).named p
      → seen_at (w.seen calls) (w.left calls) p ≡ seen_at (w.seen before) (w.left before) p
  still_at calls in_seen bytes p ours lasting same = ap (λ (o : Option ℕ). option_map (w.left calls).bytes o) same
      ∙ same_map (w.left calls).bytes (w.left before).bytes ((w.seen before).named p) (λ f at. bytes f (in_seen p f ours lasting at))

  -- before the path is given away
  pub ready_exchanged : (written : Option (List ℕ)) (calls : List Answered) → IsSound temporary w before
      → IsReady temporary path second w before calls → AreExchanged temporary written path second w before calls
  ready_exchanged written calls sound ready = record {
    seen = exchanged_none written (w.seen before) (w.seen before) (w.seen calls) sound.seen sound.seen
        (λ f closed. (ready.bytes f closed).1.0) (ready.seen path our_path apart) ready.seen_second;
    left = exchanged_none written (w.seen before) (w.left before) (w.left calls) sound.left sound.seen
        (λ f closed. (ready.bytes f closed).1.1) (ready.left path our_path apart) ready.left_second;
    others = λ p ours lasting not_first other. (
      had written (w.seen before) (w.seen before) (w.seen calls) sound.seen sound.seen (λ f closed. (ready.bytes f closed).1.0)
          p ours lasting (ready.seen p ours other),
      had written (w.seen before) (w.left before) (w.left calls) sound.left sound.seen (λ f closed. (ready.bytes f closed).1.1)
          p ours lasting (ready.left p ours other),
    );
    still = λ p ours lasting not_first other. still_at calls sound.seen (λ f closed. (ready.bytes f closed).1.1) p ours lasting
        (ready.seen p ours other);
  }

  -- ---- the new file gets the path
  module _ (file : ℕ) (all : List ℕ) (written : Option (List ℕ)) (whole : written ≡ Some all) (from : List ℕ) (is_from : temporary from)
      (ok : Bool) (calls : List Answered) (closed : is_closed file calls ≡ true)
      (seen_has : (w.seen calls).bytes file ≡ all) (left_has : (w.left calls).bytes file ≡ all)
      (seen_kept : (w.seen calls).named second ≡ (w.seen calls).named path)
      (left_kept : (w.left calls).named second ≡ (w.seen calls).named path) (step : IsStep w (rename file from path) ok calls)
      (first_sound : IsSound temporary w before) (ready : IsReady temporary path second w before calls) where
    abbrev next : List Answered
    next = (rename file from path, ok) ∷ calls

    abbrev number : ℕ
    number = suc (length calls)

    none_made : (p : List ℕ) → rename file from path ≡ make p → ⊥
    none_made p is = absurd (cc)

    -- a path that isn't the one that is given away
    other_named : (old new : Files) → MayChange w.ours (w.seen calls) number (rename file from path) old new
        → (p : List ℕ) → w.ours p ≡ true → (temporary p → ⊥) → (p ≡ path → ⊥) → new.named p ≡ old.named p
    other_named old new may p ours lasting other = may.0 p ours (λ is. elim is [
      | inl here ↦ lasting (subst temporary (sym here) is_from)
      | inr here ↦ other here
    ])

    not_first : second ≡ path → ⊥
    not_first is = apart (sym is)

    stays : Stays w before next
    stays = bytes_next (rename file from path) ok calls none_made step ready.bytes

    still : is_closed file next ≡ true
    still = closed

    some_same : (m n : ℕ) → Some m ≡ Some n → m ≡ n
    some_same m n same = cc

    closed_after : (mid new : Files) → AreClosed temporary w calls mid
        → MayChange w.ours (w.seen calls) number (rename file from path) mid new → AreClosed temporary w next new
    closed_after mid new in_mid may p f ours lasting leads = elim (same_or_other p path) [
      | inr other ↦ in_mid p f ours lasting (sym (other_named mid new may p ours lasting other) ∙ leads)
      | inl is ↦ elim (may.1 our_path) [
        | inl same ↦ in_mid p f ours lasting (ap mid.named is ∙ sym same ∙ ap new.named (sym is) ∙ leads)
        | inr gets ↦ subst (λ (n : ℕ). is_closed n next ≡ true) (some_same file f (sym gets ∙ ap new.named (sym is) ∙ leads)) still
      ]
    ]

    one : (first old mid new : Files) → AreClosed temporary w before old → AreClosed temporary w before first
        → ((f : ℕ) → is_closed f before ≡ true → new.bytes f ≡ old.bytes f) → new.bytes file ≡ all
        → MayChange w.ours (w.seen calls) number (rename file from path) mid new
        → mid.named path ≡ old.named path → Second path second first old mid → mid.named second ≡ first.named path
        → IsExchanged written path second first old new
    one first old mid new in_old in_first bytes has may at_path at_second at_kept =
        let second_same : new.named second ≡ mid.named second = other_named mid new may second our_second not_second not_first in
        let second_new = moved first old mid new second_same at_second in
        elim (may.1 our_path) [
          | inl same ↦ exchanged_none written first old new in_old in_first bytes (same ∙ at_path) second_new
          | inr gets ↦ exchanged_all written first old new in_old in_first bytes file all whole gets has
              (second_same ∙ at_kept) second_new
        ]

    pub renamed_sound : IsSound temporary w next
    renamed_sound = record {
      seen = closed_after (w.seen calls) (w.seen next) ready.sound.seen step.seen;
      left = closed_after (w.left calls) (w.left next) ready.sound.left step.left;
    }

    pub renamed_exchanged : AreExchanged temporary written path second w before next
    renamed_exchanged = record {
      seen = one (w.seen before) (w.seen before) (w.seen calls) (w.seen next) first_sound.seen first_sound.seen
          (λ f was. (stays f was).1.0) (step.seen_bytes file closed still ∙ seen_has) step.seen (ready.seen path our_path apart)
          ready.seen_second (seen_kept ∙ ready.seen path our_path apart);
      left = one (w.seen before) (w.left before) (w.left calls) (w.left next) first_sound.left first_sound.seen
          (λ f was. (stays f was).1.1) (step.left_bytes file closed still ∙ left_has) step.left (ready.left path our_path apart)
          ready.left_second (left_kept ∙ ready.seen path our_path apart);
      others = λ p ours lasting not_path_here other. (
        had written (w.seen before) (w.seen before) (w.seen next) first_sound.seen first_sound.seen (λ f was. (stays f was).1.0)
            p ours lasting (other_named (w.seen calls) (w.seen next) step.seen p ours lasting not_path_here ∙ ready.seen p ours other),
        had written (w.seen before) (w.left before) (w.left next) first_sound.left first_sound.seen (λ f was. (stays f was).1.1)
            p ours lasting (other_named (w.left calls) (w.left next) step.left p ours lasting not_path_here ∙ ready.left p ours other),
      );
      still = λ p ours lasting not_path_here other. still_at next first_sound.seen (λ f was. (stays f was).1.1) p ours lasting
          (other_named (w.seen calls) (w.seen next) step.seen p ours lasting not_path_here ∙ ready.seen p ours other);
    }

pub not_on : (b : Bool) → b ≡ false → b ≡ true → ⊥
not_on b off on = let both : true ≡ false = sym on ∙ off in absurd (cc)

-- ---- what is known of the calls before the path is given away

-- a file that is on the disk with all its bytes
abbrev pub HasFile : ℕ → List ℕ → List Answered → Type 0
HasFile file all calls =
    (w : World) → IsLawful w calls
    → (is_closed file calls ≡ true) × (((w.seen calls).bytes file ≡ all) × ((w.left calls).bytes file ≡ all))

-- two paths are seen to lead to one file, and a crash leaves the second one leading there
abbrev pub LeadFor : List ℕ → List ℕ → List Answered → Type 0
LeadFor path second calls =
    (w : World) → IsLawful w calls → w.ours path ≡ true → w.ours second ≡ true
    → ((w.seen calls).named second ≡ (w.seen calls).named path) × ((w.left calls).named second ≡ (w.seen calls).named path)

pub file_synced : (file : ℕ) (all : List ℕ) (written : Option (List ℕ)) (calls : List Answered) → written ≡ Some all
    → HasFile file all ((sync file written, true) ∷ calls)
file_synced file all written calls whole w lawful =
    let next : List Answered = (sync file written, true) ∷ calls in (
      or_left _ _ (equal file),
      subst (λ (o : Option (List ℕ)). IfSome o (λ b. ((w.seen next).bytes file ≡ b) × ((w.left next).bytes file ≡ b))) whole
          (lawful.1.done refl),
    )

pub file_stays : (path second : List ℕ) (file : ℕ) (all : List ℕ) (call : Call) (ok : Bool) (calls : List Answered)
    → Prepares path second call → HasFile file all calls → HasFile file all ((call, ok) ∷ calls)
file_stays path second file all call ok calls prepares has w lawful =
    let was = has w lawful.0 in
    let still : is_closed file ((call, ok) ∷ calls) ≡ true =
    stays_closed call ok calls file (λ p is. absurd (makes_none path second call prepares p is)) was.0 in
    (still, (lawful.1.seen_bytes file was.0 still ∙ was.1.0, lawful.1.left_bytes file was.0 still ∙ was.1.1))

-- the names in the second path's folder were written to the disk
pub one_settled : (path second folder : List ℕ) (calls : List Answered) → IsIn folder second → LeadToOne path second calls
    → LeadFor path second ((sync_folder folder, true) ∷ calls)
one_settled path second folder calls inside one w lawful our_path our_second =
    let next : List Answered = (sync_folder folder, true) ∷ calls in
    let seen : (w.seen next).named second ≡ (w.seen next).named path =
    lawful.1.seen second our_second (λ none. none) ∙ one w lawful.0 our_path our_second
    ∙ sym (lawful.1.seen path our_path (λ none. none)) in
    (seen, lawful.1.done refl second our_second inside ∙ seen)

-- the path was given away
pub renamed_whole : (file : ℕ) (all from path : List ℕ) (calls : List Answered) → HasFile file all calls
    → HasWhole path all ((rename file from path, true) ∷ calls)
renamed_whole file all from path calls has w lawful ours =
    let was = has w lawful.0 in record {
      file = file;
      leads = lawful.1.done refl ours;
      closed = was.0;
      seen = lawful.1.seen_bytes file was.0 was.0 ∙ was.1.0;
      left = lawful.1.left_bytes file was.0 was.0 ∙ was.1.1;
    }

-- the bytes of a file to which no append failed
pub some_bytes : (written : Option (List ℕ)) → IsSome written → (all : List ℕ) × (written ≡ Some all)
some_bytes None some = absurd (cc)
some_bytes (Some all) some = (all, refl)

-- the second path was asked for
module _ (path second : List ℕ) where
  pub asked_file : (file : ℕ) (all : List ℕ) (mid new : List Answered) → WasAsked path second mid new → HasFile file all mid
      → HasFile file all new
  asked_file file all mid new asked has =
      let linked = λ (ok : Bool). file_stays path second file all (link_again path second) ok mid (refl, refl) has in elim asked.1 [
        | inl is ↦ subst (HasFile file all) (sym is) (linked asked.0)
        | inr is ↦ subst (HasFile file all) (sym is) (file_stays path second file all (same_file path second) asked.0
            ((link_again path second, false) ∷ mid) tt (linked false))
      ]

  -- the path was given away
  pub ends_given : (file : ℕ) (written : Option (List ℕ)) (old : List Answered) (from folder : List ℕ)
      (mid kept named new : List Answered) → mid ≡ (sync file written, true) ∷ old → WasAsked path second mid kept
      → named ≡ (sync_folder folder, true) ∷ kept → new ≡ (rename file from path, true) ∷ named
      → HasPath path written new
  ends_given file written old from folder mid kept named new is asked names renames = has_path written refl where
    has_path : (o : Option (List ℕ)) → written ≡ o → IfSome o (λ all. HasWhole path all new)
    has_path None same = tt
    has_path (Some all) same =
        let has_mid = subst (HasFile file all) (sym is) (file_synced file all written old same) in
        let has_kept = asked_file file all mid kept asked has_mid in
        let has_named = subst (HasFile file all) (sym names)
        (file_stays path second file all (sync_folder folder) true kept tt has_kept) in
        subst (HasWhole path all) (sym renames) (renamed_whole file all from path named has_named)
