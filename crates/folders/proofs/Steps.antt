-- What one more call keeps.
use Rattle.std.proofs.Common.{◌≡◌, ◌≢◌, inl, ℕ, suc, List, ◌∷◌, length, Bool, true, not, ◌==◌}
use Rattle.std.proofs.Common.{Option, Some, None, option_map, refl, sym, ◌∙◌, ap, subst, arith}
use Rattle.std.proofs.lemmas.Bool.{and_from, or_right}
use Rattle.folders.specs.Calls.{Call, Answered, make, sync, link, link_again, rename, rename_again, remove, sync_folder, same_file, absent}
use Rattle.folders.specs.Files.{Files, under}
use Rattle.folders.specs.Worlds.{World, IsStep, MayChange, Makes, IsNew, KeepsClosed, is_closed}
use Rattle.folders.specs.Kept.{IsSound, AreKept}

differs : (m n : ℕ) → m ≢ n → not (m == n) ≡ true
differs m n other = grind arith

pub equal : (n : ℕ) → (n == n) ≡ true
equal n = grind arith

-- a file that a path leads to before a call that makes one is another one
pub other_file : (w : World) (calls : List Answered) (call : Call) (files : Files) (path : List ℕ) (file : ℕ) → w.ours path ≡ true
    → IsNew w.ours (suc (length calls)) files → files.named path ≡ Some file → file ≢ suc (length calls)
other_file w calls call files path file ours new leads same = new path ours (leads ∙ ap (λ (n : ℕ). Some n) same)

-- a file that can't be appended to stays so, if a call that makes a file makes another one
pub stays_closed : (call : Call) (ok : Bool) (calls : List Answered) (file : ℕ) → ((path : List ℕ) → call ≡ make path → file ≢ suc
    (length calls))
    → is_closed file calls ≡ true → is_closed file ((call, ok) ∷ calls) ≡ true
stays_closed (make path) ok calls file other closed = and_from _ _ (differs file (suc (length calls)) (other path refl)) closed
stays_closed (sync f bytes) ok calls file other closed = or_right _ _ closed
stays_closed (link f to) ok calls file other closed = closed
stays_closed (link_again from to) ok calls file other closed = closed
stays_closed (rename f from to) ok calls file other closed = closed
stays_closed (rename_again from to) ok calls file other closed = closed
stays_closed (remove path) ok calls file other closed = closed
stays_closed (sync_folder path) ok calls file other closed = closed
stays_closed (same_file path to) ok calls file other closed = closed
stays_closed (absent path) ok calls file other closed = closed

pub new_seen : (w : World) (call : Call) (calls : List Answered) (path : List ℕ) → Makes w call calls → call ≡ make path → IsNew w.ours (suc
    (length calls)) (w.seen calls)
new_seen w (make p) calls path makes same = makes.0
new_seen w (sync f bytes) calls path makes same = cc
new_seen w (link f to) calls path makes same = cc
new_seen w (link_again from to) calls path makes same = cc
new_seen w (rename f from to) calls path makes same = cc
new_seen w (rename_again from to) calls path makes same = cc
new_seen w (remove p) calls path makes same = cc
new_seen w (sync_folder p) calls path makes same = cc
new_seen w (same_file p other) calls path makes same = cc
new_seen w (absent p) calls path makes same = cc

new_left : (w : World) (call : Call) (calls : List Answered) (path : List ℕ) → Makes w call calls → call ≡ make path → IsNew w.ours (suc
    (length calls)) (w.left calls)
new_left w (make p) calls path makes same = makes.1
new_left w (sync f bytes) calls path makes same = cc
new_left w (link f to) calls path makes same = cc
new_left w (link_again from to) calls path makes same = cc
new_left w (rename f from to) calls path makes same = cc
new_left w (rename_again from to) calls path makes same = cc
new_left w (remove p) calls path makes same = cc
new_left w (sync_folder p) calls path makes same = cc
new_left w (same_file p other) calls path makes same = cc
new_left w (absent p) calls path makes same = cc

pub same_map : (f g : ℕ → List ℕ) (o : Option ℕ) → ((j : ℕ) → o ≡ Some j → f j ≡ g j) → option_map f o ≡ option_map g o
same_map f g None same = refl
same_map f g (Some j) same = ap (λ (x : List ℕ). Some x) (same j refl)

-- a path that leads where it led has what it had, if the file kept its bytes
pub same_under : (old new : Files) (path : List ℕ) → new.named path ≡ old.named path
    → ((file : ℕ) → old.named path ≡ Some file → new.bytes file ≡ old.bytes file) → under new path ≡ under old path
same_under old new path named bytes = ap (λ (o : Option ℕ). option_map new.bytes o) named ∙ same_map new.bytes old.bytes
    (old.named path) bytes

module _ (temporary : List ℕ → Type 0) (w : World) where
  -- of one of what is seen and what a crash leaves: a path that leads where it led
  module _ (call : Call) (ok : Bool) (calls : List Answered) (old new : Files) (path : List ℕ) (ours : w.ours path ≡ true)
      (makes : (p : List ℕ) → call ≡ make p → IsNew w.ours (suc (length calls)) old) (bytes : KeepsClosed calls ((call, ok)
      ∷ calls) old new)
      (closed : (file : ℕ) → old.named path ≡ Some file → is_closed file calls ≡ true) (named : new.named path ≡ old.named path) where
    stays : (file : ℕ) → old.named path ≡ Some file → is_closed file ((call, ok) ∷ calls) ≡ true
    stays file leads = stays_closed call ok calls file (λ p is. other_file w calls call old path file ours (makes p is) leads)
        (closed file leads)

    pub unchanged : under new path ≡ under old path
    unchanged = same_under old new path named (λ file leads. bytes file (closed file leads) (stays file leads))

    pub unchanged_closed : (file : ℕ) → new.named path ≡ Some file → is_closed file ((call, ok) ∷ calls) ≡ true
    unchanged_closed file leads = stays file (sym named ∙ leads)

  -- calls that change no path but temporary ones
  abbrev pub IsQuiet : Call → Type 0
  IsQuiet (make path) = temporary path
  IsQuiet (sync file bytes) = Unit {0}
  IsQuiet (link file to) = ⊥
  IsQuiet (link_again from to) = ⊥
  IsQuiet (rename file from to) = ⊥
  IsQuiet (rename_again from to) = ⊥
  IsQuiet (remove path) = temporary path
  IsQuiet (sync_folder path) = Unit {0}
  IsQuiet (same_file path other) = Unit {0}
  IsQuiet (absent path) = Unit {0}

  other_path : (path other : List ℕ) → temporary other → (temporary path → ⊥) → path ≡ other → ⊥
  other_path path other is not_temporary same = not_temporary (subst temporary (sym same) is)

  quiet_named : (shown old new : Files) (made : ℕ) (call : Call) → IsQuiet call → MayChange w.ours shown made call old new
      → (path : List ℕ) → w.ours path ≡ true → (temporary path → ⊥) → new.named path ≡ old.named path
  quiet_named shown old new made (make p) quiet may path ours not_temporary = may.0 path ours (other_path path p quiet not_temporary)
  quiet_named shown old new made (sync f bytes) quiet may path ours not_temporary = may path ours (λ none. none)
  quiet_named shown old new made (link f to) quiet may path ours not_temporary = absurd quiet
  quiet_named shown old new made (link_again from to) quiet may path ours not_temporary = absurd quiet
  quiet_named shown old new made (rename f from to) quiet may path ours not_temporary = absurd quiet
  quiet_named shown old new made (rename_again from to) quiet may path ours not_temporary = absurd quiet
  quiet_named shown old new made (remove p) quiet may path ours not_temporary = may.0 path ours (other_path path p quiet not_temporary)
  quiet_named shown old new made (sync_folder p) quiet may path ours not_temporary = may path ours (λ none. none)
  quiet_named shown old new made (same_file p other) quiet may path ours not_temporary = may path ours (λ none. none)
  quiet_named shown old new made (absent p) quiet may path ours not_temporary = may path ours (λ none. none)

  module _ (call : Call) (ok : Bool) (calls : List Answered) (step : IsStep w call ok calls) (sound : IsSound temporary w calls)
      (quiet : IsQuiet call) where
    named_seen : (path : List ℕ) → w.ours path ≡ true → (temporary path → ⊥) → (w.seen ((call, ok) ∷ calls)).named path ≡
        (w.seen calls).named path
    named_seen = quiet_named (w.seen calls) (w.seen calls) (w.seen ((call, ok) ∷ calls)) (suc (length calls)) call quiet step.seen

    named_left : (path : List ℕ) → w.ours path ≡ true → (temporary path → ⊥) → (w.left ((call, ok) ∷ calls)).named path ≡
        (w.left calls).named path
    named_left = quiet_named (w.seen calls) (w.left calls) (w.left ((call, ok) ∷ calls)) (suc (length calls)) call quiet step.left

    pub quiet_sound : IsSound temporary w ((call, ok) ∷ calls)
    quiet_sound = record {
      seen = λ path file ours not_temporary leads. unchanged_closed call ok calls (w.seen calls) (w.seen ((call, ok) ∷ calls)) path ours
          (λ p is. new_seen w call calls p step.makes is) step.seen_bytes (λ f at. sound.seen path f ours not_temporary at)
          (named_seen path ours not_temporary) file leads;
      left = λ path file ours not_temporary leads. unchanged_closed call ok calls (w.left calls) (w.left ((call, ok) ∷ calls)) path ours
          (λ p is. new_left w call calls p step.makes is) step.left_bytes (λ f at. sound.left path f ours not_temporary at)
          (named_left path ours not_temporary) file leads;
    }

    pub quiet_kept : (given : List ℕ → List ℕ → Type 0) → AreKept temporary given w calls ((call, ok) ∷ calls)
    quiet_kept given path ours not_temporary = (
      inl (unchanged call ok calls (w.seen calls) (w.seen ((call, ok) ∷ calls)) path ours
          (λ p is. new_seen w call calls p step.makes is) step.seen_bytes (λ f at. sound.seen path f ours not_temporary at)
          (named_seen path ours not_temporary)),
      inl (unchanged call ok calls (w.left calls) (w.left ((call, ok) ∷ calls)) path ours
          (λ p is. new_left w call calls p step.makes is) step.left_bytes (λ f at. sound.left path f ours not_temporary at)
          (named_left path ours not_temporary)),
    )
