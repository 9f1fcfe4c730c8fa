-- Files that are written in place of others.
use Rattle.std.proofs.Common.{◌≡◌, ◌∙◌, ap, sym, subst, ℕ, List, [], ◌∷◌, ◌++◌, true, false, Option, Some, IfSome, option_map, OnOk, OnErr}
use Rattle.std.specs.declared.result.Result.{Result}
use Rattle.folders.specs.Calls.{Call, Answered, sync_folder}
use Rattle.folders.specs.Disk.{HasWhole, IsOnDisk}
use Rattle.folders.specs.Files.{IsIn}
use Rattle.folders.specs.Given.{Nothing}
use Rattle.folders.specs.Placed.{HasPath, IsGiven}
use Rattle.folders.specs.Worlds.{World}
use Rattle.folders.proofs.Answers.{keeps_answered}
use Rattle.folders.proofs.GivenAfter.{gives_after, gives_nothing, gives_weaker}
use Rattle.folders.proofs.KeptGiven.{keeps_gives, keeps_puts}
use Rattle.folders.proofs.Staying.{settled}
use Rattle.folders.proofs.Steps.{IsQuiet}
use Rattle.store_folder.specs.Kept.{GivesOne, IsTemporary, KeepsEach}
use Rattle.store_folder.specs.Written.{Puts, PutsOne}

module _ (puts : List ℕ → Option (List ℕ) → Type 0) where
  pub puts_nothing : (calls : List Answered) → Puts puts calls calls
  puts_nothing calls = gives_nothing IsTemporary Nothing puts calls

  -- calls that change no path but temporary ones
  pub puts_kept : (old new : List Answered) → KeepsEach old new → Puts puts old new
  puts_kept old new run = keeps_gives IsTemporary Nothing puts old new run

  pub puts_after : (old mid new : List Answered) → Puts puts old mid → Puts puts mid new → Puts puts old new
  puts_after old mid new first second = gives_after IsTemporary Nothing puts Nothing puts (λ from to none. none) (λ path content put. put)
      (λ from to none. absurd none) (λ from between to some none. absurd none) (λ from to content none. absurd none) old mid new
      first second

  -- a path at which nothing is gets a new file that it may get
  pub puts_given : (to : List ℕ) (written : Option (List ℕ)) (old new : List Answered)
      → ((bytes : List ℕ) → written ≡ Some bytes → puts to (Some bytes)) → GivesOne to written old new → Puts puts old new
  puts_given to written old new may run = keeps_puts IsTemporary (IsGiven to written new) Nothing puts
      (λ path bytes is. subst (λ (p : List ℕ). puts p (Some bytes)) (sym is.here) (may bytes is.whole)) old new run

  -- one of them, whatever it answered
  pub puts_quiet : {T E : Type 0} (result : Result T E) (call : Call) (old new : List Answered)
      → OnOk result (new ≡ (call, true) ∷ old) → OnErr result (new ≡ (call, false) ∷ old) → ((w : World) → IsQuiet IsTemporary w call)
      → Puts puts old new
  puts_quiet result call old new ok err quiet = puts_kept old new (keeps_answered IsTemporary Nothing result call old new ok err quiet)

-- more that paths may get
pub puts_weaker : (puts puts_too : List ℕ → Option (List ℕ) → Type 0)
    → ((path : List ℕ) (content : Option (List ℕ)) → puts path content → puts_too path content) → (old new : List Answered)
    → Puts puts old new → Puts puts_too old new
puts_weaker puts puts_too more old new run = gives_weaker Nothing Nothing puts puts_too (λ from to none. none) more IsTemporary old new run

-- ---- a text that is written

-- a file that was empty has the text
pub filled : (before after : Option (List ℕ)) (text : List ℕ) → after ≡ option_map (λ bytes. bytes ++ text) before → before ≡ Some []
    → after ≡ Some text
filled before after text is empty = is ∙ ap (λ (o : Option (List ℕ)). option_map (λ bytes. bytes ++ text) o) empty

pub text_put : (path text : List ℕ) (written : Option (List ℕ)) (old new : List Answered) → written ≡ Some text
    → PutsOne path written old new → PutsOne path (Some text) old new
text_put path text written old new is run = subst (λ (o : Option (List ℕ)). PutsOne path o old new) is run

-- it is on the disk once its folder's names are
pub text_on_disk : (folder path text : List ℕ) (written : Option (List ℕ)) (calls new : List Answered) → written ≡ Some text
    → HasPath path written calls → IsIn folder path → new ≡ (sync_folder folder, true) ∷ calls → IsOnDisk path text new
text_on_disk folder path text written calls new is has inside named = subst (IsOnDisk path text) (sym named)
    (settled folder path text calls inside (subst (λ (o : Option (List ℕ)). IfSome o (λ bytes. HasWhole path bytes calls)) is has))
