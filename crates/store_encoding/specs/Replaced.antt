-- What is said of calls that give files the names of others, which they replace.
use Rattle.std.specs.Prelude.{◌≡◌, ◌⊎◌, ℕ, List, ◌++◌, true, false, Option, None, IfSome, IsSome}
use Rattle.folders.specs.Calls.{Answered}
use Rattle.folders.specs.Files.{under}
use Rattle.folders.specs.Given.{Gives, HasGot, IsAbsent, LeadThere, NothingNew, RenameOwn}
use Rattle.folders.specs.Kept.{AtEach, IsSound}
use Rattle.folders.specs.Worlds.{World, IsLawful}
use Rattle.store_folder.specs.Kept.{IsTemporary}
use Rattle.store_folder.specs.Temporary.{is_temporary}
use Rattle.store_records.specs.SumLines.{sum_lines}
use Rattle.store_records.specs.declared.sums.Sums.{Sums}
use Rattle.store_encoding.specs.Digests.{KeepsOthers}
use Rattle.store_encoding.specs.Names.{IsFileOf, Replaces, sums_path}
use Rattle.store_encoding.specs.declared.encoding.stripe_files.StripeFiles.{StripeFiles}

-- Whenever the run from the old calls to the new ones ends, by a crash or by itself, each path but temporary ones has what it had, or what
-- was seen at one whose file it was to get.
abbrev pub GivesOnly : (List ℕ → List ℕ → Type 0) → List Answered → List Answered → Type 0
GivesOnly gives old new = Gives IsTemporary gives NothingNew old new

-- one way in which such a run may have gone
pub record IsRun (gives : List ℕ → List ℕ → Type 0) (w : World) (old new : List Answered) : Type 0 where
  pub sound : IsSound IsTemporary w old
  pub own_renamed : RenameOwn w new
  pub own : (from to : List ℕ) → gives from to → w.ours from ≡ true
  pub lawful : IsLawful w new

-- nothing was seen at the first path, or the second has got a file
abbrev pub HasItsFile : (List ℕ → List ℕ → Type 0) → World → List Answered → List Answered → List ℕ → List ℕ → Type 0
HasItsFile gives w old calls from to = (under (w.seen old) from ≡ None) ⊎ HasGot gives w old calls to

-- so it is of each path that was to get a file, but for those that are still to get one
abbrev pub AllBut : (List ℕ → List ℕ → Type 0) → (List ℕ → List ℕ → Type 0) → List Answered → List Answered → Type 0
AllBut rest gives old new =
    (w : World) → IsRun gives w old new → (from to : List ℕ) → gives from to → w.ours to ≡ true
    → rest from to ⊎ HasItsFile gives w old new from to

abbrev pub AllGot : (List ℕ → List ℕ → Type 0) → List Answered → List Answered → Type 0
AllGot gives old new =
    (w : World) → IsRun gives w old new → (from to : List ℕ) → gives from to → w.ours to ≡ true → HasItsFile gives w old new from to

-- nothing is at a path, or another one leads where it leads, also after a crash
abbrev pub IsGivenTo : List ℕ → List ℕ → List Answered → Type 0
IsGivenTo path other calls = IsAbsent path calls ⊎ LeadThere path other calls

-- the path of the digests gets this text, if there is one
abbrev pub IsSums : List ℕ → Option (List ℕ) → List ℕ → Option (List ℕ) → Type 0
IsSums folder text path content = (path ≡ sums_path folder) × (content ≡ text) × IsSome text

-- the text is that of these sums, if there is one
abbrev pub IsTextOf : Sums → Option (List ℕ) → Type 0
IsTextOf sums text = IfSome text (λ bytes. bytes ≡ sum_lines sums)

-- the text is that of sums that say of each name but those of two stripes' files what these say, if there is one
abbrev pub SaysOthers : StripeFiles → StripeFiles → Sums → Option (List ℕ) → Type 0
SaysOthers files others sums text = IfSome text (λ bytes. (new : Sums) × (bytes ≡ sum_lines new) × KeepsOthers files others sums new)

-- one of a stripe's files goes
abbrev pub Goes : List ℕ → StripeFiles → List ℕ → Option (List ℕ) → Type 0
Goes folder files path content = IsFileOf folder files path × (content ≡ None)

-- the path of the digests gets this text, if there is one, and a stripe's files go
abbrev pub IsNewOf : List ℕ → Option (List ℕ) → StripeFiles → List ℕ → Option (List ℕ) → Type 0
IsNewOf folder text files path content = IsSums folder text path content ⊎ Goes folder files path content

-- ---- the order: at each moment one of these is so

-- no path but temporary ones and those of a stripe's files has changed
abbrev pub HasOld : List ℕ → StripeFiles → World → List Answered → List Answered → Type 0
HasOld folder files w old calls =
    (path : List ℕ) → w.ours path ≡ true → is_temporary path ≡ false → (IsFileOf folder files path → ⊥)
    → (under (w.seen calls) path ≡ under (w.seen old) path) × (under (w.left calls) path ≡ under (w.left old) path)

-- each of a stripe's files has what it had
abbrev pub HasNew : List ℕ → StripeFiles → World → List Answered → List Answered → Type 0
HasNew folder files w old calls =
    (path : List ℕ) → w.ours path ≡ true → IsFileOf folder files path
    → (under (w.seen calls) path ≡ under (w.seen old) path) × (under (w.left calls) path ≡ under (w.left old) path)

-- each path of another stripe has what was seen at the one that replaces it, if something was, and the digests are there, if they are new
pub record HasBoth (folder : List ℕ) (files others : StripeFiles) (text : Option (List ℕ)) (w : World) (old calls : List Answered)
    : Type 0 where
  pub got : (from to : List ℕ) → Replaces folder files others from to → w.ours to ≡ true
      → HasItsFile (Replaces folder files others) w old calls from to
  pub sums : w.ours (sums_path folder) ≡ true → IsSome text
      → (under (w.seen calls) (sums_path folder) ≡ text) × (under (w.left calls) (sums_path folder) ≡ text)

-- Whenever the run ends, by a crash or by itself, each path but temporary ones has what it had, or is one of a stripe's files and has what
-- was seen at the one that was to replace it, or is that of the digests and has all of a text, or is one of the files that were to replace
-- the stripe's, which go. And these go only if nothing else changes, or once each of the stripe's files has its new one and the digests are
-- there, also after a crash. The text says of all other files what the digests said before.
pub record ReplacesFile (folder : List ℕ) (files others : StripeFiles) (sums : Sums) (old new : List Answered) : Type 0 where
  pub text : Option (List ℕ)
  pub says : SaysOthers files others sums text
  pub gives : Gives IsTemporary (Replaces folder files others) (IsNewOf folder text files) old new
  pub more : List Answered
  pub are : new ≡ more ++ old
  pub order : (w : World) → IsSound IsTemporary w old → RenameOwn w new
      → ((from to : List ℕ) → Replaces folder files others from to → w.ours from ≡ true)
      → AtEach (λ calls. IsLawful w calls
      → HasOld folder files w old calls ⊎ HasNew folder files w old calls ⊎ HasBoth folder files others text w old calls) more old
