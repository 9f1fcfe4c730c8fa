-- The digests that are written.
use Rattle.std.proofs.Common.{◌≡◌, ◌∙◌, refl, subst, sym, true≢false, ℕ, List, Option, Some, None, IfSome, IsSome, OnOk, Bool, true, false}
use Rattle.std.specs.declared.result.Result.{Result}
use Rattle.std.proofs.Common.{Ok, Err}
use Rattle.folders.specs.Calls.{Answered}
use Rattle.folders.specs.Disk.{IsOnDisk}
use Rattle.folders.specs.Given.{IsNewAt}
use Rattle.store_folder.specs.Written.{Puts, PutsOne}
use Rattle.store_folder.proofs.Written.{puts_nothing, puts_weaker}
use Rattle.store_encoding.specs.Names.{sums_path}
use Rattle.store_encoding.specs.Replaced.{IsSums}

-- there is no text
pub no_sums : (folder : List ℕ) (calls : List Answered) → Puts (IsSums folder None) calls calls
no_sums folder calls = puts_nothing (IsSums folder None) calls

-- the text was to be written
pub text_sums : (folder path text : List ℕ) → path ≡ sums_path folder → (old new : List Answered) → PutsOne path (Some text) old new
    → Puts (IsSums folder (Some text)) old new
text_sums folder path text is old new run = puts_weaker (IsNewAt path (Some text)) (IsSums folder (Some text))
    (λ p content put. (put.0 ∙ is, put.1, refl)) old new run

-- and is there
pub text_held : (folder path text : List ℕ) → path ≡ sums_path folder → (calls : List Answered) → IsOnDisk path text calls
    → IfSome (Some text) (λ bytes. IsOnDisk (sums_path folder) bytes calls)
text_held folder path text is calls held = subst (λ (p : List ℕ). IsOnDisk p text calls) is held

-- of an Ok more is asked only if something has changed
pub some_if_changed : {T E : Type 0} (result : Result T E) (text : Option (List ℕ)) (changed : Bool) → OnOk result (IsSome text)
    → OnOk result (changed ≡ true → IsSome text)
some_if_changed (Ok x) text changed some = λ is. some
some_if_changed (Err e) text changed some = tt

-- nothing has changed, so that no text is asked for
pub none_if_unchanged : (text : Option (List ℕ)) (changed : Bool) → changed ≡ false → changed ≡ true → IsSome text
none_if_unchanged text changed unchanged is = absurd (true≢false (sym is ∙ unchanged))
