-- A call that was made answered one thing or the other.
use Rattle.std.proofs.Common.{◌≡◌, ℕ, List, ◌∷◌, Bool, true, false, Ok, Err, IfOk, OnOk, OnErr}
use Rattle.std.specs.declared.result.Result.{Result}
use Rattle.folders.specs.Calls.{Call, Answered, same_file}
use Rattle.folders.specs.Kept.{Keeps}
use Rattle.folders.specs.Worlds.{World}
use Rattle.folders.proofs.Runs.{keeps_quiet}
use Rattle.folders.proofs.Steps.{IsQuiet}

pub answered : {T E : Type 0} (result : Result T E) (call : Call) (old new : List Answered)
    → OnOk result (new ≡ (call, true) ∷ old) → OnErr result (new ≡ (call, false) ∷ old) → (ok : Bool) × (new ≡ (call, ok) ∷ old)
answered (Ok x) call old new ok err = (true, ok)
answered (Err e) call old new ok err = (false, err)

-- a call that changes no path but temporary ones, whatever it answered
pub keeps_answered : (temporary : List ℕ → Type 0) (given : List ℕ → List ℕ → Type 0) {T E : Type 0} (result : Result T E) (call : Call)
    (old new : List Answered)
    → OnOk result (new ≡ (call, true) ∷ old) → OnErr result (new ≡ (call, false) ∷ old) → ((w : World) → IsQuiet temporary w call)
    → Keeps temporary given old new
keeps_answered temporary given result call old new ok err quiet =
    let last = answered result call old new ok err in keeps_quiet temporary given call last.0 old new last.1 quiet

-- whether two paths lead to one file was asked
pub asked_same : {E : Type 0} (result : Result Bool E) (path other : List ℕ) (old new : List Answered)
    → IfOk result (λ is. new ≡ (same_file path other, is) ∷ old) → OnErr result (new ≡ (same_file path other, false) ∷ old)
    → (ok : Bool) × (new ≡ (same_file path other, ok) ∷ old)
asked_same (Ok is) path other old new ok err = (is, ok)
asked_same (Err e) path other old new ok err = (false, err)

-- what follows from an answer Ok
pub on_ok : {T E : Type 0} (result : Result T E) (P Q : Type 0) → (P → Q) → OnOk result P → OnOk result Q
on_ok (Ok x) P Q leads is = leads is
on_ok (Err e) P Q leads is = tt
