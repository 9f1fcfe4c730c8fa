-- A call and an append as they are recorded.
use Rattle.std.specs.Prelude.{ℕ, List, length, ◌++◌, Bool, if◌then◌else◌, Option, None, option_map}
use Rattle.folders.specs.Calls as calls
use Rattle.folders.specs.Calls.{Answered}
use Rattle.folders.specs.declared.record.Call.{Call}
use Rattle.folders.specs.declared.record.Call.TheVariants as made

abbrev pub call_of : Call → calls.Call
call_of (made.Make path) = calls.make path.now
call_of (made.Sync file written) = calls.sync (length file.now.calls) written.now.bytes
call_of (made.Link file to) = calls.link (length file.now.calls) to.now
call_of (made.LinkAgain from to) = calls.link_again from.now to.now
call_of (made.Rename file from to) = calls.rename (length file.now.calls) from.now to.now
call_of (made.RenameAgain from to) = calls.rename_again from.now to.now
call_of (made.Remove path) = calls.remove path.now
call_of (made.SyncFolder path) = calls.sync_folder path.now
call_of (made.SameFile path other) = calls.same_file path.now other.now
call_of (made.Absent path) = calls.absent path.now

-- the call, and whether it answered Ok
abbrev pub recorded : Call → Bool → Answered
recorded call is_ok = (call_of call, is_ok)

-- what was appended, and the bytes after it, if they were appended too
abbrev pub written_with : Option (List ℕ) → List ℕ → Bool → Option (List ℕ)
written_with before bytes is_ok = if is_ok then option_map (λ written. written ++ bytes) before else None
