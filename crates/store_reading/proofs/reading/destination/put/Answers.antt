use Rattle.std.proofs.Common.{◌≡◌, ◌∷◌, true, false}
use Rattle.std.specs.Prelude.{IsSomeAnd}
use Rattle.folders.specs.Calls.{sync_folder}
use Rattle.folders.specs.Disk.{IsOnDisk}
use Rattle.folders.specs.Given.{IsNewAt, Nothing}
use Rattle.folders.proofs.Answers.{keeps_answered, on_ok}
use Rattle.store_folder.specs.Kept.{IsTemporary}
use Rattle.store_folder.specs.Placed.{content_of}
use Rattle.store_folder.specs.Temporary.{is_temporary}
use Rattle.store_folder.proofs.Kept.{given_then}
use Rattle.store_folder.proofs.Written.{puts_after, puts_quiet}
use Rattle.store_reading.proofs.Written.{settled_there}
use Rattle.store_reading.proofs.reading.destination.put.Goals as goal

pub returns-clause-whenever : goal.returns-clause-whenever
returns-clause-whenever g c =
    let puts = IsNewAt c.args.path.now (content_of c.args.file) in
    let old = g.F.Folder.calls c.args.files.now in
    let mid = g.F.Folder.calls c.place_file.new.files in
    let new = g.F.Folder.calls c.sync_folder.new.self in
    puts_after puts old mid new c.place_file.ensures.whenever
    (puts_quiet puts c.sync_folder.result (sync_folder c.folder_of.result.now) mid new c.sync_folder.ensures.ok
    c.sync_folder.ensures.err (λ w. tt))

pub returns-clause-alone : goal.returns-clause-alone
returns-clause-alone g c = λ alone. given_then _ _ _ _ _ (c.place_file.ensures.alone alone)
    (keeps_answered IsTemporary Nothing c.sync_folder.result (sync_folder c.folder_of.result.now) _ _ c.sync_folder.ensures.ok
    c.sync_folder.ensures.err (λ w. tt))

pub returns-clause-done : goal.returns-clause-done
returns-clause-done g c = on_ok c.sync_folder.result
    (g.F.Folder.calls c.sync_folder.new.self ≡ (sync_folder c.folder_of.result.now, true) ∷ g.F.Folder.calls c.place_file.new.files)
    (is_temporary c.args.path.now ≡ false
    → IsSomeAnd (content_of c.args.file) (λ bytes. IsOnDisk c.args.path.now bytes (g.F.Folder.calls c.sync_folder.new.self)))
    (λ is lasting. settled_there c.folder_of.result.now c.args.path.now (content_of c.args.file) (g.F.Folder.calls c.place_file.new.files)
    (g.F.Folder.calls c.sync_folder.new.self) c.folder_of.ensures is (c.in_ok-place_file.ensures.given lasting)) c.sync_folder.ensures.ok
