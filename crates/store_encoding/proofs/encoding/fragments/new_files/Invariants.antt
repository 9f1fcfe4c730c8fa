use Rattle.std.proofs.Common.{◌≤◌, ◌-◌, length, vec_len}
use Rattle.store_folder.specs.Placed.{content_of}
use Rattle.store_repair.specs.Mended.{AreEmpty}
use Rattle.store_encoding.proofs.encoding.fragments.new_files.Given as goal

abbrev pub invariant-files : goal.invariant-files
invariant-files l = record { few : vec_len l.files ≤ length l.places; empty : AreEmpty content_of l.files.items }

abbrev pub decreases-files : goal.decreases-files
decreases-files l = length l.places - vec_len l.files
