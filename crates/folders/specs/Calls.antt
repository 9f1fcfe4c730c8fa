-- The calls that change the names and the bytes of files, or put them on the disk.
use Rattle.std.specs.Prelude.{◌≡◌, ℕ, List, [], Bool, cond, ◌==◌, refl, Option, None}
use Rattle.std.specs.Coded.{Coded, code_by, coded×, coded_ℕ, coded_bool, coded_list, coded_option}

-- A call. A file that was made is known by a number: how many calls there were with the one that made it.
pub data Call : Type 0 where
  -- an empty file at a path
  make : List ℕ → Call
  -- A file to the disk, with the bytes that were appended to it, if no append failed. Nothing can be appended to it any more.
  sync : ℕ → Option (List ℕ) → Call
  -- a path for a file
  link : ℕ → List ℕ → Call
  -- the second path for the file that the first one leads to
  link_again : List ℕ → List ℕ → Call
  -- the first path, at which the file was made, goes, and the second one leads to the file, whatever it led to
  rename : ℕ → List ℕ → List ℕ → Call
  -- the same of the file that the first path leads to; if the second one leads to it too, nothing changes
  rename_again : List ℕ → List ℕ → Call
  -- a path goes
  remove : List ℕ → Call
  -- the names in a folder to the disk
  sync_folder : List ℕ → Call
  -- whether two paths lead to one file
  same_file : List ℕ → List ℕ → Call
  -- whether nothing is at a path
  absent : List ℕ → Call

-- a call, and whether it answered Ok; `same_file` and `absent`, whether it answered that so it is
abbrev pub Answered : Type 0
Answered = Call × Bool

-- ---- how the logic stores a call

abbrev Parts : Type 0
Parts = ℕ × (ℕ × (Option (List ℕ) × (List ℕ × List ℕ)))

abbrev to_parts : Call → Parts
to_parts (make path) = (0, (0, (None, (path, []))))
to_parts (sync file bytes) = (1, (file, (bytes, ([], []))))
to_parts (link file to) = (2, (file, (None, (to, []))))
to_parts (link_again from to) = (3, (0, (None, (from, to))))
to_parts (rename file from to) = (4, (file, (None, (from, to))))
to_parts (rename_again from to) = (5, (0, (None, (from, to))))
to_parts (remove path) = (6, (0, (None, (path, []))))
to_parts (sync_folder path) = (7, (0, (None, (path, []))))
to_parts (same_file path other) = (8, (0, (None, (path, other))))
to_parts (absent path) = (9, (0, (None, (path, []))))

abbrev from_parts : Parts → Call
from_parts p =
    cond (p.0 == 0) (make p.1.1.1.0) (cond (p.0 == 1) (sync p.1.0 p.1.1.0) (cond (p.0 == 2) (link p.1.0 p.1.1.1.0) (cond (p.0 == 3)
    (link_again p.1.1.1.0 p.1.1.1.1)
    (cond (p.0 == 4) (rename p.1.0 p.1.1.1.0 p.1.1.1.1) (cond (p.0 == 5) (rename_again p.1.1.1.0 p.1.1.1.1) (cond (p.0 == 6)
    (remove p.1.1.1.0)
    (cond (p.0 == 7) (sync_folder p.1.1.1.0) (cond (p.0 == 8) (same_file p.1.1.1.0 p.1.1.1.1) (absent p.1.1.1.0)))))))))

pub from_parts-to_parts : (call : Call) → from_parts (to_parts call) ≡ call
from_parts-to_parts (make path) = refl
from_parts-to_parts (sync file bytes) = refl
from_parts-to_parts (link file to) = refl
from_parts-to_parts (link_again from to) = refl
from_parts-to_parts (rename file from to) = refl
from_parts-to_parts (rename_again from to) = refl
from_parts-to_parts (remove path) = refl
from_parts-to_parts (sync_folder path) = refl
from_parts-to_parts (same_file path other) = refl
from_parts-to_parts (absent path) = refl

abbrev pub answered_code : Coded (List Answered)
answered_code =
    coded_list (coded× (code_by Parts (coded× coded_ℕ (coded× coded_ℕ (coded× (coded_option (coded_list coded_ℕ)) (coded×
    (coded_list coded_ℕ) (coded_list coded_ℕ)))))
    to_parts from_parts from_parts-to_parts) coded_bool)

abbrev pub bytes_code : Coded (Option (List ℕ))
bytes_code = coded_option (coded_list coded_ℕ)
