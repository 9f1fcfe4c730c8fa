-- Whom locks keep out on a mount, by the kernel's table of mounts.
use Rattle.std.specs.Prelude.{◌≡◌, ℕ, Bool, not, ◌&&◌, ◌||◌, ◌==◌, List, [], ◌∷◌, ◌++◌, length, slice_index, codes}
use Rattle.std.specs.Prelude.{if◌then◌else◌}
use Rattle.std.specs.Char.{encode_utf8}
use Rattle.std.specs.List.{flat_map, list_any, slice_split}
use Rattle.std.specs.Str.{bytes_eq, chars}
use Rattle.store_names.specs.declared.mounts.Locking.{Locking}
use Rattle.store_names.specs.declared.mounts.Locking.TheVariants.{OneHost, SharedFiles, Unknown}

-- a text is one of some
abbrev pub is_among : List ℕ → List (List ℕ) → Bool
is_among text texts = list_any (λ other. bytes_eq other text) texts

-- the types of file systems that one host has at a time
abbrev pub of_one_host : List (List ℕ)
of_one_host = codes "bcachefs" ∷ codes "btrfs" ∷ codes "ext2" ∷ codes "ext3" ∷ codes "ext4" ∷ codes "f2fs" ∷ codes "jfs" ∷ codes "overlay"
    ∷ codes "tmpfs" ∷ codes "xfs" ∷ codes "zfs" ∷ []

-- those whose clients take a lock of a file at the server
abbrev pub of_servers : List (List ℕ)
of_servers = codes "nfs" ∷ codes "nfs4" ∷ []

-- the options by which such a client takes locks at its own host alone
abbrev pub of_clients : List (List ℕ)
of_clients = codes "local_lock=all" ∷ codes "local_lock=flock" ∷ codes "nolock" ∷ []

-- the options of a mount, which are cut at commas, have one by which locks are taken at the own host alone
abbrev pub is_local : List ℕ → Bool
is_local options = list_any (λ option. is_among option of_clients) (slice_split (λ byte. byte == 44) options)

-- whom locks keep out on a file system of this kind, mounted with these options
abbrev pub locking_of : List ℕ → List ℕ → Locking
locking_of kind options = if is_among kind of_one_host then OneHost
    else if (is_among kind of_servers && not (is_local options)) then SharedFiles else Unknown

-- what may be after a mount point in a path at it or below it
abbrev pub may_follow : List ℕ → List ℕ → Bool
may_follow point rest = bytes_eq point (codes "/") || length rest == 0 || slice_index rest 0 == 47

-- a path is a mount point or below it: it is the mount point, or goes on after it with a `/`; all absolute paths are below `/`
pub data IsAtOrBelow (path point : List ℕ) : Type 0 where
  of_root : (rest : List ℕ) → path ≡ point ++ rest → point ≡ codes "/" → IsAtOrBelow path point
  at_it : path ≡ point → IsAtOrBelow path point
  below_it : (rest : List ℕ) → path ≡ point ++ (47 ∷ rest) → IsAtOrBelow path point

-- a letter of a path as the table has it: an octal number for what would end a field, and for what such numbers begin with
abbrev pub letter_in_table : ℕ → List ℕ
letter_in_table letter = if letter == 32 then codes "\\040" else if letter == 9 then codes "\\011" else if letter == 10 then codes "\\012"
    else if letter == 92 then codes "\\134" else encode_utf8 letter

-- a path as the table has it
abbrev pub as_in_table : List ℕ → List ℕ
as_in_table path = flat_map letter_in_table (chars path)
