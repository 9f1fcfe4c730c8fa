-- Bytes that are lent.
use Rattle.std.specs.Prelude.{ℕ, List, map}
use Rattle.lrc_c.specs.declared.lent.Lent.{Lent}

-- the bytes of each slice
abbrev pub lent : List Lent → List (List ℕ)
lent ls = map (λ l. l.bytes.now) ls
