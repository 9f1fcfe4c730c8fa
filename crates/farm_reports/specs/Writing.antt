-- What the writer of a report has written.
use Rattle.std.specs.Prelude.{◌≡◌, ℕ, List, Some, false}
use Rattle.std.specs.declared.alloc.Global.{Global}
use Rattle.std.specs.declared.vec.Vec.{Vec}
use Rattle.csv.specs.Writing.{default_writer, fields_written, has_written, text_written, writer_setup}
use Rattle.csv.specs.declared.writer.Writer.{Writer}

-- a writer with csv's defaults is between two records, and has written this text
abbrev pub HasWritten : List ℕ → Writer (Vec ℕ Global) → Type 0
HasWritten text w =
    (text_written (λ (v : Vec ℕ Global). Some v.items) w ≡ Some text) × (fields_written w ≡ 0) × (has_written w ≡ false)
    × (writer_setup w ≡ default_writer)
