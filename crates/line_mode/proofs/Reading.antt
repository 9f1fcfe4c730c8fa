-- Reads, one after another.
use Rattle.std.proofs.Common.{◌≡◌, ◌<◌, ◌++◌, ℕ, List, length, Option, refl}
use Rattle.std.proofs.KnownBytes.{Consumes-trans}
use Rattle.std.specs.Io.KnownBytes.{Consumes}
use Rattle.line_mode.specs.declared.outcomes.LineFault.{LineFault}
use Rattle.line_mode.specs.declared.outcomes.LineFault.TheVariants.{InputTooLong, Device, OutOfMemory}
use Rattle.line_mode.specs.LineMode.{StopsReading, input_limit}

-- a read whose bytes aren't kept, since they are too many or find no memory
pub stops_at : (before now after : Option (List ℕ)) (bytes block : List ℕ) (f : LineFault) → Consumes before now bytes
    → Consumes now after block
    → (f ≡ InputTooLong → input_limit < length (bytes ++ block)) → StopsReading before after f
stops_at before now after bytes block InputTooLong first last long =
    (bytes ++ block, Consumes-trans before now after bytes block first last, long refl)
stops_at before now after bytes block Device first last long = tt
stops_at before now after bytes block OutOfMemory first last long = tt
