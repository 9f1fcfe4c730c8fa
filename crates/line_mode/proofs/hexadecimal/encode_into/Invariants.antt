use Rattle.std.proofs.Common.{◌≡◌, ◌*◌, ◌++◌, take, drop}
use Rattle.hex.specs.Hex.{encode_upper}
use Rattle.line_mode.proofs.hexadecimal.encode_into.Given as goal

abbrev pub invariant-pairs : goal.invariant-pairs
invariant-pairs l = take (2 * l.i) l.digits ++ encode_upper (drop l.i l.bytes) ≡ encode_upper l.bytes
