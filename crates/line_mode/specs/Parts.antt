-- A request as a line writes it, without where it lies in memory.
use Rattle.std.specs.String.{string_bytes}
use Rattle.lrc_code.specs.Requests.{Asked}
use Rattle.lrc_code.specs.Survivors.{survivors_of}
use Rattle.line_mode.specs.declared.parsing.Parts.{Parts}

abbrev pub asked_of : Parts → Asked
asked_of parts = record {
  code = parts.code;
  stripe = string_bytes parts.stripe;
  target = parts.target;
  len = parts.length;
  survivors = survivors_of parts.survivors.items;
}
