use Rattle.std.proofs.Common.{string_bytes}
use Rattle.std.specs.Char.{encode_utf8}
use Rattle.store_faults.proofs.Shown.{shown_on_ok, shown-letter}
use Rattle.store_faults.proofs.lines.push_shown.Goals as goal

pub returns : goal.returns
returns c = shown_on_ok c.push.result (string_bytes c.args.line.now) (string_bytes c.push.new.self) (encode_utf8 c.args.letter)
    c.push.ensures.bytes (shown-letter c.args.letter c.requires)
