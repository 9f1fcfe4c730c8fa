use Rattle.std.proofs.Common.{string_bytes}
use Rattle.store_faults.proofs.Shown.{shown_on_ok}
use Rattle.store_faults.proofs.lines.append.Goals as goal

pub returns : goal.returns
returns c = shown_on_ok c.push_str.result (string_bytes c.args.line.now) (string_bytes c.push_str.new.self) c.args.text.now
    c.push_str.ensures.bytes c.requires
