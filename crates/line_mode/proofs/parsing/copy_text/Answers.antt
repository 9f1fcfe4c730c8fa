use Rattle.line_mode.proofs.Printable.{IsUtf8-printable, ok_unless}
use Rattle.line_mode.proofs.parsing.copy_text.Goals as goal

pub unwrap-requires : goal.unwrap-requires
unwrap-requires c = ok_unless _ _ _ c.from_utf8.result c.from_utf8.ensures.cases (IsUtf8-printable c.args.text.now c.requires)
