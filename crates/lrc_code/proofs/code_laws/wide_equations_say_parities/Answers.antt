use Rattle.lrc_code.proofs.WideLaws.{wide_equations-parities}
use Rattle.lrc_code.proofs.code_laws.wide_equations_say_parities.Goals as goal

pub returns : goal.returns
returns c = wide_equations-parities
