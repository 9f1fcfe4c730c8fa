use Rattle.std.proofs.Common.{sym, ap, ◌∙◌}
use Rattle.store_names.specs.RunFiles.{is_host}
use Rattle.store_names.proofs.RunTexts.{run_not_process, run_yes}
use Rattle.store_names.proofs.temporary.is_run.Goals as goal

pub returns-then-is_number : goal.returns-then-is_number
returns-then-is_number c = run_yes c.args.text.now c.in-Some.process.now c.in-Some.host.now c.in-Some.ensures is_host (λ r. r.is_host) _
    (c.is_host.ensures ∙ ap is_host c.as_bytes.ensures.value)
    (λ host. record {
      process = c.in-Some.process.now;
      host = c.in-Some.host.now;
      is = c.in-Some.ensures.is;
      is_process = sym c.is_number.ensures ∙ c.if-is_number.true;
      is_host = host;
    })

pub returns-else-is_number : goal.returns-else-is_number
returns-else-is_number c = run_not_process c.args.text.now c.in-Some.process.now c.in-Some.host.now c.in-Some.ensures _ c.is_number.ensures
    c.if-is_number.false
