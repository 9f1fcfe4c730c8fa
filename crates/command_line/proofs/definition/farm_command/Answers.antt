use Rattle.std.proofs.Common.{◌∙◌, ap, ap₂, refl}
use Rattle.std.proofs.lemmas.Result.{IfOk-weaker}
use Rattle.clap.specs.Words.{with_rule}
use Rattle.clap.specs.Simple.{app_of_fields}
use Rattle.command_line.proofs.definition.farm_command.Goals as goal

pub returns : goal.returns
returns c = record {
  app = IfOk-weaker c.arg-4.result _ _ (λ r h. h.shape c.number-2.ensures.local
      ∙ ap₂ with_rule (c.in_ok-arg-3.ensures.shape c.number.ensures.local
      ∙ ap₂ with_rule (c.in_ok-arg-2.ensures.shape c.folder-2.ensures.local
      ∙ ap₂ with_rule (c.in_ok-arg.ensures.shape c.folder.ensures.local
      ∙ ap₂ with_rule (ap app_of_fields c.after_help.ensures
      ∙ (ap app_of_fields c.override_usage.ensures ∙ (ap app_of_fields c.about.ensures
      ∙ c.new.ensures.app))) c.folder.ensures.rule) c.folder-2.ensures.rule) c.number.ensures.rule) c.number-2.ensures.rule)
      c.arg-4.ensures;
  local = IfOk-weaker c.arg-4.result _ _ (λ r h. rw (
    h.globals,
    c.in_ok-arg-3.ensures.globals,
    c.in_ok-arg-2.ensures.globals,
    c.in_ok-arg.ensures.globals,
    c.after_help.ensures,
    c.override_usage.ensures,
    c.about.ensures,
    c.new.ensures.local,
    c.folder.ensures.local,
    c.folder-2.ensures.local,
    c.number.ensures.local,
    c.number-2.ensures.local,
  ) refl) c.arg-4.ensures;
}
