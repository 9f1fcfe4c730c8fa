use Rattle.std.proofs.Common.{◌≡◌, ◌∙◌, ap, ap₂, codes, true, []}
use Rattle.std.proofs.lemmas.Result.{IfOk-weaker}
use Rattle.clap.specs.Words.{App, app_of, new_app, with_subcommand}
use Rattle.clap.specs.Simple.{app_of_fields}
use Rattle.command_line.specs.Command.{program_shape}
use Rattle.command_line.proofs.definition.program.Goals as goal

abbrev unnamed : App → App
unnamed a = record { top = record a.top { no_binary_name = true }; subs = a.subs }

abbrev versioned : App → App
versioned a = record { top = record a.top { has_version = true }; subs = a.subs }

pub returns : goal.returns
returns c =
    let top_is : app_of c.after_help.result ≡ record { top = program_shape (new_app (codes "rebuild")).top; subs = [] } =
    ap app_of_fields c.after_help.ensures ∙ (ap app_of_fields c.about.ensures ∙ (ap app_of_fields c.version.ensures
    ∙ ap versioned (ap app_of_fields c.no_binary_name.ensures ∙ ap unnamed c.new.ensures.app))) in
    IfOk-weaker c.subcommand.result _ _ (λ r h. h.shape c.in_ok-farm.ensures.local
    ∙ ap₂ with_subcommand top_is (ap (λ (a : App). a.top) c.in_ok-farm.ensures.app)) c.subcommand.ensures
