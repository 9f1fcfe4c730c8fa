use Rattle.std.proofs.Common.{◌≡◌, ◌∙◌, ap, subst, sym, map, refl, string_bytes, true, []}
use Rattle.std.proofs.lemmas.Result.{IfErr-weaker, IfOk-weaker}
use Rattle.clap.specs.Words.{App, HasKind, fault_of, is_simple, is_simple_and_free, kind_of, subcommand_of, subcommand_rows_of}
use Rattle.clap.proofs.OnLiterals.{clap_on_literals}
use Rattle.command_line.specs.Command.{program}
use Rattle.command_line.proofs.CommandLine.{asked_by_matches, asked_by_kind, refused_by_kind, refused_by_matches}
use Rattle.command_line.proofs.words.read_words.Goals as goal

simple : is_simple program ≡ true
unfolding clap_on_literals
simple = refl

free : is_simple_and_free program ≡ true
unfolding clap_on_literals
free = refl

pub returns-in-Ok-clause-asked : goal.returns-in-Ok-clause-asked
returns-in-Ok-clause-asked c =
    let words = map string_bytes c.args.words.now in
    let is = c.in_ok-program.ensures in
    let met : subcommand_rows_of c.in-Ok.matches ≡ subcommand_of program words =
    (c.in-Ok.ensures.matches (ap is_simple is ∙ simple)).1 ∙ ap (λ (a : App). subcommand_of a words) is in
    let faultless : fault_of program words ≡ [] =
    sym (ap (λ (a : App). fault_of a words) is) ∙ c.in-Ok.ensures.kinds (ap is_simple_and_free is ∙ free) in
    IfOk-weaker c.asked_of_farm.result _ _ (λ w h. asked_by_matches words _ met faultless w h) c.asked_of_farm.ensures.asked

pub returns-in-Ok-clause-refused : goal.returns-in-Ok-clause-refused
returns-in-Ok-clause-refused c =
    let words = map string_bytes c.args.words.now in
    let is = c.in_ok-program.ensures in
    let met : subcommand_rows_of c.in-Ok.matches ≡ subcommand_of program words =
    (c.in-Ok.ensures.matches (ap is_simple is ∙ simple)).1 ∙ ap (λ (a : App). subcommand_of a words) is in
    let faultless : fault_of program words ≡ [] =
    sym (ap (λ (a : App). fault_of a words) is) ∙ c.in-Ok.ensures.kinds (ap is_simple_and_free is ∙ free) in
    IfErr-weaker c.asked_of_farm.result _ _ (λ f h. refused_by_matches words _ met faultless f h) c.asked_of_farm.ensures.refused

pub returns-in-Err-clause-asked : goal.returns-in-Err-clause-asked
returns-in-Err-clause-asked c =
    let words = map string_bytes c.args.words.now in
    let is = c.in_ok-program.ensures in
    let kinds : HasKind (fault_of program words) c.in-Err.error =
    subst (λ (a : App). HasKind (fault_of a words) c.in-Err.error) is (c.in-Err.ensures.kinds (ap is_simple_and_free is ∙ free)) in
    IfOk-weaker c.shown.result _ _ (λ w h. asked_by_kind words (kind_of c.in-Err.error) kinds w h) c.shown.ensures.asked

pub returns-in-Err-clause-refused : goal.returns-in-Err-clause-refused
returns-in-Err-clause-refused c =
    let words = map string_bytes c.args.words.now in
    let is = c.in_ok-program.ensures in
    let kinds : HasKind (fault_of program words) c.in-Err.error =
    subst (λ (a : App). HasKind (fault_of a words) c.in-Err.error) is (c.in-Err.ensures.kinds (ap is_simple_and_free is ∙ free)) in
    IfErr-weaker c.shown.result _ _ (λ f h. refused_by_kind words (kind_of c.in-Err.error) kinds f h) c.shown.ensures.refused
