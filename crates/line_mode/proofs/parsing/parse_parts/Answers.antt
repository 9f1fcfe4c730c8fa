use Rattle.std.proofs.Common.{◌≡◌, ◌∙◌, ◌∷◌, rules, true, sym, ap}
use Rattle.std.specs.List.{list_all}
use Rattle.line_mode.specs.Line.{is_printable, words}
use Rattle.line_mode.proofs.Printable.{first_word_passes, second_word_passes}
use Rattle.line_mode.proofs.parsing.parse_parts.Goals as goal

pub parse_request-requires : goal.parse_request-requires
parse_request-requires c =
    let printable : list_all is_printable c.args.line.now ≡ true = search rules in
    let first : words c.args.line.now ≡ c.in-Some.first.now ∷ words c.next.new.self.rest.now =
    ap words (sym c.new-words.ensures) ∙ c.in-Some.ensures.steps in
    first_word_passes is_printable c.args.line.now c.in-Some.first.now _ printable first

pub parse_request-requires-in-Some-parse_line_code : goal.parse_request-requires-in-Some-parse_line_code
parse_request-requires-in-Some-parse_line_code c =
    let printable : list_all is_printable c.args.line.now ≡ true = search rules in
    let first : words c.args.line.now ≡ c.in-Some.first.now ∷ words c.next.new.self.rest.now =
    ap words (sym c.new-words.ensures) ∙ c.in-Some.ensures.steps in
    let second : words c.next.new.self.rest.now ≡ c.in-Some-next.stripe.now ∷ words c.next-in-Some-parse_line_code.new.self.rest.now =
    c.in-Some-next.ensures.steps in
    second_word_passes is_printable c.args.line.now c.in-Some.first.now c.in-Some-next.stripe.now _ printable
    (first ∙ ap (λ ws. c.in-Some.first.now ∷ ws) second)
