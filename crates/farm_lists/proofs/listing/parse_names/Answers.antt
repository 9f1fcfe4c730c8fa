use Rattle.std.proofs.Common.{◌∙◌, Bor, List, ℕ, Some, ap, sym}
use Rattle.lrc_code.specs.Text.{place_named}
use Rattle.lrc_code.specs.Codes.{tables_of}
use Rattle.lrc_code.proofs.Every.{every_more, every_none}
use Rattle.farm_lists.proofs.listing.parse_names.Goals as goal

pub returns-in-None : goal.returns-in-None
returns-in-None c = sym (every_none (λ (n : Bor (List ℕ)). place_named
    (tables_of c.args.code) n.now) c.args.names.now c.loop-name.name-index _ c.loop-name-test.true (sym c.in-None.ensures))

pub loop-name-preserved : goal.loop-name-preserved
loop-name-preserved c =
    every_more (λ (n : Bor (List ℕ)). place_named (tables_of c.args.code) n.now) c.args.names.now c.loop-name.name-index _
    c.loop-name.places.items c.in-Some.place c.loop-name-test.true (sym c.in-Some.ensures) c.loop-name.invariant
    ∙ ap Some (sym c.in_ok-push-in-Some.ensures.items)
