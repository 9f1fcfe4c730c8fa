use Rattle.std.proofs.Common.{arith, rules, ◌≡◌, ◌<◌, ◌∙◌, ℕ, Bool, false, List, [], length, get_or, refl, ap, sym}
use Rattle.std.proofs.Common.{Option, Some, None, is_some, slice_set}
use Rattle.std.proofs.lemmas.List.{get_or_default}
use Rattle.farm_threads.specs.Replies.{Entry, cell_at, entry_of}
use Rattle.farm_threads.proofs.Entering.{entered}
use Rattle.farm_threads.proofs.replies.row.enter.Goals as goal

none : (x : Option Entry) → is_some x ≡ false → x ≡ None
none None is = refl
none (Some x) is = absurd (cc)

-- nothing is in the cell
empty : (rows : List (List (Option Entry))) (rack n number : ℕ) (d : List (Option Entry)) (has : Bool)
    → has ≡ is_some (get_or (get_or rows rack d) n None) → has ≡ false → rack < length rows → n ≡ number → cell_at rows rack number ≡ None
empty rows rack n number d has is fails lt same =
    ap (λ row. get_or row number None) (get_or_default rows rack [] d lt)
    ∙ (ap (λ k. get_or (get_or rows rack d) k None) (sym same) ∙ none _ (sym is ∙ fails))

pub returns-clause-entered : goal.returns-clause-entered
returns-clause-entered c =
    let row : List (Option Entry) = get_or c.args.rows.now c.args.rack c.index-rows-rack.result in
    let put : c.put.new.self ≡ slice_set row c.args.reply.number (Some (entry_of c.args.reply)) =
    c.put.ensures ∙ ap (λ (n : ℕ). slice_set row n (Some (entry_of c.args.reply))) c.number-number.ensures in
    entered c.args.rows.now c.args.rack c.args.reply.number row c.put.new.self (entry_of c.args.reply)
    (ap (get_or c.args.rows.now c.args.rack) c.index-rows-rack.is) (omega arith) (omega arith) put

pub returns-clause-first : goal.returns-clause-first
returns-clause-first c = search (rules, empty)
