use Rattle.std.proofs.Common.{rules, ◌≡◌, ◌++◌, ◌∷◌, [], ℕ, List, Option, Some, None, IfSome, option_map, sym, Vec, Global}
use Rattle.farm_shelves.specs.Ahead.{IsListedAs, known}
use Rattle.farm_shelves.specs.declared.ahead.ReadAhead.{ReadAhead}
use Rattle.farm_shelves.proofs.ahead.take_ahead.Goals as goal

taken : (found : Option (Option (Vec ℕ Global))) (next : ReadAhead) (all rest : List ReadAhead) (name : List ℕ) (limit : ℕ)
    → all ≡ rest ++ next ∷ [] → IsListedAs name limit next
    → option_map (option_map (λ (b : Vec ℕ Global). b.items)) found ≡ known next.state
    → IfSome found (λ f. (x : ReadAhead) × (all ≡ rest ++ x ∷ []) × IsListedAs name limit x
    × (known x.state ≡ Some (option_map (λ (b : Vec ℕ Global). b.items) f)))
taken None next all rest name limit items listed knows = tt
taken (Some f) next all rest name limit items listed knows = (next, items, listed, sym knows)

pub returns : goal.returns
returns c = taken c.known_of.result c.in_ok-next.next c.args.ahead.now.items c.pop.new.self.items c.args.name.now c.args.limit
    c.in_ok-next.ensures.items (c.is_of.ensures (search rules)) c.known_of.ensures
