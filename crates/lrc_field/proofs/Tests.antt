-- What a test that fails says.
use Rattle.std.proofs.Common.{◌≡◌, ◌∙◌, ◌↔◌, Bool, true, false, sym}

apart : false ≡ true → ⊥
apart e = cc

pub fails : {P : Type 0} {b : Bool} → (b ≡ true) ↔ P → b ≡ false → ¬ P
fails e f = λ p. apart (sym f ∙ e.1 p)
