-- Bytes that lines show.
use Rattle.std.proofs.Common.{◌≡◌, ◌≢◌, ◌≤◌, ◌+◌, ◌/◌, ◌%◌, ◌++◌, ℕ, Bool, true, false, cond, List, [], ◌∷◌, arith, sym, subst}
use Rattle.std.proofs.Common.{Result, Ok, Err, OnOk, is_ok, if◌then◌else◌}
use Rattle.std.specs.Char.{encode_utf8, is_control}
use Rattle.store_faults.specs.Lines.{AreShown}
use lib.Dec.{ltb}

pub shown-append : (xs ys : List ℕ) → AreShown xs → AreShown ys → AreShown (xs ++ ys)
shown-append [] ys p q = q
shown-append (x ∷ xs) ys p q = (p.0, p.1, shown-append xs ys p.2 q)

either : (b : Bool) (xs ys : List ℕ) → AreShown xs → AreShown ys → AreShown (cond b xs ys)
either true xs ys p q = p
either false xs ys p q = q

-- a byte of a character that has more than one
above : (b : ℕ) → 128 ≤ b → (32 ≤ b) × (b ≢ 127)
above b h =
    let low : 32 ≤ b = omega arith in
    let no : b ≢ 127 = grind arith in
    (low, no)

pub shown-letter : (c : ℕ) → is_control c ≡ false → AreShown (encode_utf8 c)
unfolding encode_utf8
shown-letter c h =
    let low : 32 ≤ c = grind arith in
    let no : c ≢ 127 = grind arith in
    let (a, b) = above (128 + c % 64) (omega arith) in
    let (d, e) = above (128 + c / 64 % 64) (omega arith) in
    let (f, g) = above (128 + c / 4096 % 64) (omega arith) in
    let (i, j) = above (192 + c / 64) (omega arith) in
    let (k, l) = above (224 + c / 4096) (omega arith) in
    let (m, n) = above (240 + c / 262144) (omega arith) in
    either (ltb c 128) _ _ (low, no, tt)
    (either (ltb c 2048) _ _ (i, j, (a, b, tt))
    (either (ltb c 65536) _ _ (k, l, (d, e, (a, b, tt))) (m, n, (f, g, (d, e, (a, b, tt))))))

pub shown_on_ok : {T E : Type 0} (r : Result T E) (old new text : List ℕ) → new ≡ (if is_ok r then old ++ text else old) → AreShown text
    → OnOk r (AreShown old → AreShown new)
shown_on_ok (Ok x) old new text e p = λ q. subst AreShown (sym e) (shown-append old text q p)
shown_on_ok (Err x) old new text e p = tt
