-- A line has at most one reply.
use Rattle.std.proofs.Common.{◌≡◌, ◌∙◌, ℕ, List, [], ◌∷◌, Option, Some, None, Ok, Err, refl, sym, ap, ap₂, subst}
use Rattle.std.specs.List.{AllZip, filter}
use Rattle.std.specs.Option.{option_map, option_map_or}
use Rattle.std.specs.Str.Lines.{lines}
use Rattle.lrc_code.specs.Answers.{IsAnswer}
use Rattle.lrc_code.specs.Requests.{Asked, refusal}
use Rattle.lrc_code.proofs.CodeLaws.{answer-unique}
use Rattle.line_mode.specs.declared.refusals.LineRefusal.{LineRefusal}
use Rattle.line_mode.specs.declared.refusals.LineRefusal.TheVariants.{BadLine, Refused}
use Rattle.line_mode.specs.Line.{request_of}
use Rattle.line_mode.specs.LineMode.{AreReplies, is_nonblank}
use Rattle.line_mode.specs.LineReply.{IsReply, LineReply, refusal_of}

some_once : {A : Type 0} (o : Option A) (x y : A) → o ≡ Some x → o ≡ Some y → x ≡ y
some_once o x y e f = cc

-- a request that isn't refused isn't a refusal
not_refused : (line : List ℕ) (asked : Asked) (e : LineRefusal) → request_of line ≡ Some asked → refusal asked ≡ None
    → refusal_of line ≡ Some e → ⊥
not_refused line asked e is none h =
    let none_there : refusal_of line ≡ None =
    ap (λ o. option_map_or (λ a. option_map Refused (refusal a)) o (Some BadLine)) is ∙ ap (option_map Refused) none
    in
    let wrong : None ≡ Some e = sym none_there ∙ h in
    cc

reply_once : (line : List ℕ) (a b : LineReply) → IsReply line a → IsReply line b → a ≡ b
reply_once line (Ok o) (Ok p) (x, is, none, answer) (y, is', none', answer') =
    let same : y ≡ x = some_once (request_of line) y x is' is in
    ap Ok (answer-unique x o p answer (let P : Asked → Type 0 = λ r. IsAnswer r p in subst P same answer'))
reply_once line (Ok o) (Err f) (x, is, none, answer) h = absurd (not_refused line x f is none h)
reply_once line (Err e) (Ok p) h (y, is, none, answer) = absurd (not_refused line y e is none h)
reply_once line (Err e) (Err f) h k = ap Err (some_once (refusal_of line) e f h k)

zip_once : (ls : List (List ℕ)) (a b : List LineReply) → AllZip IsReply ls a → AllZip IsReply ls b → a ≡ b
zip_once [] [] [] h k = refl
zip_once [] [] (q ∷ b) h k = absurd k
zip_once [] (p ∷ a) b h k = absurd h
zip_once (l ∷ ls) [] b h k = absurd h
zip_once (l ∷ ls) (p ∷ a) [] h k = absurd k
zip_once (l ∷ ls) (p ∷ a) (q ∷ b) h k = ap₂ (λ r rs. r ∷ rs) (reply_once l p q h.0 k.0) (zip_once ls a b h.1 k.1)

pub replies-unique : (input : List ℕ) (a b : List LineReply) → AreReplies input a → AreReplies input b → a ≡ b
replies-unique input a b h k = zip_once (filter is_nonblank (lines input)) a b h k
