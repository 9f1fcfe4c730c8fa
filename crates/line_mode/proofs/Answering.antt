-- Replies to the lines of a text, one line after another.
use Rattle.std.proofs.Common.{◌≡◌, ◌++◌, ◌+◌, ◌<◌, ◌≤◌, ℕ, List, [], ◌∷◌, false, length, length-append, append_assoc, arith, sym, subst}
use Rattle.std.proofs.lemmas.List.{append-nil}
use Rattle.std.specs.List.{AllZip, filter, list_all}
use Rattle.std.specs.Str.Lines.{lines}
use Rattle.lrc_code.specs.Text.{is_space}
use Rattle.line_mode.specs.declared.replies.Replies.{Replies}
use Rattle.line_mode.specs.LineMode.{is_nonblank}
use Rattle.line_mode.specs.LineReply.{IsReply, LineReply}
use Rattle.line_mode.specs.Replies.{Holds}

-- replies to some lines
abbrev pub Answer : List (List ℕ) → List LineReply → Type 0
Answer ls replies = AllZip IsReply (filter is_nonblank ls) replies

-- whatever answers the lines left completes the replies
abbrev pub Completes : List (List ℕ) → List LineReply → List (List ℕ) → Type 0
Completes all replies left = (more : List LineReply) → Answer left more → Answer all (replies ++ more)

-- nothing is left
pub completes-all : (all left : List (List ℕ)) (replies : List LineReply) → left ≡ [] → Completes all replies left → Answer all replies
completes-all all left replies none whole =
    rw append-nil at (whole [] (let P : List (List ℕ) → Type 0 = λ ls. Answer ls [] in subst P (sym none) tt))

-- one more reply, to a line that isn't blank
completes-more : (all left rest : List (List ℕ)) (line : List ℕ) (replies : List LineReply) (reply : LineReply)
    → left ≡ line ∷ rest → list_all is_space line ≡ false → IsReply line reply
    → Completes all replies left → Completes all (replies ++ reply ∷ []) rest
completes-more all left rest line replies reply is solid answers whole more answer =
    let first : Answer left (reply ∷ more) = rw (is, solid) (answers, answer) in
    rw append_assoc (whole (reply ∷ more) first)

-- what is held are the replies to the lines of an input but those of the text left
abbrev pub Progress : List ℕ → List ℕ → Replies → Type 0
Progress input left r =
    (replies : List LineReply) × Completes (lines input) replies (lines left) × Holds r replies
    × (length replies + length left ≤ length input)

-- one more reply is held
pub one_more : (input left rest line : List ℕ) (reply : LineReply) (old new : Replies)
    → lines left ≡ line ∷ lines rest → length rest < length left → list_all is_space line ≡ false → IsReply line reply
    → ((replies : List LineReply) → Holds old replies → Holds new (replies ++ reply ∷ []))
    → Progress input left old → Progress input rest new
one_more input left rest line reply old new is shorter solid answers holds (replies, whole, held, room) = (
  replies ++ reply ∷ [],
  completes-more (lines input) (lines left) (lines rest) line replies reply is solid answers whole,
  holds replies held,
  omega (arith, length-append replies (reply ∷ []), room, shorter),
)
