-- What holds of the definitions of line mode alone.
use Rattle.std.specs.Prelude.{◌≡◌, ℕ, List}
use Rattle.line_mode.specs.LineMode.{AreReplies}
use Rattle.line_mode.specs.LineReply.{LineReply}

-- an input has at most one list of replies
abbrev pub RepliesAreUnique : Type 0
RepliesAreUnique = (input : List ℕ) (a b : List LineReply) → AreReplies input a → AreReplies input b → a ≡ b
