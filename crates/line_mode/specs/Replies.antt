-- Replies one after the other.
use Rattle.std.specs.Prelude.{◌≡◌, ◌<◌, ◌≤◌, ◌-◌, ℕ, List, count_by, length, slice_index}
use Rattle.std.specs.Result.{is_err, is_ok}
use Rattle.line_mode.specs.declared.replies.Replies.{Replies}
use Rattle.line_mode.specs.LineMode.{AreReplies, text_of}
use Rattle.line_mode.specs.LineReply.{LineReply}

-- it holds the text of these replies, and counts them
pub record Holds (r : Replies) (replies : List LineReply) : Type 0 where
  pub text : r.text.items ≡ text_of replies
  pub answered : r.count.answered ≡ count_by is_ok replies
  pub refused : r.count.refused ≡ count_by is_err replies

-- it holds the replies to an input's lines, of which there are no more than its bytes
pub record Answers (input : List ℕ) (r : Replies) : Type 0 where
  pub replies : List LineReply
  pub are_replies : AreReplies input replies
  pub holds : Holds r replies
  pub few : length replies ≤ length input

-- a position within an input, just after a line feed
pub record IsCut (input : List ℕ) (cut : ℕ) : Type 0 where
  pub some : 0 < cut
  pub within : cut ≤ length input
  pub feed : slice_index input (cut - 1) ≡ 10
