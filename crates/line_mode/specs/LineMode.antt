-- What line mode writes for an input.
use Rattle.std.specs.Prelude.{◌≡◌, ◌==◌, ◌<◌, ◌≤◌, ◌⊎◌, not, ℕ, Bool, List, length, Option, Result, Ok, Err, if◌then◌else◌, count_by}
use Rattle.std.specs.List.{AllZip, filter, flat_map, list_all}
use Rattle.std.specs.Result.{is_err, is_ok}
use Rattle.std.specs.Str.Lines.{lines}
use Rattle.std.specs.Io.KnownBytes.{Appends, Consumes, IsAtEnd, Keeps}
use Rattle.lrc_code.specs.Text.{is_space}
use Rattle.line_mode.specs.declared.outcomes.LineCount.{LineCount}
use Rattle.line_mode.specs.declared.outcomes.LineFault.{LineFault}
use Rattle.line_mode.specs.declared.outcomes.LineFault.TheVariants.{InputTooLong, Device, OutOfMemory}
use Rattle.line_mode.specs.LineReply.{IsReply, LineReply, reply_line}

-- a line that isn't empty and doesn't hold spaces alone
abbrev pub is_nonblank : List ℕ → Bool
is_nonblank line = not (list_all is_space line)

-- these are the replies to the lines of an input that aren't blank, in order. The input is cut at each line feed; one
-- carriage return before a line feed is dropped, and a last line without one counts where it isn't empty
abbrev pub AreReplies : List ℕ → List LineReply → Type 0
AreReplies input replies = AllZip IsReply (filter is_nonblank (lines input)) replies

-- the text of replies
abbrev pub text_of : List LineReply → List ℕ
text_of replies = flat_map reply_line replies

-- ---- reading and writing

-- the greatest length of an input
abbrev pub input_limit : ℕ
input_limit = 8388608

-- a reader gave these bytes and is at its end; they are no more than the limit
pub record IsWholeInput (before after : Option (List ℕ)) (input : List ℕ) : Type 0 where
  pub read : Consumes before after input
  pub ended : IsAtEnd after
  pub within : length input ≤ input_limit

-- a reader gave more bytes than the limit
abbrev pub ReadsPastLimit : Option (List ℕ) → Option (List ℕ) → Type 0
ReadsPastLimit before after = (input : List ℕ) × Consumes before after input × (input_limit < length input)

-- all input was read, and the writer got the replies to its lines and nothing else; they are counted
pub record Replied (input_before input_after output_before output_after : Option (List ℕ)) (count : LineCount) : Type 0 where
  pub input : List ℕ
  pub whole : IsWholeInput input_before input_after input
  pub replies : List LineReply
  pub are_replies : AreReplies input replies
  pub written : Appends output_before output_after (text_of replies)
  pub answered : count.answered ≡ count_by is_ok replies
  pub refused : count.refused ≡ count_by is_err replies

-- what a fault of reading says of the reader
abbrev pub StopsReading : Option (List ℕ) → Option (List ℕ) → LineFault → Type 0
StopsReading before after InputTooLong = ReadsPastLimit before after
StopsReading before after Device = Unit {0}
StopsReading before after OutOfMemory = Unit {0}

-- what a fault says of the reader and the writer: nothing is written before all input was read
abbrev pub Explains : Option (List ℕ) → Option (List ℕ) → Option (List ℕ) → Option (List ℕ) → LineFault → Type 0
Explains input_before input_after output_before output_after InputTooLong =
    ReadsPastLimit input_before input_after × Keeps output_before output_after
Explains input_before input_after output_before output_after Device =
    Keeps output_before output_after ⊎ ((input : List ℕ) × IsWholeInput input_before input_after input)
Explains input_before input_after output_before output_after OutOfMemory = Keeps output_before output_after

-- ---- numbers

-- a fault's number
abbrev pub fault_number : LineFault → ℕ
fault_number InputTooLong = 25
fault_number Device = 24
fault_number OutOfMemory = 16

-- the exit status: a line refused, or an input too long, is 1
abbrev pub status_of : Result LineCount LineFault → ℕ
status_of (Ok count) = if count.refused == 0 then 0 else 1
status_of (Err InputTooLong) = 1
status_of (Err Device) = 3
status_of (Err OutOfMemory) = 4
