-- The reply to a line of line mode, and its text.
use Rattle.std.specs.Prelude.{◌≡◌, ℕ, List, [], ◌∷◌, ◌++◌, Option, Some, None, Result, Ok, Err, codes}
use Rattle.std.specs.Option.{option_map, option_map_or}
use Rattle.std.specs.Fmt.{decimal}
use Rattle.hex.specs.Hex.{encode_upper}
use Rattle.lrc_code.specs.declared.outcomes.Outcome.{Outcome}
use Rattle.lrc_code.specs.declared.outcomes.Outcome.TheVariants.{Rebuilt, Contradiction, Several}
use Rattle.lrc_code.specs.Answers.{IsAnswer}
use Rattle.lrc_code.specs.Requests.{Asked, code_of, refusal}
use Rattle.line_mode.specs.declared.refusals.LineRefusal.{LineRefusal}
use Rattle.line_mode.specs.declared.refusals.LineRefusal.TheVariants.{BadLine, Refused}
use Rattle.line_mode.specs.Line.{request_of}

-- an outcome, or why the line is refused
abbrev pub LineReply : Type 0
LineReply = Result Outcome LineRefusal

-- why a line is refused: by its form first, and then as its request is
abbrev pub refusal_of : List ℕ → Option LineRefusal
refusal_of line = option_map_or (λ asked. option_map Refused (refusal asked)) (request_of line) (Some BadLine)

-- the reply to a line: an answer to the request that it writes, or why it is refused
abbrev pub IsReply : List ℕ → LineReply → Type 0
IsReply line (Ok outcome) = (asked : Asked) × (request_of line ≡ Some asked) × (refusal asked ≡ None) × IsAnswer asked outcome
IsReply line (Err e) = refusal_of line ≡ Some e

-- a refusal's number
abbrev pub fault_number : LineRefusal → ℕ
fault_number BadLine = 22
fault_number (Refused fault) = code_of fault

-- ---- texts

abbrev pub outcome_text : Outcome → List ℕ
outcome_text (Rebuilt bytes) = codes "rebuilt " ++ encode_upper bytes
outcome_text Contradiction = codes "contradiction"
outcome_text Several = codes "several"

abbrev pub reply_text : LineReply → List ℕ
reply_text (Ok outcome) = outcome_text outcome
reply_text (Err e) = codes "refused E" ++ decimal (fault_number e)

-- the text of a reply, ended by a line feed
abbrev pub reply_line : LineReply → List ℕ
reply_line reply = reply_text reply ++ 0x0a ∷ []
