-- The command line, by the matches that clap's own definition of reading gives.
use Rattle.std.specs.Prelude.{Bool, ◌≡◌, ◌≢◌, ◌<◌, ◌∷◌, ◌^◌, ◌⊎◌, ℕ, List, [], Option, Result, Ok, Some, codes, pos, true, string_bytes}
use Rattle.std.specs.Str.Parse.{IsNumeral, digits_value, without_leading_plus}
use Rattle.clap.specs.Words.{App, IsAmong, Row, Rule, Shape, Text, fault_of, first_of, new_app, new_rule, one_of, subcommand_of, with_rule}
use Rattle.clap.specs.Words.{with_subcommand}
use Rattle.clap.specs.declared.builder.value_parser.ValueParser.TheVariants.{Signed}
use Rattle.clap.specs.declared.builder.command.Command.{Command}
use Rattle.clap.specs.declared.builder.command.Command.TheViews.{out-Command}
use Rattle.clap.specs.declared.error.kind.ErrorKind.{ErrorKind}
use Rattle.clap.specs.declared.error.kind.ErrorKind.TheVariants as kind
use Rattle.command_line.specs.declared.words.Words.{Words}
use Rattle.command_line.specs.declared.words.Words.TheVariants.{Lines, Farm, Help}
use Rattle.command_line.specs.declared.words.WordsFault.{WordsFault}
use Rattle.command_line.specs.declared.words.WordsFault.TheVariants.{Usage, OutOfMemory}

-- ---- the definition of the command line

-- a folder's argument
abbrev pub folder_rule : Text → Rule
folder_rule name = record (new_rule name) { required = true; value_names = 1 }

-- an option with a number of at most 65,535
abbrev pub number_rule : Text → Text → Rule
number_rule name default = record (new_rule name) {
  long = Some name;
  defaults = default ∷ [];
  value_names = 1;
  parser = Some (Signed (pos 0) (pos 65535));
}

-- `farm IN OUT [--workers N] [--queue Q]`
abbrev pub farm : App
farm = with_rule (with_rule (with_rule (with_rule (new_app (codes "farm")) (folder_rule (codes "in"))) (folder_rule (codes "out")))
    (number_rule (codes "workers") (codes "4"))) (number_rule (codes "queue") (codes "16"))

-- a command's shape, where the program's name is not among the arguments and there is a version to show
abbrev pub program_shape : Shape → Shape
program_shape s = record s { no_binary_name = true; has_version = true }

-- `rebuild [farm ..]`
abbrev pub program : App
program = with_subcommand (record { top = program_shape (new_app (codes "rebuild")).top; subs = [] }) farm.top

-- ---- what arguments ask for

-- the value with this id is the number n: decimal digits, which a plus sign may precede
pub record HasNumber (id : Text) (rows : List Row) (n : ℕ) : Type 0 where
  pub text : Text
  pub is : one_of id rows ≡ Some text
  pub numeral : IsNumeral 10 (without_leading_plus text)
  pub value : digits_value 10 (without_leading_plus text) ≡ n
  pub fits : n < 2 ^ 16

-- the matches of `farm` have these four values
pub record HasValues (rows : List Row) (input output : Text) (workers queue : ℕ) : Type 0 where
  pub input_is : first_of (codes "in") rows ≡ Some input
  pub output_is : first_of (codes "out") rows ≡ Some output
  pub workers_are : HasNumber (codes "workers") rows workers
  pub queue_is : HasNumber (codes "queue") rows queue

abbrev pub LacksValues : List Row → Type 0
LacksValues rows = (input output : Text) (workers queue : ℕ) → HasValues rows input output workers queue → ⊥

-- a subcommand that was met, by its name and its matches, is `farm` with these four values
pub record IsFarm (met : Option (Text × List Row)) (input output : Text) (workers queue : ℕ) : Type 0 where
  pub rows : List Row
  pub is : met ≡ Some (codes "farm", rows)
  pub values : HasValues rows input output workers queue

abbrev pub IsNoFarm : Option (Text × List Row) → Type 0
IsNoFarm met = (input output : Text) (workers queue : ℕ) → IsFarm met input output workers queue → ⊥

-- the arguments have no mistake and ask to serve this folder into that one, with these settings
pub record AsksFarm (words : List Text) (input output : Text) (workers queue : ℕ) : Type 0 where
  pub faultless : fault_of program words ≡ []
  pub farm_is : IsFarm (subcommand_of program words) input output workers queue

-- the arguments ask for help or for the version
abbrev pub AsksText : List Text → Type 0
AsksText words = IsAmong kind.DisplayHelp (fault_of program words) ⊎ IsAmong kind.DisplayVersion (fault_of program words)

-- what the arguments ask for
abbrev pub Asks : Words → List Text → Type 0
Asks Lines words = words ≡ []
Asks (Farm input output workers queue) words = AsksFarm words (string_bytes input) (string_bytes output) workers queue
Asks (Help text) words = AsksText words

-- the arguments have a mistake
pub record HasMistake (words : List Text) : Type 0 where
  pub mistake : ErrorKind
  pub among : IsAmong mistake (fault_of program words)
  pub not_help : mistake ≢ kind.DisplayHelp
  pub not_version : mistake ≢ kind.DisplayVersion

-- the arguments have no mistake, and ask for nothing
pub record AskNothing (words : List Text) : Type 0 where
  pub faultless : fault_of program words ≡ []
  pub no_farm : IsNoFarm (subcommand_of program words)

-- why the arguments are refused
abbrev pub Refuses : WordsFault → List Text → Type 0
Refuses (Usage text) words = HasMistake words ⊎ AskNothing words
Refuses OutOfMemory words = Unit {0}

abbrev pub AreLines : Result Words WordsFault → Type 0
AreLines result = result ≡ Ok Lines

-- ---- what the matches of a parse ask for

abbrev pub MatchesWords : Option (Text × List Row) → Words → Type 0
MatchesWords met Lines = ⊥
MatchesWords met (Farm input output workers queue) = IsFarm met (string_bytes input) (string_bytes output) workers queue
MatchesWords met (Help text) = ⊥

abbrev pub MatchesFault : Option (Text × List Row) → WordsFault → Type 0
MatchesFault met (Usage text) = IsNoFarm met
MatchesFault met OutOfMemory = Unit {0}

-- what a parse that gives no matches asks for, by its kind
abbrev pub Shows : ErrorKind → Words → Type 0
Shows k Lines = ⊥
Shows k (Farm input output workers queue) = ⊥
Shows k (Help text) = (k ≡ kind.DisplayHelp) ⊎ (k ≡ kind.DisplayVersion)

abbrev pub ShowsFault : ErrorKind → WordsFault → Type 0
ShowsFault k (Usage text) = (k ≢ kind.DisplayHelp) × (k ≢ kind.DisplayVersion) × (k ≢ kind.OutOfMemory)
ShowsFault k OutOfMemory = Unit {0}

abbrev pub has_globals : Command → Bool
has_globals c = (out-Command c).has_globals
