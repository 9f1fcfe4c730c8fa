-- The line of a description.
use Rattle.std.specs.Prelude.{ℕ, List, ◌++◌, codes}
use Rattle.std.specs.Fmt.{decimal}
use Rattle.hex.specs.Hex.{encode_lower}
use Rattle.lrc_code.specs.Codes.{code_text}
use Rattle.store_records.specs.declared.descriptions.Described.{Described}

-- a file's length in decimal digits, its digest in hexadecimal ones, the name of its code, each after a space, and a line feed
abbrev pub line_of : Described → List ℕ
line_of d = decimal d.length ++ codes " " ++ encode_lower d.digest ++ codes " " ++ code_text d.code ++ codes "\n"
