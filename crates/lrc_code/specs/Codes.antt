-- The tables of each code, and its name.
use Rattle.std.specs.Prelude.{ℕ, ◌-◌, ◌++◌, List, replicate, Option, Some, None, if◌then◌else◌, codes, map, take}
use Rattle.std.specs.Str.{bytes_eq}
use Rattle.lrc_code.specs.declared.codes.Code.{Code as CodeName}
use Rattle.lrc_code.specs.declared.codes.Code.TheVariants.{Narrow, Wide}
use Rattle.lrc_code.specs.Code.{Code, narrow, wide}

-- the code's places and equations
abbrev pub tables_of : CodeName → Code
tables_of Narrow = narrow
tables_of Wide = wide

-- how many data fragments a code has; their places are the first of its places
abbrev pub data_count : CodeName → ℕ
data_count Narrow = 6
data_count Wide = 12

-- the data fragments' coefficients in each parity: what the equations have at the data's places
abbrev pub parities_of : CodeName → List (List ℕ)
parities_of code = map (take (data_count code)) (tables_of code).equations

-- and with 0 after them, twelve coefficients in each
abbrev pub padded_parities_of : CodeName → List (List ℕ)
padded_parities_of code = map (λ row. row ++ replicate (12 - data_count code) 0) (parities_of code)

-- the codes' names
abbrev pub code_text : CodeName → List ℕ
code_text Narrow = codes "6-2-2"
code_text Wide = codes "12-2-2"

-- the code that bears this name
abbrev pub code_named : List ℕ → Option CodeName
code_named text = if bytes_eq text (code_text Narrow) then Some Narrow else if bytes_eq text (code_text Wide) then Some Wide else None
