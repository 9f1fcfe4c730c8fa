use Rattle.std.proofs.Common.{◌≡◌, ◌++◌, map}
use Rattle.std.specs.Option.{option_map}
use Rattle.lrc_code.specs.Survivors.{survivors_of}
use Rattle.lrc_code.specs.Text.{every}
use Rattle.line_mode.specs.Line.{survivor, words}
use Rattle.line_mode.proofs.parsing.parse_survivors.Given as goal

abbrev pub invariant-loop-word : goal.invariant-loop-word
invariant-loop-word l =
    every (map (survivor l.fn.code) (words l.fn.words.rest.now))
    ≡ option_map (λ more. survivors_of l.survivors.items ++ more) (every (map (survivor l.fn.code) (words l.word-iterator.rest.now)))
