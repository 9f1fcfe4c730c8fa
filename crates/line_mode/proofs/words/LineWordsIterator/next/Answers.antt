use Rattle.std.proofs.Common.{◌≡◌, ◌∙◌, ℕ, List, ◌∷◌, take, drop, length, refl, sym, ap, ◌-◌, Some, position}
use Rattle.std.specs.Prelude.{unwrap_or}
use Rattle.std.specs.List.{position_or_len}
use Rattle.lrc_code.specs.Text.{is_space}
use Rattle.line_mode.specs.Line.{words}
use Rattle.line_mode.proofs.Cuts.{take-drop_all, unwrap_or-position}
use Rattle.line_mode.proofs.WordsMade.{is_other, words_at, words_none}
use Rattle.line_mode.proofs.words.LineWordsIterator.next.Goals as goal

pub returns-in_default-clause-steps : goal.returns-in_default-clause-steps
returns-in_default-clause-steps c = (words_none c.args.self.now.rest.now (sym c.find_other.ensures ∙ c.in_default.is), refl)

-- the word and what is after it, as slices give them
slices : (xs w : List ℕ) (s e : ℕ) → w ≡ take (length xs - s) (drop s xs) → position is_other xs ≡ Some s
    → e ≡ unwrap_or (position is_space w) (length w)
    → words xs ≡ take e w ∷ words (take (length w - e) (drop e w))
slices xs w s e is start end =
    let rest : w ≡ drop s xs = is ∙ take-drop_all xs s in
    rw (take-drop_all w e, rest) (words_at xs s e start (sym (end ∙ unwrap_or-position is_space w ∙ ap (position_or_len is_space) rest)))

pub returns-clause-steps : goal.returns-clause-steps
returns-clause-steps c =
    slices c.args.self.now.rest.now _ c.in-Some.start c.unwrap_or-end.result refl (sym c.find_other.ensures ∙ c.in-Some.is)
    (c.unwrap_or-end.ensures ∙ ap (λ o. unwrap_or o (length
    (take (length c.args.self.now.rest.now - c.in-Some.start) (drop c.in-Some.start c.args.self.now.rest.now)))) c.find_byte.ensures)
