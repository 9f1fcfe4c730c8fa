use Rattle.std.proofs.Common.{◌≡◌, ◌<◌, ◌≤◌, ◌∙◌, ◌∷◌, ◌^◌, ◌+◌, List, ℕ, [], true, ap, arith, length, rules, subst, sym}
use Rattle.std.proofs.lemmas.List.Sums.{count_by-le-length}
use Rattle.std.proofs.lemmas.Result.{IfOk-from_err}
use Rattle.std.specs.List.{list_all}
use Rattle.std.specs.Result.{is_err, is_ok}
use Rattle.std.specs.Str.Lines.{lines}
use Rattle.lrc_code.specs.Text.{is_space}
use Rattle.line_mode.specs.declared.lines.Lines.{Lines}
use Rattle.line_mode.specs.declared.replies.Replies.{Replies}
use Rattle.line_mode.specs.LineMode.{input_limit}
use Rattle.line_mode.specs.Replies.{Holds}
use Rattle.line_mode.proofs.Answering.{Answer, Progress, completes-all, one_more}
use Rattle.line_mode.proofs.replies.reply_to_lines.Goals as goal

-- no reply is held yet
none_yet : (input left : List ℕ) (r : Replies) → left ≡ input → Holds r [] → Progress input left r
none_yet input left r is holds = (
  [],
  λ more answer. subst (λ (text : List ℕ). Answer (lines text) more) is answer,
  holds,
  omega (arith, ap (λ (text : List ℕ). length text) is),
)

-- there are no more replies of a kind than bytes
few : (input left : List ℕ) (r : Replies) → length input ≤ input_limit → Progress input left r
    → r.count.answered + r.count.refused < 2 ^ 63
few input left r within (replies, whole, held, room) =
    omega (arith, within, room, held.answered, held.refused, count_by-le-length is_ok replies, count_by-le-length is_err replies)

-- a line of spaces alone gets none
none_more : (input left rest line : List ℕ) (r : Replies)
    → lines left ≡ line ∷ lines rest → length rest < length left → list_all is_space line ≡ true
    → Progress input left r → Progress input rest r
none_more input left rest line r is shorter blank (replies, whole, held, room) = (
  replies,
  λ more answer. whole more (rw (is, blank) answer),
  held,
  omega (arith, room, shorter),
)

pub returns : goal.returns
returns c =
    let (replies, whole, holds, room) = c.loop-line.invariant in
    record {
      replies = replies;
      are_replies = completes-all (lines c.args.input.now) _ replies c.in-None.ensures.steps.0 whole;
      holds = holds;
      few = omega (arith, room);
    }

pub loop-line-init : goal.loop-line-init
loop-line-init c =
    none_yet c.args.input.now c.into_iter-line-iterator.result.rest.now c.new-replies.result
    (ap (λ (ls : Lines). ls.rest.now) c.into_iter-line-iterator.ensures.into_iter_gives ∙ c.new-line-items.ensures) c.new-replies.ensures

pub returns-in_err-reply_to_line : goal.returns-in_err-reply_to_line
returns-in_err-reply_to_line c = IfOk-from_err c.from_residual.result _ c.from_residual.ensures.0

pub add-requires : goal.add-requires
add-requires c = few c.args.input.now c.loop-line.line-iterator.rest.now c.loop-line.replies c.requires c.loop-line.invariant

pub returns-in_err-add : goal.returns-in_err-add
returns-in_err-add c = IfOk-from_err c.from_residual-in_err-add.result _ c.from_residual-in_err-add.ensures.0

pub loop-line-preserved : goal.loop-line-preserved
loop-line-preserved c =
    none_more c.args.input.now c.loop-line.line-iterator.rest.now c.next.new.self.rest.now c.in-Some.line.now c.loop-line.replies
    c.in-Some.ensures.steps (search rules) (sym c.is_blank.ensures ∙ c.if-not-is_blank.false) c.loop-line.invariant

pub loop-line-preserved-in_ok-add : goal.loop-line-preserved-in_ok-add
loop-line-preserved-in_ok-add c =
    one_more c.args.input.now c.loop-line.line-iterator.rest.now c.next.new.self.rest.now c.in-Some.line.now
    c.in_ok-reply_to_line.field-0 c.loop-line.replies c.add.new.self
    c.in-Some.ensures.steps (search rules) (sym c.is_blank.ensures ∙ c.if-not-is_blank.true)
    c.in_ok-reply_to_line.ensures c.in_ok-add.ensures c.loop-line.invariant

pub loop-line-preserved-in_ok-add-2 : goal.loop-line-preserved-in_ok-add-2
loop-line-preserved-in_ok-add-2 c =
    one_more c.args.input.now c.loop-line.line-iterator.rest.now c.next.new.self.rest.now c.in-Some.line.now
    c.in_ok-reply_to_line.field-0 c.loop-line.replies c.add.new.self
    c.in-Some.ensures.steps (search rules) (sym c.is_blank.ensures ∙ c.if-not-is_blank.true)
    c.in_ok-reply_to_line.ensures c.in_ok-add.ensures c.loop-line.invariant

pub loop-line-preserved-in_ok-add-3 : goal.loop-line-preserved-in_ok-add-3
loop-line-preserved-in_ok-add-3 c =
    one_more c.args.input.now c.loop-line.line-iterator.rest.now c.next.new.self.rest.now c.in-Some.line.now
    c.in_ok-reply_to_line.field-0 c.loop-line.replies c.add.new.self
    c.in-Some.ensures.steps (search rules) (sym c.is_blank.ensures ∙ c.if-not-is_blank.true)
    c.in_ok-reply_to_line.ensures c.in_ok-add.ensures c.loop-line.invariant
