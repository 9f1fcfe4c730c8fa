use Rattle.std.proofs.Common.{◌∙◌, sym, ap, refl, ◌+◌, false, get_or, drop}
use Rattle.store_records.specs.ReadLines.{unescaped_after}
use Rattle.store_records.proofs.Unescaped.{before, begun, cut_off, ended, meant, plain, refused, whole}
use Rattle.store_records.proofs.sums.unescaped.Goals.{then-is_after_backslash+in-Some+in_ok-push, else-is_after_backslash+then-byte-eq92}
use Rattle.store_records.proofs.sums.unescaped.Goals.{else-is_after_backslash+else-byte-eq92+in_ok-push-2}
use Rattle.store_records.proofs.sums.unescaped.Goals as goal

pub returns-in_default : goal.returns-in_default
returns-in_default c =
    let text = c.args.text.now in
    let i = c.loop-byte.byte-index in
    let none = sym c.stands_for.ensures ∙ c.in_default.is in
    sym (ap (before c.loop-byte.name.items) (ap (λ b. unescaped_after b (drop i text)) c.if-is_after_backslash.true
    ∙ refused text i (get_or text i 0) c.loop-byte-test.true refl none)) ∙ c.loop-byte.invariant

pub loop-byte-preserved : goal.loop-byte-preserved
loop-byte-preserved c =
    let text = c.args.text.now in
    let i = c.loop-byte.byte-index in
    let byte = get_or text i 0 in
    let within = c.loop-byte-test.true in
    let name = c.loop-byte.name.items in
    let rest = drop (i + 1) text in
    let then = c.if-is_after_backslash in
    elim c.if-is_after_backslash.branch [
      | then-is_after_backslash+in-Some+in_ok-push w ↦
          let some = sym w.stands_for.ensures ∙ w.in-Some.is in
          ap (λ v. before v.items (unescaped_after then.is_after_backslash rest)) w.name-is
          ∙ ap (λ b. before w.push.new.self.items (unescaped_after b rest)) w.is_after_backslash-is
          ∙ ap (λ t. before t (unescaped_after false rest)) w.in_ok-push.ensures.items
          ∙ meant text i byte within refl name w.in-Some.meant some
          ∙ ap (λ b. before name (unescaped_after b (drop i text))) (sym w.if-is_after_backslash.true) ∙ c.loop-byte.invariant
      | else-is_after_backslash+then-byte-eq92 w ↦
          ap (λ v. before v.items (unescaped_after then.is_after_backslash rest)) w.name-is
          ∙ ap (λ b. before name (unescaped_after b rest)) w.is_after_backslash-is
          ∙ ap (before name) (begun text i byte within refl w.if-byte-eq92.true)
          ∙ ap (λ b. before name (unescaped_after b (drop i text))) (sym w.if-is_after_backslash.false) ∙ c.loop-byte.invariant
      | else-is_after_backslash+else-byte-eq92+in_ok-push-2 w ↦
          ap (λ v. before v.items (unescaped_after then.is_after_backslash rest)) w.name-is
          ∙ ap (λ b. before w.push-else-byte-eq92.new.self.items (unescaped_after b rest))
          (w.is_after_backslash-is ∙ w.if-is_after_backslash.false)
          ∙ ap (λ t. before t (unescaped_after false rest)) w.in_ok-push-2.ensures.items
          ∙ plain text i byte within refl name w.if-byte-eq92.false
          ∙ ap (λ b. before name (unescaped_after b (drop i text))) (sym w.if-is_after_backslash.false) ∙ c.loop-byte.invariant
    ]

pub returns-then-is_after_backslash-2 : goal.returns-then-is_after_backslash-2
returns-then-is_after_backslash-2 c =
    let text = c.args.text.now in
    let i = c.loop-byte.byte-index in
    sym (ap (before c.loop-byte.name.items) (ap (λ b. unescaped_after b (drop i text)) c.if-is_after_backslash-2.true
    ∙ cut_off text i c.loop-byte-test.false)) ∙ c.loop-byte.invariant

pub returns : goal.returns
returns c =
    let text = c.args.text.now in
    let i = c.loop-byte.byte-index in
    sym (ap (before c.loop-byte.name.items) (ap (λ b. unescaped_after b (drop i text)) c.if-is_after_backslash-2.false
    ∙ ended text i c.loop-byte-test.false) ∙ whole c.loop-byte.name.items) ∙ c.loop-byte.invariant
