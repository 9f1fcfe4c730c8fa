use Rattle.std.proofs.Common.{◌≡◌, ◌∙◌, ◌||◌, Bool, true, false, ap, refl}
use Rattle.lrc_code.specs.Sets.{is_in}
use Rattle.lrc_plan.specs.Form.{has_leaf}
use Rattle.lrc_plan.specs.Tree.{form_of}
use Rattle.lrc_plan.proofs.tree.Tree.+add_leaves.Goals as goal

-- the leaves of both branches beside those found
both : (a b found : Bool) → (a || (b || found)) ≡ ((a || b) || found)
both true b found = refl
both false b found = refl

pub returns-in-Leaf : goal.returns-in-Leaf
returns-in-Leaf g t c = λ p. rw c.in-Leaf.is (c.with.ensures p)

pub returns-in-Scale : goal.returns-in-Scale
returns-in-Scale g t c = λ p. rw c.in-Scale.is (rw c.deref.ensures at (c.add_leaves.ensures p))

pub returns-in-Sum : goal.returns-in-Sum
returns-in-Sum g t c = λ p. rw c.in-Sum.is
    (rw c.deref-in-Sum.ensures at (c.add_leaves-in-Sum-2.ensures p)
    ∙ (ap (λ found. has_leaf (form_of c.in-Sum.left.value) p || found) (rw c.deref-in-Sum-2.ensures at (c.add_leaves-in-Sum.ensures p))
    ∙ both (has_leaf (form_of c.in-Sum.left.value) p) (has_leaf (form_of c.in-Sum.right.value) p) (is_in c.args.found p)))
