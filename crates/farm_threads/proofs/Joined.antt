-- One thread more is joined.
use Rattle.std.proofs.Common.{◌≡◌, ℕ, ◌+◌, ◌<◌, List, [], ◌∷◌, ◌++◌, length, sym, ap, ◌∙◌, subst, ⊎_elim, arith}
use Rattle.std.proofs.lemmas.List.{length_push}
use mathlib.Core.Option.{some}
use lib.ListN.{get_elem?}
use Rattle.std.specs.declared.thread.PromisedHandle.{PromisedHandle}
use Rattle.list_members.proofs.Lists.{at_snoc_or, at_below}
use Rattle.farm_lanes.specs.LaneEnds.{PutView, TakeView}
use Rattle.std.specs.Prelude.{Option}
use Rattle.farm_threads.specs.declared.jobs.Job.{Job}
use Rattle.farm_threads.specs.declared.worker.Worked.{Worked}
use Rattle.farm_threads.specs.Replies.{Replied}
use Rattle.farm_threads.specs.declared.worker.WorkOf.{WorkOf}
use Rattle.farm_threads.specs.Jobs.{HasWorked}
use Rattle.farm_threads.specs.declared.feeder.FeedOf.{FeedOf}
use Rattle.farm_threads.specs.declared.feeder.Fed.{Fed}
use Rattle.farm_threads.specs.Threads.{WorkersJoined, FeedersJoined}
use Rattle.farm_threads.specs.Feed.{LeftBy}

module _ {A : Type 0} where
  pub snoc_old : (xs : List A) (a b : A) (k : ℕ) → k < length xs → get_elem? (xs ++ a ∷ []) k ≡ some b → get_elem? xs k ≡ some b
  snoc_old xs a b k low at = ⊎_elim (λ old. old) (λ (new : (k ≡ length xs) × (a ≡ b)). absurd (let e = new.0 in omega arith))
      (at_snoc_or xs a b k at)

  pub snoc_new : (xs : List A) (a b : A) (k : ℕ) → k ≡ length xs → get_elem? (xs ++ a ∷ []) k ≡ some b → a ≡ b
  snoc_new xs a b k is at = ⊎_elim (λ old. absurd (let l = at_below xs k b old in omega arith)) (λ (new : (k ≡ length xs) × (a ≡ b)). new.1)
      (at_snoc_or xs a b k at)

abbrev Handle : Type 0
Handle = PromisedHandle Worked WorkOf

pub joined_next : (hs : List Handle) (js : List (TakeView Job)) (rs : List (PutView Replied)) (h : Handle) (j : TakeView Job)
    (r : PutView Replied) → WorkersJoined hs js rs → HasWorked h.promise.0.value.jobs h.promise.0.value.replies j r
    → WorkersJoined (hs ++ h ∷ []) (js ++ j ∷ []) (rs ++ r ∷ [])
joined_next hs js rs h j r was one = record {
  jobs_count = length_push js j ∙ (ap (λ n. n + 1) was.jobs_count ∙ sym (length_push hs h));
  replies_count = length_push rs r ∙ (ap (λ n. n + 1) was.replies_count ∙ sym (length_push hs h));
  each = λ k h' j' r' at_h at_j at_r. ⊎_elim
      (λ old. let low = at_below hs k h' old in was.each k h' j' r' old (snoc_old js j j' k (let e = was.jobs_count in omega arith) at_j)
      (snoc_old rs r r' k (let e = was.replies_count in omega arith) at_r))
      (λ (new : (k ≡ length hs) × (h ≡ h')). let e = new.0 in
      let P : Handle × TakeView Job × PutView Replied → Type 0 =
      λ p. HasWorked p.0.promise.0.value.jobs p.0.promise.0.value.replies p.1 p.2 in
      let same_j = snoc_new js j j' k (let f = was.jobs_count in omega arith) at_j in
      let same_r = snoc_new rs r r' k (let f = was.replies_count in omega arith) at_r in
      subst P (λ i. (new.1 i, same_j i, same_r i)) one)
      (at_snoc_or hs h h' k at_h);
}

abbrev FeederHandle : Type 0
FeederHandle = PromisedHandle (Option Fed) FeedOf

-- one feeder more is joined
pub fed_next : (hs : List FeederHandle) (fs : List Fed) (h : FeederHandle) (f : Fed) → FeedersJoined hs fs → LeftBy h.promise.0.value f
    → FeedersJoined (hs ++ h ∷ []) (fs ++ f ∷ [])
fed_next hs fs h f was one = record {
  count = length_push fs f ∙ (ap (λ n. n + 1) was.count ∙ sym (length_push hs h));
  each = λ k h' f' at_h at_f. ⊎_elim
      (λ old. let low = at_below hs k h' old in was.each k h' f' old (snoc_old fs f f' k (let c = was.count in omega arith) at_f))
      (λ (new : (k ≡ length hs) × (h ≡ h')). let c = new.0 in
      let P : FeederHandle × Fed → Type 0 = λ p. LeftBy p.0.promise.0.value p.1 in
      subst P (λ i. (new.1 i, snoc_new fs f f' k (let e = was.count in omega arith) at_f i)) one)
      (at_snoc_or hs h h' k at_h);
}
