-- One worker more is joined.
use Rattle.std.proofs.Common.{◌≡◌, ℕ, zero, suc, ◌+◌, List, [], ◌∷◌, ◌++◌, length, refl, sym, ap, ◌∙◌, subst, arith}
use Rattle.std.specs.List.{AllZip}
use Rattle.std.proofs.lemmas.List.{length_push}
use mathlib.Core.Option.{some, some-injective}
use lib.ListN.{get_elem?}
use Rattle.std.specs.declared.thread.PromisedHandle.{PromisedHandle}
use Rattle.list_members.proofs.Lists.{at_below}
use Rattle.farm_lanes.specs.LaneEnds.{PutView, TakeView}
use Rattle.farm_lanes.specs.declared.gate.record.SeatRecord.{SeatRecord}
use Rattle.std.specs.Prelude.{Option, Some, None}
use Rattle.farm_threads.specs.declared.jobs.Job.{Job}
use Rattle.farm_threads.specs.Replies.{Replied}
use Rattle.farm_threads.specs.declared.feeder.FeedOf.{FeedOf}
use Rattle.farm_threads.specs.Threads.{FeedersJoined, AreOfGate, AreRackFeeders, feeders_of}
use Rattle.farm_lanes.specs.GateView.{GateName, GateId}
use Rattle.list_members.proofs.Lists.{at_map, at_front, at_back, sum_map}
use Rattle.list_members.specs.Lists.{Each}
use Rattle.std.specs.List.{sum_by}
use Rattle.std.proofs.lemmas.List.Sums.{sum_by-cons}
use Rattle.farm_orders.specs.declared.orders.Order.{Order}
use Rattle.farm_threads.specs.declared.given.Feeder.{Feeder}
use Rattle.farm_threads.specs.declared.feeder.Fed.{Fed}
use Rattle.farm_threads.specs.declared.rack_feeders.RackFeeders.{RackFeeders}
use Rattle.farm_threads.specs.Feed.{HasFed, IsRightLeft, LeftBy, IsOfGate, AreFed, HasDrawn}
use Rattle.farm_threads.specs.RunFeeds.{slot_of}
use Rattle.farm_threads.specs.Settled.{HavePut}
use Rattle.farm_core.specs.Ready.{AreAllFeeders, HavePutRacks}
use Rattle.farm_orders.proofs.Members.{map_length, there}
use Rattle.farm_core.proofs.AllRacks.{puts_none, puts_more}

two_sums : {A B : Type 0} (f : A → ℕ) (g : B → ℕ) (xs : List A) (ys : List B) → length xs ≡ length ys
    → ((k : ℕ) (x : A) (y : B) → get_elem? xs k ≡ some x → get_elem? ys k ≡ some y → f x ≡ g y) → sum_by f xs ≡ sum_by g ys
two_sums f g [] [] long same = refl
two_sums f g [] (y ∷ ys) long same = absurd (omega arith)
two_sums f g (x ∷ xs) [] long same = absurd (omega arith)
two_sums f g (x ∷ xs) (y ∷ ys) long same = let a = sum_by-cons f x xs in let b = sum_by-cons g y ys in let c = same 0 x y refl refl in
    let d = two_sums f g xs ys (omega arith) (λ k. same (suc k)) in omega arith

-- the replies of each answer what it took
pub answered_all : (R : TakeView Job → PutView Replied → Type 0) (js : List (TakeView Job)) (rs : List (PutView Replied))
    → length js ≡ length rs → ((k : ℕ) (j : TakeView Job) (r : PutView Replied) → get_elem? js k ≡ some j → get_elem? rs k ≡ some r → R j r)
    → AllZip R js rs
answered_all R [] [] same each = tt
answered_all R [] (r ∷ rs) same each = absurd (omega arith)
answered_all R (j ∷ js) [] same each = absurd (omega arith)
answered_all R (j ∷ js) (r ∷ rs) same each = (each 0 j r refl refl, answered_all R js rs (omega arith) (λ k. each (suc k)))

abbrev FeederHandle : Type 0
FeederHandle = PromisedHandle (Option Fed) FeedOf

right_own : (id : GateId) (was : SeatRecord) (list : List Order) (all : Type 0) (o : Option GateId) (close : Option ℕ) (left : SeatRecord)
    (r : GateId) → o ≡ Some r → IsRightLeft id was list all o close left → r ≡ id
right_own id was list all None close left r is said = absurd (cc)
right_own id was list all (Some q) close left r is said = (let e : q ≡ r = cc in sym e ∙ said.0)

-- what is left is of the gate of its feeder
left_own : (gate : GateName) (f : Feeder) (fed : Fed) → f.gate.now ≡ gate → LeftBy f fed → IsOfGate gate.id fed
left_own gate f fed same left = (
  left.gate_is ∙ (f.own.0 ∙ ap (λ (g : GateName). g.id) same),
  λ r is. right_own f.gate.now.id f.seat.has f.list.now (_) fed.right fed.close fed.seat.has r is left.right
      ∙ ap (λ (g : GateName). g.id) same,
  left.within,
)

module _ (gate : GateName) (hs : List FeederHandle) (fs : List Fed) (joined : FeedersJoined hs fs) where
  pub all_own : AreOfGate gate hs → Each (IsOfGate gate.id) fs
  all_own own k fed at =
      let h = there hs k (let a = at_below fs k fed at in let b = joined.count in omega arith) in
      left_own gate h.0.promise.0.value fed (own k h.0 h.1) (joined.each k h.0 fed h.1 at)

  -- the feeders of a rack were joined
  pub rack_fed : (rack : ℕ) (lists : List (List Order)) → AreRackFeeders gate rack lists (feeders_of hs) → AreFed gate rack lists fs
  rack_fed rack lists are =
      let long = map_length (λ (h : FeederHandle). h.promise.0.value) hs in
      record {
        count = joined.count ∙ (sym long ∙ are.count);
        rights = are.rights ∙ (long ∙ sym joined.count);
        shares =
            two_sums (λ (f : Fed). f.seat.has.share) (λ (h : FeederHandle). h.promise.0.value.seat.has.share) fs hs joined.count
            (λ k f h at_f at_h. (joined.each k h f at_h at_f).share_is)
            ∙ (sym (sum_map (λ (f : Feeder). f.seat.has.share) (λ (h : FeederHandle). h.promise.0.value) hs) ∙ are.shares);
        each = λ k list fed at_list at.
            let h = there hs k (let a = at_below fs k fed at in let b = joined.count in omega arith) in
            let f = h.0.promise.0.value in
            let is = are.each k f (at_map (λ (h : FeederHandle). h.promise.0.value) hs k h.0 h.1) in
            let same : f.list.now ≡ list = some-injective _ _ (sym is.2 ∙ at_list) in
            let P : GateName × ℕ × ℕ × List Order → Type 0 =
            λ p. HasFed p.0 f.seat (slot_of p.1 p.2) p.3 f.jobs fed.seat fed.right fed.close fed.jobs in (
              f.seat,
              f.jobs,
              f.unclosed.0,
              f.unclosed.1,
              subst P (λ i. (is.3 i, is.0 i, is.1 i, same i))
                  (joined.each k h.0 fed h.1 at),
              (let low = f.few.1 in let e = is.1 in omega arith),
            );
      }

-- a list of one more has a last
pub last_of : {A : Type 0} (xs : List A) (n : ℕ) → length xs ≡ n + 1 → (front : List A) × (x : A) × (xs ≡ front ++ x ∷ [])
    × (length front ≡ n)
last_of [] n long = absurd (omega arith)
last_of (x ∷ []) n long = ([], x, refl, omega arith)
last_of (x ∷ y ∷ xs) zero long = absurd (omega arith)
last_of (x ∷ y ∷ xs) (suc n) long = let r = last_of (y ∷ xs) n (omega arith) in (x ∷ r.0, r.1, ap (λ l. x ∷ l) r.2, ap suc r.3)

-- one rack more is joined
pub racks_next : (racks : List RackFeeders) (puts more : List (PutView Job)) (r : RackFeeders) (fs : List Fed) → HavePutRacks racks puts
    → FeedersJoined r.handles.items fs
    → ((rack : ℕ) (lists : List (List Order)) → AreFed r.gate.now rack lists fs → HasDrawn rack lists more)
    → HavePutRacks (racks ++ r ∷ []) (puts ++ more)
racks_next racks puts more r fs was joined drawn lists are =
    let parts = last_of lists (length racks) (sym are.count ∙ length_push racks r) in
    let front = parts.0 in let feeds = parts.1 in
    let before : AreAllFeeders front racks = record {
      count = sym parts.3;
      each = λ k feeds' r' at at_r. are.each k feeds' r' (subst (λ l. get_elem? l k ≡ some feeds') (sym parts.2)
          (at_front front (feeds ∷ []) k feeds' at)) (at_front racks (r ∷ []) k r' at_r);
    } in
    let here : AreRackFeeders r.gate.now (length front) feeds (feeders_of r.handles.items) =
    are.each (length front) feeds r (subst (λ l. get_elem? l (length front) ≡ some feeds) (sym parts.2)
    (at_back front (feeds ∷ []) 0 feeds refl (length front) (omega arith)))
    (at_back racks (r ∷ []) 0 r refl (length front) (let e = parts.3 in omega arith)) in
    subst (λ (l : List (List (List Order))). HavePut l (puts ++ more)) (sym parts.2)
    (puts_more front feeds puts more (was front before) (drawn (length front) feeds
    (rack_fed r.gate.now r.handles.items fs joined (length front) feeds here)))

pub racks_none : HavePutRacks [] []
racks_none [] are = puts_none
racks_none (l ∷ lists) are = absurd (let e = are.count in omega arith)
