-- The put ends of all racks, and the feeders that had them.
use Rattle.std.proofs.Common.{◌≡◌, ℕ, suc, List, [], ◌∷◌, ◌++◌, length, map, refl, sym, ap, ◌∙◌, arith, Option, append-nil}
use Rattle.std.proofs.lemmas.List.{map-append}
use Rattle.std.proofs.lemmas.Grind.{flat_map-append}
use mathlib.Core.Option.{some}
use lib.ListN.{get_elem?}
use Rattle.std.specs.declared.thread.PromisedHandle.{PromisedHandle}
use Rattle.farm_lanes.specs.LaneEnds.{PutView}
use Rattle.farm_threads.specs.declared.jobs.Job.{Job}
use Rattle.farm_threads.specs.declared.given.Feeder.{Feeder}
use Rattle.farm_threads.specs.declared.feeder.Fed.{Fed}
use Rattle.farm_threads.specs.declared.feeder.FeedOf.{FeedOf}
use Rattle.farm_threads.specs.declared.rack_feeders.RackFeeders.{RackFeeders}
use Rattle.farm_threads.specs.Feed.{LeftBy}
use Rattle.farm_threads.specs.Threads.{FeedersJoined, feeders_of}
use Rattle.farm_core.specs.Ready.{Given, started_of, all_given, ends_given, as_new, AreEndsOf}

abbrev FeederHandle : Type 0
FeederHandle = PromisedHandle (Option Fed) FeedOf

abbrev jobs_at : Feeder → PutView Job
jobs_at f = f.jobs

abbrev fed_jobs : Fed → PutView Job
fed_jobs f = f.jobs

module _ {A B C : Type 0} where
  same_maps : (f : A → C) (g : B → C) (xs : List A) (ys : List B) → length xs ≡ length ys
      → ((k : ℕ) (x : A) (y : B) → get_elem? xs k ≡ some x → get_elem? ys k ≡ some y → f x ≡ g y) → map f xs ≡ map g ys
  same_maps f g [] [] long same = refl
  same_maps f g [] (y ∷ ys) long same = absurd (omega arith)
  same_maps f g (x ∷ xs) [] long same = absurd (omega arith)
  same_maps f g (x ∷ xs) (y ∷ ys) long same = (λ i. same 0 x y refl refl i ∷ same_maps f g xs ys (omega arith) (λ k. same (suc k)) i)

  maps_twice : (f : A → B) (g : B → C) (xs : List A) → map g (map f xs) ≡ map (λ x. g (f x)) xs
  maps_twice f g [] = refl
  maps_twice f g (x ∷ xs) = ap (λ l. g (f x) ∷ l) (maps_twice f g xs)

-- what a feeder left is its end, whatever it put
as_given : (f : Feeder) (fed : Fed) → LeftBy f fed → as_new fed.jobs ≡ f.jobs
as_given f fed left = ap as_new left.jobs_is ∙ sym f.unused

-- of a rack's joined feeders
pub rack_ends : (hs : List FeederHandle) (fs : List Fed) → FeedersJoined hs fs → AreEndsOf (feeders_of hs) (map fed_jobs fs)
rack_ends hs fs joined =
    maps_twice fed_jobs as_new fs
    ∙ (same_maps (λ (f : Fed). as_new f.jobs) (λ (h : FeederHandle). h.promise.0.value.jobs) fs hs joined.count
    (λ k f h at_f at_h. as_given h.promise.0.value f (joined.each k h f at_h at_f))
    ∙ sym (maps_twice (λ (h : FeederHandle). h.promise.0.value) jobs_at hs))

-- one rack more
pub given_snoc : (given : List Given) (g : Given) → all_given (given ++ g ∷ []) ≡ all_given given ++ g.1
given_snoc given g = flat_map-append (λ (g : Given). g.1) given (g ∷ []) ∙ ap (λ (l : List Feeder). all_given given ++ l) (append-nil g.1)

pub ends_snoc : (given : List Given) (g : Given) → ends_given (given ++ g ∷ []) ≡ ends_given given ++ map jobs_at g.1
ends_snoc given g = ap (map jobs_at) (given_snoc given g) ∙ map-append jobs_at (all_given given) g.1

pub ends_next : (racks : List RackFeeders) (puts new : List (PutView Job)) (r : RackFeeders) (fs : List Fed)
    → AreEndsOf (all_given (started_of racks)) puts → FeedersJoined r.handles.items fs → new ≡ puts ++ map fed_jobs fs
    → AreEndsOf (all_given (started_of (racks ++ r ∷ []))) new
ends_next racks puts new r fs was joined is =
    ap (map as_new) is
    ∙ (map-append as_new puts (map fed_jobs fs)
    ∙ ((λ i. was i ++ rack_ends r.handles.items fs joined i)
    ∙ (sym (ends_snoc (started_of racks) (r.gate.now, feeders_of r.handles.items))
    ∙ ap ends_given (sym (map-append (λ (r : RackFeeders). (r.gate.now, feeders_of r.handles.items)) racks (r ∷ []))))))
