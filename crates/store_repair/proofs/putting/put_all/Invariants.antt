use Rattle.std.specs.Prelude.{◌&&◌, ◌⊎◌}
use Rattle.std.proofs.Common.{◌≡◌, ◌<◌, ◌≤◌, ℕ, All, false, get_or, length, vec_len}
use Rattle.lrc_code.specs.declared.places.Place.{Place}
use Rattle.lrc_code.specs.Places.{same_place}
use Rattle.stores.specs.Kept.{nothing}
use Rattle.store_repair.specs.Kept.{given_by}
use Rattle.store_repair.specs.Opened.{IsPutOf}
use Rattle.lrc_code.specs.Sets.{is_in}
use Rattle.store_repair.specs.Findings.{named}
use Rattle.store_repair.specs.Repaired.{MayReplace, OnlyReplaces, SameBeside}
use Rattle.stores.specs.Store.{AreUntouched}
use Rattle.store_repair.proofs.GivenLemmas.{AreGivenFrom}
use Rattle.store_repair.proofs.PutLemmas.{IsSaid}
use Rattle.store_repair.proofs.putting.put_all.Given as goal

abbrev pub invariant-files : goal.invariant-files
invariant-files g l =
    let files = g.S.Store.files in
    let made = l.fn.made.files.items in
    record {
      untouched : AreUntouched (l.fn.repair.replace_damaged && l.fn.known.is_checked) l.fn.stripe.name.now (files l.fn.store)
          (files l.store);
      replaced : OnlyReplaces (MayReplace l.fn.repair.replace_damaged l.fn.repair.code (is_in l.fn.known.survivors) l.fn.known.is_checked
          l.fn.known.length l.fn.stripe.files.found l.fn.known.findings.now) l.fn.stripe.name.now (files l.fn.store) (files l.store);
      beside : SameBeside l.fn.made.places.items l.fn.stripe.name.now (files l.fn.store) (files l.store);
      all : (k : ℕ) (d : Place) → vec_len l.left ≤ k → k < length l.fn.made.places.items
          → IsSaid (named l.fn.known.findings.now) l.put.items (named l.later.items) (get_or l.fn.made.places.items k d);
      kept : (l.fn.repair.replace_damaged && l.fn.known.is_checked) ≡ false → (from : _)
          → g.S.Store.kept l.fn.stripe.name.now (given_by g.S.New.NewFragment.shown l.fn.made.places.items made) from l.fn.store
          → g.S.Store.kept l.fn.stripe.name.now (given_by g.S.New.NewFragment.shown l.fn.made.places.items made) from l.store;
      changed : (from : _) → g.S.Store.changed l.fn.stripe.name.now nothing from l.fn.store
          → AreGivenFrom g.S.Store.changed l.fn.stripe.name.now (given_by g.S.New.NewFragment.shown l.fn.made.places.items made)
          l.fn.made.places.items (vec_len l.left) from l.store;
      places : l.places.items ≡ l.fn.made.places.items;
      few : vec_len l.left ≤ length made;
      same : (k : ℕ) (e : _) → k < vec_len l.left → get_or l.left.items k e ≡ get_or made k e;
      done : ((l.fn.repair.replace_damaged && l.fn.known.is_checked) ≡ false) ⊎ g.S.Store.apart l.fn.store
          → All (λ p. g.S.Store.got_name l.store l.fn.stripe.name.now p
          (given_by g.S.New.NewFragment.shown l.fn.made.places.items made p)) l.put.items;
      put : All (IsPutOf g.S.New.NewFragment.shown l.places.items made l.fn.stripe.name.now (files l.store)) l.put.items;
      far : All (λ q. (k : ℕ) (d : Place) → k < vec_len l.left → same_place (get_or l.places.items k d) q ≡ false) l.put.items;
    }

abbrev pub decreases-files : goal.decreases-files
decreases-files g l = vec_len l.left
