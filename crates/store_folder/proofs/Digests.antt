-- Digests of new files.
use Rattle.std.proofs.Common.{◌≡◌, ◌∙◌, ap, subst, sym, ℕ, List, ◌++◌, Option, Some, None, option_map, IfSome, OnOk, OnErr, Ok, Err}
use Rattle.std.specs.Coded.{Coded-set, Unit-prop, coded_list, coded_ℕ}
use Rattle.std.specs.declared.result.Result.{Result}
use Rattle.sha2.specs.Hashers.{Holds256}
use Rattle.sha2.specs.Sha256.{sha256}
use Rattle.sha2.specs.declared.Sha256.{Sha256}
use Rattle.lrc_code.specs.declared.places.Place.{Place}
use Rattle.lrc_code.specs.declared.codes.Code.{Code as CodeName}
use Rattle.store_names.specs.Names.{IsNameOf, name_with}
use Rattle.store_names.specs.declared.patterns.Pattern.{Pattern}
use Rattle.store_folder.specs.declared.site.Site.{Site}
use Rattle.store_folder.specs.Digests.{HasDigest, IsAsListed, IsDigested, IsSumOf}

-- what was digested, after bytes that were appended or weren't
pub digested_after : {T E : Type 0} (r : Result T E) (before after : Option Sha256) (old new : Option (List ℕ)) (bytes : List ℕ)
    → OnOk r (new ≡ option_map (λ m. m ++ bytes) old) → OnErr r (new ≡ None)
    → ((m : List ℕ) → IfSome before (λ d. Holds256 d m) → IfSome after (λ d. Holds256 d (m ++ bytes)))
    → IsDigested before old → IsDigested after new
digested_after (Ok x) before after None new bytes ok err step held = subst (IsDigested after) (sym ok) tt
digested_after (Ok x) before after (Some m) new bytes ok err step held = subst (IsDigested after) (sym ok) (step m held)
digested_after (Err e) before after old new bytes ok err step held = subst (IsDigested after) (sym err) tt

-- a digest that was compared
pub has_digest : (digest : Option Sha256) (sum written : Option (List ℕ))
    → ((m : List ℕ) → IfSome digest (λ d. Holds256 d m) → IfSome sum (λ s. sha256 m ≡ s)) → IsDigested digest written
    → HasDigest sum written
has_digest digest sum None compared held = tt
has_digest digest sum (Some bytes) compared held = compared bytes held

pub HasDigest-prop : (sum written : Option (List ℕ)) → IsProp (HasDigest sum written)
HasDigest-prop sum None = Unit-prop
HasDigest-prop None (Some bytes) = Unit-prop
HasDigest-prop (Some digest) (Some bytes) = Coded-set (coded_list coded_ℕ) (sha256 bytes) digest

-- a stripe has one name for a fragment
pub same_name : (p : Pattern) (code : CodeName) (stripe : List ℕ) (place : Place) (one other : List ℕ)
    → IsNameOf p code stripe place one → IsNameOf p code stripe place other → one ≡ other
same_name p code stripe place one other x y =
    let keys : Some x.made.key ≡ Some y.made.key = sym x.made.is_key ∙ y.made.is_key in
    let key : x.made.key ≡ y.made.key = cc in
    x.made.is ∙ ap (name_with p stripe) key ∙ sym y.made.is

pub as_listed : (site : Site) (stripe : List ℕ) (place : Place) (sum written : Option (List ℕ)) → IsSumOf site stripe place sum
    → HasDigest sum written → IsAsListed site stripe place written
as_listed site stripe place sum written of has name is = subst (λ s. HasDigest s written) (sym (of name is)) has
