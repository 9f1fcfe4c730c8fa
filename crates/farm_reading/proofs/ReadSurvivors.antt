-- The reads of a request's survivors, one more.
use Rattle.std.proofs.Common.{◌≡◌, ◌<◌, ◌+◌, ◌++◌, ◌∙◌, ℕ, Bool, true, false, cond, List, [], ◌∷◌, Option, Some, None, length, map, take}
use Rattle.std.proofs.Common.{get_or, refl, sym, ap, option_map}
use Rattle.std.specs.List.{filter, filter_map}
use Rattle.std.specs.Option.{is_none}
use Rattle.std.proofs.lemmas.List.{append-nil, map-append, take_more}
use Rattle.std.proofs.lemmas.List.Elements.{filter-append, filter_map-append}
use Rattle.std.proofs.lemmas.List.Sums.{sum_by-append}
use Rattle.lrc_code.specs.declared.places.Place.{Place}
use Rattle.lrc_code.specs.Requests.{Survivor}
use Rattle.farm_lists.specs.Listed.{ListedRequest}
use Rattle.farm_shelves.specs.Files.{Files}
use Rattle.farm_reading.specs.Reading.{Reads, failures, fragment, survivor, unread}

pub places_more : (reads : Reads) (places : List Place) (i : ℕ) (d : Place) (m : Bool) → i < length places
    → map (λ q. q.0) reads ≡ take i places
    → map (λ q. q.0) (reads ++ (get_or places i d, m) ∷ []) ≡ take (i + 1) places
places_more reads places i d m within e =
    map-append (λ (q : Place × Bool). q.0) reads ((get_or places i d, m) ∷ []) ∙ ap (λ ps. ps ++ get_or places i d ∷ []) e
    ∙ sym (take_more places i d within)

pub failures_more : (reads : Reads) (p : Place) (m : Bool) → failures (reads ++ (p, m) ∷ []) ≡ failures reads + cond m 1 0
failures_more reads p true = sum_by-append (λ (q : Place × Bool). cond q.1 1 0) reads ((p, true) ∷ [])
failures_more reads p false = sum_by-append (λ (q : Place × Bool). cond q.1 1 0) reads ((p, false) ∷ [])

kept_by : (there : Files) (r : ListedRequest) (reads : Reads) (p : Place) (m : Bool) (x : Option (List ℕ)) → x ≡ fragment there r (p, m)
    → filter_map (survivor there r) (reads ++ (p, m) ∷ [])
    ≡ filter_map (survivor there r) reads ++ filter_map
    (λ (y : Option (List ℕ)). option_map (λ b. let s : Survivor = record { place = p; bytes = b } in s) y) (x ∷ [])
kept_by there r reads p m x e = filter_map-append (survivor there r) reads ((p, m) ∷ [])
    ∙ ap (λ (y : Option (List ℕ)). filter_map (survivor there r) reads ++ filter_map
    (λ (z : Option (List ℕ)). option_map (λ b. let s : Survivor = record { place = p; bytes = b } in s) z) (y ∷ [])) (sym e)

pub kept_some : (there : Files) (r : ListedRequest) (reads : Reads) (p : Place) (m : Bool) (b : List ℕ) (ss : List Survivor)
    → ss ≡ filter_map (survivor there r) reads → Some b ≡ fragment there r (p, m)
    → ss ++ (record { place = p; bytes = b }) ∷ [] ≡ filter_map (survivor there r) (reads ++ (p, m) ∷ [])
kept_some there r reads p m b ss e f = ap (λ (t : List Survivor). t ++ (record { place = p; bytes = b }) ∷ []) e
    ∙ sym (kept_by there r reads p m (Some b) f)

pub kept_none : (there : Files) (r : ListedRequest) (reads : Reads) (p : Place) (m : Bool) (ss : List Survivor)
    → ss ≡ filter_map (survivor there r) reads → None ≡ fragment there r (p, m)
    → ss ≡ filter_map (survivor there r) (reads ++ (p, m) ∷ [])
kept_none there r reads p m ss e f = e ∙ sym (append-nil (filter_map (survivor there r) reads)) ∙ sym (kept_by there r reads p m None f)

unread_by : (there : Files) (r : ListedRequest) (reads : Reads) (p : Place) (m : Bool) (x : Option (List ℕ)) → x ≡ fragment there r (p, m)
    → unread there r (reads ++ (p, m) ∷ []) ≡ unread there r reads ++ cond (is_none x) (p ∷ []) []
unread_by there r reads p m x e =
    ap (map (λ (q : Place × Bool). q.0)) (filter-append (λ q. is_none (fragment there r q)) reads ((p, m) ∷ []))
    ∙ map-append (λ (q : Place × Bool). q.0) (filter (λ q. is_none (fragment there r q)) reads)
    (filter (λ q. is_none (fragment there r q)) ((p, m) ∷ []))
    ∙ ap (λ t. unread there r reads ++ t) (by (is_none (fragment there r (p, m))))
    ∙ ap (λ (y : Option (List ℕ)). unread there r reads ++ cond (is_none y) (p ∷ []) []) (sym e)
  where
    by : (b : Bool) → map (λ (q : Place × Bool). q.0) (cond b ((p, m) ∷ []) []) ≡ cond b (p ∷ []) []
    by true = refl
    by false = refl

pub unread_some : (there : Files) (r : ListedRequest) (reads : Reads) (p : Place) (m : Bool) (b : List ℕ) (us : List Place)
    → us ≡ unread there r reads → Some b ≡ fragment there r (p, m)
    → us ≡ unread there r (reads ++ (p, m) ∷ [])
unread_some there r reads p m b us e f = e ∙ sym (append-nil (unread there r reads)) ∙ sym (unread_by there r reads p m (Some b) f)

pub unread_none : (there : Files) (r : ListedRequest) (reads : Reads) (p : Place) (m : Bool) (us : List Place) → us ≡ unread there r reads
    → None ≡ fragment there r (p, m)
    → us ++ p ∷ [] ≡ unread there r (reads ++ (p, m) ∷ [])
unread_none there r reads p m us e f = ap (λ t. t ++ p ∷ []) e ∙ sym (unread_by there r reads p m None f)
