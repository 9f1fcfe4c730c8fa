use Rattle.std.proofs.Common.{◌≡◌, ◌<◌, ◌+◌, ◌∙◌, ◌++◌, ◌∷◌, Global, List, ℕ, [], String, ap, append_assoc, arith}
use Rattle.std.proofs.Common.{get_or, length, map, sym, take}
use Rattle.std.proofs.lemmas.List.{map-append, take_all, take_more}
use Rattle.std.specs.String.{string_bytes}
use Rattle.lrc_code.specs.declared.places.Place.{Place}
use Rattle.lrc_code.specs.declared.places.Place.TheVariants as place
use Rattle.farm_lists.specs.Names.{fragment_name}
use Rattle.farm_reading.specs.Ahead.{named_limit}
use Rattle.farm_reading.proofs.fragments.push_fragment_files.Goals as goal

-- one more survivor's file
one_more : (was files more : List (String Global × ℕ)) (stripe : List ℕ) (len : ℕ) (places : List Place) (i : ℕ) (place : Place)
    (name : String Global) (limit : ℕ) → i < length places
    → map named_limit files ≡ map named_limit was ++ map (λ p. (fragment_name stripe p, len + 1)) (take i places)
    → string_bytes name ≡ fragment_name stripe (get_or places i place) → limit ≡ len + 1 → more ≡ files ++ (name, limit) ∷ []
    → map named_limit more ≡ map named_limit was ++ map (λ p. (fragment_name stripe p, len + 1)) (take (i + 1) places)
one_more was files more stripe len places i place name limit within so named is added =
    let read : Place → List ℕ × ℕ = λ p. (fragment_name stripe p, len + 1) in
    let next : Place = get_or places i place in
    let last : named_limit (name, limit) ≡ read next =
    ap (λ (text : List ℕ). (text, limit)) named ∙ ap (λ (n : ℕ). (fragment_name stripe next, n)) is in
    let reads : map read (take (i + 1) places) ≡ map read (take i places) ++ read next ∷ [] =
    ap (map read) (take_more places i place within) ∙ map-append read (take i places) (next ∷ []) in
    ap (map named_limit) added ∙ (map-append named_limit files ((name, limit) ∷ [])
    ∙ (ap (λ fs. fs ++ named_limit (name, limit) ∷ []) so ∙ (ap (λ f. (map named_limit was ++ map read (take i places)) ++ f ∷ []) last
    ∙ (append_assoc (map named_limit was) (map read (take i places)) (read next ∷ [])
    ∙ ap (λ fs. map named_limit was ++ fs) (sym reads)))))

pub loop-index-preserved : goal.loop-index-preserved
loop-index-preserved c =
    let places = c.survivors-places.result.now in
    one_more c.args.files.now.items c.loop-index.files.items c.push.new.self.items c.args.listed.now.stripe c.args.listed.now.len places
    c.loop-index.index place.X0 c.in_ok-name.name (c.length.result + 1) c.loop-index-test.true c.loop-index.invariant
    (c.in_ok-name.ensures ∙ ap (λ stripe. fragment_name stripe (get_or places c.loop-index.index place.X0)) c.stripe.ensures.value)
    (ap (λ n. n + 1) c.length.ensures.value) c.in_ok-push.ensures.items

pub returns : goal.returns
returns c =
    let read : Place → List ℕ × ℕ = λ p. (fragment_name c.args.listed.now.stripe p, c.args.listed.now.len + 1) in
    c.loop-index.invariant ∙ ap (λ fs. map named_limit c.args.files.now.items ++ fs)
    (ap (map read) (take_all c.loop-index.index c.survivors-places.result.now (omega (arith, c.loop-index-test.false))
    ∙ c.survivors-places.ensures.value))
