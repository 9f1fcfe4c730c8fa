-- The digests of outcomes, place by place and rack by rack.
use Rattle.std.proofs.Common.{◌≡◌, ◌<◌, ◌≤◌, ◌+◌, ◌++◌, ◌∙◌, Bor, Global, Vec, ℕ, List, [], ◌∷◌, Option, length, take, drop, map, get_or}
use Rattle.std.proofs.Common.{flat_map, refl, sym, ap, arith}
use Rattle.std.proofs.lemmas.List.{at_drop_more, drop-append-le, length-append, length-map, map-append, take-append-le, take_all, drop_all}
use Rattle.lrc_code.specs.declared.outcomes.Outcome.{Outcome}
use Rattle.farm_reports.specs.Report.{fragment_digest}

-- an answer: its feed's number and the outcome
abbrev Answer : Type 0
Answer = ℕ × Outcome

digest : Answer → Option (List ℕ)
digest a = fragment_digest a.1

-- ---- all racks

digests_in : Vec Answer Global → List (Option (List ℕ))
digests_in rack = map digest rack.items

pub racks_digests : (outcomes : List (Bor Outcome)) (racks : List (Vec Answer Global))
    → map (λ o. o.now) outcomes ≡ flat_map (λ rack. map (λ a. a.1) rack.items) racks
    → map (λ o. fragment_digest o.now) outcomes ≡ flat_map (λ rack. map (λ a. fragment_digest a.1) rack.items) racks
racks_digests outcomes racks is = through outcomes ∙ ap (map fragment_digest) is ∙ pieces racks
  where
    through : (os : List (Bor Outcome)) → map (λ o. fragment_digest o.now) os ≡ map fragment_digest (map (λ o. o.now) os)
    through [] = refl
    through (o ∷ os) = ap (λ t. fragment_digest o.now ∷ t) (through os)

    inner : (answers : List Answer) → map fragment_digest (map (λ (a : Answer). a.1) answers)
        ≡ map (λ (a : Answer). fragment_digest a.1) answers
    inner [] = refl
    inner (a ∷ answers) = ap (λ t. fragment_digest a.1 ∷ t) (inner answers)

    pieces : (vs : List (Vec Answer Global)) → map fragment_digest (flat_map (λ rack. map (λ a. a.1) rack.items) vs)
        ≡ flat_map (λ rack. map (λ a. fragment_digest a.1) rack.items) vs
    pieces [] = refl
    pieces (v ∷ vs) =
        map-append fragment_digest (map (λ (a : Answer). a.1) v.items)
        (flat_map (λ (rack : Vec Answer Global). map (λ (a : Answer). a.1) rack.items) vs)
        ∙ ap (λ t. t ++ map fragment_digest (flat_map (λ (rack : Vec Answer Global). map (λ (a : Answer). a.1) rack.items) vs))
        (inner v.items)
        ∙ ap (λ t. map (λ (a : Answer). fragment_digest a.1) v.items ++ t) (pieces vs)

-- what is left of the digests from a rack on begins with those of its outcomes
pub rack_first : (racks : List (Vec Answer Global)) (i : ℕ) (rack : Vec Answer Global) (left : List (Option (List ℕ))) → i < length racks
    → rack ≡ get_or racks i rack
    → left ≡ flat_map (λ rack. map (λ a. fragment_digest a.1) rack.items) (drop i racks)
    → left ≡ map (λ a. fragment_digest a.1) rack.items ++ flat_map (λ rack. map (λ a. fragment_digest a.1) rack.items) (drop (i + 1) racks)
unfolding digests_in digest
rack_first racks i rack left within is so =
    so ∙ at_drop_more (flat_map digests_in) racks i rack within
    ∙ ap (λ o. digests_in o ++ flat_map digests_in (drop (i + 1) racks)) (sym is)

pub rack_taken : (digests rest : List (Option (List ℕ))) (answers : List Answer) (n : ℕ) (left : List (Option (List ℕ)))
    → left ≡ map (λ a. fragment_digest a.1) answers ++ rest → n ≡ length answers
    → digests ≡ take n left → digests ≡ map (λ a. fragment_digest a.1) answers
unfolding digest
rack_taken digests rest answers n left is size taken =
    let counted : length (map digest answers) ≡ length answers = length-map answers digest in
    taken ∙ ap (take n) is ∙ take-append-le n (map digest answers) rest (omega (arith, counted, size))
    ∙ take_all n (map digest answers) (omega (arith, counted, size))

pub rack_dropped : (further rest : List (Option (List ℕ))) (answers : List Answer) (n : ℕ) (left : List (Option (List ℕ)))
    → left ≡ map (λ a. fragment_digest a.1) answers ++ rest → n ≡ length answers
    → further ≡ drop n left → further ≡ rest
unfolding digest
rack_dropped further rest answers n left is size dropped =
    let counted : length (map digest answers) ≡ length answers = length-map answers digest in
    dropped ∙ ap (drop n) is ∙ drop-append-le n (map digest answers) rest (omega (arith, counted, size))
    ∙ ap (λ t. t ++ rest) (drop_all n (map digest answers) (omega (arith, counted, size)))

pub rack_fits : (rest : List (Option (List ℕ))) (answers : List Answer) (n : ℕ) (left : List (Option (List ℕ)))
    → left ≡ map (λ a. fragment_digest a.1) answers ++ rest → n ≡ length answers → n ≤ length left
unfolding digest
rack_fits rest answers n left is size =
    let counted : length (map digest answers) ≡ length answers = length-map answers digest in
    let both : length left ≡ length (map digest answers) + length rest = ap length is ∙ length-append (map digest answers) rest in
    omega (arith, counted, size, both)
