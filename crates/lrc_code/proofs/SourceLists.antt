-- The bytes that survive at each place, one survivor after another from the last to the first.
use Rattle.std.specs.Borrow.{Bor}
use Rattle.std.proofs.Common.{◌≡◌, ℕ, ◌+◌, ◌<◌, List, length, get_or, set, drop, map, cond, refl, ap, ap₂, sym, ◌∙◌}
use Rattle.std.proofs.lemmas.List.{drop_more, map-set}
use Rattle.lrc_code.specs.declared.places.Place.{Place}
use Rattle.lrc_code.specs.declared.places.Place.TheVariants.{X0, X1, X2, X3, X4, X5, Y0, Y1, Y2, Y3, Y4, Y5, Px, Py, P0, P1}
use Rattle.lrc_code.specs.declared.fragments.Fragment.{Fragment}
use Rattle.lrc_code.specs.Places.{all_places, index_of, same_place}
use Rattle.lrc_code.specs.Requests.{AreSources, bytes_of}
use Rattle.lrc_code.specs.Survivors.{survivors_of}

-- bytes at each place, where those of one place are others
at_place_set : (q : Place) (b : List ℕ) (f : Place → List ℕ)
    → map (λ p. cond (same_place p q) b (f p)) all_places ≡ set (map f all_places) (index_of q) b
at_place_set X0 b f = refl
at_place_set X1 b f = refl
at_place_set X2 b f = refl
at_place_set Y0 b f = refl
at_place_set Y1 b f = refl
at_place_set Y2 b f = refl
at_place_set Px b f = refl
at_place_set Py b f = refl
at_place_set P0 b f = refl
at_place_set P1 b f = refl
at_place_set X3 b f = refl
at_place_set X4 b f = refl
at_place_set X5 b f = refl
at_place_set Y3 b f = refl
at_place_set Y4 b f = refl
at_place_set Y5 b f = refl

-- the sources of a list of fragments from one on, made from those after it
pub sources_more : (fs : List Fragment) (k : ℕ) (d : Fragment) (sources : List (Bor (List ℕ))) (one : Bor (List ℕ)) → k < length fs
    → one.now ≡ (get_or fs k d).bytes.items → AreSources (survivors_of (drop (k + 1) fs)) sources
    → AreSources (survivors_of (drop k fs)) (set sources (index_of (get_or fs k d).place) one)
sources_more fs k d sources one h e so_far =
    let f = get_or fs k d in
    map-set (λ (s : Bor (List ℕ)). s.now) sources (index_of f.place) one
    ∙ ap₂ (λ xs b. set xs (index_of f.place) b) so_far e
    ∙ sym (at_place_set f.place f.bytes.items (bytes_of (survivors_of (drop (k + 1) fs))))
    ∙ ap (λ xs. map (bytes_of (survivors_of xs)) all_places) (sym (drop_more fs k d h))
