-- The files of all racks, one rack more.
use Rattle.std.proofs.Common.{◌≡◌, ◌<◌, ◌≤◌, ◌+◌, ◌++◌, ◌∙◌, Vec, Global, ℕ, zero, suc, List, [], ◌∷◌, Option, length, map, take, get_or}
use Rattle.std.proofs.Common.{refl, sym, ap, arith, append_assoc}
use Rattle.std.specs.List.{AllZip}
use Rattle.std.proofs.lemmas.List.{append-nil, take_all, length-map, length-take, map_more}
use Rattle.lrc_code.specs.declared.outcomes.Outcome.{Outcome}
use Rattle.std.proofs.lemmas.Simd.{map-map}
use Rattle.farm_lists.specs.Requests.{RequestRead, read_of}
use Rattle.farm_reports.specs.Report.{fragment_digest}
use Rattle.farm_lists.specs.declared.requests.ReadRequest.{ReadRequest}
use Rattle.farm_reports.specs.Written.{answered_files, files_from}

pub all_zip-length : {A B : Type 0} (R : A → B → Type 0) (xs : List A) (ys : List B) → AllZip R xs ys → length ys ≡ length xs
all_zip-length R [] [] all = refl
all_zip-length R [] (y ∷ ys) all = absurd all
all_zip-length R (x ∷ xs) [] all = absurd all
all_zip-length R (x ∷ xs) (y ∷ ys) all = let rest = all_zip-length R xs ys all.1 in omega (arith, rest)

pub all_zip-at : {A B : Type 0} (R : A → B → Type 0) (xs : List A) (ys : List B) (i : ℕ) (d : A) (e : B) → i < length xs → AllZip R xs ys
    → R (get_or xs i d) (get_or ys i e)
all_zip-at R [] ys i d e within all = absurd (omega arith)
all_zip-at R (x ∷ xs) [] i d e within all = absurd all
all_zip-at R (x ∷ xs) (y ∷ ys) zero d e within all = all.0
all_zip-at R (x ∷ xs) (y ∷ ys) (suc i) d e within all = all_zip-at R xs ys i d e (omega arith) all.1

-- ---- what a rack's calls hand on

pub digests_alike : {A : Type 0} (outcome : A → Outcome) (rows : List A) (answers : List (ℕ × Outcome)) (digests : List (Option (List ℕ)))
    → map outcome rows ≡ map (λ a. a.1) answers
    → digests ≡ map (λ a. fragment_digest a.1) answers → digests ≡ map (λ r. fragment_digest (outcome r)) rows
digests_alike outcome rows answers digests same is =
    is ∙ sym (map-map fragment_digest (λ (a : ℕ × Outcome). a.1) answers) ∙ ap (map fragment_digest) (sym same)
    ∙ map-map fragment_digest outcome rows

-- ---- all racks

files_push : (k : ℕ) (racks : List (List (List RequestRead))) (os : List (List (ℕ × Outcome))) (r : List (List RequestRead))
    (o : List (ℕ × Outcome)) → length os ≡ length racks
    → files_from k (racks ++ r ∷ []) (os ++ o ∷ []) ≡ files_from k racks os ++ answered_files (k + length racks) r o
files_push k [] [] r o a = let same : k + 0 ≡ k = omega arith in rw same (append-nil (answered_files k r o))
files_push k [] (x ∷ os) r o a = absurd (omega arith)
files_push k (x ∷ racks) [] r o a = absurd (omega arith)
files_push k (x ∷ racks) (y ∷ os) r o a =
    let same : (k + 1) + length racks ≡ k + length (x ∷ racks) = omega arith in
    ap (λ t. answered_files k x y ++ t) (files_push (k + 1) racks os r o (omega arith))
    ∙ sym (append_assoc (answered_files k x y) (files_from (k + 1) racks os) (answered_files ((k + 1) + length racks) r o))
    ∙ ap (λ n. files_from k (x ∷ racks) (y ∷ os) ++ answered_files n r o) same

abbrev Feeds : Type 0
Feeds = Vec (Vec ReadRequest Global) Global

abbrev Answers : Type 0
Answers = Vec (ℕ × Outcome) Global

requests : Feeds → List (List RequestRead)
requests feeds = map (λ (rs : Vec ReadRequest Global). map read_of rs.items) feeds.items

outcomes : Answers → List (ℕ × Outcome)
outcomes o = o.items

pub files_step : (racks : List Feeds) (answers : List Answers) (i : ℕ) (feeds : Feeds) (o : Answers) (before after : List (List ℕ × List ℕ))
    → i < length racks → length answers ≡ length racks → feeds ≡ get_or racks i feeds → o ≡ get_or answers i o
    → before ≡ files_from 0 (map (λ fs. map (λ rs. map read_of rs.items) fs.items) (take i racks)) (map (λ v. v.items) (take i answers))
    → after ≡ before ++ answered_files i (map (λ rs. map read_of rs.items) feeds.items) o.items
    → after ≡ files_from 0 (map (λ fs. map (λ rs. map read_of rs.items) fs.items) (take (i + 1) racks))
    (map (λ v. v.items) (take (i + 1) answers))
unfolding requests outcomes
files_step racks answers i feeds o before after within sa ef eo so grew =
    let fs = map requests (take i racks) in
    let os = map outcomes (take i answers) in
    let size_f : length (map requests (take i racks)) ≡ i = omega (arith, length-map (take i racks) requests, length-take i racks) in
    let size_o : length (map outcomes (take i answers)) ≡ i = omega (arith, length-map (take i answers) outcomes, length-take i answers) in
    let more_f : map requests (take (i + 1) racks) ≡ fs ++ requests feeds ∷ [] =
    map_more requests racks i feeds within ∙ ap (λ x. fs ++ requests x ∷ []) (sym ef) in
    let more_o : map outcomes (take (i + 1) answers) ≡ os ++ o.items ∷ [] =
    map_more outcomes answers i o (omega (arith, sa)) ∙ ap (λ x. os ++ outcomes x ∷ []) (sym eo) in
    let front : 0 + length (map requests (take i racks)) ≡ i = omega (arith, size_f) in
    grew ∙ ap (λ t. t ++ answered_files i (requests feeds) o.items) so
    ∙ sym
    (ap (λ x. files_from 0 x (map outcomes (take (i + 1) answers))) more_f
    ∙ ap (λ x. files_from 0 (fs ++ requests feeds ∷ []) x) more_o
    ∙ files_push 0 fs os (requests feeds) o.items (size_o ∙ sym size_f)
    ∙ ap (λ n. files_from 0 fs os ++ answered_files n (requests feeds) o.items) front)

pub files_done : (racks : List Feeds) (answers : List Answers) (n : ℕ) (all : List (List ℕ × List ℕ)) → length racks ≤ n
    → length answers ≡ length racks
    → all ≡ files_from 0 (map (λ fs. map (λ rs. map read_of rs.items) fs.items) (take n racks)) (map (λ v. v.items) (take n answers))
    → all ≡ files_from 0 (map (λ fs. map (λ rs. map read_of rs.items) fs.items) racks) (map (λ v. v.items) answers)
unfolding requests outcomes
files_done racks answers n all past sa so =
    so ∙ ap (λ (x : List Feeds). files_from 0 (map requests x) (map outcomes (take n answers))) (take_all n racks past)
    ∙ ap (λ (x : List Answers). files_from 0 (map requests racks) (map outcomes x)) (take_all n answers (omega (arith, sa)))
