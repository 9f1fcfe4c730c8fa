-- What copies say, and how many of them.
use Rattle.std.proofs.Common.{◌≡◌, ◌≢◌, ◌∙◌, refl, sym, ap, subst, rules, arith, ℕ}
use Rattle.std.proofs.Common.{◌+◌, ◌*◌, ◌<◌, ◌≤◌, Bool, true, false, List, [], ◌∷◌, take, length, cond, get_or, zero-add}
use Rattle.std.specs.Prelude.{count_by}
use Rattle.std.specs.List.{All, Contains}
use Rattle.std.specs.Str.{bytes_eq}
use Rattle.std.proofs.lemmas.Bool.{and_parts, eqb-true}
use Rattle.std.proofs.lemmas.List.{take_all}
use Rattle.std.proofs.lemmas.List.Elements.{All-contains, All-head, All-more, All-same, All-tail, All-weaker}
use Rattle.std.proofs.lemmas.List.Sums.{sum_by-cons}
use Rattle.std.proofs.lemmas.Slice.Eq.{bytes_eq-Decides}
use Rattle.lrc_code.specs.declared.codes.Code.{Code as CodeName}
use Rattle.lrc_code.specs.declared.codes.Code.TheVariants.{Narrow, Wide}
use Rattle.store_records.specs.declared.descriptions.Described.{Described}
use Rattle.store_faults.specs.declared.copies.Copies.{Copies}
use Rattle.store_faults.specs.declared.copies.CopyState.{CopyState}
use Rattle.store_faults.specs.declared.copies.CopyState.TheVariants.{There}
use Rattle.store_faults.specs.declared.copies.FoundCopy.{FoundCopy}
use Rattle.store_faults.specs.Copies.{IsSaidByMost, IsSaidWith, agreeing, readable, same, same_code, says}

code_same : (a b : CodeName) → same_code a b ≡ true → a ≡ b
code_same Narrow Narrow is = search rules
code_same Wide Wide is = search rules
code_same Narrow Wide is = cc
code_same Wide Narrow is = cc

abbrev described : ℕ → List ℕ → CodeName → Described
described length digest code = record { length = length; digest = digest; code = code }

pub described_same : (a b : Described) → same a b ≡ true → a ≡ b
described_same a b is =
    let parts = and_parts _ _ is in
    let rest = and_parts _ _ parts.1 in
    let length : a.length ≡ b.length = eqb-true _ _ parts.0 in
    let digest : a.digest ≡ b.digest = (bytes_eq-Decides a.digest b.digest).0 rest.0 in
    let code : a.code ≡ b.code = code_same a.code b.code rest.1 in
    ap (λ n. described n a.digest a.code) length ∙ ap (λ d. described b.length d a.code) digest
    ∙ ap (λ k. described b.length b.digest k) code

pub says_only : (state : CopyState) (a b : Described) (digest : List ℕ) → state ≡ There a digest → says state b ≡ true → a ≡ b
says_only state a b digest is said = described_same a b (sym (ap (λ s. says s b) is) ∙ said)

count_none : {X : Type 0} (p : X → Bool) (xs : List X) → All (λ x. p x ≡ false) xs → count_by p xs ≡ 0
count_none p [] none = search rules
count_none p (x ∷ xs) none =
    let first : p x ≡ false = All-head (λ y. p y ≡ false) x xs none in
    let rest : count_by p xs ≡ 0 = count_none p xs (All-tail (λ y. p y ≡ false) x xs none) in
    let one : cond {A = ℕ} (p x) 1 0 ≡ 0 = ap (λ b. cond {A = ℕ} b 1 0) first in
    sum_by-cons (λ y. cond {A = ℕ} (p y) 1 0) x xs ∙ ap (λ n. n + count_by p xs) one ∙ zero-add (count_by p xs) ∙ rest

-- a copy has another digest, or is no description
abbrev pub HasOther : List ℕ → FoundCopy → Type 0
HasOther digest copy = (described : Described) → copy.state ≢ There described digest

-- what a copy says isn't what most copies say
abbrev pub IsOfFew : Copies → FoundCopy → Type 0
IsOfFew copies copy = (described : Described) → says copy.state described ≡ true → 2 * agreeing copies described ≤ readable copies

-- what holds of all copies up to a place, and of the copy there
pub more : (P : FoundCopy → Type 0) (items all : List FoundCopy) (i : ℕ) (copy : FoundCopy) → items ≡ all → i < length items
    → copy ≡ get_or items i copy → All P (take i all) → P copy → All P (take (i + 1) all)
more P items all i copy same within is some here =
    All-more P all i copy (subst (λ l. i < length l) same within) some (subst P (is ∙ ap (λ l. get_or l i copy) same) here)

pub contains : (items all : List FoundCopy) (i : ℕ) (copy : FoundCopy) → items ≡ all → i < length items → copy ≡ get_or items i copy
    → Contains all copy
contains items all i copy same within is =
    (i, subst (λ l. i < length l) same within, sym (is ∙ ap (λ l. get_or l i copy) same))

pub other_digest : (state : CopyState) (a d : Described) (other digest : List ℕ) → state ≡ There a other → bytes_eq other digest ≡ false
    → state ≡ There d digest → ⊥
other_digest state a d other digest is differ also =
    let equal : other ≡ digest = cc in
    let both : true ≡ false = sym ((bytes_eq-Decides other digest).1 equal) ∙ differ in
    cc

-- what holds of all copies up to a place that is past the last one
pub of_all : (P : FoundCopy → Type 0) (copies : Copies) (i : ℕ) → length copies.all.items ≤ i → All P (take i copies.all.items)
    → All P copies.all.items
of_all P copies i past some = All-same P _ _ (sym (take_all i copies.all.items past)) some

pub none_with : (copies : Copies) (digest : List ℕ) → All (HasOther digest) copies.all.items
    → (described : Described) → ¬ (IsSaidWith copies digest described)
none_with copies digest none described = λ said.
    All-contains (HasOther digest) copies.all.items said.0 none said.1 described said.2

refuted : (b : Bool) (P : Type 0) → (b ≡ true → P) → (P → ⊥) → b ≡ false
refuted true P shows denies = absurd (denies (shows refl))
refuted false P shows denies = refl

pub none_by_most : (copies : Copies) → All (IsOfFew copies) copies.all.items → (described : Described) → ¬ (IsSaidByMost copies described)
none_by_most copies few described = λ most.
    let none : agreeing copies described ≡ 0
    = count_none (λ (copy : FoundCopy). says copy.state described) copies.all.items
    (All-weaker (IsOfFew copies) (λ (copy : FoundCopy). says copy.state described ≡ false)
    (λ copy one. refuted (says copy.state described) _ (one described) (λ le. absurd (omega arith))) copies.all.items few) in
    absurd (omega arith)
