-- What the texts of runs' names are made of has no `-` and no `@`, so that they can be cut in one way.
use Rattle.std.proofs.Common.{Decides, ◌≡◌, ◌∙◌, sym, ap, refl, subst, inl, inr, ◌⊎◌, ℕ, Bool, true, false, List, [], ◌∷◌, ◌++◌}
use Rattle.std.proofs.Common.{append_assoc, not, ◌==◌}
use Rattle.std.specs.List.{list_all}
use Rattle.std.specs.Char.{is_ascii_digit}
use Rattle.std.proofs.lemmas.Bool.{and_parts, both_ways, false≢true}
use Rattle.std.proofs.lemmas.List.{append_cancel_left}
use Rattle.std.proofs.lemmas.List.Folds.{list_all-append}
use Rattle.store_names.specs.Temporary.{is_digit}
use Rattle.store_names.specs.Texts.{IsAroundFirst, IsAroundLast, lacks}
use Rattle.store_names.specs.RunFiles.{IsPart, IsRun, IsRunIn, IsTag, IsBeforeRun, is_number, is_random}
use Rattle.store_names.specs.RunFiles.IsRunIn.{alone, later}
use Rattle.store_names.specs.RunFiles.IsTag.{of_part, of_run, of_both}
use Rattle.store_names.proofs.Marks.{first_same, last_same, lacks_kind, lacks_append, not_both}

pub never : {P : Type 0} → (P → ⊥) → Decides false P
never none = (λ yes. absurd (false≢true yes), λ p. absurd (none p))

-- ---- digits

pub digits_of : (text : List ℕ) → is_number text ≡ true → list_all is_ascii_digit text ≡ true
digits_of text is = (and_parts _ _ is).1

pub number_lacks_dash : (text : List ℕ) → is_number text ≡ true → lacks 45 text ≡ true
number_lacks_dash text is = lacks_kind is_ascii_digit 45 text refl (digits_of text is)

pub number_lacks_at : (text : List ℕ) → is_number text ≡ true → lacks 64 text ≡ true
number_lacks_at text is = lacks_kind is_ascii_digit 64 text refl (digits_of text is)

pub random_lacks_dash : (text : List ℕ) → is_random text ≡ true → lacks 45 text ≡ true
random_lacks_dash text is = lacks_kind is_digit 45 text refl (and_parts _ _ is).1

-- ---- two numbers

module _ (between text index rest : List ℕ) (at : IsAroundFirst 45 text index rest) where
  pub part_read : (p : IsPart between text) → (index ≡ p.index) × (rest ≡ between ++ p.of)
  part_read p = first_same 45 index p.index rest (between ++ p.of) at.first (number_lacks_dash p.index p.is_index) (sym at.is ∙ p.is)

  pub part_yes : (of : List ℕ) (b : Bool) → rest ≡ between ++ of → is_number index ≡ true → b ≡ is_number of
      → Decides b (IsPart between text)
  part_yes of b is number is_b = (
    λ yes. record {
      index = index;
      of = of;
      is = at.is ∙ ap (λ t. index ++ (45 ∷ t)) is;
      is_index = number;
      is_of = sym is_b ∙ yes;
    },
    λ p. is_b ∙ ap is_number (append_cancel_left between of p.of (sym is ∙ (part_read p).1)) ∙ p.is_of,
  )

  pub part_not_index : (b : Bool) → b ≡ is_number index → b ≡ false → Decides b (IsPart between text)
  part_not_index b is_b gone = (λ yes. absurd (both_ways b gone yes), λ p. is_b ∙ ap is_number (part_read p).0 ∙ p.is_index)

  pub part_not_between : ((of : List ℕ) → rest ≡ between ++ of → ⊥) → Decides false (IsPart between text)
  part_not_between none = never (λ p. none p.of (part_read p).1)

pub part_lacks_at : (text : List ℕ) → IsPart [] text → lacks 64 text ≡ true
part_lacks_at text p = ap (lacks 64) p.is ∙ lacks_append 64 p.index (45 ∷ p.of) (number_lacks_at p.index p.is_index)
    (number_lacks_at p.of p.is_of)

pub before_lacks_at : (text : List ℕ) → IsBeforeRun text → lacks 64 text ≡ true
before_lacks_at text (inl none) = ap (lacks 64) none
before_lacks_at text (inr part) = part_lacks_at text part

-- ---- a run

module _ (text process host : List ℕ) (at : IsAroundFirst 64 text process host) where
  run_read : (r : IsRun text) → (process ≡ r.process) × (host ≡ r.host)
  run_read r = first_same 64 process r.process host r.host at.first (number_lacks_at r.process r.is_process) (sym at.is ∙ r.is)

  pub run_yes : (is_host : List ℕ → Bool) → ((r : IsRun text) → is_host r.host ≡ true) → (b : Bool) → b ≡ is_host host
      → ((is_host host ≡ true) → IsRun text) → Decides b (IsRun text)
  run_yes is_host of b is_b made = (λ yes. made (sym is_b ∙ yes), λ r. is_b ∙ ap is_host (run_read r).1 ∙ of r)

  pub run_not_process : (b : Bool) → b ≡ is_number process → b ≡ false → Decides b (IsRun text)
  run_not_process b is_b gone = (λ yes. absurd (both_ways b gone yes), λ r. is_b ∙ ap is_number (run_read r).0 ∙ r.is_process)

-- ---- where a run begins

-- what is after the part, where the run is
pub after_part : (text left host part process rest : List ℕ) → text ≡ left ++ (64 ∷ host) → left ≡ part ++ (45 ∷ process)
    → text ≡ part ++ rest → rest ≡ 45 ∷ (process ++ (64 ∷ host))
after_part text left host part process rest is is_left is_rest = append_cancel_left part rest (45 ∷ (process ++ (64 ∷ host)))
    (sym is_rest ∙ is ∙ ap (λ t. t ++ (64 ∷ host)) is_left ∙ append_assoc part (45 ∷ process) (64 ∷ host))

pub later_in : (text left host part process rest run : List ℕ) → IsAroundFirst 64 text left host → IsAroundLast 45 left part process
    → text ≡ part ++ rest → rest ≡ 45 ∷ run → IsRunIn text part run
later_in text left host part process rest run at last is_rest is_run =
    let both : (45 ∷ run) ≡ (45 ∷ (process ++ (64 ∷ host))) = sym is_run
    ∙ after_part text left host part process rest at.is last.is is_rest in
    let lack = and_parts (lacks 64 part) (lacks 64 (45 ∷ process))
    (sym (list_all-append (λ byte. not (byte == 64)) part (45 ∷ process)) ∙ ap (lacks 64) (sym last.is) ∙ at.first) in
    later process host (is_rest ∙ ap (λ t. part ++ t) is_run) (append_cancel_left (45 ∷ []) run (process ++ (64 ∷ host)) both) lack.0
    (and_parts (not (45 == 64)) (lacks 64 process) lack.1).1 last.last

pub alone_in : (text left host : List ℕ) → IsAroundFirst 64 text left host → lacks 45 left ≡ true → IsRunIn text [] text
alone_in text left host at lack = alone left host at.is at.first lack refl refl

-- where a run is later in a text, what is before the first `@`
later_left : (text before run process host : List ℕ) → text ≡ before ++ (45 ∷ run) → run ≡ process ++ (64 ∷ host)
    → text ≡ (before ++ (45 ∷ process)) ++ (64 ∷ host)
later_left text before run process host is is_run =
    is ∙ ap (λ t. before ++ (45 ∷ t)) is_run ∙ sym (append_assoc before (45 ∷ process) (64 ∷ host))

pub run_in_has_at : (text before run : List ℕ) → IsRunIn text before run → lacks 64 text ≡ true → ⊥
run_in_has_at text before run (alone process host is _ _ _ _) lack = not_both 64 text process host is lack
run_in_has_at text before run (later process host is is_run _ _ _) lack =
    not_both 64 text (before ++ (45 ∷ process)) host (later_left text before run process host is is_run) lack

-- a run can be read in one way
pub run_in_same : (text a r b s : List ℕ) → IsRunIn text a r → IsRunIn text b s → (a ≡ b) × (r ≡ s)
run_in_same text a r b s (alone p h is l64 l45 none all) (alone q i is' k64 k45 none' all') = (none ∙ sym none', all ∙ sym all')
run_in_same text a r b s (alone p h is l64 l45 none all) (later q i is' is_run kb k64 k45) =
    let same = first_same 64 p (b ++ (45 ∷ q)) h i l64 (lacks_append 64 b (45 ∷ q) kb k64) (sym is ∙ later_left text b s q i is' is_run) in
    absurd (not_both 45 p b q same.0 l45)
run_in_same text a r b s (later p h is is_run la l64 l45) (alone q i is' k64 k45 none all) =
    let same = first_same 64 (a ++ (45 ∷ p)) q h i (lacks_append 64 a (45 ∷ p) la l64) k64 (sym (later_left text a r p h is is_run)
    ∙ is') in
    absurd (not_both 45 q a p (sym same.0) k45)
run_in_same text a r b s (later p h is is_run la l64 l45) (later q i is' is_run' kb k64 k45) =
    let same = first_same 64 (a ++ (45 ∷ p)) (b ++ (45 ∷ q)) h i (lacks_append 64 a (45 ∷ p) la l64) (lacks_append 64 b (45 ∷ q) kb k64)
    (sym (later_left text a r p h is is_run) ∙ later_left text b s q i is' is_run') in
    let parts = last_same 45 a b p q l45 k45 same.0 in (
      parts.0,
      is_run ∙ ap (λ t. t ++ (64 ∷ h)) parts.1 ∙ ap (λ t. q ++ (64 ∷ t)) same.1 ∙ sym is_run',
    )

-- where a text has the form of a run, the run in it is all of it
pub run_is_alone : (text : List ℕ) → IsRun text → IsRunIn text [] text
run_is_alone text r = alone r.process r.host r.is (number_lacks_at r.process r.is_process)
    (number_lacks_dash r.process r.is_process) refl refl

pub run_is_later : (text before run : List ℕ) → text ≡ before ++ (45 ∷ run) → lacks 64 before ≡ true → IsRun run → IsRunIn text before run
run_is_later text before run is lack r = later r.process r.host is r.is lack (number_lacks_at r.process r.is_process)
    (number_lacks_dash r.process r.is_process)

-- ---- a tag

-- a tag is a part, or it says a run after one or alone
pub tag_says : (text : List ℕ) → IsTag text → IsPart [] text
    ⊎ ((before : List ℕ) × (run : List ℕ) × IsRunIn text before run × IsBeforeRun before × IsRun run)
tag_says text (of_part part) = inl part
tag_says text (of_run run) = inr ([], text, run_is_alone text run, inl refl, run)
tag_says text (of_both part run is before says) = inr (
  part,
  run,
  run_is_later text part run is
      (before_lacks_at part before) says,
  before,
  says,
)

said : (text before run : List ℕ) → IsRunIn text before run → IsBeforeRun before → IsRun run → IsTag text
said text before run (alone _ _ _ _ _ _ all) first says = of_run (subst IsRun all says)
said text before run (later _ _ is _ _ _ _) first says = of_both before run is first says

module _ (text before run : List ℕ) (in_it : IsRunIn text before run) where
  says_parts : IsTag text → IsBeforeRun before × IsRun run
  says_parts tag = elim (tag_says text tag) [
    | inl part ↦ absurd (run_in_has_at text before run in_it (part_lacks_at text part))
    | inr says ↦ let same = run_in_same text says.0 says.1 before run says.2 in_it in
        (subst IsBeforeRun same.0 says.3, subst IsRun same.1 says.4)
  ]

  pub tag_yes : (b : Bool) → IsBeforeRun before → Decides b (IsRun run) → Decides b (IsTag text)
  tag_yes b first tells = (λ yes. said text before run in_it first (tells.0 yes), λ tag. tells.1 (says_parts tag).1)

  pub tag_not_before : (b : Bool) → Decides b (IsBeforeRun before) → b ≡ false → Decides b (IsTag text)
  tag_not_before b tells gone = (λ yes. absurd (both_ways b gone yes), λ tag. tells.1 (says_parts tag).0)
