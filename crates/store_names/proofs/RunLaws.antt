-- The files of runs are apart from all others.
use Rattle.std.proofs.Common.{◌≡◌, ◌∙◌, sym, ap, refl, inl, inr, ℕ, ◌<◌, ◌-◌, ◌^◌, arith, true, false, not, ◌&&◌, List, [], ◌∷◌, ◌++◌}
use Rattle.std.proofs.Common.{codes, length, drop, get_or, append_assoc, length-append, ◌==◌}
use Rattle.std.specs.List.{list_all, starts_with, onto_first}
use Rattle.std.specs.Char.{is_ascii_digit}
use Rattle.std.specs.Fmt.{decimal}
use Rattle.std.proofs.Math.Dec.{eqb}
use Rattle.std.proofs.lemmas.Bool.{and_parts, and_from, and_right, both_ways, eqb-true, lt-ltb, not-true}
use Rattle.std.proofs.lemmas.Fmt.{decimal_injective, decimal_nonempty}
use Rattle.std.proofs.lemmas.List.{append_cancel_left}
use Rattle.std.proofs.lemmas.List.Prefix.{end_rest}
use Rattle.std.proofs.lemmas.List.Splits.{slice_split-cons_no}
use Rattle.store_names.specs.Temporary.{ends_in_digits, is_digit, is_free, is_unfinished, parts}
use Rattle.store_names.specs.Texts.{lacks}
use Rattle.store_names.specs.Names.{is_below, is_for_fragments, is_second}
use Rattle.store_names.specs.RunFiles.{IsBeforeRun, IsLeftBy, IsOfTag, IsOfUnfinished, IsOwn, IsPart, IsRun, IsTag}
use Rattle.store_names.specs.RunFiles.{is_number, is_of_host, is_random, tag_of}
use Rattle.store_names.specs.RunFiles.IsOwn.{own_digits, own_of_run}
use Rattle.store_names.specs.RunFiles.IsTag.{of_part, of_run, of_both}
use Rattle.store_names.specs.RunFiles.IsOfUnfinished.{bare, tagged}
use Rattle.store_names.specs.RunLaws.{EachLeavesOnlyItsOwn, LockIsWhole, UnfinishedIsNoFragment}
use Rattle.store_names.proofs.Free.{free_in}
use Rattle.store_names.proofs.Marks.{first_same, lacks_append, lacks_kind}
use Rattle.store_names.proofs.Numbers.{all_digits, number_of}
use Rattle.store_names.proofs.RunTexts.{digits_of}

-- ---- a lock is no unfinished file, since what follows `.rebuild-store-` in its name begins with a `p`

number_begins : (text more rest : List ℕ) (x : ℕ) → is_number text ≡ true → text ++ more ≡ x ∷ rest → is_ascii_digit x ≡ true
number_begins [] more rest x is same = cc
number_begins (y ∷ text) more rest x is same =
    let first : y ≡ x = cc in ap is_ascii_digit (sym first) ∙ (and_parts _ _ (digits_of (y ∷ text) is)).0

no_p_first : (text more rest : List ℕ) → is_number text ≡ true → text ++ more ≡ 112 ∷ rest → ⊥
no_p_first text more rest is same = both_ways (is_ascii_digit 112) refl (number_begins text more rest 112 is same)

no_p_digits : (text rest : List ℕ) → is_random text ≡ true → text ≡ 112 ∷ rest → ⊥
no_p_digits text rest is same = both_ways (list_all is_digit (112 ∷ rest)) refl (sym (ap (list_all is_digit) same) ∙ (and_parts _ _ is).1)

part_no_p : (text more rest : List ℕ) → IsPart [] text → text ++ more ≡ 112 ∷ rest → ⊥
part_no_p text more rest part same = no_p_first part.index ((45 ∷ part.of) ++ more) rest part.is_index
    (sym (append_assoc part.index (45 ∷ part.of) more) ∙ ap (λ t. t ++ more) (sym part.is) ∙ same)

run_no_p : (text more rest : List ℕ) → IsRun text → text ++ more ≡ 112 ∷ rest → ⊥
run_no_p text more rest run same = no_p_first run.process ((64 ∷ run.host) ++ more) rest run.is_process
    (sym (append_assoc run.process (64 ∷ run.host) more) ∙ ap (λ t. t ++ more) (sym run.is) ∙ same)

dash_no_p : (text rest : List ℕ) → (45 ∷ text) ≡ (112 ∷ rest) → ⊥
dash_no_p text rest same = let first : 45 ≡ 112 = ap (λ (t : List ℕ). get_or t 0 0) same in omega (arith, first)

tag_no_p : (tag more rest : List ℕ) → IsTag tag → tag ++ more ≡ 112 ∷ rest → ⊥
tag_no_p tag more rest (of_part part) same = part_no_p tag more rest part same
tag_no_p tag more rest (of_run run) same = run_no_p tag more rest run same
tag_no_p tag more rest (of_both part run is (inl none) says) same = dash_no_p (run ++ more) rest
    (ap (λ t. t ++ (45 ∷ (run ++ more))) (sym none) ∙ sym (append_assoc part (45 ∷ run) more) ∙ ap (λ t. t ++ more) (sym is) ∙ same)
tag_no_p tag more rest (of_both part run is (inr first) says) same = part_no_p part ((45 ∷ run) ++ more) rest first
    (sym (append_assoc part (45 ∷ run) more) ∙ ap (λ t. t ++ more) (sym is) ∙ same)

pub no_lock_unfinished : LockIsWhole
no_lock_unfinished name lock (bare digits is random) = no_p_digits digits _ random
    (append_cancel_left (codes ".rebuild-store-") digits (codes "part-" ++ lock.part) (sym is ∙ lock.is))
no_lock_unfinished name lock (tagged tag digits is says random) = tag_no_p tag (45 ∷ digits) _ says
    (append_cancel_left (codes ".rebuild-store-") (tag ++ (45 ∷ digits)) (codes "part-" ++ lock.part) (sym is ∙ lock.is))

-- ---- what a run of a part may have left

with_tag : (tag name : List ℕ) → 0 < length tag → IsLeftBy tag name → IsOfTag tag name
with_tag [] name some left = absurd (omega arith)
with_tag (x ∷ tag) name some left = left

of_tag : (index of : ℕ) (name : List ℕ) → IsLeftBy (tag_of index of) name → IsOfTag (tag_of index of) name
of_tag index of name left = with_tag (tag_of index of) name (omega (
  arith,
  length-append (decimal index) (45 ∷ (decimal of ++
      (45 ∷ []))),
)) left

-- the tag, and what follows it, with the numbers apart
tag_apart : (index of : ℕ) (own : List ℕ) → tag_of index of ++ own ≡ decimal index ++ (45 ∷ (decimal of ++ (45 ∷ own)))
tag_apart index of own = append_assoc (decimal index) (45 ∷ (decimal of ++ (45 ∷ []))) own
    ∙ ap (λ t. decimal index ++ (45 ∷ t)) (append_assoc (decimal of) (45 ∷ []) own)

lacks_dash : (n : ℕ) → n < 2 ^ 64 → lacks 45 (decimal n) ≡ true
lacks_dash n fits = lacks_kind is_ascii_digit 45 (decimal n) refl (all_digits n fits)

same_part : (i n j m : ℕ) (own other : List ℕ) → i < 2 ^ 64 → n < 2 ^ 64 → j < 2 ^ 64 → m < 2 ^ 64
    → tag_of i n ++ own ≡ tag_of j m ++ other → (j ≡ i) × (m ≡ n)
same_part i n j m own other fi fn fj fm is =
    let index = first_same 45 (decimal i) (decimal j) (decimal n ++ (45 ∷ own)) (decimal m ++ (45 ∷ other)) (lacks_dash i fi)
    (lacks_dash j fj)
    (sym (tag_apart i n own) ∙ is ∙ tag_apart j m other) in
    let of = first_same 45 (decimal n) (decimal m) own other (lacks_dash n fn) (lacks_dash m fm) index.1 in
    (decimal_injective j i fj fi (sym index.0), decimal_injective m n fm fn (sym of.0))

part_of : (index of : ℕ) → 0 < index → 0 < of → index < 2 ^ 64 → of < 2 ^ 64 → IsPart [] (decimal index ++ (45 ∷ decimal of))
part_of index of some more fits fit = record {
  index = decimal index;
  of = decimal of;
  is = refl;
  is_index = number_of index some fits;
  is_of = number_of of more fit;
}

own_is : (name part own : List ℕ) → IsPart [] part → name ≡ codes ".rebuild-store-" ++ (part ++ (45 ∷ own)) → IsOwn own
    → IsOfUnfinished name
own_is name part own is_part is (own_digits random) = tagged part own is (of_part is_part) random
own_is name part own is_part is (own_of_run run digits is_own says random) = tagged (part ++ (45 ∷ run)) digits
    (is ∙ ap (λ t. codes ".rebuild-store-" ++ (part ++ (45 ∷ t))) is_own
    ∙ ap (λ t. codes ".rebuild-store-" ++ t) (sym (append_assoc part (45 ∷ run) (45 ∷ digits))))
    (of_both part run refl (inr is_part) says) random

no_p_tag : (index of : ℕ) (own rest : List ℕ) → index < 2 ^ 64 → tag_of index of ++ own ≡ 112 ∷ rest → ⊥
no_p_tag index of own rest fits is = first (decimal index) (decimal_nonempty index fits) (all_digits index fits) (sym
    (tag_apart index of own) ∙ is) where
      first : (text : List ℕ) → 0 < length text → list_all is_ascii_digit text ≡ true → text ++ (45 ∷ (decimal of ++ (45 ∷ own)))
          ≡ 112 ∷ rest → ⊥
      first [] some digits same = absurd (omega arith)
      first (x ∷ text) some digits same =
          let p : x ≡ 112 = cc in both_ways (is_ascii_digit 112) refl (ap is_ascii_digit (sym p) ∙ (and_parts _ _ digits).0)

pub each_its_own : EachLeavesOnlyItsOwn
each_its_own index of fits fit = record {
  unfinished = λ some more name left. let file = of_tag index of name left in
      own_is name (decimal index ++ (45 ∷ decimal of)) file.own (part_of index of some more fits fit)
      (file.is ∙ ap (λ t. codes ".rebuild-store-" ++ t) (tag_apart index of file.own
      ∙ sym (append_assoc (decimal index) (45 ∷ decimal of) (45 ∷ file.own)))) file.is_own;
  no_lock = λ name left lock. let file = of_tag index of name left in
      no_p_tag index of file.own _ fits
      (append_cancel_left (codes ".rebuild-store-") (tag_of index of ++ file.own) (codes "part-" ++ lock.part) (sym file.is ∙ lock.is));
  no_other = λ other others less lesser name left right.
      let file = of_tag index of name left in
      let second = of_tag other others name right in
      same_part index of other others file.own second.own fits fit less lesser
      (append_cancel_left (codes ".rebuild-store-") (tag_of index of ++ file.own) (tag_of other others ++ second.own)
      (sym file.is ∙ second.is));
}

-- ---- no fragment has an unfinished file's name

number_lacks_slash : (text : List ℕ) → is_number text ≡ true → lacks 47 text ≡ true
number_lacks_slash text is = lacks_kind is_ascii_digit 47 text refl (digits_of text is)

random_lacks_slash : (text : List ℕ) → is_random text ≡ true → lacks 47 text ≡ true
random_lacks_slash text is = lacks_kind is_digit 47 text refl (and_parts _ _ is).1

part_lacks_slash : (text : List ℕ) → IsPart [] text → lacks 47 text ≡ true
part_lacks_slash text part = ap (lacks 47) part.is ∙ lacks_append 47 part.index (45 ∷ part.of) (number_lacks_slash part.index part.is_index)
    (number_lacks_slash part.of part.is_of)

run_lacks_slash : (text : List ℕ) → IsRun text → lacks 47 text ≡ true
run_lacks_slash text run = ap (lacks 47) run.is ∙ lacks_append 47 run.process (64 ∷ run.host)
    (number_lacks_slash run.process run.is_process)
    (lacks_kind is_of_host 47 run.host refl (and_parts _ _ run.is_host).1)

before_lacks_slash : (text : List ℕ) → IsBeforeRun text → lacks 47 text ≡ true
before_lacks_slash text (inl none) = ap (lacks 47) none
before_lacks_slash text (inr part) = part_lacks_slash text part

tag_lacks_slash : (tag : List ℕ) → IsTag tag → lacks 47 tag ≡ true
tag_lacks_slash tag (of_part part) = part_lacks_slash tag part
tag_lacks_slash tag (of_run run) = run_lacks_slash tag run
tag_lacks_slash tag (of_both part run is first says) =
    ap (lacks 47) is ∙ lacks_append 47 part (45 ∷ run) (before_lacks_slash part first) (run_lacks_slash run says)

-- an unfinished file's name, with its digits
record Ends (name : List ℕ) : Type 0 where
  front : List ℕ
  digits : List ℕ
  is : name ≡ codes ".rebuild-store-" ++ (front ++ digits)
  is_digits : is_random digits ≡ true
  alone : lacks 47 name ≡ true

ends_of : (name : List ℕ) → IsOfUnfinished name → Ends name
ends_of name (bare digits is random) = record {
  front = [];
  digits = digits;
  is = is;
  is_digits = random;
  alone = ap (lacks 47) is ∙ lacks_append 47 (codes ".rebuild-store-") digits refl (random_lacks_slash digits random);
}
ends_of name (tagged tag digits is says random) = record {
  front = tag ++ (45 ∷ []);
  digits = digits;
  is = is ∙ ap (λ t. codes ".rebuild-store-" ++ t) (sym (append_assoc tag (45 ∷ []) digits));
  is_digits = random;
  alone = ap (lacks 47) is ∙ lacks_append 47 (codes ".rebuild-store-") (tag ++ (45 ∷ digits)) refl
      (lacks_append 47 tag (45 ∷ digits) (tag_lacks_slash tag says) (random_lacks_slash digits random));
}

random_end : (front digits : List ℕ) → is_random digits ≡ true → ends_in_digits (front ++ digits) ≡ true
random_end front digits random =
    let long : length digits ≡ 16 = eqb-true _ _ (and_parts _ _ random).0 in
    let whole = length-append front digits in
    let at : drop (length (front ++ digits) - 16) (front ++ digits) ≡ digits =
    ap (λ n. drop (length (front ++ digits) - n) (front ++ digits))
    (sym long) ∙ end_rest (front ++ digits) digits front refl in
    and_from _ _ (lt-ltb 15 (length (front ++ digits)) (omega (arith, long, whole))) (ap (list_all is_digit) at ∙ (and_parts _ _ random).1)

pub unfinished_is : (name : List ℕ) → IsOfUnfinished name → is_unfinished name ≡ true
unfinished_is name file =
    let ends = ends_of name file in
    let split : name ≡ (codes ".rebuild-store-" ++ ends.front) ++ ends.digits
    = ends.is ∙ sym (append_assoc (codes ".rebuild-store-") ends.front ends.digits) in
    and_from _ _ (ap (λ t. starts_with eqb t (codes ".rebuild-store-")) ends.is ∙ begins (ends.front ++ ends.digits))
    (ap ends_in_digits split ∙ random_end (codes ".rebuild-store-" ++ ends.front) ends.digits ends.is_digits) where
      begins : (rest : List ℕ) → starts_with eqb (codes ".rebuild-store-" ++ rest) (codes ".rebuild-store-") ≡ true
      begins rest = refl

-- a text without a '/' is the one part of itself
one_part : (text : List ℕ) → lacks 47 text ≡ true → parts text ≡ text ∷ []
one_part [] lack = refl
one_part (x ∷ text) lack = slice_split-cons_no (λ byte. byte == 47) x text (not-true _ (and_parts _ _ lack).0)
    ∙ ap (onto_first x) (one_part text (and_parts _ _ lack).1)

not_free : (name : List ℕ) → IsOfUnfinished name → is_free name ≡ false
not_free name file = ap (list_all (λ part. not (is_unfinished part))) (one_part name (ends_of name file).alone)
    ∙ ap (λ b. not b && true) (unfinished_is name file)

pub no_fragment_unfinished : UnfinishedIsNoFragment
no_fragment_unfinished p code stripe place name file = (
  λ made. both_ways (is_free name) (not_free name file) (free_of name made.may_be),
  λ folder made. both_ways (is_free (folder ++ (47 ∷ name))) (free_in folder name
      ∙ and_right (is_free folder) (is_free name) (not_free name file))
      (free_of (folder ++ (47 ∷ name)) made.may_be),
) where
  free_of : (path : List ℕ) → is_for_fragments path ≡ true → is_free path ≡ true
  free_of path is = (and_parts (is_below path) (is_free path) (and_parts (is_below path && is_free path) (not (is_second path)) is).0).1
