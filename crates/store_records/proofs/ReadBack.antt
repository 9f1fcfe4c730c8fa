-- A line that is written of a name and a digest says these.
use Rattle.std.proofs.Common.{◌≡◌, ◌∙◌, sym, ap, refl, subst, arith, inl, inr, ◌⊎◌, ℕ, ◌-◌, ◌/◌, ◌%◌, ◌<◌, ◌==◌}
use Rattle.std.proofs.Common.{suc, Bool, true, false, not, ◌&&◌, ◌||◌, List, [], ◌∷◌, ◌++◌, Option, Some, None, take, drop, length, codes}
use Rattle.std.proofs.Common.{append_assoc, length-append}
use Rattle.std.specs.Prelude.{if◌then◌else◌, nat_le, nat_lt, option_map, option_and_then, slice_index}
use Rattle.std.specs.Cmp.Lexicographic.{pointwise}
use Rattle.std.specs.List.{ends_with, list_all, list_any, starts_with}
use Rattle.std.specs.Result.{result_ok}
use Rattle.std.proofs.Math.Dec.{eqb}
use Rattle.std.proofs.Math.Seq.{drop-append_seam, take-append_seam}
use Rattle.std.proofs.lemmas.Bool.{and_parts, cases_Bool, eq-eqb, eqb-true, lt-leb, ne_eqb, not-true, or_parts}
use Rattle.std.proofs.lemmas.List.Folds.{list_all-append}
use Rattle.hex.specs.Hex.{IsBytes, encode_lower, encode_with, hex_digit_value, lower_digits}
use Rattle.hex.proofs.HexLemmas.{IsDigits-lower_digits, decode_pairs-encode_with, length-encode_with}
use Rattle.hex.proofs.Pairs.{decode_sized-pairs}
use Rattle.store_records.specs.Laws.{LinesAreWhole, LinesReadBack}
use Rattle.store_records.specs.ReadLines.{digest_of, is_separator, said_after, said_by, said_in, says_nothing, stands_for}
use Rattle.store_records.specs.ReadLines.{unescaped, unescaped_after, without_dot, without_return}
use Rattle.store_records.specs.SumLines.{escaped, escaped_byte, is_escaped, sum_text}

-- ---- one byte of a name

-- a byte that is written as it is
record IsPlain (x : ℕ) : Type 0 where
  written : escaped_byte x ≡ x ∷ []
  no_backslash : (x == 92) ≡ false
  no_return : (13 == x) ≡ false
  no_feed : (x == 10) ≡ false

-- a byte that is written as a backslash and another
record IsOther (x : ℕ) : Type 0 where
  second : ℕ
  written : escaped_byte x ≡ 92 ∷ second ∷ []
  meant : stands_for second ≡ Some x
  no_return : (13 == second) ≡ false
  no_feed : (second == 10) ≡ false

turned : (x n : ℕ) → (x == n) ≡ false → (n == x) ≡ false
turned x n differ = elim (cases_Bool (n == x)) as (λ _. (n == x) ≡ false) [
  | inl same ↦ absurd (let both : true ≡ false = sym (eq-eqb x n (sym (eqb-true n x same))) ∙ differ in cc)
  | inr other ↦ other
]

other : {x : ℕ} (second : ℕ) → escaped_byte x ≡ 92 ∷ second ∷ [] → stands_for second ≡ Some x → (13 == second) ≡ false
    → (second == 10) ≡ false → IsOther x
other second written meant no_return no_feed =
    record { second = second; written = written; meant = meant; no_return = no_return; no_feed = no_feed }

of_byte : (x : ℕ) → IsPlain x ⊎ IsOther x
of_byte x = elim (cases_Bool (x == 92)) [
  | inl is ↦ inr (subst IsOther (sym (eqb-true x 92 is)) (other 92 refl refl refl refl))
  | inr one ↦ elim (cases_Bool (x == 10)) [
    | inl is ↦ inr (subst IsOther (sym (eqb-true x 10 is)) (other 110 refl refl refl refl))
    | inr two ↦ elim (cases_Bool (x == 13)) [
      | inl is ↦ inr (subst IsOther (sym (eqb-true x 13 is)) (other 114 refl refl refl refl))
      | inr three ↦ inl (record { written = rw (one, two, three) refl; no_backslash = one; no_return = turned x 13 three; no_feed = two })
    ]
  ]
]

-- ---- an escaped name stands for the name

byte_back : (x : ℕ) (rest : List ℕ) → unescaped_after false (escaped_byte x ++ rest) ≡ option_map (λ n. x ∷ n) (unescaped_after false rest)
unfolding unescaped_after
byte_back x rest = elim (of_byte x) [
  | inl plain ↦ rw (plain.written, plain.no_backslash) refl
  | inr other ↦ rw (other.written, other.meant) refl
]

name_back : (name : List ℕ) → unescaped (escaped name) ≡ Some name
unfolding unescaped_after
name_back [] = refl
name_back (x ∷ name) = byte_back x (escaped name) ∙ ap (option_map (λ n. x ∷ n)) (name_back name)

plain_byte : (x : ℕ) → is_escaped x ≡ false → escaped_byte x ≡ x ∷ []
plain_byte x plain =
    let ends = or_parts (x == 92 || x == 10) (x == 13) plain in
    let begins = or_parts (x == 92) (x == 10) ends.0 in
    rw (begins.0, begins.1, ends.1) refl

plain_name : (name : List ℕ) → list_any is_escaped name ≡ false → escaped name ≡ name
plain_name [] plain = refl
plain_name (x ∷ name) plain =
    let parts = or_parts _ _ plain in
    ap (λ t. t ++ escaped name) (plain_byte x parts.0) ∙ ap (λ t. x ∷ t) (plain_name name parts.1)

-- ---- the end of a line

record HasEnd (text : List ℕ) : Type 0 where
  front : List ℕ
  last : ℕ
  is : text ≡ front ++ (last ∷ [])
  no_return : (13 == last) ≡ false

end_of : (x : ℕ) (name : List ℕ) → HasEnd (escaped (x ∷ name))
end_of x [] = elim (of_byte x) [
  | inl plain ↦ record { front = []; last = x; is = rw plain.written refl; no_return = plain.no_return }
  | inr other ↦ record { front = 92 ∷ []; last = other.second; is = rw other.written refl; no_return = other.no_return }
]
end_of x (y ∷ name) =
    let end = end_of y name in
    record {
      front = escaped_byte x ++ end.front;
      last = end.last;
      is = ap (λ t. escaped_byte x ++ t) end.is ∙ sym (append_assoc (escaped_byte x) end.front (end.last ∷ []));
      no_return = end.no_return;
    }

kept_end : (front : List ℕ) (last : ℕ) → (13 == last) ≡ false → without_return (front ++ (last ∷ [])) ≡ front ++ (last ∷ [])
kept_end front last differs =
    let line = front ++ (last ∷ []) in
    let at : length line - 1 ≡ length front = omega (arith, length-append front (last ∷ [])) in
    let tail : drop (length line - 1) line ≡ last ∷ [] = ap (λ n. drop n line) at ∙ drop-append_seam front (last ∷ []) in
    let none : ends_with eqb line (codes "\r") ≡ false = ap (pointwise eqb (13 ∷ [])) tail ∙ ap (λ b. b && true) differs in
    rw none refl

kept : (before text : List ℕ) → HasEnd text → without_return (before ++ text) ≡ before ++ text
kept before text end =
    let is : before ++ text ≡ (before ++ end.front) ++ (end.last ∷ [])
    = ap (λ t. before ++ t) end.is ∙ sym (append_assoc before end.front (end.last ∷ [])) in
    subst (λ t. without_return t ≡ t) (sym is) (kept_end (before ++ end.front) end.last end.no_return)

-- ---- the beginning of a line

record HasHead (text : List ℕ) : Type 0 where
  first : ℕ
  rest : List ℕ
  is : text ≡ first ∷ rest
  no_sign : (35 == first) ≡ false
  no_backslash : (92 == first) ≡ false

no_digit : (n h d : ℕ) → hex_digit_value n ≡ None → hex_digit_value h ≡ Some d → (n == h) ≡ false
no_digit n h d none some = elim (cases_Bool (n == h)) as (λ _. (n == h) ≡ false) [
  | inl same ↦ absurd (let both : None ≡ Some d = sym none ∙ ap hex_digit_value (eqb-true n h same) ∙ some in cc)
  | inr other ↦ other
]

head_of : (digest : List ℕ) → length digest ≡ 32 → IsBytes digest → HasHead (encode_lower digest)
unfolding encode_with
head_of [] long bytes = absurd (omega arith)
head_of (d ∷ digest) long bytes =
    let fits : d < 256 = bytes 0 in
    let low : d / 16 < 16 = omega arith in
    let value = IsDigits-lower_digits (d / 16) low in
    record {
      first = slice_index lower_digits (d / 16);
      rest = slice_index lower_digits (d % 16) ∷ encode_with lower_digits digest;
      is = refl;
      no_sign = no_digit 35 _ (d / 16) refl value;
      no_backslash = no_digit 92 _ (d / 16) refl value;
    }

something : (first : ℕ) (rest : List ℕ) → (35 == first) ≡ false → says_nothing (first ∷ rest) ≡ false
something first rest differs =
    let long : (length (first ∷ rest) == 0) ≡ false = ne_eqb _ _ (λ e. absurd (omega arith)) in
    rw (long, differs) refl

said_whole : (line : List ℕ) → without_return line ≡ line → says_nothing line ≡ false → said_in line ≡ said_by line
said_whole line same says = rw (same, says) refl

-- ---- the name without `./`

dotted : List ℕ → Bool
dotted text = starts_with eqb text (codes "./")

and_false : (b : Bool) → (b && false) ≡ false
and_false true = refl
and_false false = refl

after_first : (x : ℕ) (name : List ℕ) → dotted (x ∷ name) ≡ false → dotted (x ∷ escaped name) ≡ false
unfolding dotted
after_first x [] none = none
after_first x (y ∷ name) none = elim (of_byte y) [
  | inl plain ↦ rw plain.written none
  | inr other ↦ rw other.written (and_false (46 == x))
]

no_dot : (name : List ℕ) → dotted name ≡ false → dotted (escaped name) ≡ false
unfolding dotted
no_dot [] none = none
no_dot (x ∷ name) none = elim (of_byte x) [
  | inl plain ↦ rw plain.written (after_first x name none)
  | inr other ↦ rw other.written refl
]

-- ---- the parts of a line

digits_back : (digest : List ℕ) → length digest ≡ 32 → IsBytes digest → digest_of (encode_lower digest) ≡ Some digest
digits_back digest long bytes =
    let digits = length-encode_with lower_digits digest in
    ap result_ok (decode_sized-pairs (encode_lower digest) 32 (omega (arith, digits)) (omega (arith, digits))
    ∙ decode_pairs-encode_with lower_digits IsDigits-lower_digits 0 digest bytes)

said_parts : (is_escaped : Bool) (digits text : List ℕ) → length digits ≡ 64 → 0 < length text
    → said_after is_escaped ((digits ++ codes "  ") ++ text) ≡ option_and_then (λ digest. option_map (λ name. (name, digest))
    (if is_escaped then unescaped (without_dot text) else Some (without_dot text))) (digest_of digits)
said_parts is_escaped digits text long some =
    let before = digits ++ codes "  " in
    let line = before ++ text in
    let both : length before ≡ 66 = omega (arith, length-append digits (codes "  ")) in
    let longer : nat_le (length line) 66 ≡ false = lt-leb _ _ (omega (arith, length-append before text)) in
    let front : take 66 line ≡ before = ap (λ n. take n line) (sym both) ∙ take-append_seam before text in
    let back : drop 66 line ≡ text = ap (λ n. drop n line) (sym both) ∙ drop-append_seam before text in
    let separator : is_separator (drop 64 (take 66 line)) ≡ true
    = ap (λ t. is_separator (drop 64 t)) front ∙ ap (λ n. is_separator (drop n before)) (sym long)
    ∙ ap is_separator (drop-append_seam digits (codes "  ")) in
    let first : take 64 line ≡ digits
    = ap (λ n. take n line) (sym long) ∙ ap (take (length digits)) (append_assoc digits (codes "  ") text)
    ∙ take-append_seam digits (codes "  " ++ text) in
    rw (longer, separator, first, back) refl

-- ---- lines whose name is escaped, and those whose name is as it is

without_same : (text : List ℕ) → dotted text ≡ false → without_dot text ≡ text
unfolding dotted
without_same text none = rw none refl

long_enough : (text : List ℕ) → HasEnd text → 0 < length text
long_enough text end = omega (arith, ap length end.is, length-append end.front (end.last ∷ []))

abbrev joined : Option (List ℕ) → Option (List ℕ) → Option (List ℕ × List ℕ)
joined digest name = option_and_then (λ d. option_map (λ n. (n, d)) name) digest

taken : (read : Option (List ℕ)) (digits name digest : List ℕ) → digest_of digits ≡ Some digest → read ≡ Some name
    → joined (digest_of digits) read ≡ Some (name, digest)
taken read digits name digest of_digits is = rw (of_digits, is) refl

unmarked : (line : List ℕ) (first : ℕ) (rest : List ℕ) → line ≡ first ∷ rest → (92 == first) ≡ false → said_by line ≡ said_after false line
unmarked line first rest is differs =
    let none : starts_with eqb line (codes "\\") ≡ false = ap (λ t. starts_with eqb t (codes "\\")) is ∙ rw differs refl in
    rw none refl

module _ (x : ℕ) (others digest : List ℕ) (none : dotted (x ∷ others) ≡ false) (long : length digest ≡ 32) (bytes : IsBytes digest) where
  abbrev name : List ℕ
  name = x ∷ others

  abbrev text : List ℕ
  text = escaped name

  abbrev before : List ℕ
  before = encode_lower digest ++ codes "  "

  digits_long : length (encode_lower digest) ≡ 64
  digits_long = let digits = length-encode_with lower_digits digest in omega (arith, digits)

  of_escaped : said_in (92 ∷ (before ++ text)) ≡ Some (name, digest)
  of_escaped =
      let end = end_of x others in
      let read : unescaped (without_dot text) ≡ Some name = ap unescaped (without_same text (no_dot name none)) ∙ name_back name in
      said_whole (92 ∷ (before ++ text)) (kept (92 ∷ before) text end) (something 92 (before ++ text) refl)
      ∙ said_parts true (encode_lower digest) text digits_long (long_enough text end)
      ∙ taken (unescaped (without_dot text)) (encode_lower digest) name digest (digits_back digest long bytes) read

  of_plain : list_any is_escaped name ≡ false → said_in (before ++ text) ≡ Some (name, digest)
  of_plain plain =
      let end = end_of x others in
      let head = head_of digest long bytes in
      let begins : before ++ text ≡ head.first ∷ ((head.rest ++ codes "  ") ++ text) = ap (λ t. (t ++ codes "  ") ++ text) head.is in
      let read : Some (without_dot text) ≡ Some name = ap Some (without_same text (no_dot name none) ∙ plain_name name plain) in
      said_whole (before ++ text) (kept before text end)
      (ap says_nothing begins ∙ something head.first ((head.rest ++ codes "  ") ++ text) head.no_sign)
      ∙ unmarked (before ++ text) head.first ((head.rest ++ codes "  ") ++ text) begins head.no_backslash
      ∙ said_parts false (encode_lower digest) text digits_long (long_enough text end)
      ∙ taken (Some (without_dot text)) (encode_lower digest) name digest (digits_back digest long bytes) read

  abbrev begun : Bool → List ℕ
  begun escapes = (if escapes then codes "\\" else []) ++ encode_lower digest ++ codes "  " ++ text

  of_each : said_in (sum_text name digest) ≡ Some (name, digest)
  of_each = elim (cases_Bool (list_any is_escaped name)) [
    | inl some ↦ ap (λ b. said_in (begun b)) some ∙ of_escaped
    | inr plain ↦ ap (λ b. said_in (begun b)) plain ∙ of_plain plain
  ]

pub read_back : LinesReadBack
unfolding dotted
read_back [] digest sayable long bytes = cc
read_back (x ∷ others) digest sayable long bytes =
    let parts = and_parts (nat_lt 0 (length (x ∷ others))) (not (starts_with eqb (x ∷ others) (codes "./"))) sayable in
    of_each x others digest (not-true _ parts.1) long bytes

-- ---- no line feed is in a line

abbrev no_feeds : List ℕ → Bool
no_feeds text = list_all (λ byte. not (byte == 10)) text

and_true : (a b : Bool) → a ≡ true → b ≡ true → (a && b) ≡ true
and_true a b is also = rw (is, also) refl

joins : (xs ys : List ℕ) → no_feeds xs ≡ true → no_feeds ys ≡ true → no_feeds (xs ++ ys) ≡ true
joins xs ys first second = list_all-append (λ byte. not (byte == 10)) xs ys ∙ and_true _ _ first second

byte_whole : (x : ℕ) → no_feeds (escaped_byte x) ≡ true
byte_whole x = elim (of_byte x) [
  | inl plain ↦ rw (plain.written, plain.no_feed) refl
  | inr two ↦ rw (two.written, two.no_feed) refl
]

name_whole : (name : List ℕ) → no_feeds (escaped name) ≡ true
name_whole [] = refl
name_whole (x ∷ name) = joins (escaped_byte x) (escaped name) (byte_whole x) (name_whole name)

digits_whole : (digest : List ℕ) → IsBytes digest → no_feeds (encode_lower digest) ≡ true
unfolding encode_with
digits_whole [] bytes = refl
digits_whole (d ∷ digest) bytes =
    let fits : d < 256 = bytes 0 in
    let high : d / 16 < 16 = omega arith in
    let low : d % 16 < 16 = omega arith in
    let a = slice_index lower_digits (d / 16) in
    let b = slice_index lower_digits (d % 16) in
    let one = turned 10 a (no_digit 10 a (d / 16) refl (IsDigits-lower_digits (d / 16) high)) in
    let two = turned 10 b (no_digit 10 b (d % 16) refl (IsDigits-lower_digits (d % 16) low)) in
    and_true _ _ (ap not one) (and_true _ _ (ap not two) (digits_whole digest (λ k. bytes (suc k))))

mark_whole : (escapes : Bool) → no_feeds (if escapes then codes "\\" else []) ≡ true
mark_whole true = refl
mark_whole false = refl

pub whole : LinesAreWhole
whole name digest bytes =
    let first = (if list_any is_escaped name then codes "\\" else []) in
    joins ((first ++ encode_lower digest) ++ codes "  ") (escaped name)
    (joins (first ++ encode_lower digest) (codes "  ")
    (joins first (encode_lower digest) (mark_whole (list_any is_escaped name)) (digits_whole digest bytes)) refl)
    (name_whole name)
