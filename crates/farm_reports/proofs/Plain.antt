-- The fields of a report call for no quotes.
use Rattle.std.proofs.Common.{◌≡◌, ◌<◌, ◌≤◌, ◌++◌, ◌∙◌, ◌^◌, ◌/◌, ◌%◌, ℕ, zero, suc, Bool, true, false, cond, List, [], ◌∷◌, Option, Some}
use Rattle.std.proofs.Common.{None, length, get_or, map, decimal, refl, ap, arith}
use Rattle.std.specs.Prelude.{nat_le, not, ◌==◌, ◌&&◌, ◌||◌}
use Rattle.std.specs.List.{AllByRecursion, join_with_byte, list_all, list_any}
use Rattle.std.specs.Str.Parse.{AllDigits}
use Rattle.std.proofs.lemmas.List.{append-nil}
use Rattle.std.proofs.lemmas.List.Folds.{list_any-append}
use Rattle.std.proofs.lemmas.Str.Parse.{digit_from_value}
use Rattle.std.proofs.lemmas.Fmt.{decimal_is_IsNumeral}
use Rattle.csv.specs.Writing.{default_writer, field_text, fields_text, is_blank, needs_byte, needs_quotes, row_text}
use Rattle.hex.specs.Hex.{encode_with, lower_digits}
use Rattle.sha2.specs.Sha256.{sha256}
use Rattle.lrc_code.specs.declared.places.Place.{Place}
use Rattle.lrc_code.specs.declared.places.Place.TheVariants as place
use Rattle.lrc_code.specs.declared.outcomes.Outcome.{Outcome}
use Rattle.lrc_code.specs.declared.outcomes.Outcome.TheVariants as outcome
use Rattle.lrc_code.specs.declared.requests.RequestFault.{RequestFault}
use Rattle.lrc_code.specs.declared.requests.RequestFault.TheVariants as fault
use Rattle.lrc_code.specs.declared.codes.Code.{Code as CodeName}
use Rattle.lrc_code.specs.declared.codes.Code.TheVariants.{Narrow, Wide}
use Rattle.lrc_code.specs.Codes.{code_text}
use Rattle.lrc_code.specs.Places.{name_of}
use Rattle.lrc_code.specs.Requests.{is_name, is_name_byte}
use Rattle.farm_lists.specs.Listed.{ListedRequest, listed_refusal}
use Rattle.farm_reports.specs.declared.report.ReportShape.{ReportShape}
use Rattle.farm_reports.specs.Report.{Row, digest_text, field_if, fragment_digest, outcome_name, report_fields, report_line}
use Rattle.farm_lists.proofs.RecordFields.{and_left, and_right}

-- a field that calls for no quotes
abbrev pub IsPlain : List ℕ → Type 0
IsPlain f = needs_quotes default_writer f ≡ false

abbrev pub ArePlain : List (List ℕ) → Type 0
ArePlain fields = AllByRecursion (λ f. IsPlain f) fields

body : (f : List ℕ) (fs : List (List ℕ)) → ArePlain (f ∷ fs)
    → field_text default_writer f ++ fields_text default_writer fs ≡ join_with_byte 44 (f ∷ fs)
unfolding fields_text
body f [] plain = rw (plain.0) (append-nil f)
body f (g ∷ gs) plain = rw (plain.0) (ap (λ t. f ++ 44 ∷ t) (body g gs plain.1))

pub plain_row : (fs : List (List ℕ)) → 1 < length fs → ArePlain fs → row_text default_writer fs ≡ report_line fs
unfolding is_blank fields_text
plain_row [] several plain = absurd (omega arith)
plain_row (f ∷ []) several plain = absurd (omega arith)
plain_row (f ∷ g ∷ fs) several plain = ap (λ t. t ++ 10 ∷ []) (body f (g ∷ fs) plain)

-- ---- the bytes of the fields

differs : (b k : ℕ) → k < b → (b == k) ≡ false
differs b k h = grind arith

-- all bytes from the minus on
high : (b : ℕ) → 45 ≤ b → needs_byte default_writer b ≡ false
high b h = rw (differs b 44 (omega arith), differs b 34 (omega arith), differs b 13 (omega arith), differs b 10 (omega arith)) refl

plain_cons : (b : ℕ) (f : List ℕ) → needs_byte default_writer b ≡ false → IsPlain f → IsPlain (b ∷ f)
plain_cons b f h p = rw h p

plain_append : (f g : List ℕ) → IsPlain f → IsPlain g → IsPlain (f ++ g)
plain_append f g p q = list_any-append (needs_byte default_writer) f g ∙ rw p q

plain_digits : (f : List ℕ) → AllDigits 10 f → IsPlain f
plain_digits [] d = refl
plain_digits (b ∷ f) d = let r = digit_from_value b d.0 in plain_cons b f (high b (omega (arith, r.0))) (plain_digits f d.1)

plain_decimal : (n : ℕ) → n < 2 ^ 64 → IsPlain (decimal n)
plain_decimal n h = plain_digits (decimal n) (decimal_is_IsNumeral n h).0.1

name_high : (b : ℕ) → is_name_byte b ≡ true → 45 ≤ b
name_high b h = grind arith

plain_name : (f : List ℕ) → list_all is_name_byte f ≡ true → IsPlain f
plain_name [] h = refl
plain_name (b ∷ f) h = plain_cons b f (high b (name_high b (and_left (is_name_byte b) (list_all is_name_byte f) h)))
    (plain_name f (and_right (is_name_byte b) (list_all is_name_byte f) h))

or_left : (a b : Bool) → (a || b) ≡ false → a ≡ false
or_left true b h = h
or_left false b h = refl

or_right : (a b : Bool) → (a || b) ≡ false → b ≡ false
or_right true b h = cc
or_right false b h = h

plain_at : (t : List ℕ) (k : ℕ) → IsPlain t → needs_byte default_writer (get_or t k 0) ≡ false
plain_at [] k p = refl
plain_at (b ∷ t) zero p = or_left (needs_byte default_writer b) (list_any (needs_byte default_writer) t) p
plain_at (b ∷ t) (suc k) p = plain_at t k (or_right (needs_byte default_writer b) (list_any (needs_byte default_writer) t) p)

plain_hex : (t bytes : List ℕ) → IsPlain t → IsPlain (encode_with t bytes)
unfolding encode_with
plain_hex t [] p = refl
plain_hex t (b ∷ bytes) p =
    plain_cons (get_or t (b / 16) 0) (get_or t (b % 16) 0 ∷ encode_with t bytes) (plain_at t (b / 16) p)
    (plain_cons (get_or t (b % 16) 0) (encode_with t bytes) (plain_at t (b % 16) p) (plain_hex t bytes p))

plain_place : (p : Place) → IsPlain (name_of p)
plain_place place.X0 = refl
plain_place place.X1 = refl
plain_place place.X2 = refl
plain_place place.Y0 = refl
plain_place place.Y1 = refl
plain_place place.Y2 = refl
plain_place place.Px = refl
plain_place place.Py = refl
plain_place place.P0 = refl
plain_place place.P1 = refl
plain_place place.X3 = refl
plain_place place.X4 = refl
plain_place place.X5 = refl
plain_place place.Y3 = refl
plain_place place.Y4 = refl
plain_place place.Y5 = refl

plain_places : (ps : List Place) → IsPlain (join_with_byte 32 (map name_of ps))
plain_places [] = refl
plain_places (p ∷ []) = plain_place p
plain_places (p ∷ q ∷ ps) = plain_append (name_of p) (32 ∷ join_with_byte 32 (map name_of (q ∷ ps))) (plain_place p)
    (plain_cons 32 (join_with_byte 32 (map name_of (q ∷ ps))) refl (plain_places (q ∷ ps)))

plain_outcome : (o : Outcome) → IsPlain (outcome_name o)
plain_outcome (outcome.Rebuilt f) = refl
plain_outcome outcome.Contradiction = refl
plain_outcome outcome.Several = refl

plain_digest : (o : Outcome) → IsPlain (digest_text (fragment_digest o))
plain_digest (outcome.Rebuilt f) = plain_hex lower_digits (sha256 f) refl
plain_digest outcome.Contradiction = refl
plain_digest outcome.Several = refl

-- ---- a request that isn't refused

pub record Accepted (r : ListedRequest) : Type 0 where
  pub named : is_name r.stripe ≡ true
  pub short : r.len ≤ 65536

pub accepted : (r : ListedRequest) → listed_refusal r ≡ None → Accepted r
accepted r e = by (is_name r.stripe) (nat_le 1 r.len && nat_le r.len 65536) _ refl refl e
  where
    by : (b c : Bool) (x : Option RequestFault) → is_name r.stripe ≡ b → (nat_le 1 r.len && nat_le r.len 65536) ≡ c
        → cond (not b) (Some fault.BadStripe) (cond (not c) (Some fault.BadLength) x) ≡ None → Accepted r
    by true true x h k q = record { named = h; short = let s = and_right (nat_le 1 r.len) (nat_le r.len 65536) k in grind (arith, s) }
    by true false x h k q = cc
    by false c x h k q = cc

-- fields that only some shapes have
plain_if : (b : Bool) (f : List ℕ) (rest : List (List ℕ)) → IsPlain f → ArePlain rest → ArePlain (field_if b f ++ rest)
plain_if true f rest p q = (p, q)
plain_if false f rest p q = q

plain_end : (b : Bool) (f : List ℕ) → IsPlain f → ArePlain (field_if b f)
plain_end true f p = (p, tt)
plain_end false f p = tt

plain_code : (code : CodeName) → IsPlain (code_text code)
plain_code Narrow = refl
plain_code Wide = refl

pub plain_fields : (shape : ReportShape) (n : ℕ) (row : Row) → n < 2 ^ 64 → row.feed < 2 ^ 64 → listed_refusal row.listed ≡ None
    → ArePlain (report_fields shape n row)
plain_fields shape n row small fed e =
    let r = row.listed in
    let a = accepted row.listed e in
    let named = plain_name r.stripe (and_right (nat_le 1 (length r.stripe) && nat_le (length r.stripe) 32)
    (list_all is_name_byte r.stripe) a.named) in (
      plain_decimal n small,
      plain_if shape.feeds (decimal row.feed) _ (plain_decimal row.feed fed) (
        named,
        (
          plain_place r.target,
          (
            plain_decimal r.len (omega (arith, a.short)),
            (
              plain_outcome row.outcome,
              (
                plain_digest row.outcome,
                (plain_places row.unread, plain_end shape.codes (code_text r.code) (plain_code r.code)),
              ),
            ),
          ),
        ),
      ),
    )

several_fields : (shape : ReportShape) (n : ℕ) (row : Row) → 1 < length (report_fields shape n row)
several_fields shape n row = by shape.feeds
  where
    by : (b : Bool) → 1 < length (decimal n ∷ (field_if b (decimal row.feed)
        ++ row.listed.stripe ∷ name_of row.listed.target ∷ decimal row.listed.len ∷ outcome_name row.outcome ∷ digest_text
        (fragment_digest row.outcome)
        ∷ join_with_byte 32 (map name_of row.unread) ∷ field_if shape.codes (code_text row.listed.code)))
    by true = omega arith
    by false = omega arith

pub row_line : (shape : ReportShape) (n : ℕ) (row : Row) → n < 2 ^ 64 → row.feed < 2 ^ 64 → listed_refusal row.listed ≡ None
    → row_text default_writer (report_fields shape n row) ≡ report_line (report_fields shape n row)
row_line shape n row small fed e = plain_row (report_fields shape n row) (several_fields shape n row) (plain_fields shape n row small fed e)

pub row_fields : (shape : ReportShape) (n : ℕ) (row : Row) (a b c d e f g h i : List ℕ) → n < 2 ^ 64 → row.feed < 2 ^ 64
    → listed_refusal row.listed ≡ None
    → a ≡ decimal n → b ≡ decimal row.feed → c ≡ row.listed.stripe → d ≡ name_of row.listed.target → e ≡ decimal row.listed.len
    → f ≡ outcome_name row.outcome
    → g ≡ digest_text (fragment_digest row.outcome) → h ≡ join_with_byte 32 (map name_of row.unread) → i ≡ code_text row.listed.code
    → row_text default_writer (a ∷ (field_if shape.feeds b ++ c ∷ d ∷ e ∷ f ∷ g ∷ h ∷ field_if shape.codes i))
    ≡ report_line (report_fields shape n row)
row_fields shape n row a b c d e f g h i small fed accept ha hb hc hd he hf hg hh hi =
    let same : a ∷ (field_if shape.feeds b ++ c ∷ d ∷ e ∷ f ∷ g ∷ h ∷ field_if shape.codes i) ≡ report_fields shape n row =
    rw (ha, hb, hc, hd, he, hf, hg, hh, hi) refl in
    ap (row_text default_writer) same ∙ row_line shape n row small fed accept
