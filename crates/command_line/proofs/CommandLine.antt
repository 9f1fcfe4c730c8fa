-- Lemmas on the arguments of the command line.
use Rattle.std.proofs.Common.{◌≡◌, ◌∙◌, ◌<◌, ◌^◌, ◌⊎◌, ℕ, List, [], Option, Some, None, Result, Ok, Err, inl, inr, codes, refl, subst, sym}
use Rattle.std.proofs.Common.{ap, option_map}
use Rattle.std.specs.Option.{option_map_or}
use Rattle.std.specs.Prelude.{IfNone, IfSome}
use Rattle.std.proofs.lemmas.Result.{OkIff-at_err, OkIff-at_ok}
use Rattle.std.specs.Str.Parse.{ParsesUnsigned, ExplainsUnsignedError, HasUnsignedDigitsIfOk, IsNumeral, digits_value, without_leading_plus}
use Rattle.std.specs.declared.num.ParseIntError.{ParseIntError}
use Rattle.clap.specs.Matches.{ReadsOne}
use Rattle.clap.specs.declared.parser.matches.Found.{Found}
use Rattle.clap.specs.Words.{IsAmong, Row, Text, fault_of, one_text, rows_of, subcommand_of}
use Rattle.clap.specs.declared.error.kind.ErrorKind.{ErrorKind}
use Rattle.clap.specs.declared.error.kind.ErrorKind.TheVariants as kind
use Rattle.clap.proofs.WalkLemmas.{one_text-rows}
use Rattle.command_line.specs.Command.{Asks, HasNumber, IsNoFarm, LacksValues, MatchesFault, MatchesWords, Refuses, Shows, ShowsFault}
use Rattle.command_line.specs.Command.{program}
use Rattle.command_line.specs.declared.words.Words.{Words}
use Rattle.command_line.specs.declared.words.Words.TheVariants.{Lines, Farm, Help}
use Rattle.command_line.specs.declared.words.WordsFault.{WordsFault}
use Rattle.command_line.specs.declared.words.WordsFault.TheVariants.{Usage, OutOfMemory}

abbrev Gives : List ℕ → Result ℕ ParseIntError → Type 0
Gives bs r = ParsesUnsigned 16 10 bs r × ExplainsUnsignedError 10 bs r × HasUnsignedDigitsIfOk bs r

abbrev IsWritten : Text → Type 0
IsWritten t = IsNumeral 10 (without_leading_plus t) × (digits_value 10 (without_leading_plus t) < 2 ^ 16)

-- a number that was read is the value
pub has_number : (f : Found) (id : Text) (r : Option ℕ) → (one_text f id ≡ None → r ≡ None)
    → ((t : List ℕ) → one_text f id ≡ Some t → ReadsOne Gives t r) → IfSome r (HasNumber id (rows_of f))
has_number f id r none value = by (one_text f id) refl
  where
    at : (t : Text) → one_text f id ≡ Some t → (q : Option ℕ) → ReadsOne Gives t q → IfSome q (HasNumber id (rows_of f))
    at t e None h = tt
    at t e (Some v) h =
        let r : Result ℕ ParseIntError = Ok v in
        let (p, same) = OkIff-at_ok r (IsWritten t) (digits_value 10 (without_leading_plus t)) v h.0 refl in
        record { text = t; is = sym (one_text-rows f id) ∙ e; numeral = p.0; value = sym same; fits = rw same p.1 }

    by : (o : Option Text) → one_text f id ≡ o → IfSome r (HasNumber id (rows_of f))
    by None e = rw (none e) tt
    by (Some t) e = at t e r (value t e)

-- where no number was read, there is none
pub lacks_number : (f : Found) (id : Text) (r : Option ℕ)
    → ((t : List ℕ) → one_text f id ≡ Some t → ReadsOne Gives t r) → IfNone r ((n : ℕ) → HasNumber id (rows_of f) n → ⊥)
lacks_number f id None value = λ n has.
    let (e, gives) = value has.text (one_text-rows f id ∙ has.is) in
    let r : Result ℕ ParseIntError = Err e in
    OkIff-at_err r (IsWritten has.text) (digits_value 10 (without_leading_plus has.text)) e gives.0 refl
    (has.numeral, rw has.value has.fits)
lacks_number f id (Some v) value = tt

module _ {A B C : Type 0} where
  abbrev pub both : (C → A) → (C → B) → C → A × B
  both name rows b = (name b, rows b)

  -- a subcommand by its name and its matches
  pub joined : (name : C → A) (rows : C → B) (o : Option C) (n : A) (rs : B)
      → Some n ≡ option_map name o → Some rs ≡ option_map (λ (p : A × B). p.1) (option_map (both name rows) o)
      → option_map (both name rows) o ≡ Some (n, rs)
  joined name rows None n rs e f = cc
  joined name rows (Some b) n rs e f = let p : n ≡ name b = cc in let q : rs ≡ rows b = cc in rw (p, q) refl

module _ {T : Type 0} where
  pub none_holds : (o : Option T) {P : Type 0} → P → IfNone o P
  none_holds None p = p
  none_holds (Some x) p = tt

  pub none_weaker : (o : Option T) {P Q : Type 0} → (P → Q) → IfNone o P → IfNone o Q
  none_weaker None f p = f p
  none_weaker (Some x) f p = tt

-- a subcommand that lacks a value is no farm
pub no_farm : (met : Option (Text × List Row)) (rows : List Row) → met ≡ Some (codes "farm", rows) → LacksValues rows → IsNoFarm met
no_farm met rows e lacks input output workers queue farm =
    let same : rows ≡ farm.rows = ap (λ (o : Option (Text × List Row)). option_map_or (λ p. p.1) o []) (sym e ∙ farm.is) in
    lacks input output workers queue (rw same farm.values)

-- what the matches ask for, the arguments ask for
pub asked_by_matches : (words : List Text) (met : Option (Text × List Row)) → met ≡ subcommand_of program words
    → fault_of program words ≡ []
    → (w : Words) → MatchesWords met w → Asks w words
asked_by_matches words met e faultless Lines h = absurd h
asked_by_matches words met e faultless (Farm input output workers queue) h = record { faultless = faultless; farm_is = rw (← e) h }
asked_by_matches words met e faultless (Help text) h = absurd h

pub refused_by_matches : (words : List Text) (met : Option (Text × List Row)) → met ≡ subcommand_of program words
    → fault_of program words ≡ []
    → (f : WordsFault) → MatchesFault met f → Refuses f words
refused_by_matches words met e faultless (Usage text) h = inr record { faultless = faultless; no_farm = rw (← e) h }
refused_by_matches words met e faultless OutOfMemory h = tt

-- what a parse gives in place of matches, the arguments ask for
pub asked_by_kind : (words : List Text) (k : ErrorKind) → (k ≡ kind.OutOfMemory) ⊎ IsAmong k (fault_of program words)
    → (w : Words) → Shows k w → Asks w words
asked_by_kind words k has Lines h = absurd h
asked_by_kind words k has (Farm input output workers queue) h = absurd h
asked_by_kind words k (inl out) (Help text) (inl help) = cc
asked_by_kind words k (inl out) (Help text) (inr version) = cc
asked_by_kind words k (inr among) (Help text) (inl help) = inl (subst (λ x. IsAmong x (fault_of program words)) help among)
asked_by_kind words k (inr among) (Help text) (inr version) = inr (subst (λ x. IsAmong x (fault_of program words)) version among)

pub refused_by_kind : (words : List Text) (k : ErrorKind) → (k ≡ kind.OutOfMemory) ⊎ IsAmong k (fault_of program words)
    → (f : WordsFault) → ShowsFault k f → Refuses f words
refused_by_kind words k (inl out) (Usage text) (not_help, not_version, not_out) = absurd (not_out out)
refused_by_kind words k (inr among) (Usage text) (not_help, not_version, not_out) =
    inl record { mistake = k; among = among; not_help = not_help; not_version = not_version }
refused_by_kind words k has OutOfMemory h = tt
