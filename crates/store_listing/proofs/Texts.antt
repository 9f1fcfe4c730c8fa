-- Sets and maps of texts: one was put into them, or was there.
use Rattle.std.proofs.Common.{◌≡◌, ◌∙◌, sym, subst, ap, refl, inl, inr, ℕ, Bool, true, false, cond, List, Option, Some, None, String}
use Rattle.std.proofs.Common.{string_bytes}
use Rattle.std.specs.Prelude.{◌&&◌, ◌||◌, is_some, unwrap_or}
use Rattle.std.specs.BTreeMap as tree
use Rattle.std.specs.BTreeMap.{BTreeMap, get_by_text}
use Rattle.std.specs.BTreeSet as set
use Rattle.std.specs.BTreeSet.{BTreeSet, contains_text}
use Rattle.std.specs.Cmp.Lexicographic.{slice_cmp}
use Rattle.std.specs.Ordering.{nat_cmp}
use Rattle.std.specs.Str.{bytes_eq}
use Rattle.std.specs.String.{string_cmp}
use Rattle.std.proofs.lemmas.Bool.{cases_Bool, cond-false, cond-true, false≢true}
use Rattle.std.proofs.lemmas.Map.Text.{btree_map_updates_text, btree_set_updates_text}
use Rattle.std.proofs.lemmas.Slice.Eq.{bytes_eq-Decides}
use Rattle.lrc_code.specs.declared.codes.Code.{Code as CodeName}
use Rattle.lrc_code.specs.declared.places.Place.{Place}
use Rattle.stores.specs.declared.stripes.Found.{Found as FoundName}
use Rattle.stores.specs.declared.stripes.StripeFiles.{StripeFiles}
use Rattle.store_listing.specs.declared.store_stripes.TheConstants.{NO_FILES}
use Rattle.store_listing.specs.Names.{Begins, Gains, Notes, with_found}
use Rattle.store_listing.specs.Stripes.{IsOwn, Settles}

-- ---- sets

put_or_had : (is had : Bool) → cond is true had ≡ (had || (true && is))
put_or_had true true = refl
put_or_had true false = refl
put_or_had false true = refl
put_or_had false false = refl

had_already : (had more : Bool) → had ≡ true → had ≡ (had || more)
had_already true more is = refl
had_already false more is = absurd (false≢true is)

not_put : (had is : Bool) → had ≡ (had || (false && is))
not_put true is = refl
not_put false is = refl

another : (had is_put : Bool) → had ≡ (had || (is_put && false))
another true is_put = refl
another false true = refl
another false false = refl

module _ {Y : Type 0} (text : List ℕ) (old new : BTreeSet (String Y)) where
  pub gained : set.UpdatesBy string_cmp (λ k. slice_cmp nat_cmp text (string_bytes k)) old new true → Gains true text old new
  gained updates = λ other.
      btree_set_updates_text text old new true updates other ∙ put_or_had (bytes_eq text other) (contains_text old other)

  pub put_where : (is_put : Bool) → is_put ≡ true → Gains true text old new → Gains is_put text old new
  put_where is_put is gains = subst (λ b. Gains b text old new) (sym is) gains

  pub not_wanted : Gains false text old old
  not_wanted = λ other. not_put (contains_text old other) (bytes_eq text other)

  pub was_there : (is_put : Bool) → contains_text old text ≡ true → Gains is_put text old old
  was_there is_put had = λ other. elim (cases_Bool (bytes_eq text other)) as (λ _. contains_text old other
      ≡ (contains_text old other || (is_put && bytes_eq text other))) [
        | inl is ↦ had_already _ _ (subst (λ t. contains_text old t ≡ true) ((bytes_eq-Decides text other).0 is) had)
        | inr isnt ↦ rw isnt (another (contains_text old other) is_put)
      ]

-- ---- maps

none_there : {X : Type 0} (o : Option X) → is_some o ≡ false → o ≡ None
none_there None is = refl
none_there (Some x) is = absurd (false≢true (sym is))

unwrapped : {X : Type 0} (o : Option X) (d : X) → is_some o ≡ true → o ≡ Some (unwrap_or o d)
unwrapped None d is = absurd (false≢true is)
unwrapped (Some x) d is = refl

module _ {Y : Type 0} (text : List ℕ) (old new : BTreeMap (String Y) StripeFiles) where
  pub begun : is_some (get_by_text old text) ≡ false
      → tree.UpdatesBy string_cmp (λ k. slice_cmp nat_cmp text (string_bytes k)) old new (Some NO_FILES) → Begins text old new
  begun none updates = λ other. btree_map_updates_text text old new (Some NO_FILES) updates other
      ∙ elim (cases_Bool (bytes_eq text other)) as (λ _. cond (bytes_eq text other) (Some NO_FILES) (get_by_text old other)
      ≡ cond (bytes_eq text other) (Some (unwrap_or (get_by_text old other) NO_FILES)) (get_by_text old other)) [
        | inl is ↦ rw is (ap (λ o. Some (unwrap_or o NO_FILES))
            (sym (subst (λ t. get_by_text old t ≡ None) ((bytes_eq-Decides text other).0 is) (none_there _ none))))
        | inr isnt ↦ rw isnt refl
      ]

  pub begun_before : is_some (get_by_text old text) ≡ true → Begins text old old
  begun_before there = λ other. elim (cases_Bool (bytes_eq text other)) as (λ _. get_by_text old other
      ≡ cond (bytes_eq text other) (Some (unwrap_or (get_by_text old other) NO_FILES)) (get_by_text old other)) [
        | inl is ↦ unwrapped (get_by_text old other) NO_FILES
            (subst (λ t. is_some (get_by_text old t) ≡ true) ((bytes_eq-Decides text other).0 is) there)
            ∙ sym (cond-true (bytes_eq text other) _ _ is)
        | inr isnt ↦ sym (cond-false (bytes_eq text other) _ _ isnt)
      ]

  pub noted : (place : Place) (what : FoundName) (between : BTreeMap (String Y) StripeFiles) (files changed : StripeFiles)
      → Begins text old between → get_by_text between text ≡ Some files → changed ≡ with_found place what files
      → tree.UpdatesBy string_cmp (λ k. slice_cmp nat_cmp text (string_bytes k)) between new (Some changed)
      → Notes true text place what old new
  noted place what between files changed begins at is_changed updates = λ other.
      btree_map_updates_text text between new (Some changed) updates other
      ∙ elim (cases_Bool (bytes_eq text other)) as (λ _. cond (bytes_eq text other) (Some changed) (get_by_text between other)
      ≡ cond (true && bytes_eq text other) (Some (with_found place what (unwrap_or (get_by_text old other) NO_FILES)))
      (get_by_text old other)) [
        | inl is ↦
            let there : get_by_text between other ≡ Some files = subst (λ t. get_by_text between t ≡ Some files)
            ((bytes_eq-Decides text other).0 is) at in
            let same : files ≡ unwrap_or (get_by_text old other) NO_FILES
            = ap (λ o. unwrap_or o NO_FILES) (sym there ∙ begins other ∙ cond-true (bytes_eq text other) _ _ is) in
            rw is (ap (λ f. Some f) is_changed ∙ ap (λ f. Some (with_found place what f)) same)
        | inr isnt ↦ rw isnt (begins other ∙ cond-false (bytes_eq text other) _ _ isnt)
      ]

  pub noted_where : (place : Place) (what : FoundName) (is_noted : Bool) → is_noted ≡ true → Notes true text place what old new
      → Notes is_noted text place what old new
  noted_where place what is_noted is notes = subst (λ b. Notes b text place what old new) (sym is) notes

  pub settled_one : (between : BTreeMap (String Y) StripeFiles) (own : StripeFiles) (is_stripe : Bool) (code : CodeName)
      (files : List FoundName) → is_stripe ≡ true → between ≡ old
      → tree.UpdatesBy string_cmp (λ k. slice_cmp nat_cmp text (string_bytes k)) between new (Some own) → IsOwn code files own.found
      → Settles is_stripe code text files old new
  settled_one between own is_stripe code files is same updates is_own = record {
    own = own;
    is_own = is_own;
    each = λ other. btree_map_updates_text text between new (Some own) updates other
        ∙ ap (λ m. cond (bytes_eq text other) (Some own) (get_by_text m other)) same
        ∙ ap (λ b. cond (b && bytes_eq text other) (Some own) (get_by_text old other)) (sym is);
  }
