-- Paths that have got the files of others keep them.
use Rattle.std.proofs.Common.{◌≡◌, inl, inr, ℕ, List, true, Option, None, option_map, sym, ◌∙◌, ap}
use Rattle.folders.specs.Calls.{Answered}
use Rattle.folders.specs.Files.{Files, under}
use Rattle.folders.specs.Worlds.{World}
use Rattle.folders.specs.Exchanged.{seen_at}
use Rattle.folders.specs.Given.{AreGiven, HasFileOf, HasGot, HasOneOf}

-- after a run that gives files
module _ (temporary : List ℕ → Type 0) (gives : List ℕ → List ℕ → Type 0) (puts : List ℕ → Option (List ℕ) → Type 0) (w : World)
    (old mid : List Answered) (are : AreGiven temporary gives puts w old mid) where
  -- a path that was to get none
  module _ (from : List ℕ) (ours : w.ours from ≡ true) (lasting : temporary from → ⊥) (none : (p : List ℕ) → gives p from → ⊥)
      (none_new : (content : Option (List ℕ)) → puts from content → ⊥) where
    pub had_seen : under (w.seen mid) from ≡ under (w.seen old) from
    had_seen = elim (are.seen from ours lasting) [
      | inl same ↦ same
      | inr (inl got) ↦ absurd (none got.0 got.1)
      | inr (inr put) ↦ absurd (none_new put.0 put.1)
    ]

    pub had_left : under (w.left mid) from ≡ under (w.left old) from
    had_left = elim (are.left from ours lasting) [
      | inl same ↦ same
      | inr (inl got) ↦ absurd (none got.0 got.1)
      | inr (inr put) ↦ absurd (none_new put.0 put.1)
    ]

    -- nothing was there
    pub had_none : (w.seen mid).named from ≡ None → under (w.seen old) from ≡ None
    had_none nothing = sym had_seen ∙ ap (λ (o : Option ℕ). option_map (w.seen mid).bytes o) nothing

    -- another one leads where it leads
    pub got_there : (to : List ℕ) → gives from to → (w.seen mid).named to ≡ (w.seen mid).named from
        → (w.left mid).named to ≡ (w.seen mid).named from → HasGot gives w old mid to
    got_there to given leads leads_left = record {
      seen = (from, given, ap (λ (o : Option ℕ). option_map (w.seen mid).bytes o) leads ∙ had_seen);
      left = (
        from,
        given,
        ap (λ (o : Option ℕ). option_map (w.left mid).bytes o) leads_left ∙ are.still from ours lasting none none_new,
      );
    }

  -- and another run, which gives none of those that were to get one
  module _ (gives_next : List ℕ → List ℕ → Type 0) (puts_next : List ℕ → Option (List ℕ) → Type 0)
      (more_of : (from to : List ℕ) → gives_next from to → gives from to) (new : List Answered)
      (next : AreGiven temporary gives_next puts_next w mid new)
      (own : (from to : List ℕ) → gives_next from to → w.ours from ≡ true)
      (last : (from to : List ℕ) → gives_next from to → temporary from → ⊥)
      (apart : (p from to : List ℕ) → gives p from → gives_next from to → ⊥)
      (none_new : (from to : List ℕ) (content : Option (List ℕ)) → gives_next from to → puts from content → ⊥) where
    one_over : (in_old in_mid in_new : Files) (to : List ℕ)
        → ((from : List ℕ) → w.ours from ≡ true → (temporary from → ⊥) → ((p : List ℕ) → gives p from → ⊥)
        → ((content : Option (List ℕ)) → puts from content → ⊥)
        → seen_at (w.seen mid) in_mid from ≡ seen_at (w.seen old) in_old from)
        → ((content : Option (List ℕ)) → puts_next to content → ⊥) → HasFileOf gives (w.seen old) in_old in_mid to
        → HasOneOf gives_next puts_next (w.seen mid) in_mid in_new to → HasFileOf gives (w.seen old) in_old in_new to
    one_over in_old in_mid in_new to still none got (inl same) = (got.0, got.1, same ∙ got.2)
    one_over in_old in_mid in_new to still none got (inr (inl gets)) = (
      gets.0,
      more_of gets.0 to gets.1,
      gets.2 ∙ still gets.0 (own gets.0 to gets.1) (last gets.0 to gets.1) (λ p too. apart p gets.0 to too gets.1)
          (λ content too. none_new gets.0 to content gets.1 too),
    )
    one_over in_old in_mid in_new to still none got (inr (inr put)) = absurd (none put.0 put.1)

    pub got_over : (to : List ℕ) → w.ours to ≡ true → (temporary to → ⊥) → ((content : Option (List ℕ)) → puts_next to content → ⊥)
        → HasGot gives w old mid to → HasGot gives w old new to
    got_over to ours lasting none got = record {
      seen = one_over (w.seen old) (w.seen mid) (w.seen new) to had_seen none got.seen (next.seen to ours lasting);
      left = one_over (w.left old) (w.left mid) (w.left new) to are.still none got.left (next.left to ours lasting);
    }

    -- what the second run gave
    one_since : (in_old in_mid in_new : Files) (to : List ℕ)
        → ((from : List ℕ) → w.ours from ≡ true → (temporary from → ⊥) → ((p : List ℕ) → gives p from → ⊥)
        → ((content : Option (List ℕ)) → puts from content → ⊥)
        → seen_at (w.seen mid) in_mid from ≡ seen_at (w.seen old) in_old from)
        → HasFileOf gives_next (w.seen mid) in_mid in_new to → HasFileOf gives (w.seen old) in_old in_new to
    one_since in_old in_mid in_new to still got = (
      got.0,
      more_of got.0 to got.1,
      got.2 ∙ still got.0 (own got.0 to got.1) (last got.0 to got.1) (λ p too. apart p got.0 to too got.1)
          (λ content too. none_new got.0 to content got.1 too),
    )

    pub got_since : (to : List ℕ) → HasGot gives_next w mid new to → HasGot gives w old new to
    got_since to got = record {
      seen = one_since (w.seen old) (w.seen mid) (w.seen new) to had_seen got.seen;
      left = one_since (w.left old) (w.left mid) (w.left new) to are.still got.left;
    }
