-- A file system that has each change on the disk at once does what its calls answer.
use Rattle.std.proofs.Common.{◌≡◌, inl, inr, ◌≤◌, ℕ, suc, List, [], ◌∷◌, length, Bool, true, false, ◌==◌, cond, refl, arith}
use Rattle.std.proofs.Common.{Option, Some, None, sym, ◌∙◌, ap, subst}
use Rattle.std.specs.Prelude.{bytes_eq, not}
use Rattle.std.proofs.lemmas.Bool.{and_parts, cases_Bool}
use Rattle.std.proofs.lemmas.Slice.Eq.{bytes_eq-Decides}
use Rattle.folders.specs.Calls.{Call, Answered, make, sync, link, link_again, rename, rename_again, remove, sync_folder, same_file, absent}
use Rattle.folders.specs.Files.{Files}
use Rattle.folders.specs.Worlds.{IsLawful, IsStep, MayChange, Makes, KeepsClosed, HasDone, is_closed}
use Rattle.folders.proofs.Steps.{equal}
use Rattle.memory_folder.specs.Synchronous.{AreAnswered, CanBeDone, after, done, synchronous, with_name}

hit : {A : Type 0} (path : List ℕ) (x y : A) → cond (bytes_eq path path) x y ≡ x
hit path x y = rw ((bytes_eq-Decides path path).1 refl) refl

miss : {A : Type 0} (path p : List ℕ) (x y : A) → (p ≡ path → ⊥) → cond (bytes_eq path p) x y ≡ y
miss path p x y other = elim (cases_Bool (bytes_eq path p)) [
  | inl on ↦ absurd (other (sym ((bytes_eq-Decides path p).0 on)))
  | inr off ↦ rw off refl
]

hit_file : (n : ℕ) (x y : List ℕ) → cond (n == n) x y ≡ x
hit_file n x y = rw (equal n) refl

miss_file : (n m : ℕ) (x y : List ℕ) → (n == m) ≡ false → cond (n == m) x y ≡ y
miss_file n m x y off = rw off refl

-- ---- the numbers of files

named_small : (path p : List ℕ) (file : Option ℕ) (files : Files) (most : ℕ) → ((f : ℕ) → file ≡ Some f → f ≤ most)
    → ((q : List ℕ) (f : ℕ) → files.named q ≡ Some f → f ≤ most) → (f : ℕ) → (with_name files path file).named p ≡ Some f → f ≤ most
named_small path p file files most small before f is = elim (cases_Bool (bytes_eq path p)) [
  | inl on ↦ small f (sym (rw on refl) ∙ is)
  | inr off ↦ before p f (sym (rw off refl) ∙ is)
]

some_is : (n f most : ℕ) → n ≤ most → Some n ≡ Some f → f ≤ most
some_is n f most le is = let same : n ≡ f = cc in subst (λ (k : ℕ). k ≤ most) same le

more : (f n : ℕ) → f ≤ n → f ≤ suc n
more f n le = omega (arith, le)

none_small : (f most : ℕ) → None ≡ Some f → f ≤ most
none_small f most is = absurd (cc)

done_small : (call : Call) (calls : List Answered) → CanBeDone call calls
    → ((p : List ℕ) (f : ℕ) → (after calls).named p ≡ Some f → f ≤ length calls)
    → (p : List ℕ) (f : ℕ) → (done call (suc (length calls)) (after calls)).named p ≡ Some f → f ≤ suc (length calls)
done_small (make path) calls can before p f is = named_small path p (Some (suc (length calls))) (after calls) (suc (length calls))
    (λ g same. some_is (suc (length calls)) g (suc (length calls)) (omega arith) same)
    (λ q g leads. more g (length calls) (before q g leads)) f is
done_small (sync g None) calls can before p f is = more f (length calls) (before p f is)
done_small (sync g (Some bytes)) calls can before p f is = more f (length calls) (before p f is)
done_small (link g to) calls can before p f is = named_small to p (Some g) (after calls) (suc (length calls))
    (λ h same. some_is g h (suc (length calls)) (more g (length calls) can.1) same)
    (λ q h leads. more h (length calls) (before q h leads)) f is
done_small (link_again from to) calls can before p f is = named_small to p ((after calls).named from) (after calls) (suc (length calls))
    (λ h leads. more h (length calls) (before from h leads)) (λ q h leads. more h (length calls) (before q h leads)) f is
done_small (rename g from to) calls can before p f is = named_small to p (Some g) (with_name (after calls) from None) (suc (length calls))
    (λ h same. some_is g h (suc (length calls)) (more g (length calls) can) same)
    (λ q h leads. named_small from q None (after calls) (suc (length calls)) (λ k none. none_small k (suc (length calls)) none)
    (λ r k there. more k (length calls) (before r k there)) h leads) f is
done_small (rename_again from to) calls can before p f is = named_small to p ((after calls).named from) (with_name (after calls) from None)
    (suc (length calls)) (λ h leads. more h (length calls) (before from h leads))
    (λ q h leads. named_small from q None (after calls) (suc (length calls)) (λ k none. none_small k (suc (length calls)) none)
    (λ r k there. more k (length calls) (before r k there)) h leads) f is
done_small (remove path) calls can before p f is = named_small path p None (after calls) (suc (length calls))
    (λ h none. none_small h (suc (length calls)) none) (λ q h leads. more h (length calls) (before q h leads)) f is
done_small (sync_folder path) calls can before p f is = more f (length calls) (before p f is)
done_small (same_file path other) calls can before p f is = more f (length calls) (before p f is)
done_small (absent path) calls can before p f is = more f (length calls) (before p f is)

small : (calls : List Answered) → AreAnswered calls → (p : List ℕ) (f : ℕ) → (after calls).named p ≡ Some f → f ≤ length calls
small [] are p f is = none_small f 0 is
small ((call, true) ∷ calls) are p f is = done_small call calls (are.1 refl) (small calls are.0) p f is
small ((call, false) ∷ calls) are p f is = more f (length calls) (small calls are.0 p f is)

-- ---- one call

not_more : (n : ℕ) → suc n ≤ n → ⊥
not_more n le = absurd (omega (arith, le))

makes : (call : Call) (calls : List Answered) → AreAnswered calls → Makes synchronous call calls
makes (make path) calls are = (
  λ p ours is. not_more (length calls) (small calls are p (suc (length calls)) is),
  λ p ours is. not_more (length calls) (small calls are p (suc (length calls)) is),
)
makes (sync f bytes) calls are = tt
makes (link f to) calls are = tt
makes (link_again from to) calls are = tt
makes (rename f from to) calls are = tt
makes (rename_again from to) calls are = tt
makes (remove path) calls are = tt
makes (sync_folder path) calls are = tt
makes (same_file path other) calls are = tt
makes (absent path) calls are = tt

same_may : (call : Call) (n : ℕ) (files : Files) → MayChange synchronous.ours files n call files files
same_may (make path) n files = (λ p ours other. refl, λ ours. inl refl)
same_may (sync f bytes) n files = λ p ours other. refl
same_may (link f to) n files = (λ p ours other. refl, λ ours. inl refl)
same_may (link_again from to) n files = (λ p ours other. refl, λ ours our_from. inl refl)
same_may (rename f from to) n files = (λ p ours other. refl, λ ours. inl refl)
same_may (rename_again from to) n files = (λ p ours other. refl, λ ours our_from. inl refl)
same_may (remove path) n files = (λ p ours other. refl, λ ours. inl refl)
same_may (sync_folder path) n files = λ p ours other. refl
same_may (same_file path to) n files = λ p ours other. refl
same_may (absent path) n files = λ p ours other. refl

done_may : (call : Call) (calls : List Answered) → CanBeDone call calls
    → MayChange synchronous.ours (after calls) (suc (length calls)) call (after calls) (done call (suc (length calls)) (after calls))
done_may (make path) calls can = (
  λ p ours other. miss path p (Some (suc (length calls))) ((after calls).named p) other,
  λ ours. inr (hit path (Some (suc (length calls))) ((after calls).named path)),
)
done_may (sync f None) calls can = λ p ours other. refl
done_may (sync f (Some bytes)) calls can = λ p ours other. refl
done_may (link f to) calls can = (
  λ p ours other. miss to p (Some f) ((after calls).named p) other,
  λ ours. inr (can.0, hit to (Some f) ((after calls).named to)),
)
done_may (link_again from to) calls can = (
  λ p ours other. miss to p ((after calls).named from) ((after calls).named p) other,
  λ ours our_from. inr (can, hit to ((after calls).named from) ((after calls).named to)),
)
done_may (rename f from to) calls can = (
  λ p ours other. miss to p (Some f) ((with_name (after calls) from None).named p) (λ is. other (inr is))
      ∙ miss from p None ((after calls).named p) (λ is. other (inl is)),
  λ ours. inr (hit to (Some f) ((with_name (after calls) from None).named to)),
)
done_may (rename_again from to) calls can = (
  λ p ours other. miss to p ((after calls).named from) ((with_name (after calls) from None).named p) (λ is. other (inr is))
      ∙ miss from p None ((after calls).named p) (λ is. other (inl is)),
  λ ours our_from. inr (hit to ((after calls).named from) ((with_name (after calls) from None).named to)),
)
done_may (remove path) calls can = (
  λ p ours other. miss path p None ((after calls).named p) other,
  λ ours. inr (hit path None ((after calls).named path)),
)
done_may (sync_folder path) calls can = λ p ours other. refl
done_may (same_file path to) calls can = λ p ours other. refl
done_may (absent path) calls can = λ p ours other. refl

not_equal : (n m : ℕ) → not (m == n) ≡ true → (n == m) ≡ false
not_equal n m differ = grind arith

not_file : (f g : ℕ) (calls : List Answered) → is_closed f calls ≡ false → is_closed g calls ≡ true → (f == g) ≡ false
not_file f g calls unsynced closed = elim (cases_Bool (f == g)) as (λ _. (f == g) ≡ false) [
  | inl on ↦ absurd (let same : f ≡ g = grind arith in
      let both : is_closed f calls ≡ true = ap (λ (k : ℕ). is_closed k calls) same ∙ closed in cc)
  | inr off ↦ off
]

done_closed : (call : Call) (calls : List Answered) → CanBeDone call calls
    → KeepsClosed calls ((call, true) ∷ calls) (after calls) (done call (suc (length calls)) (after calls))
done_closed (make path) calls can file before now = miss_file (suc (length calls)) file [] ((after calls).bytes file)
    (not_equal (suc (length calls)) file (and_parts (not (file == suc (length calls))) (is_closed file calls) now).0)
done_closed (sync f None) calls can file before now = refl
done_closed (sync f (Some bytes)) calls can file before now = miss_file f file bytes ((after calls).bytes file)
    (not_file f file calls can before)
done_closed (link f to) calls can file before now = refl
done_closed (link_again from to) calls can file before now = refl
done_closed (rename f from to) calls can file before now = refl
done_closed (rename_again from to) calls can file before now = refl
done_closed (remove path) calls can file before now = refl
done_closed (sync_folder path) calls can file before now = refl
done_closed (same_file path other) calls can file before now = refl
done_closed (absent path) calls can file before now = refl

has_done : (call : Call) (calls : List Answered) → CanBeDone call calls
    → HasDone synchronous.ours (after calls) (suc (length calls)) call (done call (suc (length calls)) (after calls))
    (done call (suc (length calls)) (after calls))
has_done (make path) calls can = λ ours. (can, hit path (Some (suc (length calls))) ((after calls).named path))
has_done (sync f None) calls can = tt
has_done (sync f (Some bytes)) calls can = (hit_file f bytes ((after calls).bytes f), hit_file f bytes ((after calls).bytes f))
has_done (link f to) calls can = λ ours. (can.0, hit to (Some f) ((after calls).named to))
has_done (link_again from to) calls can = λ ours our_from. (can, hit to ((after calls).named from) ((after calls).named to))
has_done (rename f from to) calls can = λ ours. hit to (Some f) ((with_name (after calls) from None).named to)
has_done (rename_again from to) calls can = λ ours our_from. hit to ((after calls).named from)
    ((with_name (after calls) from None).named to)
has_done (remove path) calls can = λ ours. hit path None ((after calls).named path)
has_done (sync_folder path) calls can = λ p ours inside. refl
has_done (same_file path other) calls can = λ ours our_other. can
has_done (absent path) calls can = λ ours. can

step : (call : Call) (ok : Bool) (calls : List Answered) → AreAnswered calls → (ok ≡ true → CanBeDone call calls)
    → IsStep synchronous call ok calls
step call true calls are can = record {
  makes = makes call calls are;
  seen = done_may call calls (can refl);
  left = done_may call calls (can refl);
  seen_bytes = done_closed call calls (can refl);
  left_bytes = done_closed call calls (can refl);
  done = λ ok. has_done call calls (can refl);
}
step call false calls are can = record {
  makes = makes call calls are;
  seen = same_may call (suc (length calls)) (after calls);
  left = same_may call (suc (length calls)) (after calls);
  seen_bytes = λ file before now. refl;
  left_bytes = λ file before now. refl;
  done = λ ok. absurd (cc);
}

pub lawful : (calls : List Answered) → AreAnswered calls → IsLawful synchronous calls
lawful [] are = tt
lawful ((call, ok) ∷ calls) are = (lawful calls are.0, step call ok calls are.0 are.1)
