-- Racks that are fed by one list each, and what is served for them.
use Rattle.std.proofs.Common.{◌≡◌, ◌<◌, ◌++◌, ◌∙◌, ℕ, suc, List, [], ◌∷◌, All, length, map, refl, sym, ap, subst, arith}
use Rattle.std.specs.Prelude.{nat_lt}
use Rattle.std.specs.List.{AllZip}
use Rattle.lrc_code.specs.declared.outcomes.Outcome.{Outcome}
use Rattle.lrc_code.specs.Requests.{Asked}
use Rattle.farm_core.specs.Expected.{AreAllAnswers, AreAnswers}
use Rattle.farm_core.specs.Merge.{AreAllMergedAnswers, AreMergedAnswers, IsFedAnswer}
use Rattle.farm_orders.specs.Orders.{before_close}
use Rattle.farm_orders.specs.declared.orders.Order.{Order}
use Rattle.farm_orders.specs.declared.orders.Order.TheVariants.{Rebuild}
use Rattle.farm_core.proofs.Merges.{answers_of_one}
use Rattle.farm_shelves.specs.Files.{Files}
use Rattle.farm_reading.specs.Pairs.{zip_with}
use Rattle.farm_lists.specs.Requests.{RequestRead, listed_before_close}
use Rattle.farm_reading.specs.Reading.{AreAllReads, AreReads, Reads, all_read, asked, asked_feed, feed_read, orders_all, orders_feed}
use Rattle.farm_reading.specs.Reading.{rack_read, request_read}
use Rattle.farm_files.specs.ServingLaws.{RacksOfOneFeedAreServedAsLists, asked_lists}
use Rattle.farm_reports.specs.Written.{files_from}
use Rattle.farm_lists.specs.declared.listing.Record.{Record}
use Rattle.farm_reports.proofs.MakingAll.{all_zip-length}
use Rattle.farm_reports.proofs.OneFeed.{files_of_one_feed}
use Rattle.farm_reading.proofs.ReadRequests.{all_served, close_is}

-- as answers of the first feed
abbrev of_first : List Outcome → List (ℕ × Outcome)
of_first os = map (λ o. (0, o)) os

-- the reads are those of a list's requests before its close
abbrev AreOf : List Record → List Reads → Type 0
AreOf list feed = AllZip AreReads (listed_before_close list) feed

reads_of_one : (lists : List (List Record)) (reads : List (List (List Reads))) → AreAllReads (map (λ l. l ∷ []) lists) reads
    → (read : List (List Reads)) × (reads ≡ map (λ q. q ∷ []) read) × AllZip AreOf lists read
reads_of_one [] [] are = ([], refl, tt)
reads_of_one [] (q ∷ reads) are = absurd are
reads_of_one (l ∷ lists) [] are = absurd are
reads_of_one (l ∷ lists) ([] ∷ reads) are = absurd are.0
reads_of_one (l ∷ lists) ((q ∷ []) ∷ reads) are = let rest =
    reads_of_one lists reads are.1 in (q ∷ rest.0, ap (λ t. (q ∷ []) ∷ t) rest.1, (are.0.0, rest.2))
reads_of_one (l ∷ lists) ((q ∷ p ∷ qs) ∷ reads) are = absurd are.0.1

-- the answers to a merge of one feed are all of that feed
all_first : (merge : List (ℕ × Asked)) (answers : List (ℕ × Outcome)) → All (λ x. x.0 < 1) merge → AllZip IsFedAnswer merge answers
    → answers ≡ of_first (map (λ a. a.1) answers)
all_first [] [] known all = refl
all_first [] (a ∷ answers) known all = absurd all
all_first (x ∷ merge) [] known all = absurd all
all_first (x ∷ merge) (a ∷ answers) known all =
    let first : a.0 ≡ 0 = let same = all.0.0 in let low = known 0 x (omega arith) in omega (arith, same, low) in
    ap (λ n. (n, a.1) ∷ answers) first ∙ ap (λ (t : List (ℕ × Outcome)). (0, a.1) ∷ t)
    (all_first merge answers (λ k d low. known (suc k) d (omega arith)) all.1)

feed_asked : (there : Files) (list : List Record) (feed : List Reads)
    → before_close (orders_feed there list feed) ≡ asked_feed there (listed_before_close list) feed
feed_asked there list feed =
    let requests = asked_feed there (listed_before_close list) feed in
    let closes = nat_lt (length (listed_before_close list)) (length list) in
    all_served (orders_feed there list feed) requests closes
    (ap (λ (tail : List Order). map Rebuild requests ++ tail) (close_is list closes refl))

answers_of_lists : (there : Files) (lists : List (List Record)) (read : List (List Reads)) (answers : List (List (ℕ × Outcome)))
    → AllZip AreOf lists read
    → AreAllMergedAnswers (orders_all there (map (λ l. l ∷ []) lists) (map (λ q. q ∷ []) read)) answers
    → (outcomes : List (List Outcome)) × (answers ≡ map of_first outcomes) × AreAllAnswers (asked_lists there lists read) outcomes
answers_of_lists there [] [] [] are merged = ([], refl, tt)
answers_of_lists there [] [] (a ∷ answers) are merged = absurd merged
answers_of_lists there [] (q ∷ read) answers are merged = absurd are
answers_of_lists there (l ∷ lists) [] answers are merged = absurd are
answers_of_lists there (l ∷ lists) (q ∷ read) [] are merged = absurd merged
answers_of_lists there (l ∷ lists) (q ∷ read) (a ∷ answers) are merged =
    let rest = answers_of_lists there lists read answers are.1 merged.1 in
    let here : AreMergedAnswers (orders_feed there l q ∷ []) a = merged.0 in
    let outcomes : List Outcome = map (λ (x : ℕ × Outcome). x.1) a in
    let first : a ≡ of_first outcomes = all_first here.0 a here.1.known here.2 in (
      outcomes ∷ rest.0,
      ap (λ (x : List (ℕ × Outcome)). x ∷ answers) first ∙ ap (λ (t : List (List (ℕ × Outcome))). of_first outcomes ∷ t) rest.1,
      (
        subst (λ (requests : List Asked). AreAnswers requests outcomes) (feed_asked there l q)
            (answers_of_one (orders_feed there l q) a here),
        rest.2,
      ),
    )

zip_with-length : {A B C : Type 0} (f : A → B → C) (R : A → B → Type 0) (xs : List A) (ys : List B) → AllZip R xs ys
    → length (zip_with f xs ys) ≡ length xs
zip_with-length f R [] [] all = refl
zip_with-length f R [] (y ∷ ys) all = absurd all
zip_with-length f R (x ∷ xs) [] all = absurd all
zip_with-length f R (x ∷ xs) (y ∷ ys) all = ap suc (zip_with-length f R xs ys all.1)

answers_sized : (there : Files) (lists : List (List Record)) (read : List (List Reads)) (outcomes : List (List Outcome))
    → AllZip AreOf lists read → AreAllAnswers (asked_lists there lists read) outcomes
    → AllZip (λ rs os. length os ≡ length rs) (rack_read there lists read) outcomes
answers_sized there [] [] [] are right = tt
answers_sized there [] [] (o ∷ outcomes) are right = absurd right
answers_sized there [] (q ∷ read) outcomes are right = absurd are
answers_sized there (l ∷ lists) [] outcomes are right = absurd are
answers_sized there (l ∷ lists) (q ∷ read) [] are right = absurd right
answers_sized there (l ∷ lists) (q ∷ read) (o ∷ outcomes) are right = (
  all_zip-length _ (asked_feed there (listed_before_close l) q) o right.0
      ∙ zip_with-length (asked there) AreReads (listed_before_close l) q are.0
      ∙ sym (zip_with-length (request_read there) AreReads (listed_before_close l) q are.0),
  answers_sized there lists read outcomes are.1 right.1,
)

requests_of_one : (there : Files) (lists : List (List Record)) (read : List (List Reads)) → AllZip AreOf lists read
    → all_read there (map (λ l. l ∷ []) lists) (map (λ q. q ∷ []) read) ≡ map (λ rs. rs ∷ []) (rack_read there lists read)
requests_of_one there [] [] are = refl
requests_of_one there [] (q ∷ read) are = absurd are
requests_of_one there (l ∷ lists) [] are = absurd are
requests_of_one there (l ∷ lists) (q ∷ read) are = ap (λ t. (feed_read there (listed_before_close l) q ∷ []) ∷ t)
    (requests_of_one there lists read are.1)

pub served_as_lists : RacksOfOneFeedAreServedAsLists
served_as_lists there lists reads answers serves =
    let feeds : List (List (List Record)) = map (λ (l : List Record). l ∷ []) lists in
    let r = reads_of_one lists reads serves.read in
    let merged : AreAllMergedAnswers (orders_all there feeds (map (λ q. q ∷ []) r.0)) answers =
    subst (λ (qs : List (List (List Reads))). AreAllMergedAnswers (orders_all there feeds qs) answers) r.1 serves.answered in
    let a = answers_of_lists there lists r.0 answers r.2 merged in (
      r.0,
      a.0,
      r.1,
      a.1,
      a.2,
      ap (λ (qs : List (List (List Reads))). files_from 0 (all_read there feeds qs) answers) r.1
          ∙ ap (λ (os : List (List (ℕ × Outcome))). files_from 0 (all_read there feeds (map (λ q. q ∷ []) r.0)) os) a.1
          ∙ ap (λ (racks : List (List (List RequestRead))). files_from 0 racks (map of_first a.0)) (requests_of_one there lists r.0 r.2)
          ∙ files_of_one_feed (rack_read there lists r.0) a.0 (answers_sized there lists r.0 a.0 r.2 a.2),
    )
