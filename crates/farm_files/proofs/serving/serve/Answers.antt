use Rattle.std.proofs.Common.{◌≡◌, ◌+◌, ◌≤◌, ◌∙◌, Vec, Global, List, ℕ, Some, ap, sym, subst, arith, length, map, option_map}
use Rattle.farm_orders.specs.Limits.{rack_limit}
use Rattle.farm_reading.specs.Limits.{rack_answers}
use Rattle.std.specs.List.{AllZip, All}
use Rattle.std.specs.Prelude.{sum_by}
use Rattle.std.proofs.lemmas.Result.{IfOk-from_err, err_from_is_err_and}
use Rattle.lrc_code.specs.declared.outcomes.Outcome.{Outcome}
use Rattle.farm_core.specs.Merge.{AreAllMergedAnswers}
use Rattle.farm_orders.specs.declared.orders.Order.{Order}
use Rattle.farm_lists.specs.declared.listing.Record.{Record}
use Rattle.farm_lists.specs.declared.requests.ReadRequest.{ReadRequest}
use Rattle.farm_reading.specs.Causes.{of_farm}
use Rattle.farm_reading.specs.Faults.{Explains}
use Rattle.farm_shelves.specs.Files.{Files, StopsWriting, put_all}
use Rattle.farm_reports.specs.Named.{named}
use Rattle.farm_reports.specs.Rows.{FitsFeeds}
use Rattle.farm_reading.specs.Reading.{AreAllReads, Reads, all_failures, all_read, orders_all}
use Rattle.farm_files.specs.Serving.{Serves, written_files}
use Rattle.farm_files.proofs.AnsweredRacks.{requests_counted}
use Rattle.farm_files.proofs.ServeEnds.{Answers, Requests, farm_explains, total_is, where_shown, write_leaves, written_is}
use Rattle.farm_files.proofs.FewAnswers.{FitLists, all_few, fit_counts, listed_counts}
use Rattle.farm_files.proofs.Fits.{all_answers_fit}
use Rattle.farm_reports.proofs.MakingAll.{all_zip-length}
use Rattle.farm_files.proofs.serving.serve.Goals as goal
use Rattle.farm_files.proofs.serving.serve.Goals.{After-as_slice-3, After-as_slice-4, After-as_slice-5}
use Rattle.farm_files.proofs.serving.serve.Given.{Over}

-- the answers of each rack fit the requests before its lists' closes
fit : (g : Over) (c : After-as_slice-3 g) → AllZip FitLists c.in_ok-lists.lists.items c.in_ok-answers.field-0.answers.items
fit g c =
    let (reads, so, rose) = c.in_ok-answers.ensures.answered in
    fit_counts listed_counts c.in_ok-lists.lists.items so.orders c.in_ok-answers.field-0.answers.items
    (so.ordered ∙ ap (map listed_counts) c.as_slice.ensures.value)
    (all_answers_fit so.orders (map (λ (a : Answers). a.items) c.in_ok-answers.field-0.answers.items) so.merged)

-- how many requests each feed has
abbrev counts : Requests → List ℕ
counts feeds = map (λ (rs : Vec ReadRequest Global). length rs.items) feeds.items

abbrev Fit : Requests → Answers → Type 0
Fit feeds answers = FitsFeeds (counts feeds) (map (λ (a : ℕ × Outcome). a.0) answers.items)

-- so they fit these requests, as they are handed on
lent : (g : Over) (c : After-as_slice-3 g) → AllZip Fit c.as_slice-2.result.now c.as_slice-3.result.now
lent g c =
    let (reads, so, rose) = c.in_ok-answers.ensures.answered in
    subst (λ (rs : List Requests). AllZip Fit rs c.as_slice-3.result.now) (sym c.as_slice-2.ensures.value)
    (subst (λ (os : List Answers). AllZip Fit c.in_ok-answers.field-0.requests.items os) (sym c.as_slice-3.ensures.value)
    (fit_counts counts c.in_ok-answers.field-0.requests.items so.orders c.in_ok-answers.field-0.answers.items
    (so.ordered ∙ sym so.counted ∙ requests_counted c.in_ok-answers.field-0.requests.items)
    (all_answers_fit so.orders (map (λ (a : Answers). a.items) c.in_ok-answers.field-0.answers.items) so.merged)))

pub make_files-requires-clause-answers : goal.make_files-requires-clause-answers
make_files-requires-clause-answers g c = λ _ _. lent g c

-- where the input shows its files, they are served
shown_serves : (g : Over) (c : After-as_slice-3 g) (there : Files) → g.I.Shelf.files c.args.input.now ≡ Some there
    → Serves there c.in_ok-lists.lists.items c.in_ok-answers.ensures.answered.0
    (map (λ a. a.items) c.in_ok-answers.field-0.answers.items)
shown_serves g c there e =
    let (reads, so, rose) = c.in_ok-answers.ensures.answered in
    let lists : List (List (List Record)) = c.in_ok-lists.lists.items in
    let same : c.as_slice.result.now ≡ lists = c.as_slice.ensures.value in
    let t = so.given there (c.in_ok-lists.ensures.same ∙ e) in
    let answers : List (List (ℕ × Outcome)) = map (λ (a : Answers). a.items) c.in_ok-answers.field-0.answers.items in
    record {
      listed = c.in_ok-lists.ensures.lists there e;
      read = subst (λ (ls : List (List (List Record))). AreAllReads ls reads) same so.read;
      answered = subst (λ (os : List (List (List Order))). AreAllMergedAnswers os answers)
          (t.0 ∙ ap (λ (ls : List (List (List Record))). orders_all there ls reads) same) so.merged;
    }

-- the files that are made are those that serving writes
shown_files : (g : Over) (c : After-as_slice-4 g) (there : Files) → g.I.Shelf.files c.args.input.now ≡ Some there
    → map named c.as_slice-4.result.now ≡ written_files there c.in_ok-lists.lists.items c.in_ok-answers.ensures.answered.0
    (map (λ a. a.items) c.in_ok-answers.field-0.answers.items)
shown_files g c there e =
    let (reads, so, rose) = c.in_ok-answers.ensures.answered in
    let same : c.as_slice.result.now ≡ c.in_ok-lists.lists.items = c.as_slice.ensures.value in
    let t = so.given there (c.in_ok-lists.ensures.same ∙ e) in
    written_is there c.in_ok-lists.lists.items c.in_ok-answers.field-0.requests.items c.as_slice-2.result.now
    c.in_ok-answers.field-0.answers.items c.as_slice-3.result.now reads (map named c.as_slice-4.result.now)
    c.as_slice-2.ensures.value c.as_slice-3.ensures.value (t.1 ∙ ap (λ (ls : List (List (List Record))). all_read there ls reads) same)
    (ap (map named) c.as_slice-4.ensures.value ∙ c.in_ok-files.ensures)

pub returns-in_err-answers-clause-why : goal.returns-in_err-answers-clause-why
returns-in_err-answers-clause-why g c =
    let p = err_from_is_err_and c.from_residual-in_err-answers.result c.from_residual-in_err-answers.ensures.1 in
    rw (p.1, p.2)
    (where_shown (g.I.Shelf.files c.args.input.now) (λ t. Explains (of_farm c.in_err-answers.field-0.0) t)
    (λ t e. farm_explains c.in_err-answers.field-0.0 t _ (c.in_ok-lists.ensures.lists t e)))

pub returns-in_err-write_files-clause-output : goal.returns-in_err-write_files-clause-output
returns-in_err-write_files-clause-output g c =
    let p = err_from_is_err_and c.from_residual-in_err-write_files.result c.from_residual-in_err-write_files.ensures.1 in
    let at = goal.at.returns-in_err-write_files-clause-output g c in
    rw (p.1, p.2)
    (write_leaves c.in_err-write_files.field-0.0 (g.I.Shelf.files c.args.input.now) (g.O.Shelf.files c.args.output.now)
    (g.O.Shelf.files c.write_files.new.output) _ _ c.in_err-write_files.ensures.failure
    (where_shown (g.I.Shelf.files c.args.input.now)
    (λ t. (lists : List (List (List Record))) × (reads : List (List (List Reads))) × (answers : List (List (ℕ × Outcome)))
    × Serves t lists reads answers
    × StopsWriting c.in_err-write_files.field-0.0 (written_files t lists reads answers) (g.O.Shelf.files c.args.output.now)
    (g.O.Shelf.files c.write_files.new.output))
    (λ t e. (
      c.in_ok-lists.lists.items,
      c.in_ok-answers.ensures.answered.0,
      map (λ (a : Answers). a.items) c.in_ok-answers.field-0.answers.items,
      shown_serves g at.After-as_slice-3 t e,
      subst (λ fs. StopsWriting c.in_err-write_files.field-0.0 fs (g.O.Shelf.files c.args.output.now)
          (g.O.Shelf.files c.write_files.new.output)) (shown_files g at.After-as_slice-4 t e) c.in_err-write_files.ensures.fault,
    ))))

pub count_answers-requires-clause-racks : goal.count_answers-requires-clause-racks
count_answers-requires-clause-racks g c =
    let count = all_zip-length FitLists c.in_ok-lists.lists.items c.in_ok-answers.field-0.answers.items
    (fit g (goal.at.count_answers-requires-clause-racks g c).After-as_slice-3) in
    let same = ap (λ (os : List Answers). length os) c.as_slice-5.ensures.value in
    subst (λ (n : ℕ). n ≤ rack_limit) (sym count ∙ sym same) c.in_ok-lists.ensures.racks

pub count_answers-requires-clause-few : goal.count_answers-requires-clause-few
count_answers-requires-clause-few g c =
    subst (λ (os : List Answers). All (λ (a : Answers). length a.items ≤ rack_answers) os) (sym c.as_slice-5.ensures.value)
    (all_few c.in_ok-lists.lists.items c.in_ok-answers.field-0.answers.items c.in_ok-lists.ensures.feeds c.in_ok-lists.ensures.orders
    (fit g (goal.at.count_answers-requires-clause-few g c).After-as_slice-3))

pub returns-clause-served : goal.returns-clause-served
returns-clause-served g c =
    let at = goal.at.returns-clause-served g c in
    let (reads, so, rose) = c.in_ok-answers.ensures.answered in
    let lists : List (List (List Record)) = c.in_ok-lists.lists.items in
    let answers : List (List (ℕ × Outcome)) = map (λ (a : Answers). a.items) c.in_ok-answers.field-0.answers.items in (
      lists,
      reads,
      answers,
      rose ∙ ap (λ (n : ℕ). n + all_failures reads) c.in_ok-lists.ensures.calm,
      omega (arith, c.len.ensures),
      c.count_answers.ensures ∙ ap (sum_by (λ (a : Answers). length a.items)) c.as_slice-5.ensures.value
          ∙ total_is c.in_ok-answers.field-0.answers.items,
      where_shown (g.I.Shelf.files c.args.input.now)
          (λ there. Serves there lists reads answers × (g.O.Shelf.files c.write_files.new.output
          ≡ option_map (λ old. put_all old (written_files there lists reads answers)) (g.O.Shelf.files c.args.output.now)))
          (λ there e. (
            shown_serves g at.After-as_slice-3 there e,
            c.in_ok-write_files.ensures.ok ∙ ap (λ fs. option_map (λ old. put_all old fs) (g.O.Shelf.files c.args.output.now))
                (shown_files g at.After-as_slice-4 there e),
          )),
    )

-- ---- the clauses that say how the input and a failure leave

-- how often the device fails, where the lists are read without a failure
fails : (old before now most : ℕ) → before ≡ old → before ≤ now → now ≤ before + most → (old ≤ now) × (now ≤ old + most)
fails old before now most calm more few = (omega arith, omega arith)

pub returns-in_err-lists-clause-served : goal.returns-in_err-lists-clause-served
returns-in_err-lists-clause-served g c = IfOk-from_err _ _ c.from_residual.ensures.0

pub returns-in_err-lists-clause-calm : goal.returns-in_err-lists-clause-calm
returns-in_err-lists-clause-calm g c = IfOk-from_err _ _ c.from_residual.ensures.0

pub returns-in_err-answers-clause-served : goal.returns-in_err-answers-clause-served
returns-in_err-answers-clause-served g c = IfOk-from_err _ _ c.from_residual-in_err-answers.ensures.0

pub returns-in_err-answers-clause-calm : goal.returns-in_err-answers-clause-calm
returns-in_err-answers-clause-calm g c = IfOk-from_err _ _ c.from_residual-in_err-answers.ensures.0

pub returns-in_err-files-clause-served : goal.returns-in_err-files-clause-served
returns-in_err-files-clause-served g c = IfOk-from_err _ _ c.from_residual-in_err-files.ensures.0

pub returns-in_err-files-clause-calm : goal.returns-in_err-files-clause-calm
returns-in_err-files-clause-calm g c = IfOk-from_err _ _ c.from_residual-in_err-files.ensures.0

pub returns-in_err-write_files-clause-served : goal.returns-in_err-write_files-clause-served
returns-in_err-write_files-clause-served g c = IfOk-from_err _ _ c.from_residual-in_err-write_files.ensures.0

pub returns-in_err-write_files-clause-calm : goal.returns-in_err-write_files-clause-calm
returns-in_err-write_files-clause-calm g c = IfOk-from_err _ _ c.from_residual-in_err-write_files.ensures.0

pub returns-in_err-answers-clause-input : goal.returns-in_err-answers-clause-input
returns-in_err-answers-clause-input g c = c.in_err-answers.ensures.same ∙ c.in_ok-lists.ensures.same

pub returns-in_err-answers-clause-reads : goal.returns-in_err-answers-clause-reads
returns-in_err-answers-clause-reads g c =
    fails _ _ _ _ c.in_ok-lists.ensures.calm c.in_err-answers.ensures.more c.in_err-answers.ensures.few

pub returns-in_err-files-clause-input : goal.returns-in_err-files-clause-input
returns-in_err-files-clause-input g c = c.in_ok-answers.ensures.same ∙ c.in_ok-lists.ensures.same

pub returns-in_err-files-clause-reads : goal.returns-in_err-files-clause-reads
returns-in_err-files-clause-reads g c = fails _ _ _ _ c.in_ok-lists.ensures.calm c.in_ok-answers.ensures.more c.in_ok-answers.ensures.few

pub returns-in_err-write_files-clause-input : goal.returns-in_err-write_files-clause-input
returns-in_err-write_files-clause-input g c = c.in_ok-answers.ensures.same ∙ c.in_ok-lists.ensures.same

pub returns-in_err-write_files-clause-reads : goal.returns-in_err-write_files-clause-reads
returns-in_err-write_files-clause-reads g c =
    fails _ _ _ _ c.in_ok-lists.ensures.calm c.in_ok-answers.ensures.more c.in_ok-answers.ensures.few

pub returns-clause-input : goal.returns-clause-input
returns-clause-input g c = c.in_ok-answers.ensures.same ∙ c.in_ok-lists.ensures.same

pub returns-clause-reads : goal.returns-clause-reads
returns-clause-reads g c = fails _ _ _ _ c.in_ok-lists.ensures.calm c.in_ok-answers.ensures.more c.in_ok-answers.ensures.few

pub returns-clause-why : goal.returns-clause-why
returns-clause-why g c = tt

pub returns-clause-output : goal.returns-clause-output
returns-clause-output g c = tt

pub returns-clause-failures : goal.returns-clause-failures
returns-clause-failures g c = tt
