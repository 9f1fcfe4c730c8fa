use Rattle.std.proofs.Common.{List, map, vec_items, sym, subst, Option, Vec, Global}
use Rattle.std.proofs.lemmas.Result.{MatchResult-weaker}
use Rattle.farm_threads.specs.Replies.{Entry, Collected, IsInPlace, NoneStarved, IsComplete, IsLeastMissing, IsLeastGap, HasNoGaps}
use Rattle.farm_threads.specs.Faults.{IsUnfinished}
use Rattle.farm_threads.specs.Expected.{AreExpected}
use Rattle.farm_threads.specs.declared.replies.FinishFault.{FinishFault}
use Rattle.lrc_code.specs.declared.outcomes.Outcome.{Outcome}
use Rattle.farm_threads.proofs.Tables.{least_missing_from_gap, complete_from_no_gaps, table_answers, none_starved}
use Rattle.farm_threads.proofs.replies.collector.Collector.finish.Goals as goal

pub returns-in-Some-clause-refused : goal.returns-in-Some-clause-refused
returns-in-Some-clause-refused c =
    let gap = subst (λ (t : List (List (Option Entry))). IsLeastGap t c.in-Some.rack c.in-Some.number) c.as_slice.ensures.value
    c.in-Some.ensures.some in
    subst (λ (s : Collected). IsLeastMissing s c.in-Some.rack c.in-Some.number) c.self.view_is
    (least_missing_from_gap c.self.inside.racks.now (vec_items c.self.inside.rows) c.self.invariant c.in-Some.rack c.in-Some.number gap)

pub returns-clause-all : goal.returns-clause-all
returns-clause-all c =
    let place = subst (λ (s : Collected). IsInPlace s) (sym c.self.view_is) c.requires in
    MatchResult-weaker c.all_outcomes.result c.all_outcomes.ensures
    (λ v all. subst (λ (s : Collected). AreExpected s.racks (map (λ (a : Vec Outcome Global). vec_items a) (vec_items v))) c.self.view_is
    (table_answers (λ (a : Vec Outcome Global). vec_items a) c.self.inside.racks.now (vec_items c.self.inside.rows)
    (vec_items v) c.self.invariant place all))
    (λ e is. tt)

pub returns-clause-fed : goal.returns-clause-fed
returns-clause-fed c =
    MatchResult-weaker c.all_outcomes.result c.all_outcomes.ensures
    (λ v all. subst (λ (s : Collected). NoneStarved s) c.self.view_is
    (none_starved (λ (a : Vec Outcome Global). vec_items a) (vec_items c.self.inside.rows) (vec_items v) all))
    (λ e is. tt)

pub returns-clause-complete : goal.returns-clause-complete
returns-clause-complete c =
    let none = subst (λ (t : List (List (Option Entry))). HasNoGaps t) c.as_slice.ensures.value c.in_default.ensures.none in
    let whole = subst (λ (s : Collected). IsComplete s) c.self.view_is
    (complete_from_no_gaps c.self.inside.racks.now (vec_items c.self.inside.rows) c.self.invariant none) in
    MatchResult-weaker c.all_outcomes.result c.all_outcomes.ensures (λ v all. whole) (λ e is. tt)

pub returns-clause-refused : goal.returns-clause-refused
returns-clause-refused c =
    let none = subst (λ (t : List (List (Option Entry))). HasNoGaps t) c.as_slice.ensures.value c.in_default.ensures.none in
    let whole = subst (λ (s : Collected). IsComplete s) c.self.view_is
    (complete_from_no_gaps c.self.inside.racks.now (vec_items c.self.inside.rows) c.self.invariant none) in
    MatchResult-weaker c.all_outcomes.result c.all_outcomes.ensures (λ v all. tt)
    (λ e is. subst (λ (f : FinishFault). IsUnfinished c.args.self f) (sym is) whole)
