use Rattle.std.proofs.Common.{rules, ◌≡◌, ◌≤◌, ◌<◌, ◌∙◌, ◌+◌, ◌*◌, ◌++◌, ap, subst, sym, arith, get_or, length}
use Rattle.std.specs.Prelude.{option_map}
use Rattle.std.proofs.lemmas.List.{get_or_default}
use Rattle.lrc_code.specs.declared.places.Place.TheVariants.{X0}
use Rattle.lrc_code.specs.Codes.{data_count, tables_of}
use Rattle.lrc_code.specs.Sets.{is_in}
use Rattle.lrc_plan.specs.Planned.{ExtensionsDiffer}
use Rattle.lrc_plan.specs.RowPlans.{IsValueRow}
use Rattle.store_repair.specs.Files.{fragment_length}
use Rattle.store_repair.proofs.ReadingLemmas.{all_at_end, all_read, data_within, next_begin, part_given, read_more, read_none, read_whole}
use Rattle.store_repair.proofs.WindowLemmas.{shown_length}
use Rattle.store_repair.proofs.file_reading.read_file.Goals as goal

pub loop-index-init : goal.loop-index-init
loop-index-init g c = record {
  within = omega arith;
  begin = λ less. search rules;
  read = λ at file are whole long of_file. read_none file (g.N.NewFragment.shown c.args.output.now);
}

pub loop-index-preserved : goal.loop-index-preserved
loop-index-preserved g c =
    let s = c.args.survivors.now in
    let i = c.loop-index.index in
    let done = c.loop-index.done in
    let many = c.min-many.result in
    record {
      within = omega arith;
      begin = λ less. let next = next_begin i s.length in
          let before : done ≡ i * s.length = c.loop-index.invariant.begin (omega (arith, less)) in
          omega (arith, next, before, less);
      read = λ at file are whole long of_file.
          let shown = g.N.NewFragment.shown in
          let sixteen = sym (shown_length g.F.Fragment.shown s.fragments.now at are) ∙ c.requires.sixteen in
          let is_len = c.requires.len ∙ ap (fragment_length s.code) (sym long) in
          let begin : done ≡ i * s.length = c.loop-index.invariant.begin (omega arith) in
          let inside : done + many ≤ length file = omega (arith, long) in
          let value = subst (λ ps. IsValueRow (tables_of s.code) (is_in s.set) (get_or ps i X0) c.in-Some.row) c.places-places.ensures
          c.in-Some.ensures in
          let h = c.in_ok-append_part.ensures.appended at are in
          let below : i < data_count s.code = omega arith in
          read_more file done many h.0 (shown c.args.output.now) (shown c.loop-index.output) (shown c.append_part.new.output) inside
          (part_given s.code (is_in s.set) at s.length file whole are.bytes sixteen is_len of_file i X0 below c.in-Some.row value done many
          begin (omega arith) inside h.0 h.1) (c.loop-index.invariant.read at file are whole long of_file) h.2;
    }

pub returns-then-many-eq0-clause-read : goal.returns-then-many-eq0-clause-read
returns-then-many-eq0-clause-read g c = λ at file are whole long of_file.
    let s = c.args.survivors.now in
    let done = c.loop-index.done in
    let all : done ≡ c.args.file_bytes = all_read s.code c.args.file_bytes done s.length c.min-many.result c.loop-index.invariant.within
    c.requires.len c.min-many.ensures (omega arith) in
    c.loop-index.invariant.read at file are whole long of_file
    ∙ ap (λ xs. option_map (λ written. written ++ xs) (g.N.NewFragment.shown c.args.output.now)) (read_whole file done (all ∙ sym long))

pub returns-in_default-clause-refused : goal.returns-in_default-clause-refused
returns-in_default-clause-refused g c =
    let s = c.args.survivors.now in
    let i = c.loop-index.index in
    let places = c.places-places.result.now in
    let within : i < length places = (let w = data_within s.code in let e = ap length c.places-places.ensures in omega (arith, w, e)) in (
      subst (λ ps. i < length ps) c.places-places.ensures within,
      λ d. subst (λ ps. ExtensionsDiffer (tables_of s.code) (is_in s.set) (get_or ps i d)) c.places-places.ensures
          (subst (ExtensionsDiffer (tables_of s.code) (is_in s.set)) (get_or_default places i _ d within) c.in_default.ensures),
    )

pub returns-clause-read : goal.returns-clause-read
returns-clause-read g c = λ at file are whole long of_file.
    let s = c.args.survivors.now in
    let done = c.loop-index.done in
    let end : c.loop-index.index ≡ c.data_count-index-end.result = omega arith in
    let all : done ≡ c.args.file_bytes = all_at_end s.code c.args.file_bytes done s.length c.loop-index.index c.loop-index.invariant.within
    c.requires.len (end ∙ c.data_count-index-end.ensures) c.loop-index.invariant.begin in
    c.loop-index.invariant.read at file are whole long of_file
    ∙ ap (λ xs. option_map (λ written. written ++ xs) (g.N.NewFragment.shown c.args.output.now)) (read_whole file done (all ∙ sym long))
