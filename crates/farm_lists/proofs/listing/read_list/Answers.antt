use Rattle.std.proofs.Common.{Bor, List, ℕ, ◌<◌, ◌++◌, ◌∙◌, sym, refl, inl, inr, ap, Some, ◌∷◌, [], arith, length}
use Rattle.std.proofs.lemmas.List.{length-append}
use Rattle.std.proofs.lemmas.Result.{err_from_is_err_and}
use Rattle.csv.specs.Reading.{Reached, default_config, strip_bom}
use Rattle.csv.specs.Records.{fields_of}
use Rattle.csv.specs.declared.parser.State.TheVariants as st
use Rattle.csv.proofs.ReadFacts.{rows-end, rows-more}
use Rattle.farm_lists.proofs.Orders.{explain, listed_all, lists_all, so_far_empty, too_long, list_few}
use Rattle.farm_lists.specs.Listing.{list_of_rows}
use Rattle.farm_lists.proofs.listing.read_list.Goals as goal

pub loop-row-init : goal.loop-row-init
unfolding Reached
loop-row-init c =
    let fr = c.from_reader-rdr.ensures in
    let flex = c.flexible.ensures in
    let heads = c.has_headers.ensures in
    let start = c.into_iter-row-iterator.ensures.into_iter_gives ∙ refl in
    let rdr = c.into_byte_records-row-items.ensures.rdr in
    let left = c.into_byte_records-row-items.ensures.left in
    rw (start, rdr, c.new-list.ensures.items) (
      rw (flex, heads) at fr.trim ∙ c.new.ensures.trim,
      inr (inr (rw (flex, heads) at fr.has_headers, fr.headers)),
      left,
      rw (flex, heads) at fr.config ∙ c.new.ensures.config,
      strip_bom c.args.bytes.now,
      fr.source,
      [],
      (sym fr.state, refl),
      refl,
      refl,
      c.if-bytes-gt-MOST_LIST_BYTES.false,
      omega arith,
    )

pub loop-row-preserved : goal.loop-row-preserved
loop-row-preserved c =
    let (plain, ready, left, config, y, source, rows, reached, number, so, small, few) = c.loop-row.invariant in
    let s = rw (c.in-Some.is, c.in-Ok.is) at ((c.next.ensures.steps left plain).0 ready) in
    let m = rows-more (λ (s : Bor (List ℕ)). Some s.now) c.loop-row.row-iterator.rdr c.next.new.self.rdr
    (fields_of c.in-Ok.row) default_config st.StartRecord (strip_bom c.args.bytes.now) y rows config source reached s.0 in
    let took = c.in_ok-take_row.ensures.ok in (
      s.0.3 ∙ plain,
      inl s.1,
      s.2,
      s.0.2 ∙ config,
      m.0,
      m.1,
      rows ++ fields_of c.in-Ok.row ∷ [],
      m.2,
      omega (arith, length-append rows (fields_of c.in-Ok.row ∷ []), number),
      took.1 rows (sym number) so,
      small,
      omega (arith, took.0),
    )

pub returns-in_err-take_row-clause-fault : goal.returns-in_err-take_row-clause-fault
returns-in_err-take_row-clause-fault c =
    let (plain, ready, left, config, y, source, rows, reached, number, so, small, few) = c.loop-row.invariant in
    let s = rw (c.in-Some.is, c.in-Ok.is) at ((c.next.ensures.steps left plain).0 ready) in
    let m = rows-more (λ (s : Bor (List ℕ)). Some s.now) c.loop-row.row-iterator.rdr c.next.new.self.rdr
    (fields_of c.in-Ok.row) default_config st.StartRecord (strip_bom c.args.bytes.now) y rows config source reached s.0 in
    let p = err_from_is_err_and c.from_residual.result c.from_residual.ensures.1 in
    let some : 0 < length (rows ++ fields_of c.in-Ok.row ∷ []) = omega (arith, length-append rows (fields_of c.in-Ok.row ∷ [])) in
    rw (p.1, p.2) (explain c.in_err-take_row.field-0.0 c.args.bytes.now
    (rows ++ fields_of c.in-Ok.row ∷ []) c.next.new.self.rdr.state m.0 small some m.2
    (c.in_err-take_row.ensures.err rows (sym number) so))

-- all records were read
pub returns-then-number-eq0-clause-fault : goal.returns-then-number-eq0-clause-fault
returns-then-number-eq0-clause-fault c =
    let (plain, ready, left, config, y, source, rows, reached, number, so, small, few) = c.loop-row.invariant in
    let s = rw c.in-None.is at ((c.next.ensures.steps left plain).0 ready) in
    lists_all c.args.bytes.now rows small (
      c.loop-row.row-iterator.rdr.state,
      y,
      reached,
      rows-end (λ (s : Bor (List ℕ)). Some s.now) c.loop-row.row-iterator.rdr c.next.new.self.rdr [] default_config y config source s,
    )
    ∙ ap list_of_rows (so_far_empty rows (omega (arith, number, c.if-number-eq0.true)))

pub returns : goal.returns
returns c =
    let (plain, ready, left, config, y, source, rows, reached, number, so, small, few) = c.loop-row.invariant in
    let s = rw c.in-None.is at ((c.next.ensures.steps left plain).0 ready) in
    let read = lists_all c.args.bytes.now rows small (
      c.loop-row.row-iterator.rdr.state,
      y,
      reached,
      rows-end (λ (s : Bor (List ℕ)). Some s.now) c.loop-row.row-iterator.rdr c.next.new.self.rdr [] default_config y config source s,
    )
    ∙ listed_all c.loop-row.coded rows c.loop-row.list.items c.loop-row.number (sym number) c.if-number-eq0.false so in
    record { read = read; few = list_few c.args.bytes.now c.loop-row.list.items read; fault = tt }

pub returns-then-bytes-gt-MOST_LIST_BYTES-clause-fault : goal.returns-then-bytes-gt-MOST_LIST_BYTES-clause-fault
returns-then-bytes-gt-MOST_LIST_BYTES-clause-fault c = too_long c.args.bytes.now c.if-bytes-gt-MOST_LIST_BYTES.true
