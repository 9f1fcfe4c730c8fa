use Rattle.std.proofs.Common.{◌<◌, ◌∙◌, ap, sym, subst, get_or, length, arith, map, take, Some, []}
use Rattle.std.specs.Prelude.{OnOk, option_map}
use Rattle.std.proofs.lemmas.Result.{on_ok_weaker}
use Rattle.lrc_code.specs.Codes.{tables_of}
use Rattle.store_repair.specs.Files.{encoding_rows, fragment_length, part, parts}
use Rattle.stores.specs.Shown.{shown_of}
use Rattle.store_repair.specs.Windows.{AreAppended}
use Rattle.store_repair.proofs.EncodingLemmas.{bytes, fragment_shown, rows_many}
use Rattle.store_repair.proofs.encoding.encode.Goals as goal

pub append_combined-requires : goal.append_combined-requires
append_combined-requires g c =
    ap length (c.as_slice-2.ensures.value ∙ c.in_ok-rows.ensures) ∙ rows_many c.args.code ∙ sym c.requires.files

pub returns-clause-encoded : goal.returns-clause-encoded
returns-clause-encoded g c = λ file is small long.
    let code = c.args.code in
    let shown = g.N.NewFragment.shown in
    let len = fragment_length code (length file) in
    let sources = parts code len file in
    let is_len = c.fragment_length-many.ensures ∙ ap (fragment_length code) (sym long) in
    let old = c.args.files.now in
    let new = c.append_combined.new.files in
    let appended = c.append_combined.ensures.appended sources (record {
      are = ap (map (shown_of (λ p. option_map (λ f. part (take p.file_bytes f) p.from p.many) (g.S.Fragment.shown p.source.now))))
          c.as_slice.ensures.value
          ∙ c.in_ok-parts.ensures.parts file is long ∙ ap (λ n. map Some (parts code (fragment_length code n) file)) (sym long);
      bytes = bytes code file small;
    }) in
    let rows = subst (λ r. OnOk c.append_combined.result (AreAppended shown sources c.fragment_length-many.result r old new))
    (c.as_slice-2.ensures.value ∙ c.in_ok-rows.ensures) appended in
    on_ok_weaker c.append_combined.result
    (λ e k d f lt.
    let less : k < length old = omega (arith, lt, c.append_combined.auto.files) in
    let within : k < length (tables_of code).places = subst (λ n. k < n) c.requires.files less in
    fragment_shown code file small k d [] (shown (get_or old k f)) (shown (get_or new k f)) within (c.requires.empty k f less)
    (e k [] f f less))
    (subst (λ n. OnOk c.append_combined.result (AreAppended shown sources n (encoding_rows code) old new)) is_len rows)
