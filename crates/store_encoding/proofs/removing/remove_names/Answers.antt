use Rattle.std.proofs.Common.{◌∙◌, ap, sym, subst, ℕ, List, Bor, String, Global, None, string_bytes}
use Rattle.store_folder.proofs.Written.{puts_nothing}
use Rattle.store_encoding.specs.Names.{IsNamed, path_of}
use Rattle.store_encoding.specs.Taken.{GoesOf}
use Rattle.store_encoding.proofs.Digests.{changes_among, changes_one}
use Rattle.store_encoding.proofs.Replaced.{path_is}
use Rattle.store_encoding.proofs.Taken.{goes_named, named_at, path_added}
use Rattle.store_encoding.proofs.removing.remove_names.Goals as goal

pub returns-in_err-paths-clause-gone : goal.returns-in_err-paths-clause-gone
returns-in_err-paths-clause-gone g c = puts_nothing (GoesOf c.args.target.now.folder.now c.args.names.now) _

pub returns-in_err-path-clause-gone : goal.returns-in_err-path-clause-gone
returns-in_err-path-clause-gone g c = puts_nothing (GoesOf c.args.target.now.folder.now c.args.names.now) _

pub returns-in_err-push-clause-gone : goal.returns-in_err-push-clause-gone
returns-in_err-push-clause-gone g c = puts_nothing (GoesOf c.args.target.now.folder.now c.args.names.now) _

pub names-preserved : goal.names-preserved
names-preserved g c =
    let folder = c.args.target.now.folder.now in
    let named = c.in_ok-path.ensures ∙ path_is folder c.names.target.folder.now c.name-item.result c.as_str.result.now
    (ap (λ (f : Bor (List ℕ)). f.now) c.names.invariant.folder) c.as_str.ensures.value in
    let among = subst (λ (n : String Global). IsNamed folder c.args.names.now (path_of folder n)) (sym c.name-item.is)
    (named_at folder c.args.names.now c.names.name-index _ c.names-test.true) in
    record {
      folder = c.names.invariant.folder;
      sums = changes_among c.args.names.now c.names.name-index _ c.names-test.true c.name-item.result (sym c.name-item.is)
          c.args.target.now.sums c.names.target.sums c.remove.new.self (changes_one (string_bytes c.name-item.result)
          c.as_str-in-names.result.now None c.names.target.sums c.remove.new.self c.as_str-in-names.ensures.value c.remove.ensures.others)
          c.names.invariant.sums;
      named = path_added folder c.args.names.now c.push.new.self.items c.names.paths.items c.in_ok-path.field-0 c.name-item.result
          c.in_ok-push.ensures.items named among c.names.invariant.named;
    }

pub returns-in-Ok-Some-clause-gone : goal.returns-in-Ok-Some-clause-gone
returns-in-Ok-Some-clause-gone g c = goes_named c.args.target.now.folder.now c.names.paths.items c.args.names.now
    c.names.invariant.named _ _ c.take_files.ensures.gone

pub returns-in-Ok-None-clause-gone : goal.returns-in-Ok-None-clause-gone
returns-in-Ok-None-clause-gone g c = goes_named c.args.target.now.folder.now c.names.paths.items c.args.names.now
    c.names.invariant.named _ _ c.take_files.ensures.gone

pub returns-in-Err-clause-gone : goal.returns-in-Err-clause-gone
returns-in-Err-clause-gone g c = goes_named c.args.target.now.folder.now c.names.paths.items c.args.names.now c.names.invariant.named
    _ _ c.take_files.ensures.gone
