use Rattle.std.proofs.Common.{◌∙◌, ap, subst}
use Rattle.std.specs.Prelude.{is_some}
use Rattle.std.specs.Prelude.{IfSome}
use Rattle.store_files.specs.Digests.{HasDigest}
use Rattle.store_folder.specs.Placed.{content_of}
use Rattle.store_folder.proofs.Written.{puts_kept}
use Rattle.store_reading.specs.Written.{IsFileAt}
use Rattle.store_reading.proofs.Written.{give_file, give_none, put_file}
use Rattle.store_reading.proofs.reading.destination.write_whole.Goals as goal

pub returns-in_err-file-clause-whenever : goal.returns-in_err-file-clause-whenever
returns-in_err-file-clause-whenever c =
    puts_kept (IsFileAt c.args.path.now c.args.sought.now.described.digest) _ _ c.write_new.ensures.whenever

pub returns-in_default-clause-whenever : goal.returns-in_default-clause-whenever
returns-in_default-clause-whenever c =
    puts_kept (IsFileAt c.args.path.now c.args.sought.now.described.digest) _ _ c.write_new.ensures.whenever

pub returns-in-Ok-clause-whenever : goal.returns-in-Ok-clause-whenever
returns-in-Ok-clause-whenever c =
    let digest = c.args.sought.now.described.digest in
    put_file c.args.path.now digest (content_of c.in-Some.file) _ _ _
    (subst (λ o. IfSome o (λ file. HasDigest digest (content_of file))) c.in-Some.is c.in_ok-file.ensures.file)
    c.write_new.ensures.whenever c.put.ensures.whenever

pub returns-in-Err-clause-whenever : goal.returns-in-Err-clause-whenever
returns-in-Err-clause-whenever c =
    let digest = c.args.sought.now.described.digest in
    put_file c.args.path.now digest (content_of c.in-Some.file) _ _ _
    (subst (λ o. IfSome o (λ file. HasDigest digest (content_of file))) c.in-Some.is c.in_ok-file.ensures.file)
    c.write_new.ensures.whenever c.put.ensures.whenever

pub returns-in_err-file-clause-alone : goal.returns-in_err-file-clause-alone
returns-in_err-file-clause-alone c = λ none. give_none c.args.path.now c.args.sought.now.described.digest _ _ c.write_new.ensures.whenever

pub returns-in_default-clause-alone : goal.returns-in_default-clause-alone
returns-in_default-clause-alone c = λ none. give_none c.args.path.now c.args.sought.now.described.digest _ _ c.write_new.ensures.whenever

pub returns-in-Ok-clause-alone : goal.returns-in-Ok-clause-alone
returns-in-Ok-clause-alone c = λ none.
    let digest = c.args.sought.now.described.digest in
    give_file c.args.path.now digest (content_of c.in-Some.file) _ _ _
    (subst (λ o. IfSome o (λ file. HasDigest digest (content_of file))) c.in-Some.is c.in_ok-file.ensures.file)
    c.write_new.ensures.whenever (c.put.ensures.alone (c.is_some.ensures ∙ ap is_some none))

pub returns-in-Err-clause-alone : goal.returns-in-Err-clause-alone
returns-in-Err-clause-alone c = λ none.
    let digest = c.args.sought.now.described.digest in
    give_file c.args.path.now digest (content_of c.in-Some.file) _ _ _
    (subst (λ o. IfSome o (λ file. HasDigest digest (content_of file))) c.in-Some.is c.in_ok-file.ensures.file)
    c.write_new.ensures.whenever (c.put.ensures.alone (c.is_some.ensures ∙ ap is_some none))
