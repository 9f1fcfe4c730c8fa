use Rattle.std.proofs.Common.{ap, refl, ℕ, List, Bor}
use Rattle.store_encoding.proofs.Taken.{descriptions_out, fragments_out, sums_out}
use Rattle.store_encoding.proofs.removing.take_out.Goals as goal

pub returns-in_err-write_new_sums : goal.returns-in_err-write_new_sums
returns-in_err-write_new_sums g c = (
  c.write_new_sums.ensures.0,
  sums_out c.args.target.now.folder.now c.write_new_sums.ensures.0 c.args.descriptions.now c.args.fragments.now _ _
      c.write_new_sums.ensures.1,
  c.write_new_sums.ensures.2,
)

pub returns-in_err-remove_names : goal.returns-in_err-remove_names
returns-in_err-remove_names g c =
    let text = c.write_new_sums.ensures.0 in (
      text,
      descriptions_out c.args.target.now.folder.now text c.args.descriptions.now c.args.fragments.now
          c.args.target.now.folder.now refl _ _ _
          (sums_out c.args.target.now.folder.now text c.args.descriptions.now c.args.fragments.now _ _ c.write_new_sums.ensures.1)
          c.remove_names.ensures.gone,
      c.write_new_sums.ensures.2,
    )

pub returns : goal.returns
returns g c =
    let text = c.write_new_sums.ensures.0 in (
      text,
      fragments_out c.args.target.now.folder.now text c.args.descriptions.now c.args.fragments.now
          c.remove_names.new.target.folder.now (ap (λ (f : Bor (List ℕ)). f.now) c.remove_names.ensures.folder) _ _ _
          (descriptions_out c.args.target.now.folder.now text c.args.descriptions.now c.args.fragments.now
          c.args.target.now.folder.now refl _ _ _
          (sums_out c.args.target.now.folder.now text c.args.descriptions.now c.args.fragments.now _ _ c.write_new_sums.ensures.1)
          c.remove_names.ensures.gone) c.remove_names-2.ensures.gone,
      c.write_new_sums.ensures.2,
    )
