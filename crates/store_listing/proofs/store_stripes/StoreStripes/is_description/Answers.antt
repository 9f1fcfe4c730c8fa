use Rattle.std.proofs.Common.{string_bytes, subst}
use Rattle.store_names.specs.Descriptions.{IsDescription}
use Rattle.store_names.proofs.Folders.{named}
use Rattle.store_listing.specs.Stripes.{IsOfDescribed}
use Rattle.store_listing.proofs.store_stripes.StoreStripes.is_description.Goals as goal

pub returns : goal.returns
returns c =
    let p = c.args.pattern.now in
    let code = c.args.code in λ yes there. record {
      file = string_bytes c.in-Some.file;
      is_file = named p code c.args.name.now c.args.place c.in_ok-file.field-0 c.in_ok-file.ensures c.in-Some.file c.in-Some.is;
      is_description = subst (λ t. IsDescription p code t) c.as_str.ensures.value
          (c.in_ok-is_description_name.ensures c.if-not-branch.false);
      is_described = subst (λ t. IsOfDescribed c.args.self.now.described t) c.as_str-2.ensures.value (c.is_described_by.ensures.0 yes);
    }
