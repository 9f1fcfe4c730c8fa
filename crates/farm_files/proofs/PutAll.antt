-- Files put one after the other.
use Rattle.std.proofs.Common.{◌≡◌, ◌<◌, ◌+◌, ◌++◌, ◌∙◌, ℕ, List, [], ◌∷◌, Some, None, length, take, map, get_or, refl, ap, sym, option_map}
use Rattle.std.proofs.Common.{string_bytes, arith}
use Rattle.std.proofs.lemmas.List.{take_more, get_or-map, length-map}
use Rattle.farm_shelves.specs.Files.{Files, Shown, put, put_all}
use Rattle.std.specs.Cow.{cow_slice_items}
use Rattle.farm_reports.specs.Named.{named}
use Rattle.farm_reports.specs.declared.rack_files.NamedFile.{NamedFile}

put_all-append : (old : Files) (fs gs : List (List ℕ × List ℕ)) → put_all old (fs ++ gs) ≡ put_all (put_all old fs) gs
put_all-append old [] gs = refl
put_all-append old (f ∷ fs) gs = put_all-append (put old f.0 f.1) fs gs

over : (old : Shown) (fs : List (List ℕ × List ℕ)) (f : List ℕ × List ℕ)
    → option_map (λ m. put m f.0 f.1) (option_map (λ m. put_all m fs) old) ≡ option_map (λ m. put_all m (fs ++ f ∷ [])) old
over None fs f = refl
over (Some m) fs f = ap Some (sym (put_all-append m fs (f ∷ [])))

pub put_more : (files : List NamedFile) (i : ℕ) (file : NamedFile) (old mid new : Shown) (name bytes : List ℕ)
    → i < length files → file ≡ get_or files i file
    → mid ≡ option_map (λ m. put_all m (take i (map named files))) old
    → name ≡ string_bytes file.name → bytes ≡ cow_slice_items file.bytes
    → new ≡ option_map (λ m. put m name bytes) mid
    → new ≡ option_map (λ m. put_all m (take (i + 1) (map named files))) old
put_more files i file old mid new name bytes within is so named_so bytes_so wrote =
    let within_map : i < length (map named files) = omega (arith, length-map files named) in
    let next : take (i + 1) (map named files) ≡ take i (map named files) ++ named file ∷ [] =
    take_more (map named files) i (named file) within_map
    ∙ ap (λ f. take i (map named files) ++ f ∷ []) (get_or-map named files i file (named file) within ∙ ap named (sym is)) in
    wrote ∙ rw (so, named_so, bytes_so, next) (over old (take i (map named files)) (named file))
