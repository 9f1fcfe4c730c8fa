use Rattle.std.proofs.Common.{◌≡◌, ◌≤◌, ◌<◌, ◌*◌, ◌++◌, ℕ, List, length, take}
use Rattle.std.specs.Prelude.{option_map}
use Rattle.lrc_code.specs.Sets.{is_in}
use Rattle.lrc_plan.specs.Stripes.{AreWhole}
use Rattle.store_repair.specs.Files.{AreOfFile}
use Rattle.stores.specs.Shown.{AreShown}
use Rattle.store_repair.proofs.file_reading.read_file.Given as goal

abbrev pub invariant-loop-index : goal.invariant-loop-index
invariant-loop-index g l =
    record {
      within : l.done ≤ l.file_bytes;
      begin : l.done < l.file_bytes → l.done ≡ l.index * l.survivors.length;
      read : (at : List (List ℕ)) (file : List ℕ) → AreShown g.F.Fragment.shown l.survivors.fragments.now at
          → AreWhole l.survivors.code (is_in l.survivors.set) at l.survivors.length → length file ≡ l.file_bytes
          → AreOfFile l.survivors.code (is_in l.survivors.set) at file
          → g.N.NewFragment.shown l.output ≡ option_map (λ written. written ++ take l.done file) (g.N.NewFragment.shown l.fn.output);
    }
