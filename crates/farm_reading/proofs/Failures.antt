-- How often the device has failed, as plain numbers: each read of a fragment may fail once.
use Rattle.std.proofs.Common.{◌≡◌, ℕ, ◌+◌, ◌*◌, ◌<◌, ◌≤◌, arith}

pub no_fewer : (old now more : ℕ) → now ≡ old + more → old ≤ now
no_fewer old now more is = omega arith

pub no_fewer_then : (old before now more : ℕ) → before ≡ old + more → before ≤ now → old ≤ now
no_fewer_then old before now more is rose = omega arith

pub all_more : (old before now first further all : ℕ) → before ≡ old + first → now ≡ before + further → all ≡ first + further
    → now ≡ old + all
all_more old before now first further all had rose is = omega arith

-- ---- of requests, each of 15 survivors at most

pub few_further : (old before now done count : ℕ) → done < count → before ≤ old + 15 * done → now ≤ before + 15 → now ≤ old + 15 * count
few_further old before now done count within few more = omega arith

pub few_all : (old now done count : ℕ) → done ≤ count → now ≤ old + 15 * done → now ≤ old + 15 * count
few_all old now done count within few = omega arith

pub room_further : (old before done count room : ℕ) → done < count → before ≤ old + 15 * done → old + 15 * count < room → before + 15 < room
room_further old before done count room within few fits = omega arith

-- ---- of lists, of which one more is read

pub few_list : (old before now done listed read all : ℕ) → done + listed ≤ all → read ≡ listed → before ≤ old + 15 * done
    → now ≤ before + 15 * read → now ≤ old + 15 * all
few_list old before now done listed read all within is few more = omega arith

pub room_list : (old before done listed read all room : ℕ) → done + listed ≤ all → read ≡ listed → before ≤ old + 15 * done
    → old + 15 * all < room → before + 15 * read < room
room_list old before done listed read all room within is few fits = omega arith

-- ---- of racks

pub few_rack : (old before now done count : ℕ) → done < count → before ≤ old + 245760 * done → now ≤ before + 245760
    → now ≤ old + 245760 * count
few_rack old before now done count within few more = omega arith
