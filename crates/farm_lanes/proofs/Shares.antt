-- Equal shares, one dealt after the other.
use Rattle.std.proofs.Common.{◌≡◌, ℕ, zero, suc, ◌-◌, ◌*◌, ◌<◌, ap, ◌∙◌, arith}
use Rattle.std.proofs.Math.Nat.{mul-suc}
use Rattle.farm_lanes.specs.SeatChanges.{fresh, without}
use mathlib.Core.Bool.{false}

share_less : (a k : ℕ) → 0 < k → a * k - a ≡ a * (k - 1)
share_less a zero h = absurd (omega arith)
share_less a (suc k) h = let e = mul-suc a k in let p : a * suc k - a ≡ a * k = omega arith in
    let q : k ≡ suc k - 1 = omega arith in p ∙ ap (λ j. a * j) q

pub dealt : (share left rights : ℕ) → 0 < left → without (fresh (share * left) rights false) share 0
    ≡ fresh (share * (left - 1)) rights false
dealt share left rights h = let p = share_less share left h in let q : rights - 0 ≡ rights = omega arith in λ i. fresh (p i) (q i) false
