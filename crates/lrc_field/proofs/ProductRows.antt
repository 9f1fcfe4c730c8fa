-- The tables of products.
use Rattle.std.proofs.Common.{◌≡◌, ℕ, suc, zero, ◌+◌, ◌*◌, ◌/◌, ◌%◌, ◌<◌, ◌^◌, Bool, List, [], ◌∷◌, length, get_or, true, refl, ap, ap₂}
use Rattle.std.proofs.Common.{sym, ◌∙◌, arith, eqb}
use Rattle.std.specs.Prelude.{◌&&◌}
use Rattle.std.proofs.lemmas.Bool.{eqb-true}
use Rattle.lrc_field.specs.Field.{times}
use Rattle.lrc_field.specs.declared.low_products.TheConstants.{LOW_PRODUCTS}
use Rattle.lrc_field.specs.declared.high_products.TheConstants.{HIGH_PRODUCTS}
use Rattle.lrc_field.proofs.Shift.{m, and_parts}
use Rattle.lrc_field.proofs.Product.{times_is_reduced}

-- from place n of a table on, the products of n / 16 and u * (n % 16)
abbrev are_products : ℕ → ℕ → List ℕ → Bool
are_products u n [] = true
are_products u n (x ∷ xs) = eqb x (m (n / 16) (u * (n % 16))) && are_products u (suc n) xs

product_in : (u n k : ℕ) (xs : List ℕ) → are_products u n xs ≡ true → k < length xs → get_or xs k 0 ≡ m ((n + k) / 16) (u * ((n + k) % 16))
product_in u n k [] h lt = absurd (omega arith)
product_in u n zero (x ∷ xs) h lt =
    let z : n ≡ n + 0 = omega arith in
    eqb-true x (m (n / 16) (u * (n % 16))) (and_parts (eqb x (m (n / 16) (u * (n % 16)))) (are_products u (suc n) xs) h).0
    ∙ ap (λ i. m (i / 16) (u * (i % 16))) z
product_in u n (suc k) (x ∷ xs) h lt =
    let z : suc n + k ≡ n + suc k = omega arith in
    product_in u (suc n) k xs (and_parts (eqb x (m (n / 16) (u * (n % 16)))) (are_products u (suc n) xs) h).1 (omega arith)
    ∙ ap (λ i. m (i / 16) (u * (i % 16))) z

product_at : (u c k : ℕ) (xs : List ℕ) → are_products u 0 xs ≡ true → length xs ≡ 4096 → c < 256 → k < 16 → u * k < 2 ^ 8
    → get_or xs (16 * c + k) 0 ≡ times c (u * k)
product_at u c k xs all many hc hk byte =
    let place : 0 + (16 * c + k) ≡ 16 * c + k = omega arith in
    let first : (16 * c + k) / 16 ≡ c = omega arith in
    let second : (16 * c + k) % 16 ≡ k = omega arith in
    product_in u 0 (16 * c + k) xs all (omega (arith, many)) ∙ ap (λ i. m (i / 16) (u * (i % 16))) place
    ∙ ap₂ (λ x y. m x (u * y)) first second
    ∙ sym (times_is_reduced c (u * k) (omega arith) byte)

unfoldable low_table : List ℕ
low_table = LOW_PRODUCTS

unfoldable high_table : List ℕ
high_table = HIGH_PRODUCTS

low_all : are_products 1 0 low_table ≡ true
unfolding low_table
low_all = refl

high_all : are_products 16 0 high_table ≡ true
unfolding high_table
high_all = refl

low_many : length low_table ≡ 4096
unfolding low_table
low_many = refl

high_many : length high_table ≡ 4096
unfolding high_table
high_many = refl

pub low_product : (c k : ℕ) → c < 256 → k < 16 → get_or LOW_PRODUCTS (16 * c + k) 0 ≡ times c k
unfolding low_table
low_product c k hc hk =
    let one : 1 * k ≡ k = omega arith in
    product_at 1 c k low_table low_all low_many hc hk (omega arith) ∙ ap (times c) one

pub high_product : (c k : ℕ) → c < 256 → k < 16 → get_or HIGH_PRODUCTS (16 * c + k) 0 ≡ times c (16 * k)
unfolding high_table
high_product c k hc hk = product_at 16 c k high_table high_all high_many hc hk (omega arith)
