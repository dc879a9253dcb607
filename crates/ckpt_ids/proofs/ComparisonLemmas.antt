-- The comparison of numbers goes by their order, and the test whether they are equal has no order.
use Rattle.ckpt_ids.proofs.Names.{◌≡◌, ℕ, ◌≤◌, true, eqb, ltb, arith, nat_cmp, ordering_index, Less, Equal, Greater, nat_tests, IsSearchOrder}

pub eqb_turned : (x y : ℕ) → eqb x y ≡ eqb y x
eqb_turned x y = grind (arith, nat_tests)

pub numbers_searched : IsSearchOrder nat_cmp ltb
numbers_searched = record {
  less = λ a b h. less a b h;
  equal = λ a b h. equal a b h;
  greater = λ a b h. greater a b h;
  rises = λ a b k h. rises a b k h;
}
  where
    less : (a b : ℕ) → nat_cmp a b ≡ Less → ltb a b ≡ true
    less a b h = grind (arith, nat_tests)

    equal : (a b : ℕ) → nat_cmp a b ≡ Equal → a ≡ b
    equal a b h = grind (arith, nat_tests)

    greater : (a b : ℕ) → nat_cmp a b ≡ Greater → ltb b a ≡ true
    greater a b h = grind (arith, nat_tests)

    rises : (a b k : ℕ) → ltb a b ≡ true → ordering_index (nat_cmp a k) ≤ ordering_index (nat_cmp b k)
    rises a b k h = grind (arith, nat_tests)
