-- The transactions up to a record are the first ones.
use Rattle.std.proofs.Common.{◌≡◌, ℕ, ◌+◌, ◌<◌, ◌≤◌, zero, suc, Bool, true, false, nat_le, nat_cmp, is_gt, if◌then◌else◌, List, ◌∷◌, take, drop, length, slice_index_or, refl, ap, arith, []}
use Rattle.std.proofs.lemmas.Grind.{common_steps}
use Rattle.ckpt_once.specs.Sinks.{Transaction, above, up_to}

abbrev pub count_of : ℕ → List Transaction → ℕ
count_of n [] = zero
count_of n (one ∷ ones) = if nat_le one.id n then suc (count_of n ones) else zero

front_by : (b : Bool) (one : Transaction) (ones : List Transaction) (k : ℕ) (front : List Transaction) → take k ones ≡ front
    → take (if b then suc k else zero) (one ∷ ones) ≡ (if b then one ∷ front else [])
front_by true one ones k front e = ap (λ (l : List Transaction). one ∷ l) e
front_by false one ones k front e = refl

pub counted_front : (n : ℕ) (ones : List Transaction) → take (count_of n ones) ones ≡ up_to n ones
counted_front n [] = refl
counted_front n (one ∷ ones) = front_by (nat_le one.id n) one ones (count_of n ones) (up_to n ones) (counted_front n ones)

back_by : (b : Bool) (one : Transaction) (ones : List Transaction) (k : ℕ) (back : List Transaction) → drop k ones ≡ back
    → drop (if b then suc k else zero) (one ∷ ones) ≡ (if b then back else one ∷ ones)
back_by true one ones k back e = e
back_by false one ones k back e = refl

pub counted_back : (n : ℕ) (ones : List Transaction) → drop (count_of n ones) ones ≡ above n ones
counted_back n [] = refl
counted_back n (one ∷ ones) = back_by (nat_le one.id n) one ones (count_of n ones) (above n ones) (counted_back n ones)

not_le : (m n : ℕ) → true ≡ is_gt (nat_cmp m n) → nat_le m n ≡ false
not_le m n e = grind (arith, common_steps)

stops : (n : ℕ) (one : Transaction) (ones : List Transaction) → true ≡ is_gt (nat_cmp one.id n) → count_of n (one ∷ ones) ≡ zero
stops n one ones e = ap (λ (b : Bool). if b then suc (count_of n ones) else zero) (not_le one.id n e)

-- a loop that counts, at the first transaction that is later
pub counted_to : (n i : ℕ) (ones : List Transaction) (one : Transaction) → one ≡ slice_index_or ones i one → i < length ones → true ≡ is_gt (nat_cmp one.id n)
    → count_of n ones ≡ i + count_of n (drop i ones) → count_of n ones ≡ i
counted_to n i ones one is less later e = grind (arith, common_steps)

-- and at the end
pub counted_all : (n i : ℕ) (ones : List Transaction) → length ones ≤ i → count_of n ones ≡ i + count_of n (drop i ones) → count_of n ones ≡ i
counted_all n i ones end e = grind (arith, common_steps)
