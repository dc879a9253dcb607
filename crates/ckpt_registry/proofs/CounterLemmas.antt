-- What one change of the counters does to the count of each file.
use Rattle.ckpt_registry.proofs.Names.{IsIn, IsIn-at, ◌≡◌, ℕ, zero, suc, ◌+◌, ◌<◌, ◌≤◌, ◌^◌, cond, eqb, ltb, nat_eq, List, [], ◌∷◌, ◌++◌, length, get_or, take, ap, arith, Option, Some}
use Rattle.ckpt_registry.proofs.Names.{None, Result, unwrap_or, is_some, IfOk, if◌then◌else◌, eqb-true, lt-ltb, le-ltb, none-some, IsOk, OnOk, false≢true, position}
use Rattle.ckpt_registry.proofs.Names.{slice_get, lookup, keys_of, values_of, position-Some, get, keys, values, one_if-true, one_if-false, Counts, Released, counter, counted_once}
use Rattle.ckpt_registry.proofs.Names.{AreInRange, AreLowered, AreReleased, one_if, times, common_steps, released}

-- n has w at k, and else what m has
abbrev pub Sets : Counts → Counts → ℕ → Option ℕ → Type 0
Sets m n k w = (q : ℕ) → get nat_eq n q ≡ cond (eqb k q) w (get nat_eq m q)

-- the entry that a look-up of its index finds

entry_at : (es : List (ℕ × ℕ)) (i k v d : ℕ) → k ≡ get_or (keys_of es) i d → slice_get (values_of es) i ≡ Some v → slice_get es i ≡ Some (k, v)
entry_at [] i k v d here at = absurd (none-some v at)
entry_at (e ∷ es) zero k v d here at = grind (arith, common_steps)
entry_at (e ∷ es) (suc i) k v d here at = entry_at es i k v d here at

pub entry_found : (m : Counts) (i k v : ℕ) → position (nat_eq k) (keys m) ≡ Some i → slice_get (values m) i ≡ Some v → slice_get m.entries i ≡ Some (k, v)
entry_found m i k v found at = entry_at m.entries i k v k (eqb-true k (get_or (keys m) i k) (position-Some (nat_eq k) (keys m) i k found).1) at

-- a counter above 0 is there
pub get-from_counter : (m : Counts) (f : ℕ) → 0 < counter m f → get nat_eq m f ≡ Some (counter m f)
get-from_counter m f h = grind (arith, common_steps)

-- a file that is not counted has no counter
pub get-none : (m : Counts) → AreInRange m → (f : ℕ) → counter m f ≡ 0 → get nat_eq m f ≡ None
get-none m r f h = grind (arith, common_steps, r f)

pub AreInRange-below : (m : Counts) → AreInRange m → (f : ℕ) → counter m f < 2 ^ 32
AreInRange-below m r f = grind (arith, common_steps, r f)

pub AreInRange-set : (m n : Counts) (k v : ℕ) → Sets m n k (Some v) → AreInRange m → 0 < v → v < 2 ^ 32 → AreInRange n
AreInRange-set m n k v s r above below = grind (arith, common_steps)

pub AreInRange-gone : (m n : Counts) (k : ℕ) → Sets m n k None → AreInRange m → AreInRange n
AreInRange-gone m n k s r = grind (arith, common_steps)

-- one use less
pub counter-lowered : (m n : Counts) (k v : ℕ) (w : Option ℕ) → Sets m n k w → counter m k ≡ v → unwrap_or w 0 + 1 ≡ v → (f : ℕ) → counter n f + one_if (eqb k f) ≡ counter m f
counter-lowered m n k v w s had less f = grind (arith, common_steps)

pub counted_once-above : (m : Counts) (f : ℕ) → 0 < counter m f → counted_once m f ≡ 1
counted_once-above m f h = one_if-true (ltb 0 (counter m f)) (lt-ltb 0 (counter m f) h)

pub counted_once-zero : (m : Counts) (f : ℕ) → counter m f ≡ 0 → counted_once m f ≡ 0
counted_once-zero m f h = one_if-false (ltb 0 (counter m f)) (le-ltb 0 (counter m f) (omega arith))

-- a file whose count only falls keeps its place
pub counted_once-kept : (m n : Counts) (k v w : ℕ) → Sets m n k (Some w) → counter m k ≡ v → 0 < v → 0 < w → (f : ℕ) → counted_once n f ≡ counted_once m f
counted_once-kept m n k v w s had above still f = grind (arith, common_steps)

-- a file whose last use goes is released
pub times-released : (m n : Counts) (k : ℕ) (xs : List ℕ) → Sets m n k None → 0 < counter m k → (f : ℕ) → times f (xs ++ k ∷ []) + counted_once n f ≡ times f xs + counted_once m f
times-released m n k xs s above f = grind (arith, common_steps)

-- one more file counted, of a list of which i were
pub counter_more : (was m n : Counts) (xs : List ℕ) (i k w : ℕ) → Sets m n k (Some w) → w ≡ counter m k + 1 → i < length xs → k ≡ get_or xs i k
    → ((f : ℕ) → counter m f ≡ counter was f + times f (take i xs)) → (f : ℕ) → counter n f ≡ counter was f + times f (take (i + 1) xs)
counter_more was m n xs i k w s more within at inv f = grind (arith, common_steps)

-- a call that succeeds does what it promises
pub OnOk-at : {T E : Type 0} (r : Result T E) (P : Type 0) → IsOk r → OnOk r P → P
OnOk-at r P h2 h3 = grind (arith, common_steps, false≢true)

-- a file that is there once is not among those before it
pub times_before : (xs : List ℕ) (i k : ℕ) → times k xs ≤ 1 → i < length xs → k ≡ get_or xs i k → times k (take i xs) ≡ 0
times_before xs i k once within at = grind (arith, common_steps)

-- one more entry if there was none
pub length_fresh : {E : Type 0} (r : Result (Option ℕ) E) (o : Option ℕ) (l n : ℕ) → IsOk r → o ≡ None → IfOk r (λ old. old ≡ o) → IfOk r (λ old. n ≡ l + (if is_some old then 0 else 1)) → n ≡ l + 1
length_fresh r o l n h4 h5 h6 h7 = grind (arith, common_steps, false≢true)

-- a file and those before it, of a list
pub times_through : (xs : List ℕ) (i k : ℕ) → i < length xs → k ≡ get_or xs i k → times k (take i xs) + 1 ≤ times k xs
times_through xs i k within at = grind (arith, common_steps)

-- the next file of a list of which i were counted has room for its count
pub next_fits : (was now : Counts) (xs : List ℕ) (i k : ℕ) → i < length xs → k ≡ get_or xs i k → ((f : ℕ) → counter now f ≡ counter was f + times f (take i xs))
    → ((f : ℕ) → IsIn f xs → counter was f + times f xs < 2 ^ 32) → counter now k + 1 < 2 ^ 32
next_fits was now xs i k within at counted fits = omega (arith, counted k, fits k (IsIn-at xs i k within at), times_through xs i k within at)

pub counted_once-le : (m : Counts) (f : ℕ) → counted_once m f ≤ 1
counted_once-le m f = grind (arith, common_steps)

pub above_from_counted_once : (m : Counts) (f : ℕ) → 0 < counted_once m f → 0 < counter m f
above_from_counted_once m f c = grind (arith, common_steps)

pub zero_from_counted_once : (m : Counts) (f : ℕ) → counted_once m f ≡ 0 → counter m f ≡ 0
zero_from_counted_once m f c = grind (arith, common_steps)

-- a file that is counted has a counter, and no other has
pub is_some-get : (m : Counts) → AreInRange m → (f : ℕ) → is_some (get nat_eq m f) ≡ ltb 0 (counter m f)
is_some-get m r f = grind (arith, common_steps, r f)

-- room that was made changes no counter
pub counter-unchanged : (m n : Counts) → n.entries ≡ m.entries → (f : ℕ) → counter n f ≡ counter m f
counter-unchanged m n same f = ap (λ es. unwrap_or (lookup (eqb f) es) 0) same

pub AreInRange-unchanged : (m n : Counts) → n.entries ≡ m.entries → AreInRange m → AreInRange n
AreInRange-unchanged m n same r = λ f v h. r f v (rw same at h)

-- and at most one more in any case
pub length_more : {E : Type 0} (r : Result (Option ℕ) E) (l n : ℕ) → IsOk r → IfOk r (λ old. n ≡ l + (if is_some old then 0 else 1)) → n ≤ l + 1
length_more r l n h3 h4 = grind (arith, common_steps, false≢true)

-- releases one after the other

pub AreReleased-then : (m n k : Counts) (out more most : Released) → AreReleased m out n more → AreReleased n more k most → AreReleased m out k most
AreReleased-then m n k out more most a b = grind (arith, common_steps)

pub AreLowered-then : (first later all : ℕ → ℕ) (m n k : Counts) (out more most : Released) → ((f : ℕ) → first f + later f ≡ all f) → AreLowered first m out n more → AreLowered later n more k most
    → AreLowered all m out k most
AreLowered-then first later all m n k out more most both a b = grind (arith, common_steps)

pub AreLowered-same : (less all : ℕ → ℕ) (m n : Counts) (out more : Released) → ((f : ℕ) → less f ≡ all f) → AreLowered less m out n more → AreLowered all m out n more
AreLowered-same less all m n out more same a = record { lowered = λ f. omega (arith, same f, a.lowered f); released = a.released; range = a.range }
