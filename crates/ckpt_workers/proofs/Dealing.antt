-- Members of a list that are dealt out in turn.
use Rattle.std.proofs.lemmas.Grind.{common_steps}
use Rattle.ckpt_workers.proofs.Names.{List, [], ap, arith, cases_order, cond, enumerate_from, eq-eqb, eqb, filter, filter-append, length, length-append, map, map-append, mod-lt, ne_eqb, refl, suc}
use Rattle.ckpt_workers.proofs.Names.{suc-mul, sym, turns_of, zero, ℕ, ⊎_elim, ◌%◌, ◌*◌, ◌++◌, ◌+◌, ◌-◌, ◌/◌, ◌<◌, ◌∙◌, ◌∷◌, ◌≡◌, ◌≢◌, ◌≤◌, ◌⊎◌}
use Rattle.std.proofs.Math.Numerals.{add-one}
use Rattle.std.proofs.lemmas.Nat.{div-add-mod', div-mul-add}

quotient : (n q s m : ℕ) → s < n → m ≡ q * n + s → m / n ≡ q
quotient n q s m small e = ap (λ x. x / n) e ∙ div-mul-add q n s small

quotient_next : (n q s m : ℕ) → s < n → m ≡ q * n + n + s → m / n ≡ q + 1
quotient_next n q s m small e = quotient n (q + 1) s m small (e ∙ ap (λ x. x + s) (sym (suc-mul q n) ∙ ap (λ x. x * n) (sym (add-one q))))

-- the place goes to the seat: one turn more
turns_of-next : (n k m : ℕ) → k < n → turns_of n k (m + 1) ≡ turns_of n k m + cond (eqb (m % n) k) 1 0
turns_of-next n k m below =
    let parts : m / n * n + m % n ≡ m = div-add-mod' m n in
    let small : m % n < n = mod-lt m (omega arith) in
    by_order (m / n) (m % n) parts small (cases_order (m % n) k)
  where
    by_order : (q r : ℕ) → q * n + r ≡ m → r < n → (r ≡ k) ⊎ ((r < k) ⊎ (k < r)) → turns_of n k (m + 1) ≡ turns_of n k m + cond (eqb r k) 1 0
    by_order q r parts small order =
        ⊎_elim
        (λ same. rw (quotient n q (n - 1) (m + (n - 1 - k)) (omega arith) (omega arith), quotient_next n q 0 (m + 1 + (n - 1 - k)) (omega arith) (omega arith), eq-eqb r k same))
        (λ (other : (r < k) ⊎ (k < r)).
        ⊎_elim
        (λ (less : r < k).
        let apart : r ≢ k = λ e. absurd (omega arith) in
        rw (ne_eqb r k apart, quotient n q (r + (n - 1 - k)) (m + (n - 1 - k)) (omega arith) (omega arith), quotient n q (r + (n - k)) (m + 1 + (n - 1 - k)) (omega arith) (omega arith)) (omega arith))
        (λ (more : k < r).
        let differ : r ≢ k = λ e. absurd (omega arith) in
        rw (ne_eqb r k differ, quotient_next n q (r - 1 - k) (m + (n - 1 - k)) (omega arith) (omega arith), quotient_next n q (r - k) (m + 1 + (n - 1 - k)) (omega arith) (omega arith)) (omega arith))
        other)
        order

turns_of-none : (n k : ℕ) → k < n → turns_of n k 0 ≡ 0
turns_of-none n k below = quotient n 0 (n - 1 - k) (0 + (n - 1 - k)) (omega arith) (omega arith)

-- the turns of a place's own seat before it
pub turns_of-here : (n m : ℕ) → 0 < n → turns_of n (m % n) m ≡ m / n
turns_of-here n m some =
    let parts : m / n * n + m % n ≡ m = div-add-mod' m n in
    let small : m % n < n = mod-lt m some in
    quotient n (m / n) (n - 1) (m + (n - 1 - m % n)) (omega arith) (omega arith)

pub turns_of-le : (n k m more : ℕ) → k < n → turns_of n k m ≤ turns_of n k (m + more)
turns_of-le n k m zero below = let e : m + 0 ≡ m = omega arith in omega (arith, ap (turns_of n k) e)
turns_of-le n k m (suc more) below =
    let e : m + suc more ≡ m + more + 1 = omega arith in
    omega (arith, turns_of-le n k m more below, turns_of-next n k (m + more) below, ap (turns_of n k) e)

-- the seat's place in its list, if more places than this one are dealt out
pub turns_of-within : (n m count : ℕ) → 0 < n → m < count → m / n < turns_of n (m % n) count
turns_of-within n m count some less =
    let small : m % n < n = mod-lt m some in
    let e : m + 1 + (count - (m + 1)) ≡ count = omega arith in
    let one : ◌≡◌ {A = ℕ} (cond (eqb (m % n) (m % n)) 1 0) 1 = ap (λ b. cond b 1 0) (eq-eqb (m % n) (m % n) refl) in
    omega (arith, turns_of-here n m some, turns_of-next n (m % n) m small, one, turns_of-le n (m % n) (m + 1) (count - (m + 1)) small, ap (turns_of n (m % n)) e)

module _ {A : Type 0} where
  -- those from this place on
  abbrev pub dealt_from : ℕ → ℕ → ℕ → List A → List A
  dealt_from n threads seat xs = map (λ (p : ℕ × A). p.1) (filter (λ p. eqb (p.0 % threads) seat) (enumerate_from n xs))

  -- the one at this place, if it goes to the seat
  abbrev pub in_turn : ℕ → ℕ → ℕ → A → List A
  in_turn threads seat place x = cond (eqb (place % threads) seat) (x ∷ []) []

  enumerate_from-append : (n : ℕ) (xs ys : List A) → enumerate_from n (xs ++ ys) ≡ enumerate_from n xs ++ enumerate_from (n + length xs) ys
  enumerate_from-append n [] ys = ap (λ k. enumerate_from k ys) (omega arith)
  enumerate_from-append n (x ∷ xs) ys =
      let next : n + 1 + length xs ≡ n + length (x ∷ xs) = omega arith in
      ap (λ l. (n, x) ∷ l) (enumerate_from-append (n + 1) xs ys ∙ ap (λ k. enumerate_from (n + 1) xs ++ enumerate_from k ys) next)

  pub dealt_from-append : (n threads seat : ℕ) (xs ys : List A) → dealt_from n threads seat (xs ++ ys) ≡ dealt_from n threads seat xs ++ dealt_from (n + length xs) threads seat ys
  dealt_from-append n threads seat xs ys = simp (enumerate_from-append, filter-append, map-append)

  dealt_from-one : (n threads seat : ℕ) (x : A) → dealt_from n threads seat (x ∷ []) ≡ in_turn threads seat n x
  dealt_from-one n threads seat x = grind (arith, common_steps)

  -- one more at the end
  pub dealt_to-push : (threads seat : ℕ) (xs : List A) (x : A) → dealt_from 0 threads seat (xs ++ x ∷ []) ≡ dealt_from 0 threads seat xs ++ in_turn threads seat (length xs) x
  dealt_to-push threads seat xs x =
      dealt_from-append 0 threads seat xs (x ∷ [])
      ∙ ap (λ l. dealt_from 0 threads seat xs ++ l) (dealt_from-one (0 + length xs) threads seat x ∙ ap (λ k. in_turn threads seat k x) (omega arith))

  -- one more at the start
  pub dealt_from-cons : (n threads seat : ℕ) (x : A) (xs : List A) → dealt_from n threads seat (x ∷ xs) ≡ in_turn threads seat n x ++ dealt_from (n + 1) threads seat xs
  dealt_from-cons n threads seat x xs = dealt_from-append n threads seat (x ∷ []) xs ∙ ap (λ l. l ++ dealt_from (n + 1) threads seat xs) (dealt_from-one n threads seat x)

  length-in_turn : (n k m : ℕ) (x : A) → length (in_turn n k m x) ≡ cond (eqb (m % n) k) 1 0
  length-in_turn n k m x = grind (arith, common_steps)

  length-dealt_from : (m n k : ℕ) (xs : List A) → k < n → length (dealt_from m n k xs) + turns_of n k m ≡ turns_of n k (m + length xs)
  length-dealt_from m n k [] below = let same : turns_of n k m ≡ turns_of n k (m + length {A = A} []) = ap (turns_of n k) (omega arith) in omega (arith, same)
  length-dealt_from m n k (x ∷ xs) below =
      let same : turns_of n k (m + 1 + length xs) ≡ turns_of n k (m + length (x ∷ xs)) = ap (turns_of n k) (omega arith) in
      let cut = ap length (dealt_from-cons m n k x xs) ∙ length-append (in_turn n k m x) (dealt_from (m + 1) n k xs) in
      omega (arith, same, cut, length-in_turn n k m x, turns_of-next n k m below, length-dealt_from (m + 1) n k xs below)

  pub length-dealt_to : (n k : ℕ) (xs : List A) → k < n → length (dealt_from 0 n k xs) ≡ turns_of n k (length xs)
  length-dealt_to n k xs below =
      let same : turns_of n k (0 + length xs) ≡ turns_of n k (length xs) = ap (turns_of n k) (omega arith) in omega (arith, same, length-dealt_from 0 n k xs below, turns_of-none n k below)
