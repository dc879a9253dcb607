-- What a change of the records registers, hands out and leaves present, file by file.
use Rattle.ckpt_model.proofs.Names.{common_steps, ◌≡◌, ℕ, zero, suc, ◌+◌, ◌≤◌, true, false, List, [], ◌∷◌, ◌++◌, length, refl, sym, ap, ◌∙◌, ◌⊎◌, ⊎_elim, arith, cases_Bool, cases_lt, both_ways, IsIn}
use Rattle.ckpt_model.proofs.Names.{AreDistinct, Record, uses, is_present, released, IsIn-from_times, times-from_IsIn, times_at_most_once, one_if, times, AreDistinct-from_order, numbers_in_order}
use Rattle.std.proofs.Common.{drop}
use Rattle.ckpt_model.proofs.Records.{IsHeld, IsHeld-from_present, present-from_IsHeld, not_held, absent-from_not_held, ascending-released, after-from_released, held-from_released, released-from_held}

-- how often a number is in a list

-- a number that is not in a list is there 0 times
pub times_none : (f : ℕ) (xs : List ℕ) → (IsIn f xs → ⊥) → times f xs ≡ 0
times_none f xs none = grind (arith, common_steps, IsIn-from_times f xs, cases_lt 0 (times f xs))

-- one that is in a list with no number twice is there once
pub times_once : (f : ℕ) (xs : List ℕ) → AreDistinct xs → IsIn f xs → times f xs ≡ 1
times_once f xs d h = omega (arith, times_at_most_once f xs d, times-from_IsIn f xs h)

-- Before, each file that is registered or present: it is handed out or present after, as often.
pub record IsEven (before after : List Record) (in_ out : List ℕ) : Type 0 where
  pub even : (f : ℕ) → times f in_ + one_if (is_present (uses before) f) ≡ times f out + one_if (is_present (uses after) f)

-- nothing changes, and what is registered is handed out at once
pub even_same : (rs : List Record) (xs : List ℕ) → IsEven rs rs xs xs
even_same rs xs = record { even = λ f. refl }

-- some are registered, and then some are handed out
pub even_then : (a b c : List Record) (xs ys : List ℕ) → IsEven a b xs [] → IsEven b c [] ys → IsEven a c xs ys
even_then a b c xs ys p q = record { even = λ f. p.even f ∙ q.even f }

-- and then nothing changes that is present
pub even_behind : (a b c : List Record) (xs ys : List ℕ) → IsEven a b xs ys → IsEven b c [] [] → IsEven a c xs ys
even_behind a b c xs ys p q = record { even = λ f. omega (arith, p.even f, q.even f) }

-- the same files are held
pub even_held : (before after : List Record) → ((f : ℕ) → IsHeld f before → IsHeld f after) → ((f : ℕ) → IsHeld f after → IsHeld f before) → IsEven before after [] []
even_held before after forth back = record { even = λ f. ap (λ b. 0 + one_if b) (same f) }
  where
    same : (f : ℕ) → is_present (uses before) f ≡ is_present (uses after) f
    same f =
        ⊎_elim
        (λ (e : is_present (uses before) f ≡ true). e ∙ sym (present-from_IsHeld f after (forth f (IsHeld-from_present f before e))))
        (λ (e : is_present (uses before) f ≡ false). e ∙ sym (absent-from_not_held f after (λ h. not_held f before e (back f h))))
        (cases_Bool (is_present (uses before) f))

-- records are dropped, and what is released is handed out
pub even_dropped : (before after : List Record) → ((f : ℕ) → IsHeld f after → IsHeld f before) → IsEven before after [] (released (uses before) (uses after))
even_dropped before after was = record { even = balanced }
  where
    balanced : (f : ℕ) → times f [] + one_if (is_present (uses before) f) ≡ times f (released (uses before) (uses after)) + one_if (is_present (uses after) f)
    balanced f =
        let out : List ℕ = released (uses before) (uses after) in
        let distinct : AreDistinct out = AreDistinct-from_order numbers_in_order out (ascending-released (uses before) (uses after)) in
        let held = IsHeld-from_present f after in
        let present = present-from_IsHeld f before in
        let released_if = released-from_held f before (uses after) in
        let was_held = held-from_released f before in
        grind (arith, common_steps, held, present, was f, times_none f out, both_ways, after-from_released f, times_once f out distinct, released_if, was_held, cases_Bool) steps 1000000

-- files that were not present become so, each named once
pub even_added : (before after : List Record) (fresh : List ℕ) → AreDistinct fresh → ((f : ℕ) → IsIn f fresh → IsHeld f before → ⊥) → ((f : ℕ) → IsIn f fresh → IsHeld f after)
    → ((f : ℕ) → IsHeld f before → IsHeld f after) → ((f : ℕ) → IsHeld f after → IsIn f fresh ⊎ IsHeld f before) → IsEven before after fresh []
even_added before after fresh distinct new now_held still from =
    let held : (f : ℕ) (rs : List Record) → is_present (uses rs) f ≡ true → IsHeld f rs = IsHeld-from_present in
    let present : (f : ℕ) (rs : List Record) → IsHeld f rs → is_present (uses rs) f ≡ true = present-from_IsHeld in
    record {
      even = λ f.
          let once = times_once f fresh distinct in
          grind (arith, common_steps, held f before, held f after, present f after, not_held f before, times_none f fresh, once, new f, still f, from f, now_held f, cases_Bool) steps 1000000;
    }

-- what comes after the prefix
pub drop_front : (xs ys : List ℕ) → drop (length xs) (xs ++ ys) ≡ ys
drop_front [] ys = refl
drop_front (x ∷ xs) ys = drop_front xs ys

-- nothing is behind the end
pub drop_all : (n : ℕ) (xs : List ℕ) → length xs ≤ n → drop n xs ≡ []
drop_all n [] h = grind (arith, common_steps)
drop_all zero (x ∷ xs) h = absurd (omega arith)
drop_all (suc n) (x ∷ xs) h = drop_all n xs (omega arith)
