-- How many inputs are open, and how many are held.
use Rattle.std.proofs.Common.{◌≡◌, ℕ, zero, suc, ◌+◌, Bool, List, [], ◌∷◌, ◌++◌, length, map, take, drop, refl, sym, arith}
use Rattle.std.proofs.lemmas.Bool.{cases_Bool}
use Rattle.std.proofs.lemmas.Grind.{common_steps}
use Rattle.std.proofs.lemmas.List.{append-nil, length-map}
use Rattle.std.proofs.Math.Seq.{drop-length}
use Rattle.ckpt_align.specs.Counts.{AreCounted}
use Rattle.std.specs.List.{list_any}
use Rattle.std.specs.Prelude.{count_by, nat_lt, slice_get, slice_set, Some}
use Rattle.ckpt_ids.proofs.CountLemmas.{count_by-cons}
use Rattle.ckpt_ids.specs.Counting.{one_if}
use Rattle.ckpt_align.specs.declared.input.Input.{Input}
use Rattle.ckpt_align.specs.declared.input.Input.TheVariants.{Open, Held, Ended}
use Rattle.ckpt_align.specs.Alignment.{is_held, is_open, released}

-- an element passes exactly if the count is above 0
pub any-counted : (p : Input → Bool) (xs : List Input) → list_any p xs ≡ nat_lt 0 (count_by p xs)
any-counted p [] = refl
any-counted p (x ∷ xs) = grind (arith, common_steps, any-counted p xs, count_by-cons p x xs, cases_Bool (p x))

-- one element is another
pub count_by-set : (p : Input → Bool) (xs : List Input) (i : ℕ) (x y : Input) → slice_get xs i ≡ Some x → count_by p (slice_set xs i y) + one_if (p x) ≡ count_by p xs + one_if (p y)
count_by-set p [] i x y e = grind (arith, common_steps)
count_by-set p (z ∷ xs) zero x y e = grind (arith, common_steps, count_by-cons p z xs, count_by-cons p y xs)
count_by-set p (z ∷ xs) (suc i) x y e = grind (arith, common_steps, count_by-set p xs i x y e, count_by-cons p z xs, count_by-cons p z (slice_set xs i y))

-- once they are released
pub open_once_released : (xs : List Input) → count_by is_open (map released xs) ≡ count_by is_open xs + count_by is_held xs
open_once_released [] = refl
open_once_released (Open ∷ xs) = grind (arith, common_steps, open_once_released xs, count_by-cons is_open Open xs, count_by-cons is_held Open xs, count_by-cons is_open Open (map released xs))
open_once_released (Held ∷ xs) = grind (arith, common_steps, open_once_released xs, count_by-cons is_open Held xs, count_by-cons is_held Held xs, count_by-cons is_open Open (map released xs))
open_once_released (Ended ∷ xs) = grind (arith, common_steps, open_once_released xs, count_by-cons is_open Ended xs, count_by-cons is_held Ended xs, count_by-cons is_open Ended (map released xs))

pub held_once_released : (xs : List Input) → count_by is_held (map released xs) ≡ 0
held_once_released [] = refl
held_once_released (Open ∷ xs) = grind (arith, common_steps, held_once_released xs, count_by-cons is_held Open (map released xs))
held_once_released (Held ∷ xs) = grind (arith, common_steps, held_once_released xs, count_by-cons is_held Open (map released xs))
held_once_released (Ended ∷ xs) = grind (arith, common_steps, held_once_released xs, count_by-cons is_held Ended (map released xs))

-- the counts once each held input is released; `len` is how many inputs there are
pub released_counted : (xs ys : List Input) (len open_ones held_ones : ℕ) → AreCounted xs open_ones held_ones → ys ≡ map released xs → len ≡ length xs
    → AreCounted (take len (ys ++ drop (length ys) xs)) (open_ones + held_ones) 0
released_counted xs ys len open_ones held_ones counted e l =
    let same : length (map released xs) ≡ length xs = length-map xs released in
    let whole : take len (ys ++ drop (length ys) xs) ≡ map released xs = rw e (rw same (rw l (rw (drop-length xs) (rw (append-nil (map released xs)) (whole_taken (map released xs) (length xs) same))))) in
    rw whole (record {
      few = rw same counted.few;
      opened = omega (arith, open_once_released xs, counted.opened, counted.held);
      held = sym (held_once_released xs);
    })
  where
    whole_taken : (zs : List Input) (n : ℕ) → length zs ≡ n → take n zs ≡ zs
    whole_taken zs n h = grind (arith, common_steps)
