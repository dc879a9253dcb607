-- The inputs that the bytes of a memory are.
use Rattle.relkvanu_barriers.proofs.Imports.{◌≡◌, ℕ, zero, suc, ◌+◌, ◌<◌, Bool, true, false, eqb, List, [], ◌∷◌, length, get_or, take, drop, map, refl, ap, ◌∙◌, arith, common_steps, drop_more_same}
use Rattle.relkvanu_barriers.proofs.Imports.{ne_eqb, map-set, take_more, drop_more, take_more_set, drop-set-lt, slice_set, replicate, list_any, Input, Open, Held, Ended, is_held, is_open, released}
use Rattle.relkvanu_barriers.proofs.Imports.{input_of}

held_one : (byte : ℕ) → is_held (input_of byte) ≡ eqb byte 1
held_one zero = refl
held_one (suc zero) = refl
held_one (suc (suc byte)) = rw (ne_eqb (suc (suc byte)) 0 (λ e. omega (arith, e)), ne_eqb (suc (suc byte)) 1 (λ e. omega (arith, e))) refl

open_one : (byte : ℕ) → is_open (input_of byte) ≡ eqb byte 0
open_one zero = refl
open_one (suc zero) = refl
open_one (suc (suc byte)) = rw (ne_eqb (suc (suc byte)) 0 (λ e. omega (arith, e)), ne_eqb (suc (suc byte)) 1 (λ e. omega (arith, e))) refl

pub held_in : (bytes : List ℕ) → list_any is_held (map input_of bytes) ≡ list_any (λ byte. eqb byte 1) bytes
held_in [] = refl
held_in (byte ∷ bytes) = rw (held_one byte, held_in bytes) refl

pub open_in : (bytes : List ℕ) → list_any is_open (map input_of bytes) ≡ list_any (λ byte. eqb byte 0) bytes
open_in [] = refl
open_in (byte ∷ bytes) = rw (open_one byte, open_in bytes) refl

pub set_in : (bytes : List ℕ) (i byte : ℕ) → map input_of (slice_set bytes i byte) ≡ slice_set (map input_of bytes) i (input_of byte)
set_in bytes i byte = map-set input_of bytes i byte

-- one byte more of those that are released
pub released_more : (xs ys : List ℕ) (i y : ℕ) → i < length xs → i < length ys → input_of y ≡ released (input_of (get_or ys i 0))
    → map input_of (take i ys) ≡ map released (map input_of (take i xs)) → drop i ys ≡ drop i xs
    → (map input_of (take (i + 1) (slice_set ys i y)) ≡ map released (map input_of (take (i + 1) xs))) × (drop (i + 1) (slice_set ys i y) ≡ drop (i + 1) xs)
released_more xs ys i y within there value done left =
    grind (arith, common_steps, take_more xs i 0 within, drop_more xs i 0 within, drop_more ys i 0 there, take_more_set ys i y there, drop-set-lt (i + 1) ys i y, drop_more_same ys xs i left)
