-- If one of the records has an acknowledgement more, their uses are in order; and how many files they name.
use Rattle.ckpt_core.proofs.Names.{IsIn-filter, IsIn-from_filter, IsInOrder-filter, IsInOrder-in_order_once, IsIn-in_order_once, IsIn-from_in_order_once, same_from_members, present_in}
use Rattle.ckpt_core.proofs.Names.{and_parts, length-filter, count_by-le-length, length-filter_both, ascending_set, IsIn, put_once, Use, is_present, numbers_in_order, IsIn-map, IsIn-from_map}
use Rattle.ckpt_core.proofs.Names.{◌≡◌, ℕ, suc, ◌+◌, ◌≤◌, Bool, true, false, not, ◌&&◌, ltb, List, [], ◌∷◌, map, length, refl, sym, ap, ◌∙◌, arith, filter, ltb-true, eqb-true, not-true, and_from}
use Rattle.ckpt_core.proofs.{Ending.HandOut.present-from_use, Names.IsIn-from_counted, Names.common_steps}

-- how many files are in use after an acknowledgement
length-put_once : (x : ℕ) (xs : List ℕ) → length (put_once ltb x xs) ≤ suc (length xs)
length-put_once x [] = omega arith
length-put_once x (y ∷ xs) = grind (arith, common_steps, length-put_once x xs)

length-ascending_set : (xs : List ℕ) → length (ascending_set xs) ≤ length xs
length-ascending_set [] = omega arith
length-ascending_set (x ∷ xs) = omega (arith, length-put_once x (ascending_set xs), length-ascending_set xs)

abbrev file_of : Use → ℕ
file_of u = u.file

abbrev files_in : List Use → List ℕ
files_in us = ascending_set (map file_of us)

file_there : (f : ℕ) (u : Use) (us : List Use) → IsIn u us → f ≡ u.file → IsIn f (files_in us)
file_there f u us h e = rw e (IsIn-in_order_once numbers_in_order u.file (map file_of us) (IsIn-map file_of u us h))

use_there : (f : ℕ) (us : List Use) → IsIn f (files_in us) → (u : Use) × IsIn u us × (f ≡ u.file)
use_there f us h = IsIn-from_map file_of f us (IsIn-from_in_order_once ltb f (map file_of us) h)

use_from_present : (f : ℕ) (us : List Use) → is_present us f ≡ true → (u : Use) × IsIn u us × (f ≡ u.file)
use_from_present f us h = grind (arith, common_steps, IsIn-from_counted, eqb-true, ltb-true)

-- each file of the uses after was in use before, or is one of the fresh
pub present_more : (before after : List Use) (fresh : List ℕ) → ((u : Use) → IsIn u before → IsIn u after) → ((u : Use) → IsIn u after → is_present before u.file ≡ false → IsIn u.file fresh) →
    present_in after ≤ present_in before + length fresh
present_more before after fresh kept new =
    let old : ℕ → Bool = is_present before in
    let is_new : ℕ → Bool = λ f. not (old f) in
    let all : List ℕ = files_in after in
    let first : filter old all ≡ files_in before =
    same_from_members numbers_in_order (filter old all) (files_in before)
    (IsInOrder-filter ltb old all (IsInOrder-in_order_once numbers_in_order (map file_of after)))
    (IsInOrder-in_order_once numbers_in_order (map file_of before))
    (λ f h. let u = use_from_present f before (IsIn-from_filter old f all h).1 in file_there f u.0 before u.1 u.2)
    (λ f h.
    let u = use_there f before h in
    IsIn-filter old f all (file_there f u.0 after (kept u.0 u.1) u.2) (ap (is_present before) u.2 ∙ present-from_use u.0 before u.1)) in
    let second : filter is_new all ≡ filter (λ f. is_new f && is_present after f) (ascending_set fresh) =
    same_from_members numbers_in_order (filter is_new all) (filter (λ f. is_new f && is_present after f) (ascending_set fresh))
    (IsInOrder-filter ltb is_new all (IsInOrder-in_order_once numbers_in_order (map file_of after)))
    (IsInOrder-filter ltb (λ f. is_new f && is_present after f) (ascending_set fresh) (IsInOrder-in_order_once numbers_in_order fresh))
    (λ f h.
    let k = IsIn-from_filter is_new f all h in
    let u = use_there f after k.0 in
    IsIn-filter (λ g. is_new g && is_present after g) f (ascending_set fresh)
    (IsIn-in_order_once numbers_in_order f fresh (rw u.2 (new u.0 u.1 (ap old (sym u.2) ∙ not-true (old f) k.1))))
    (and_from (is_new f) (is_present after f) k.1 (ap (is_present after) u.2 ∙ present-from_use u.0 after u.1)))
    (λ f h.
    let both = and_parts (is_new f) (is_present after f) (IsIn-from_filter (λ g. is_new g && is_present after g) f (ascending_set fresh) h).1 in
    let u = use_from_present f after both.1 in
    IsIn-filter is_new f all (file_there f u.0 after u.1 u.2) both.0) in
    let both : ℕ → Bool = λ f. is_new f && is_present after f in
    let few : length (filter is_new all) ≤ length fresh =
    omega (arith, ap length second, length-filter both (ascending_set fresh), count_by-le-length both (ascending_set fresh), length-ascending_set fresh) in
    omega (arith, ap length first, length-filter_both old is_new (λ f. refl) all)
