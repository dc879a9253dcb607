-- The words of numbers, subtasks and files, and what they are read as.
use Rattle.ckpt_lines.proofs.Names.{◌≡◌, add-one, length-append, ℕ, suc, ◌+◌, ◌^◌, ◌<◌, true, false, eqb, List, [], ◌∷◌, ◌++◌, length, take, drop, Some, Ok, refl, ap, ◌∙◌, arith, lt-ltb, map}
use Rattle.ckpt_lines.proofs.Names.{codes, decimal, filter_map}
use Rattle.ckpt_lines.proofs.Names.{position_or_len, is_ascii_digit, all_ascii_digits, bytes_eq, digits_value, and_parts, nat_tests, IsNumeralModel, numerals_by_value, tells_all_ascii_digits}
use Rattle.ckpt_lines.proofs.Names.{SubtaskId, IsAscending, ascending, Fresh, Reused, number_place, subtask_place, target_place, each, file_places, is_dot, number, number_of, part_of, subtask_of}
use Rattle.ckpt_lines.proofs.Names.{target_of, file_word, fresh_file, reused_file, Fits, FitsSubtask}
use Rattle.ckpt_lines.proofs.LineLemmas.{IsPlain, Each, each_append}
use Rattle.std.proofs.lemmas.Fmt.{digits_decimal, digits_value-decimal, decimal_nonempty}
use Rattle.ckpt_ids.specs.declared.call.Target.TheVariants as target
use Rattle.ckpt_ids.proofs.AscendingLemmas.{same_from_times, times-ascending, IsAscending-ascending}

own : IsNumeralModel (λ ds. all_ascii_digits ds ≡ true) (digits_value 10)
own = numerals_by_value (λ ds. all_ascii_digits ds ≡ true) tells_all_ascii_digits

digits : (n : ℕ) → Fits n → all_ascii_digits (decimal n) ≡ true
digits n fits = digits_decimal own n fits

digits_above : (ds : List ℕ) → all_ascii_digits ds ≡ true → Each (λ b. 32 < b) ds
digits_above [] e = tt
digits_above (d ∷ ds) e =
    let parts : (is_ascii_digit d ≡ true) × (all_ascii_digits ds ≡ true) = and_parts _ _ e in
    let first : is_ascii_digit d ≡ true = parts.0 in
    (grind (arith, nat_tests), digits_above ds parts.1)

pub plain_number : (n : ℕ) → Fits n → IsPlain (decimal n)
plain_number n fits = (digits_above (decimal n) (digits n fits), decimal_nonempty n fits)

pub plain_numbers : (ns : List ℕ) → Each Fits ns → Each (λ n. IsPlain (decimal n)) ns
plain_numbers [] all = tt
plain_numbers (n ∷ ns) all = (plain_number n all.0, plain_numbers ns all.1)

pub number_of-decimal : (n : ℕ) → Fits n → number_of (decimal n) ≡ Some n
unfolding number_of
number_of-decimal n fits =
    let value : digits_value 10 (decimal n) ≡ n = digits_value-decimal own n fits in
    rw (digits n fits, lt-ltb 0 (length (decimal n)) (decimal_nonempty n fits), value, lt-ltb n (2 ^ 64) fits) refl

pub number_place-decimal : (n : ℕ) (words : List (List ℕ)) → Fits n → number_place (decimal n ∷ words) ≡ Ok (n, words)
unfolding number_place
number_place-decimal n words fits = rw (number_of-decimal n fits) refl

part_of-decimal : (n : ℕ) → n < 2 ^ 16 → part_of (decimal n) ≡ Some n
unfolding part_of
part_of-decimal n small =
    let fits : Fits n = omega (arith, small) in
    rw (number_of-decimal n fits, lt-ltb n (2 ^ 16) small) refl

-- a subtask's word
abbrev pub subtask_word : SubtaskId → List ℕ
subtask_word s = decimal s.vertex ++ 46 ∷ decimal s.index

pub plain_subtask : (s : SubtaskId) → FitsSubtask s → IsPlain (subtask_word s)
plain_subtask s fits =
    let vertex : Fits s.vertex = omega (arith, fits.0) in let index : Fits s.index = omega (arith, fits.1) in
    let dot : 32 < 46 = omega arith in
    (each_append (λ b. 32 < b) (decimal s.vertex) (46 ∷ decimal s.index) (plain_number s.vertex vertex).0 (dot, (plain_number s.index index).0), simp length-append (omega arith))

dot_at : (ds rest : List ℕ) → all_ascii_digits ds ≡ true → position_or_len is_dot (ds ++ 46 ∷ rest) ≡ length ds
dot_at [] rest e = refl
dot_at (d ∷ ds) rest e =
    let parts : (is_ascii_digit d ≡ true) × (all_ascii_digits ds ≡ true) = and_parts _ _ e in
    let first : is_ascii_digit d ≡ true = parts.0 in let other : is_dot d ≡ false = grind (arith, nat_tests) in
    let more : 1 + length ds ≡ suc (length ds) = omega arith in
    rw (other, dot_at ds rest parts.1) more

take_front : (xs ys : List ℕ) → take (length xs) (xs ++ ys) ≡ xs
take_front [] ys = refl
take_front (x ∷ xs) ys = ap (λ (zs : List ℕ). x ∷ zs) (take_front xs ys)

drop_front : (xs : List ℕ) (y : ℕ) (ys : List ℕ) → drop (suc (length xs)) (xs ++ y ∷ ys) ≡ ys
drop_front [] y ys = refl
drop_front (x ∷ xs) y ys = drop_front xs y ys

after_dot : (xs : List ℕ) (y : ℕ) (ys : List ℕ) → drop (length xs + 1) (xs ++ y ∷ ys) ≡ ys
after_dot xs y ys = rw add-one (drop_front xs y ys)

pub subtask_of-word : (s : SubtaskId) → FitsSubtask s → subtask_of (subtask_word s) ≡ Some s
unfolding subtask_of
subtask_of-word s fits =
    let vertex : Fits s.vertex = omega (arith, fits.0) in
    let at : position_or_len is_dot (subtask_word s) ≡ length (decimal s.vertex) = dot_at (decimal s.vertex) (decimal s.index) (digits s.vertex vertex) in
    rw (at, take_front (decimal s.vertex) (46 ∷ decimal s.index), after_dot (decimal s.vertex) 46 (decimal s.index), part_of-decimal s.vertex fits.0, part_of-decimal s.index fits.1) refl

pub subtask_place-word : (s : SubtaskId) (words : List (List ℕ)) → FitsSubtask s → subtask_place (subtask_word s ∷ words) ≡ Ok (s, words)
unfolding subtask_place
subtask_place-word s words fits = rw (subtask_of-word s fits) refl

not_latest : (ds : List ℕ) → all_ascii_digits ds ≡ true → bytes_eq ds (codes "latest") ≡ false
not_latest [] e = refl
not_latest (d ∷ ds) e =
    let first : is_ascii_digit d ≡ true = (and_parts _ _ e).0 in let other : eqb d 108 ≡ false = grind (arith, nat_tests) in
    rw other refl

pub target_place-decimal : (id : ℕ) (words : List (List ℕ)) → Fits id → target_place (decimal id ∷ words) ≡ Ok (target.Savepoint id, words)
unfolding target_place target_of
target_place-decimal id words fits = rw (not_latest (decimal id) (digits id fits), number_of-decimal id fits) refl

pub target_place-latest : (words : List (List ℕ)) → target_place (codes "latest" ∷ words) ≡ Ok (target.Latest, words)
unfolding target_place target_of
target_place-latest words = refl

pub each-numbers : (ns : List ℕ) → Each Fits ns → each number (map decimal ns) ≡ Ok ns
unfolding each
each-numbers [] all = refl
each-numbers (n ∷ ns) all = rw (number_of-decimal n all.0, each-numbers ns all.1) refl

-- files
pub plain_files : (sign : ℕ) (files : List ℕ) → 32 < sign → Each Fits files → Each (λ f. IsPlain (sign ∷ decimal f)) files
plain_files sign [] high all = tt
plain_files sign (f ∷ files) high all = (((high, (plain_number f all.0).0), omega arith), plain_files sign files high all.1)

each-reused : (files : List ℕ) → Each Fits files → each file_word (map (λ f. 61 ∷ decimal f) files) ≡ Ok (map Reused files)
unfolding each file_word
each-reused [] all = refl
each-reused (f ∷ files) all = rw (number_of-decimal f all.0, each-reused files all.1) refl

each-files : (fresh reused : List ℕ) → Each Fits fresh → Each Fits reused
    → each file_word (map (λ f. 43 ∷ decimal f) fresh ++ map (λ f. 61 ∷ decimal f) reused) ≡ Ok (map Fresh fresh ++ map Reused reused)
unfolding each file_word
each-files [] reused all others = each-reused reused others
each-files (f ∷ fresh) reused all others = rw (number_of-decimal f all.0, each-files fresh reused all.1 others) refl

only_reused : (reused : List ℕ) → filter_map fresh_file (map Reused reused) ≡ []
only_reused [] = refl
only_reused (f ∷ reused) = only_reused reused

fresh_ones : (fresh reused : List ℕ) → filter_map fresh_file (map Fresh fresh ++ map Reused reused) ≡ fresh
fresh_ones [] reused = only_reused reused
fresh_ones (f ∷ fresh) reused = ap (λ (fs : List ℕ). f ∷ fs) (fresh_ones fresh reused)

all_reused : (reused : List ℕ) → filter_map reused_file (map Reused reused) ≡ reused
all_reused [] = refl
all_reused (f ∷ reused) = ap (λ (fs : List ℕ). f ∷ fs) (all_reused reused)

reused_ones : (fresh reused : List ℕ) → filter_map reused_file (map Fresh fresh ++ map Reused reused) ≡ reused
reused_ones [] reused = all_reused reused
reused_ones (f ∷ fresh) reused = reused_ones fresh reused

pub stays : (files : List ℕ) → IsAscending files → ascending files ≡ files
stays files order = same_from_times (ascending files) files (IsAscending-ascending files) order (λ z. times-ascending z files)

pub file_places-words : (fresh reused : List ℕ) → Each Fits fresh → Each Fits reused → IsAscending fresh → IsAscending reused
    → file_places (map (λ f. 43 ∷ decimal f) fresh ++ map (λ f. 61 ∷ decimal f) reused) ≡ Ok (fresh, reused)
unfolding file_places
file_places-words fresh reused all others order order' =
    rw (each-files fresh reused all others, fresh_ones fresh reused, reused_ones fresh reused, stays fresh order, stays reused order') refl
