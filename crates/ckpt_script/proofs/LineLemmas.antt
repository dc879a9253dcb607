-- Lines of a text, put together from parts of it.
use Rattle.ckpt_script.proofs.Names.{◌≡◌, ◌≢◌, ℕ, zero, suc, ◌+◌, ◌-◌, ◌<◌, ◌≤◌, min, Bool, true, false, ◌||◌, ◌==◌, nat_lt, List, [], ◌∷◌, ◌++◌, length, take, drop, slice_index, refl, sym, ap, ◌∙◌}
use Rattle.ckpt_script.proofs.Names.{⊎_elim, arith, length-append, length-drop, cases_Bool, eqb-true, ltb-true, ltb-false, or_parts, or_from, or_left, or_right, both_ways, list_any-append}
use Rattle.ckpt_script.proofs.Names.{slice_range, take_all, take-take, drop-take, drop-drop, length-take, take-append-add, take-add, newline, onto_first, lines_of, has_newline, whole_lines, held}
use Rattle.ckpt_script.proofs.Names.{Moves}

-- what is held of a line

pub take_again : (n : ℕ) (xs ys : List ℕ) → take n (take n xs ++ ys) ≡ take n (xs ++ ys)
take_again zero xs ys = refl
take_again (suc n) [] ys = refl
take_again (suc n) (x ∷ xs) ys = ap (λ (zs : List ℕ). x ∷ zs) (take_again n xs ys)

take_min : (n : ℕ) (ys : List ℕ) → take (min (length ys) n) ys ≡ take n ys
take_min n ys =
    ⊎_elim
    (λ (more : nat_lt n (length ys) ≡ true). let lt : n < length ys = ltb-true n (length ys) more in let e : min (length ys) n ≡ n = omega arith in rw e refl)
    (λ (all : nat_lt n (length ys) ≡ false). let le : length ys ≤ n = ltb-false n (length ys) all in let e : min (length ys) n ≡ length ys = omega arith in
    rw e (take_all (length ys) ys (omega arith) ∙ sym (take_all n ys le)))
    (cases_Bool (nat_lt n (length ys)))

pub take_room : (n : ℕ) (xs ys : List ℕ) → length xs ≤ n → xs ++ take (min (length ys) (n - length xs)) ys ≡ take n (xs ++ ys)
take_room n xs ys fits =
    ap (λ (zs : List ℕ). xs ++ zs) (take_min (n - length xs) ys)
    ∙ sym (take-append-add xs ys (n - length xs))
    ∙ ap (λ (k : ℕ). take k (xs ++ ys)) (omega arith)

pub length-take_held : (xs ys : List ℕ) → xs ≡ take held ys → length xs ≤ held
length-take_held xs ys e = let same : length xs ≡ length (take held ys) = ap (length {A = ℕ}) e in omega (arith, length-take held ys)

-- the first m bytes, and n of the rest
pub take_rest : (m n : ℕ) (xs : List ℕ) → take m xs ++ take n (take (length xs - m) (drop m xs)) ≡ take (m + n) xs
take_rest m n xs =
    ap (λ (zs : List ℕ). take m xs ++ take n zs) (take_all (length xs - m) (drop m xs) (omega (arith, length-drop m xs)))
    ∙ sym (take-add m n xs)

-- what is left of a range of the bytes
pub drop-slice_range : (bytes : List ℕ) (from to n : ℕ) → from + n ≤ to → drop n (slice_range bytes from to) ≡ slice_range bytes (from + n) to
drop-slice_range bytes from to n fits =
    let e : to - from ≡ n + (to - (from + n)) = omega arith in
    ap (λ (k : ℕ). drop n (take k (drop from bytes))) e ∙ drop-take n (to - (from + n)) (drop from bytes)
    ∙ ap (take (to - (from + n))) (drop-drop n from bytes ∙ ap (λ (k : ℕ). drop k bytes) (omega arith))

-- the first n bytes, as many of them as are kept
take_both : (n kept : ℕ) (xs : List ℕ) → take (min n kept) xs ≡ take kept (take n xs)
take_both n kept xs =
    ⊎_elim
    (λ (more : nat_lt kept n ≡ true). let lt : kept < n = ltb-true kept n more in let e : min n kept ≡ kept = omega arith in rw e (sym (take-take kept n xs (omega arith))))
    (λ (all : nat_lt kept n ≡ false). let le : n ≤ kept = ltb-false kept n all in let e : min n kept ≡ n = omega arith in rw e (sym (take_all kept (take n xs) (omega (arith, length-take n xs)))))
    (cases_Bool (nat_lt kept n))

-- the same of a range of the bytes
pub front-slice_range : (bytes : List ℕ) (from to n kept : ℕ) → n ≤ length (slice_range bytes from to) → kept ≡ min n held
    → take (from + kept - from) (drop from bytes) ≡ take held (take n (slice_range bytes from to))
front-slice_range bytes from to n kept fits e =
    let short : length (slice_range bytes from to) ≤ to - from = omega (arith, length-take (to - from) (drop from bytes)) in
    ap (λ (k : ℕ). take k (drop from bytes)) (omega (arith, e))
    ∙ take_both n held (drop from bytes)
    ∙ ap (take held) (sym (take-take n (to - from) (drop from bytes) (omega (arith, short))))

-- how many bytes are left

pub some_bytes : (bytes : List ℕ) → bytes ≢ [] → 0 < length bytes
some_bytes [] some = absurd (some refl)
some_bytes (b ∷ bytes) some = omega arith

-- fewer, if a part of a line was moved
pub moved_fewer : {bytes rest line after : List ℕ} (ends : Bool) → Moves bytes rest line after ends → bytes ≢ [] → length rest < length bytes
moved_fewer {rest = rest} true moves some = omega (arith, ap (length {A = ℕ}) moves.bytes_before, length-append moves.part (newline ∷ rest))
moved_fewer {bytes} false moves some = omega (arith, some_bytes bytes some, ap (length {A = ℕ}) (moves.none_left refl))

-- the place of the first newline

pub no_newline_before : (bytes : List ℕ) (place : ℕ) → ((k : ℕ) → k < place → (slice_index bytes k == newline) ≡ true → ⊥) → place ≤ length bytes → has_newline (take place bytes) ≡ false
no_newline_before bytes zero none le = refl
no_newline_before [] (suc place) none le = refl
no_newline_before (b ∷ bytes) (suc place) none le =
    or_from (b == newline) (has_newline (take place bytes))
    (⊎_elim (λ (e : (b == newline) ≡ true). absurd (none 0 (omega arith) e)) (λ (e : (b == newline) ≡ false). e) (cases_Bool (b == newline)))
    (no_newline_before bytes place (λ k lt e. none (suc k) (omega arith) e) (omega arith))

pub split_at_newline : (bytes : List ℕ) (place : ℕ) → place < length bytes → (slice_index bytes place == newline) ≡ true → bytes ≡ take place bytes ++ newline ∷ drop (suc place) bytes
split_at_newline [] place lt e = absurd (omega arith)
split_at_newline (b ∷ bytes) zero lt e = ap (λ (x : ℕ). x ∷ bytes) (eqb-true b newline e)
split_at_newline (b ∷ bytes) (suc place) lt e = ap (λ (xs : List ℕ). b ∷ xs) (split_at_newline bytes place (omega arith) e)

-- lines from a prefix of the text

pub lines_of-line : (line rest : List ℕ) → has_newline line ≡ false → lines_of (line ++ newline ∷ rest) ≡ line ∷ lines_of rest
lines_of-line [] rest none = refl
lines_of-line (b ∷ line) rest none =
    let parts : ((b == newline) ≡ false) × (has_newline line ≡ false) = or_parts (b == newline) (has_newline line) none in
    rw (parts.0, lines_of-line line rest parts.1) refl

pub lines_of-last : (line : List ℕ) → has_newline line ≡ false → line ≢ [] → lines_of line ≡ line ∷ []
lines_of-last [] none some = absurd (some refl)
lines_of-last (b ∷ []) none some = rw ((or_parts (b == newline) false none).0) refl
lines_of-last (b ∷ c ∷ line) none some =
    let parts : ((b == newline) ≡ false) × (has_newline (c ∷ line) ≡ false) = or_parts (b == newline) (has_newline (c ∷ line)) none in
    let rest : lines_of (c ∷ line) ≡ (c ∷ line) ∷ [] = lines_of-last (c ∷ line) parts.1 (λ e. cc) in
    rw parts.0 (ap (onto_first b) rest)

pub some_lines : (bytes : List ℕ) → bytes ≢ [] → 1 ≤ length (lines_of bytes)
some_lines [] some = absurd (some refl)
some_lines (b ∷ bytes) some =
    ⊎_elim
    (λ (e : (b == newline) ≡ true). rw e (omega arith))
    (λ (e : (b == newline) ≡ false). rw e (first_is_there b (lines_of bytes)))
    (cases_Bool (b == newline))
  where
    first_is_there : (c : ℕ) (lines : List (List ℕ)) → 1 ≤ length (onto_first c lines)
    first_is_there c [] = omega arith
    first_is_there c (line ∷ lines) = omega arith

-- the whole lines of a text

whole_parts : (b : ℕ) (bytes : List ℕ) → whole_lines (b ∷ bytes) ≡ b ∷ bytes → (has_newline (b ∷ bytes) ≡ true) × (whole_lines bytes ≡ bytes)
whole_parts b bytes whole =
    ⊎_elim
    (λ (e : has_newline (b ∷ bytes) ≡ true). (e, let h : b ∷ whole_lines bytes ≡ b ∷ bytes = rw e at whole in cc))
    (λ (e : has_newline (b ∷ bytes) ≡ false). let h : [] ≡ b ∷ bytes = rw e at whole in absurd cc)
    (cases_Bool (has_newline (b ∷ bytes)))

has_newline-append : (xs ys : List ℕ) → has_newline (xs ++ ys) ≡ (has_newline xs || has_newline ys)
has_newline-append xs ys = list_any-append (λ b. b == newline) xs ys

pub whole_lines-none : (part : List ℕ) → has_newline part ≡ false → whole_lines part ≡ []
whole_lines-none [] none = refl
whole_lines-none (b ∷ part) none = rw none refl

pub whole_lines-append : (front part : List ℕ) → whole_lines front ≡ front → has_newline part ≡ false → whole_lines (front ++ part) ≡ front
whole_lines-append [] part whole none = whole_lines-none part none
whole_lines-append (b ∷ front) part whole none =
    let parts : (has_newline (b ∷ front) ≡ true) × (whole_lines front ≡ front) = whole_parts b front whole in
    let some : has_newline (b ∷ (front ++ part)) ≡ true = has_newline-append (b ∷ front) part ∙ or_left (has_newline (b ∷ front)) (has_newline part) parts.0 in
    rw some (ap (λ (xs : List ℕ). b ∷ xs) (whole_lines-append front part parts.1 none))

pub whole_lines-ends : (bytes : List ℕ) → whole_lines (bytes ++ newline ∷ []) ≡ bytes ++ newline ∷ []
whole_lines-ends [] = refl
whole_lines-ends (b ∷ bytes) =
    let some : has_newline (b ∷ (bytes ++ newline ∷ [])) ≡ true = has_newline-append (b ∷ bytes) (newline ∷ []) ∙ or_right (has_newline (b ∷ bytes)) true refl in
    rw some (ap (λ (xs : List ℕ). b ∷ xs) (whole_lines-ends bytes))

onto_first-append : (b : ℕ) (lines more : List (List ℕ)) → lines ≢ [] → onto_first b (lines ++ more) ≡ onto_first b lines ++ more
onto_first-append b [] more some = absurd (some refl)
onto_first-append b (line ∷ lines) more some = refl

some_line : (bytes : List ℕ) → has_newline bytes ≡ true → lines_of bytes ≢ []
some_line (b ∷ bytes) some =
    ⊎_elim
    (λ (e : (b == newline) ≡ true). rw e (λ h. cc))
    (λ (e : (b == newline) ≡ false). rw e (onto_first-some b (lines_of bytes)))
    (cases_Bool (b == newline))
  where
    onto_first-some : (c : ℕ) (lines : List (List ℕ)) → onto_first c lines ≢ []
    onto_first-some c [] = λ h. cc
    onto_first-some c (line ∷ lines) = λ h. cc
some_line [] some = absurd (both_ways false refl some)

pub lines_of-append : (front rest : List ℕ) → whole_lines front ≡ front → lines_of (front ++ rest) ≡ lines_of front ++ lines_of rest
lines_of-append [] rest whole = refl
lines_of-append (b ∷ front) rest whole =
    let parts : (has_newline (b ∷ front) ≡ true) × (whole_lines front ≡ front) = whole_parts b front whole in
    let later : lines_of (front ++ rest) ≡ lines_of front ++ lines_of rest = lines_of-append front rest parts.1 in
    ⊎_elim
    (λ (e : (b == newline) ≡ true). rw e (ap (λ (ls : List (List ℕ)). [] ∷ ls) later))
    (λ (e : (b == newline) ≡ false).
    let some : has_newline front ≡ true = sym (sym parts.0 ∙ rw e refl) in
    rw e (ap (onto_first b) later ∙ onto_first-append b (lines_of front) (lines_of rest) (some_line front some)))
    (cases_Bool (b == newline))
