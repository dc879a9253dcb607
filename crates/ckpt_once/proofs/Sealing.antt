-- A sink's transactions up to a record have what it wrote before its cut.
use Rattle.ckpt_once.proofs.Names.{◌≡◌, ℕ, ◌<◌, ◌≤◌, Bool, true, false, nat_le, List, ◌∷◌, ◌++◌, ◌∙◌, refl, sym, ap, subst, arith, if◌then◌else◌, Option, Some, None, inl, inr, [], ◌==◌}
use Rattle.ckpt_once.proofs.Names.{cases_Bool, common_steps, append-nil, append_assoc, IsIn, Alignment, opened, Action, Reads, GivesUp, Sends, Ends, after, replay, barriers, sent, sent_by}
use Rattle.ckpt_once.proofs.Names.{elements, before_cut, has_cut, cut_by, is_number, is_number-Some, elements-append, cuts_rise, IsPrefix, Transaction, sealed_at, still_open, sealed, up_to}
use Rattle.ckpt_once.proofs.Names.{above, contents, published}
use Rattle.ckpt_once.proofs.ActionLemmas.{replay-append}

-- records are cut in rising order

rises : (inputs : ℕ) (done : List Action) (x : Action) (between : List Action) (y : Action) (n m : ℕ) → cut_by (replay (opened inputs) done) x ≡ Some n → cut_by (replay (after (replay (opened inputs) done) x) between) y ≡ Some m → n < m
rises inputs done x between y n m e f =
    cuts_rise inputs done x between y n m e (ap (λ (k : Alignment). cut_by k y) (replay-append (opened inputs) done (x ∷ between)) ∙ f)

-- what is cut later is greater
cut_above_by : (inputs : ℕ) (done : List Action) (x : Action) (between : List Action) (y : Action) (m n : ℕ) (is has : Bool) → cut_by (replay (opened inputs) done) x ≡ Some m
    → is_number n (cut_by (replay (after (replay (opened inputs) done) x) between) y) ≡ is → (if is then true else has) ≡ true → (has ≡ true → m < n) → m < n
cut_above_by inputs done x between y m n true has e f g later = rises inputs done x between y m n e (is_number-Some n (cut_by (replay (after (replay (opened inputs) done) x) between) y) f)
cut_above_by inputs done x between y m n false has e f g later = later g

one_on : (b : Alignment) (between : List Action) (y : Action) → replay b (between ++ y ∷ []) ≡ after (replay b between) y
one_on b between y = replay-append b between (y ∷ [])

cut_above : (inputs : ℕ) (done : List Action) (x : Action) (between xs : List Action) (m n : ℕ) → cut_by (replay (opened inputs) done) x ≡ Some m → has_cut n (replay (after (replay (opened inputs) done) x) between) xs ≡ true → m < n
cut_above inputs done x between [] m n e h = grind (arith, common_steps)
cut_above inputs done x between (Ends ∷ xs) m n e h = grind (arith, common_steps)
cut_above inputs done x between (Reads i item ∷ xs) m n e h =
    let y : Action = Reads i item in
    let b : Alignment = after (replay (opened inputs) done) x in
    let c : Alignment = replay b between in
    cut_above_by inputs done x between y m n (is_number n (cut_by c y)) (has_cut n (after c y) xs) e refl h
    (λ k. cut_above inputs done x (between ++ y ∷ []) xs m n e (ap (λ (a : Alignment). has_cut n a xs) (one_on b between y) ∙ k))
cut_above inputs done x between (GivesUp id ∷ xs) m n e h =
    let y : Action = GivesUp id in
    let b : Alignment = after (replay (opened inputs) done) x in
    let c : Alignment = replay b between in
    cut_above_by inputs done x between y m n (is_number n (cut_by c y)) (has_cut n (after c y) xs) e refl h
    (λ k. cut_above inputs done x (between ++ y ∷ []) xs m n e (ap (λ (a : Alignment). has_cut n a xs) (one_on b between y) ∙ k))
cut_above inputs done x between (Sends o z ∷ xs) m n e h =
    let y : Action = Sends o z in
    let b : Alignment = after (replay (opened inputs) done) x in
    let c : Alignment = replay b between in
    cut_above_by inputs done x between y m n (is_number n (cut_by c y)) (has_cut n (after c y) xs) e refl h
    (λ k. cut_above inputs done x (between ++ y ∷ []) xs m n e (ap (λ (a : Alignment). has_cut n a xs) (one_on b between y) ∙ k))

-- after its cut of a record a sink seals nothing up to it
none_later_by : (n : ℕ) (k : Option ℕ) (w : List ℕ) (rest : List Transaction) → ((m : ℕ) → k ≡ Some m → n < m) → (k ≡ None → up_to n rest ≡ []) → up_to n (sealed_at k w ++ rest) ≡ []
none_later_by n None w rest some none = none refl
none_later_by n (Some m) w rest some none = let more : n < m = some m refl in grind (arith, common_steps)

none_later : (inputs : ℕ) (done : List Action) (x : Action) (between ys : List Action) (o n : ℕ) (w : List ℕ) → cut_by (replay (opened inputs) done) x ≡ Some n → up_to n (sealed o (replay (after (replay (opened inputs) done) x) between) w ys) ≡ []
none_later inputs done x between [] o n w e = refl
none_later inputs done x between (y ∷ ys) o n w e =
    let b : Alignment = after (replay (opened inputs) done) x in
    let c : Alignment = replay b between in
    let v : List ℕ = still_open (cut_by c y) (w ++ elements (sent_by o c y)) in
    none_later_by n (cut_by c y) w (sealed o (after c y) v ys)
    (λ m f. rises inputs done x between y n m e f)
    (λ f. ap (λ (a : Alignment). up_to n (sealed o a v ys)) (sym (one_on b between y)) ∙ none_later inputs done x (between ++ y ∷ []) ys o n v e)

-- the transactions up to a record

pub elements_barriers : (k : Option ℕ) → elements (barriers k) ≡ []
elements_barriers None = refl
elements_barriers (Some m) = refl

-- an action that is a cut sends no element
cut_sends_none : (o m : ℕ) (a : Alignment) (x : Action) → cut_by a x ≡ Some m → elements (sent_by o a x) ≡ []
cut_sends_none o m a (Reads i item) e = elements_barriers (cut_by a (Reads i item))
cut_sends_none o m a (GivesUp id) e = elements_barriers (cut_by a (GivesUp id))
cut_sends_none o m a (Sends output y) e = grind (arith, common_steps)
cut_sends_none o m a Ends e = refl

is_same : (m n : ℕ) → (m == n) ≡ true → m ≡ n
is_same m n e = grind (arith, common_steps)

le_same : (m n : ℕ) → m ≡ n → nat_le m n ≡ true
le_same m n e = grind (arith, common_steps)

le_below : (m n : ℕ) → m < n → nat_le m n ≡ true
le_below m n h = grind (arith, common_steps)

-- one action more; `part` is what the sink did before its cut, without this action
one_more : (o n inputs : ℕ) (done : List Action) (w : List ℕ) (x : Action) (xs part : List Action) (k : Option ℕ) (is has : Bool)
    → cut_by (replay (opened inputs) done) x ≡ k
    → is_number n k ≡ is
    → (if is then true else has) ≡ true
    → (has ≡ true → has_cut n (after (replay (opened inputs) done) x) xs ≡ true)
    → ((v : List ℕ) → has ≡ true → contents (up_to n (sealed o (after (replay (opened inputs) done) x) v xs)) ≡ v ++ elements (sent o (after (replay (opened inputs) done) x) part))
    → contents (up_to n (sealed_at k w ++ sealed o (after (replay (opened inputs) done) x) (still_open k (w ++ elements (sent_by o (replay (opened inputs) done) x))) xs))
    ≡ w ++ elements (sent o (replay (opened inputs) done) (if is then [] else x ∷ part))
one_more o n inputs done w x xs part None true has e f g cut on = grind (arith, common_steps)
one_more o n inputs done w x xs part None false has e f g cut on =
    let a : Alignment = replay (opened inputs) done in
    let es : List ℕ = elements (sent_by o a x) in
    on (w ++ es) g
    ∙ append_assoc w es (elements (sent o (after a x) part))
    ∙ ap (λ l. w ++ l) (sym (elements-append (sent_by o a x) (sent o (after a x) part)))
one_more o n inputs done w x xs part (Some m) true has e f g cut on =
    let a : Alignment = replay (opened inputs) done in
    let same : m ≡ n = is_same m n f in
    let rest : List Transaction = sealed o (after a x) [] xs in
    let none : up_to n rest ≡ [] = none_later inputs done x [] xs o n [] (e ∙ ap Some same) in
    let first : contents (up_to n (record { id = m; content = w } ∷ rest)) ≡ w ++ contents (up_to n rest) = ap (λ b. contents (if b then record { id = m; content = w } ∷ up_to n rest else [])) (le_same m n same) in
    first ∙ ap (λ l. w ++ contents l) none
one_more o n inputs done w x xs part (Some m) false has e f g cut on =
    let a : Alignment = replay (opened inputs) done in
    let more : m < n = cut_above inputs done x [] xs m n e (cut g) in
    let rest : List Transaction = sealed o (after a x) [] xs in
    let at : nat_le m n ≡ true = le_below m n more in
    let first : contents (up_to n (record { id = m; content = w } ∷ rest)) ≡ w ++ contents (up_to n rest) = ap (λ b. contents (if b then record { id = m; content = w } ∷ up_to n rest else [])) at in
    first
    ∙ ap (λ l. w ++ l) (on [] g)
    ∙ ap (λ l. w ++ (l ++ elements (sent o (after a x) part))) (sym (cut_sends_none o m a x e))
    ∙ ap (λ l. w ++ l) (sym (elements-append (sent_by o a x) (sent o (after a x) part)))

pub sealed_up_to : (o n inputs : ℕ) (done : List Action) (w : List ℕ) (xs : List Action) → has_cut n (replay (opened inputs) done) xs ≡ true
    → contents (up_to n (sealed o (replay (opened inputs) done) w xs)) ≡ w ++ elements (sent o (replay (opened inputs) done) (before_cut n (replay (opened inputs) done) xs))
sealed_up_to o n inputs done w [] h = grind (arith, common_steps)
sealed_up_to o n inputs done w (Ends ∷ xs) h = grind (arith, common_steps)
sealed_up_to o n inputs done w (Reads i item ∷ xs) h =
    let x : Action = Reads i item in
    let a : Alignment = replay (opened inputs) done in
    let On : Alignment → Type 0 = λ b. (v : List ℕ) → has_cut n b xs ≡ true → contents (up_to n (sealed o b v xs)) ≡ v ++ elements (sent o b (before_cut n b xs)) in
    one_more o n inputs done w x xs (before_cut n (after a x) xs) (cut_by a x) (is_number n (cut_by a x)) (has_cut n (after a x) xs) refl refl h (λ k. k)
    (subst On (one_on (opened inputs) done x) (λ v k. sealed_up_to o n inputs (done ++ x ∷ []) v xs k))
sealed_up_to o n inputs done w (GivesUp id ∷ xs) h =
    let x : Action = GivesUp id in
    let a : Alignment = replay (opened inputs) done in
    let On : Alignment → Type 0 = λ b. (v : List ℕ) → has_cut n b xs ≡ true → contents (up_to n (sealed o b v xs)) ≡ v ++ elements (sent o b (before_cut n b xs)) in
    one_more o n inputs done w x xs (before_cut n (after a x) xs) (cut_by a x) (is_number n (cut_by a x)) (has_cut n (after a x) xs) refl refl h (λ k. k)
    (subst On (one_on (opened inputs) done x) (λ v k. sealed_up_to o n inputs (done ++ x ∷ []) v xs k))
sealed_up_to o n inputs done w (Sends output y ∷ xs) h =
    let x : Action = Sends output y in
    let a : Alignment = replay (opened inputs) done in
    let On : Alignment → Type 0 = λ b. (v : List ℕ) → has_cut n b xs ≡ true → contents (up_to n (sealed o b v xs)) ≡ v ++ elements (sent o b (before_cut n b xs)) in
    one_more o n inputs done w x xs (before_cut n (after a x) xs) (cut_by a x) (is_number n (cut_by a x)) (has_cut n (after a x) xs) refl refl h (λ k. k)
    (subst On (one_on (opened inputs) done x) (λ v k. sealed_up_to o n inputs (done ++ x ∷ []) v xs k))

-- all that is sealed is a beginning of what was written
all_sealed_by : (k : Option ℕ) (w es : List ℕ) (rest : List Transaction) (on : List ℕ) → ((m : ℕ) → k ≡ Some m → es ≡ []) → IsPrefix (contents rest) (still_open k (w ++ es) ++ on) → IsPrefix (contents (sealed_at k w ++ rest)) (w ++ (es ++ on))
all_sealed_by None w es rest on none h = (h.0, sym (append_assoc w es on) ∙ h.1)
all_sealed_by (Some m) w es rest on none h =
    (h.0, ap (λ l. w ++ (l ++ on)) (none m refl) ∙ ap (λ l. w ++ l) h.1 ∙ sym (append_assoc w (contents rest) h.0))

pub all_sealed : (o : ℕ) (a : Alignment) (w : List ℕ) (xs : List Action) → IsPrefix (contents (sealed o a w xs)) (w ++ elements (sent o a xs))
all_sealed o a w [] = (w ++ [], refl)
all_sealed o a w (x ∷ xs) =
    let es : List ℕ = elements (sent_by o a x) in
    let v : List ℕ = still_open (cut_by a x) (w ++ es) in
    let rest : List Transaction = sealed o (after a x) v xs in
    let part = all_sealed_by (cut_by a x) w es rest (elements (sent o (after a x) xs)) (λ m e. cut_sends_none o m a x e) (all_sealed o (after a x) v xs) in
    (part.0, ap (λ l. w ++ l) (elements-append (sent_by o a x) (sent o (after a x) xs)) ∙ part.1)

-- publishing

pub contents-append : (ones more : List Transaction) → contents (ones ++ more) ≡ contents ones ++ contents more
contents-append [] more = refl
contents-append (one ∷ ones) more = ap (λ l. one.content ++ l) (contents-append ones more) ∙ sym (append_assoc one.content (contents ones) (contents more))

up_to-split : (m n : ℕ) (ones : List Transaction) → m ≤ n → up_to n ones ≡ up_to m ones ++ up_to n (above m ones)
up_to-split m n [] h = refl
up_to-split m n (one ∷ ones) h = grind (arith, common_steps, up_to-split m n ones h, cases_Bool (nat_le one.id m), cases_Bool (nat_le one.id n))

up_to-above : (n : ℕ) (ones : List Transaction) → ones ≡ up_to n ones ++ above n ones
up_to-above n [] = refl
up_to-above n (one ∷ ones) = grind (arith, common_steps, up_to-above n ones, cases_Bool (nat_le one.id n))

pub published_up_to : (n : ℕ) (earlier : List ℕ) (ones : List Transaction) → ((m : ℕ) → IsIn m earlier → m ≤ n) → published (earlier ++ n ∷ []) ones ≡ contents (up_to n ones)
published_up_to n [] ones h = append-nil (contents (up_to n ones))
published_up_to n (m ∷ earlier) ones h =
    ap (λ l. contents (up_to m ones) ++ l) (published_up_to n earlier (above m ones) (λ k has. h k (inr has)))
    ∙ sym (contents-append (up_to m ones) (up_to n (above m ones)))
    ∙ ap contents (sym (up_to-split m n ones (h m (inl refl))))

pub published_begins : (completed : List ℕ) (ones : List Transaction) → IsPrefix (published completed ones) (contents ones)
published_begins [] ones = (contents ones, refl)
published_begins (n ∷ completed) ones =
    let part = published_begins completed (above n ones) in (
      part.0,
      ap contents (up_to-above n ones)
          ∙ contents-append (up_to n ones) (above n ones)
          ∙ ap (λ l. contents (up_to n ones) ++ l) part.1
          ∙ sym (append_assoc (contents (up_to n ones)) (published completed (above n ones)) part.0),
    )
