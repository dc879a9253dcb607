-- What an acknowledgement more or less does to a record.
use Rattle.ckpt_pending.proofs.Names.{◌≡◌, ℕ, ◌+◌, Bool, true, false, not, List, [], ◌∷◌, refl, sym, ap, ◌∙◌, arith, ◌||◌, ◌&&◌, count_by, filter, list_any, nat_tests, SubtaskId, Acked, put}
use Rattle.ckpt_pending.proofs.Names.{acknowledges_before, put_ack, subtasks, is_subtask, same_subtask, same_subtask-Decides, fails-from_list_any, filter-all, list_any-none}
use Rattle.ckpt_pending.proofs.SubtaskLemmas.{same_subtask-itself, same_subtask-other, IsInOrder-subtasks, IsIn-subtasks, count_by_one_more}

-- some acknowledgement is of this subtask
abbrev pub acked : List Acked → SubtaskId → Bool
acked acks s = list_any (λ a. same_subtask s a.subtask) acks

-- tests over lists that were put into or filtered

pub list_any-put : {X : Type 0} (p : X → Bool) (before : X → X → Bool) (x : X) (xs : List X) → list_any p (put before x xs) ≡ (p x || list_any p xs)
list_any-put p before x [] = refl
list_any-put p before x (y ∷ xs) = grind (arith, nat_tests, list_any-put p before x xs)

pub list_any_same : {X : Type 0} (p q : X → Bool) (xs : List X) → ((x : X) → p x ≡ q x) → list_any p xs ≡ list_any q xs
list_any_same p q [] f = refl
list_any_same p q (x ∷ xs) f = rw (f x, list_any_same p q xs f)

pub list_any-filter : {X : Type 0} (p keep : X → Bool) (xs : List X) → list_any p (filter keep xs) ≡ list_any (λ x. p x && keep x) xs
list_any-filter p keep [] = refl
list_any-filter p keep (x ∷ xs) = grind (arith, nat_tests, list_any-filter p keep xs)

filter-put : {X : Type 0} (keep : X → Bool) (before : X → X → Bool) (x : X) (xs : List X) → keep x ≡ false → filter keep (put before x xs) ≡ filter keep xs
filter-put keep before x [] h = rw h
filter-put keep before x (y ∷ xs) h = grind (arith, filter-put keep before x xs)

-- an acknowledgement more

-- an acknowledgement that is put and taken out again leaves what there was
pub without_put : (s : SubtaskId) (files : List ℕ) (acks : List Acked) → acked acks s ≡ false
    → filter (λ a. not (same_subtask s a.subtask)) (put_ack (record { subtask = s; files = files }) acks) ≡ acks
without_put s files acks h =
    let one : Acked = record { subtask = s; files = files } in
    let keep : Acked → Bool = λ a. not (same_subtask s a.subtask) in
    filter-put keep acknowledges_before one acks (ap not (same_subtask-itself s)) ∙ filter-all keep acks (λ a k. ap not (fails-from_list_any (λ (b : Acked). same_subtask s b.subtask) acks h a k))

-- one subtask less is missing
pub missing-put : (shape : List ℕ) (s : SubtaskId) (files : List ℕ) (acks : List Acked) → is_subtask shape s ≡ true → acked acks s ≡ false
    → count_by (λ t. not (acked (put_ack (record { subtask = s; files = files }) acks) t)) (subtasks shape) + 1 ≡ count_by (λ t. not (acked acks t)) (subtasks shape)
missing-put shape s files acks h k =
    let one : Acked = record { subtask = s; files = files } in
    let put : (t : SubtaskId) → acked (put_ack one acks) t ≡ (same_subtask t s || acked acks t) = λ t. list_any-put (λ (a : Acked). same_subtask t a.subtask) acknowledges_before one acks in
    count_by_one_more (λ t. not (acked acks t)) (λ t. not (acked (put_ack one acks) t)) s (subtasks shape) (IsInOrder-subtasks shape) (IsIn-subtasks shape s h) (ap not k)
    (rw (put s, same_subtask-itself s)) (λ t ne. rw (put t, same_subtask-other t s ne))

-- and one more without it
pub missing-without : (shape : List ℕ) (s : SubtaskId) (acks : List Acked) → is_subtask shape s ≡ true → acked acks s ≡ true
    → count_by (λ t. not (acked acks t)) (subtasks shape) + 1 ≡ count_by (λ t. not (acked (filter (λ a. not (same_subtask s a.subtask)) acks) t)) (subtasks shape)
missing-without shape s acks h k =
    let keep : Acked → Bool = λ a. not (same_subtask s a.subtask) in
    let without : (t : SubtaskId) → acked (filter keep acks) t ≡ list_any (λ a. same_subtask t a.subtask && keep a) acks = λ t. list_any-filter (λ (a : Acked). same_subtask t a.subtask) keep acks in
    let none : acked (filter keep acks) s ≡ false = without s ∙ list_any-none (λ (a : Acked). same_subtask s a.subtask && keep a) acks (λ a h. grind (arith, nat_tests)) in
    let kept : (t : SubtaskId) → (t ≡ s → ⊥) → (a : Acked) → (same_subtask t a.subtask && keep a) ≡ same_subtask t a.subtask = λ t ne a.
    grind (arith, nat_tests, same_subtask-Decides t a.subtask, same_subtask-Decides s a.subtask) in
    count_by_one_more (λ t. not (acked (filter keep acks) t)) (λ t. not (acked acks t)) s (subtasks shape) (IsInOrder-subtasks shape) (IsIn-subtasks shape s h) (ap not none) (ap not k)
    (λ t ne. ap not (sym (without t ∙ list_any_same (λ (a : Acked). same_subtask t a.subtask && keep a) (λ (a : Acked). same_subtask t a.subtask) acks (kept t ne))))
