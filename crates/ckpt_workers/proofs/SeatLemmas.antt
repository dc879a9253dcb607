-- The calls and answers of one seat.
use Rattle.ckpt_workers.proofs.Names.{Entry, History, List, [], answers_by, ap, append-nil, append_assoc, arith, calls_by, entered, refl, sym, ℕ, ◌++◌, ◌∙◌, ◌∷◌, ◌≡◌}
use Rattle.std.proofs.lemmas.Grind.{common_steps}

-- the history, and then these entries
abbrev pub after : History → List Entry → History
after h es = record h { entries = h.entries ++ es }

pub after-nil : (h : History) → after h [] ≡ h
after-nil h = ap (λ (es : List Entry). record h { entries = es }) (append-nil h.entries)

pub after-append : (h : History) (xs ys : List Entry) → after (after h xs) ys ≡ after h (xs ++ ys)
after-append h xs ys = ap (λ (es : List Entry). record h { entries = es }) (append_assoc h.entries xs ys)

pub calls_by-append : (k : ℕ) (xs ys : List Entry) → calls_by k (xs ++ ys) ≡ calls_by k xs ++ calls_by k ys
calls_by-append k [] ys = refl
calls_by-append k (x ∷ xs) ys = grind (arith, common_steps, calls_by-append k xs ys)

pub answers_by-append : (k : ℕ) (h : History) (xs ys : List Entry) → answers_by k h (xs ++ ys) ≡ answers_by k h xs ++ answers_by k (after h xs) ys
answers_by-append k h [] ys = ap (λ (g : History). answers_by k g ys) (sym (after-nil h))
answers_by-append k h (x ∷ xs) ys =
    let next : History = entered h x.seat x.call in
    let rest : answers_by k next (xs ++ ys) ≡ answers_by k next xs ++ answers_by k (after h (x ∷ xs)) ys =
    answers_by-append k next xs ys ∙ ap (λ (g : History). answers_by k next xs ++ answers_by k g ys) (after-append h (x ∷ []) xs) in
    grind (arith, common_steps, rest)

-- if the seat makes no call, it gets no answer
pub answers_by-none : (k : ℕ) (h : History) (es : List Entry) → calls_by k es ≡ [] → answers_by k h es ≡ []
answers_by-none k h [] none = refl
answers_by-none k h (x ∷ xs) none = grind (arith, common_steps, answers_by-none k (entered h x.seat x.call) xs)
